-- Notes of what came before find nothing exactly where nothing comes twice.
use Rattle.std.proofs.Common.{◌≡◌, ℕ, ◌||◌, Bool, true, false, List, [], ◌∷◌, ◌++◌, Option, Some, None, is_some, refl, sym, ap, ◌∙◌, arith}
use Rattle.std.proofs.lemmas.Bool.Decides.{nat_tests}
use Rattle.std.proofs.lemmas.Map.Text.{is_eq-slice_cmp}
use Rattle.std.proofs.lemmas.Slice.Eq.{bytes_eq-Decides}
use Rattle.std.specs.Prelude.{◌↔◌, if◌then◌else◌}
use Rattle.std.specs.List.{IsDistinct, AllByRecursion, list_any}
use Rattle.std.specs.Map.{lookup}
use Rattle.std.specs.BTreeMap.{is_at, insert_entry}
use Rattle.std.specs.BTreeSet.{insert_key}
use Rattle.std.specs.Cmp.Lexicographic.{slice_cmp}
use Rattle.std.specs.Ordering.{nat_cmp, is_eq, match_ordering}
use Rattle.std.specs.declared.cmp.Ordering.{Ordering}
use Rattle.std.specs.declared.cmp.Ordering.TheVariants.{Less, Equal, Greater}
use Rattle.slate_ids.specs.Ulids.{same_id, id_cmp as ulid_cmp}
use Rattle.slate_model.specs.declared.checkpoint.Checkpoint.{Checkpoint}
use Rattle.slate_script_events.specs.declared.db_spec.DbSpec.{DbSpec}
use Rattle.slate_cluster_protocol.specs.Ids.{Pool, checkpoint_cmp, is_carried, only_named}
use Rattle.slate_cluster_protocol.specs.World.{db_cmp, tally_of}
use Rattle.slate_cluster_protocol.specs.declared.tally.Tally.{Tally}
use Rattle.slate_cluster_protocol.specs.Specs.{and_more, seen_from, is_seen, ids_from, checkpoints_from, tallies_from, first_tally}
use Rattle.slate_cluster_opening.specs.Differing.{have_one_path, have_one_id, all_checkpoints}

-- ---- notes of any kind

no_or : (a b : Bool) → (a || b) ≡ false → (a ≡ false) × (b ≡ false)
no_or false b h = (refl, h)
no_or true b h = absurd cc

or_no : (a b : Bool) → a ≡ false → b ≡ false → (a || b) ≡ false
or_no a b ha hb = ap (λ x. x || b) ha ∙ hb

module _ {S K : Type 0} (has : K → S → Bool) (put : S → K → S) where
  -- the notes of these, beside those that are there: none where one is there
  abbrev pub noted : S → List K → Option S
  noted s [] = Some s
  noted s (k ∷ ks) = if has k s then None else noted (put s k) ks

  -- none of these is noted
  abbrev pub Free : S → List K → Type 0
  Free s ks = AllByRecursion (λ k. has k s ≡ false) ks

  module _ (same : K → K → Bool) (grows : (s : S) (k q : K) → has q (put s k) ≡ (same k q || has q s)) where
    parted : (s : S) (k : K) (ks : List K) → Free (put s k) ks → AllByRecursion (λ q. same k q ≡ false) ks × Free s ks
    parted s k [] h = (tt, tt)
    parted s k (q ∷ ks) h =
        let both = no_or (same k q) (has q s) (sym (grows s k q) ∙ h.0) in
        let rest = parted s k ks h.1 in
        ((both.0, rest.0), (both.1, rest.1))

    joined : (s : S) (k : K) (ks : List K) → AllByRecursion (λ q. same k q ≡ false) ks → Free s ks → Free (put s k) ks
    joined s k [] a f = tt
    joined s k (q ∷ ks) a f = (grows s k q ∙ or_no (same k q) (has q s) a.0 f.0, joined s k ks a.1 f.1)

    only : (s : S) (ks : List K) → is_some (noted s ks) ≡ true → Free s ks × IsDistinct same ks
    unfolding IsDistinct
    only s [] h = (tt, tt)
    only s (k ∷ ks) h = by (has k s) refl h (only (put s k) ks)
      where
        by : (b : Bool) → has k s ≡ b → is_some (if b then None else noted (put s k) ks) ≡ true
            → (is_some (noted (put s k) ks) ≡ true → Free (put s k) ks × IsDistinct same ks)
            → Free s (k ∷ ks) × IsDistinct same (k ∷ ks)
        by true at h rest = absurd cc
        by false at h rest =
            let found = rest h in
            let parts = parted s k ks found.0 in
            ((at, parts.1), (parts.0, found.1))

    where_free : (s : S) (ks : List K) → Free s ks → IsDistinct same ks → is_some (noted s ks) ≡ true
    unfolding IsDistinct
    where_free s [] f d = refl
    where_free s (k ∷ ks) f d =
        ap (λ b. is_some (if b then None else noted (put s k) ks)) f.0 ∙ where_free (put s k) ks (joined s k ks d.0 f.1) d.1

    -- where nothing is noted yet
    pub apart_from : (s : S) (ks : List K) → Free s ks → (is_some (noted s ks) ≡ true) ↔ IsDistinct same ks
    apart_from s ks f = ((λ h. (only s ks h).1), λ d. where_free s ks f d)

-- ---- keys in order

module _ {K : Type 0} (cmp : K → K → Ordering) (one : (a b : K) → is_at (cmp a) b ≡ true → a ≡ b) where
  -- a key that was put in
  pub key_grows : (ks : List K) (k q : K) → list_any (is_at (cmp q)) (insert_key cmp ks k) ≡ (is_at (cmp q) k || list_any (is_at (cmp q)) ks)
  key_grows [] k q = refl
  key_grows (x ∷ ks) k q = by (cmp k x) refl (key_grows ks k q)
    where
      by : (o : Ordering) → cmp k x ≡ o → list_any (is_at (cmp q)) (insert_key cmp ks k) ≡ (is_at (cmp q) k || list_any (is_at (cmp q)) ks)
          → list_any (is_at (cmp q)) (match_ordering o (k ∷ x ∷ ks) (x ∷ ks) (x ∷ insert_key cmp ks k)) ≡ (is_at (cmp q) k || list_any (is_at (cmp q)) (x ∷ ks))
      by Less at rest = refl
      by Equal at rest = again (is_at (cmp q) k) (is_at (cmp q) x) (list_any (is_at (cmp q)) ks) (ap (λ y. is_at (cmp q) y) (one k x (ap is_eq at)))
        where
          again : (a b c : Bool) → a ≡ b → (b || c) ≡ (a || (b || c))
          again true b c e = ap (λ t. t || c) (sym e)
          again false b c e = refl
      by Greater at rest = ap (λ t. is_at (cmp q) x || t) rest ∙ swap (is_at (cmp q) x) (is_at (cmp q) k) (list_any (is_at (cmp q)) ks)
        where
          swap : (a b c : Bool) → (a || (b || c)) ≡ (b || (a || c))
          swap true true c = refl
          swap true false c = refl
          swap false b c = refl

  -- an entry that was put in
  pub entry_grows : {X : Type 0} (es : List (K × X)) (k : K) (v : X) (q : K)
      → is_some (lookup (is_at (cmp q)) (insert_entry cmp es k v)) ≡ (is_at (cmp q) k || is_some (lookup (is_at (cmp q)) es))
  entry_grows {X = X} [] k v q = first (is_at (cmp q) k)
    where
      first : (b : Bool) → is_some (if b then Some v else None) ≡ (b || false)
      first true = refl
      first false = refl
  entry_grows {X = X} (e ∷ es) k v q = by (cmp k e.0) refl (entry_grows es k v q)
    where
      by : (o : Ordering) → cmp k e.0 ≡ o → is_some (lookup (is_at (cmp q)) (insert_entry cmp es k v)) ≡ (is_at (cmp q) k || is_some (lookup (is_at (cmp q)) es))
          → is_some (lookup (is_at (cmp q)) (match_ordering o ((k, v) ∷ e ∷ es) ((e.0, v) ∷ es) (e ∷ insert_entry cmp es k v))) ≡ (is_at (cmp q) k || is_some (lookup (is_at (cmp q)) (e ∷ es)))
      by Less at rest = first (is_at (cmp q) k) (lookup (is_at (cmp q)) (e ∷ es))
        where
          first : (b : Bool) (o : Option X) → is_some (if b then Some v else o) ≡ (b || is_some o)
          first true o = refl
          first false o = refl
      by Equal at rest = again (is_at (cmp q) k) (is_at (cmp q) e.0) (lookup (is_at (cmp q)) es) (ap (λ y. is_at (cmp q) y) (one k e.0 (ap is_eq at)))
        where
          again : (a b : Bool) (o : Option X) → a ≡ b → is_some (if b then Some v else o) ≡ (a || is_some (if b then Some e.1 else o))
          again true true o h = refl
          again true false o h = absurd cc
          again false true o h = absurd cc
          again false false o h = refl
      by Greater at rest = later (is_at (cmp q) e.0) (is_at (cmp q) k) (lookup (is_at (cmp q)) (insert_entry cmp es k v)) (lookup (is_at (cmp q)) es) rest
        where
          later : (a b : Bool) (new old : Option X) → is_some new ≡ (b || is_some old) → is_some (if a then Some e.1 else new) ≡ (b || is_some (if a then Some e.1 else old))
          later true true new old h = refl
          later true false new old h = refl
          later false b new old h = h

-- ---- ids, checkpoints and paths

one_id : (a b : ℕ × ℕ) → is_at (ulid_cmp a) b ≡ true → a ≡ b
one_id (a, b) (c, d) h = grind (arith, nat_tests)

id_told : (k q : ℕ × ℕ) → is_at (ulid_cmp q) k ≡ same_id k q
id_told (a, b) (c, d) = grind (arith, nat_tests)

one_name : (a b : List ℕ) → is_at (slice_cmp nat_cmp a) b ≡ true → a ≡ b
one_name a b h = (bytes_eq-Decides a b).0 (sym (is_eq-slice_cmp a b) ∙ h)

id_grows : (seen : List (ℕ × ℕ)) (k q : ℕ × ℕ) → is_seen q (insert_key ulid_cmp seen k) ≡ (same_id k q || is_seen q seen)
id_grows seen k q = key_grows ulid_cmp one_id seen k q ∙ ap (λ t. t || is_seen q seen) (id_told k q)

-- what is known of ids of checkpoints
abbrev pub Notes : Type 0
Notes = Pool (List ℕ)

checkpoint_grows : (carried : Notes) (k q : Checkpoint) → is_carried checkpoint_cmp q.id (insert_entry checkpoint_cmp carried k.id (only_named k.id).1) ≡ (have_one_id k q || is_carried checkpoint_cmp q.id carried)
checkpoint_grows carried k q =
    entry_grows checkpoint_cmp one_name carried k.id (only_named k.id).1 q.id ∙ ap (λ t. t || is_carried checkpoint_cmp q.id carried) (is_eq-slice_cmp q.id k.id)

abbrev pub Tallies : Type 0
Tallies = List (List ℕ × Tally)

path_grows : (tallies : Tallies) (k q : DbSpec)
    → is_some (tally_of q.path (insert_entry db_cmp tallies k.path (first_tally k))) ≡ (have_one_path k q || is_some (tally_of q.path tallies))
path_grows tallies k q =
    entry_grows db_cmp one_name tallies k.path (first_tally k) q.path ∙ ap (λ t. t || is_some (tally_of q.path tallies)) (is_eq-slice_cmp q.path k.path)

-- ---- the definitions are such notes

abbrev pub note_id : List (ℕ × ℕ) → ℕ × ℕ → List (ℕ × ℕ)
note_id seen id = insert_key ulid_cmp seen id

seen_noted : (seen ids : List (ℕ × ℕ)) → seen_from seen ids ≡ noted is_seen note_id seen ids
seen_noted seen [] = refl
seen_noted seen (id ∷ ids) = ap (λ (r : Option (List (ℕ × ℕ))). if is_seen id seen then None else r) (seen_noted (note_id seen id) ids)

abbrev pub note_checkpoint : Notes → Checkpoint → Notes
note_checkpoint carried c = insert_entry checkpoint_cmp carried c.id (only_named c.id).1

abbrev pub is_noted : Checkpoint → Notes → Bool
is_noted c carried = is_carried checkpoint_cmp c.id carried

ids_noted : (carried : Notes) (cs : List Checkpoint) → ids_from carried cs ≡ noted is_noted note_checkpoint carried cs
ids_noted carried [] = refl
ids_noted carried (c ∷ cs) = ap (λ (r : Option Notes). if is_carried checkpoint_cmp c.id carried then None else r) (ids_noted (note_checkpoint carried c) cs)

abbrev pub note_path : Tallies → DbSpec → Tallies
note_path tallies spec = insert_entry db_cmp tallies spec.path (first_tally spec)

abbrev pub has_path : DbSpec → Tallies → Bool
has_path spec tallies = is_some (tally_of spec.path tallies)

tallies_noted : (tallies : Tallies) (specs : List DbSpec) → tallies_from tallies specs ≡ noted has_path note_path tallies specs
tallies_noted tallies [] = refl
tallies_noted tallies (spec ∷ specs) = ap (λ (r : Option Tallies). if has_path spec tallies then None else r) (tallies_noted (note_path tallies spec) specs)

more_same : {X : Type 0} (o : Option X) (f g : X → Option X) → ((x : X) → f x ≡ g x) → and_more o f ≡ and_more o g
more_same None f g h = refl
more_same (Some x) f g h = h x

-- checkpoints, and then others
ids_append : (carried : Notes) (xs ys : List Checkpoint) → and_more (ids_from carried xs) (λ more. ids_from more ys) ≡ ids_from carried (xs ++ ys)
ids_append carried [] ys = refl
ids_append carried (x ∷ xs) ys = by (is_carried checkpoint_cmp x.id carried) (ids_append (note_checkpoint carried x) xs ys)
  where
    by : (b : Bool) → and_more (ids_from (note_checkpoint carried x) xs) (λ more. ids_from more ys) ≡ ids_from (note_checkpoint carried x) (xs ++ ys)
        → and_more (if b then None else ids_from (note_checkpoint carried x) xs) (λ more. ids_from more ys) ≡ (if b then None else ids_from (note_checkpoint carried x) (xs ++ ys))
    by true rest = refl
    by false rest = rest

checkpoints_noted : (carried : Notes) (specs : List DbSpec) → checkpoints_from carried specs ≡ ids_from carried (all_checkpoints specs)
checkpoints_noted carried [] = refl
checkpoints_noted carried (spec ∷ specs) =
    more_same (ids_from carried spec.manifest.core.checkpoints) (λ more. checkpoints_from more specs) (λ more. ids_from more (all_checkpoints specs)) (λ more. checkpoints_noted more specs)
    ∙ ids_append carried spec.manifest.core.checkpoints (all_checkpoints specs)

-- ---- nothing comes twice

-- nothing is noted as a walk begins
none_seen : (ids : List (ℕ × ℕ)) → Free is_seen note_id [] ids
none_seen [] = tt
none_seen (id ∷ ids) = (refl, none_seen ids)

none_carried : (cs : List Checkpoint) → Free is_noted note_checkpoint [] cs
none_carried [] = tt
none_carried (c ∷ cs) = (refl, none_carried cs)

none_there : (specs : List DbSpec) → Free has_path note_path [] specs
none_there [] = tt
none_there (spec ∷ specs) = (refl, none_there specs)

-- a definition in the place of its notes
told : {X : Type 0} (a b : Option X) (D : Type 0) → a ≡ b → (is_some b ≡ true) ↔ D → (is_some a ≡ true) ↔ D
told a b D e h = ((λ is. h.0 (sym (ap is_some e) ∙ is)), λ d. ap is_some e ∙ h.1 d)

pub ids_apart : (ids : List (ℕ × ℕ)) → (is_some (seen_from [] ids) ≡ true) ↔ IsDistinct same_id ids
ids_apart ids = told (seen_from [] ids) (noted is_seen note_id [] ids) (IsDistinct same_id ids) (seen_noted [] ids) (apart_from is_seen note_id same_id id_grows [] ids (none_seen ids))

all_apart : (cs : List Checkpoint) → (is_some (ids_from [] cs) ≡ true) ↔ IsDistinct have_one_id cs
all_apart cs = told (ids_from [] cs) (noted is_noted note_checkpoint [] cs) (IsDistinct have_one_id cs) (ids_noted [] cs) (apart_from is_noted note_checkpoint have_one_id checkpoint_grows [] cs (none_carried cs))

pub checkpoints_apart : (specs : List DbSpec) → (is_some (checkpoints_from [] specs) ≡ true) ↔ IsDistinct have_one_id (all_checkpoints specs)
checkpoints_apart specs = told (checkpoints_from [] specs) (ids_from [] (all_checkpoints specs)) (IsDistinct have_one_id (all_checkpoints specs)) (checkpoints_noted [] specs) (all_apart (all_checkpoints specs))

pub paths_apart : (specs : List DbSpec) → (is_some (tallies_from [] specs) ≡ true) ↔ IsDistinct have_one_path specs
paths_apart specs = told (tallies_from [] specs) (noted has_path note_path [] specs) (IsDistinct have_one_path specs) (tallies_noted [] specs) (apart_from has_path note_path have_one_path path_grows [] specs (none_there specs))
