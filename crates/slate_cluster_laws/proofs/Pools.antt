-- Which keys there are in lists of entries that are kept in order: the databases, and the ids that were carried.
use Rattle.std.proofs.Common.{◌≡◌, ◌≢◌, ℕ, ◌==◌, Bool, true, false, not, List, [], ◌∷◌, ◌++◌, map, Option, Some, None, is_some, refl, sym, ap, ◌∙◌, subst, arith}
use Rattle.std.proofs.Math.Bool.{or_assoc}
use Rattle.std.proofs.lemmas.Bool.Decides.{nat_tests}
use Rattle.std.proofs.lemmas.List.Folds.{list_any-append}
use Rattle.std.proofs.lemmas.Map.Text.{is_eq-slice_cmp}
use Rattle.std.specs.Prelude.{if◌then◌else◌, ◌&&◌, ◌||◌, bytes_eq, option_to_list}
use Rattle.std.specs.Cmp.Lexicographic.{slice_cmp}
use Rattle.std.specs.List.{list_any, flat_map}
use Rattle.std.specs.Map.{lookup, set_value}
use Rattle.std.specs.BTreeMap.{is_at, insert_entry}
use Rattle.std.specs.Ordering.{nat_cmp, is_eq, ordering_then}
use Rattle.std.specs.declared.cmp.Ordering.{Ordering}
use Rattle.std.specs.declared.cmp.Ordering.TheVariants.{Less, Equal, Greater}
use Rattle.slate_ids.specs.Ulids.{same_id, id_cmp as ulid_cmp}
use Rattle.slate_model.specs.declared.checkpoint.Checkpoint.{Checkpoint}
use Rattle.slate_model.specs.declared.external_db.ExternalDb.{ExternalDb}
use Rattle.slate_script_events.specs.declared.cluster_cause.ClusterCause.{ClusterCause}
use Rattle.slate_script_events.specs.declared.cluster_cause.ClusterCause.TheVariants as cause
use Rattle.slate_script_events.specs.declared.call.Call.{Call}
use Rattle.slate_script_events.specs.declared.db_spec.DbSpec.{DbSpec}
use Rattle.slate_cluster_protocol.specs.Calls.{fresh_checkpoints, named_checkpoints, fresh_ulids, named_ulids}
use Rattle.slate_cluster_protocol.specs.Done.{is_pin, entry_names, opening_names, call_names, opening_names_ulid, call_names_ulid}
use Rattle.slate_cluster_protocol.specs.Ids.{Pool, checkpoint_cmp, is_carried, brought_by, only_named, only_pinned, ids_of, with_id, with_ids, carried_again}
use Rattle.slate_cluster_protocol.specs.Specs.{and_more, first_tally, tallies_from, ids_from, checkpoints_from, are_ulids_fine, are_ids_fine, objects_of, cause_beside, listed_or_none, entry_checkpoints, spec_ulids, opening_carried, opening_world, cause_of_specs}
use Rattle.slate_cluster_protocol.specs.World.{tally_of}
use Rattle.slate_cluster_protocol.specs.declared.carrier.Carrier.{Carrier}
use Rattle.slate_cluster_protocol.specs.declared.tally.Tally.{Tally}
use Rattle.slate_cluster_laws.proofs.Maps.{IsKeyOrder, name_order, set_here, set_else, insert_here, insert_else}

-- ---- tests

or_true : (a : Bool) → (a || true) ≡ true
or_true true = refl
or_true false = refl

pub or_false : (a : Bool) → (a || false) ≡ a
or_false true = refl
or_false false = refl

pub shuffle : (a b c d : Bool) → (a || b || (c || d)) ≡ (a || c || (b || d))
shuffle true b c d = refl
shuffle false true true d = refl
shuffle false true false d = refl
shuffle false false true d = refl
shuffle false false false d = refl

-- tests that answer alike find alike
pub any_alike : {X : Type 0} (p q : X → Bool) (xs : List X) → ((x : X) → p x ≡ q x) → list_any p xs ≡ list_any q xs
any_alike p q [] h = refl
any_alike p q (x ∷ xs) h = ap (λ (b : Bool). b || list_any p xs) (h x) ∙ ap (λ (b : Bool). q x || b) (any_alike p q xs h)

any_mapped : {X Y : Type 0} (p : Y → Bool) (f : X → Y) (xs : List X) → list_any p (map f xs) ≡ list_any (λ (x : X). p (f x)) xs
any_mapped p f [] = refl
any_mapped p f (x ∷ xs) = ap (λ (b : Bool). p (f x) || b) (any_mapped p f xs)

any_flat : {X Y : Type 0} (p : Y → Bool) (f : X → List Y) (xs : List X) → list_any p (flat_map f xs) ≡ list_any (λ (x : X). list_any p (f x)) xs
any_flat p f [] = refl
any_flat p f (x ∷ xs) = list_any-append p (f x) (flat_map f xs) ∙ ap (λ (b : Bool). list_any p (f x) || b) (any_flat p f xs)

any_either : {X : Type 0} (p q : X → Bool) (xs : List X) → (list_any p xs || list_any q xs) ≡ list_any (λ (x : X). p x || q x) xs
any_either p q [] = refl
any_either p q (x ∷ xs) = shuffle (p x) (list_any p xs) (q x) (list_any q xs) ∙ ap (λ (b : Bool). p x || q x || b) (any_either p q xs)

-- ---- one key more

module _ {K X : Type 0} (cmp : K → K → Ordering) (order : IsKeyOrder cmp) (q : K) where
  abbrev pub has : List (K × X) → Bool
  has es = is_some (lookup (is_at (cmp q)) es)

  -- where a key stays, or comes, is one more that there is
  one_more : (k : K) (es now : List (K × X)) → (q ≡ k → has now ≡ true) → (q ≢ k → has now ≡ has es) → has now ≡ (has es || is_at (cmp q) k)
  one_more k es now here away = test (is_at (cmp q) k) refl
    where
      test : (b : Bool) → is_at (cmp q) k ≡ b → has now ≡ (has es || b)
      test true is = here (order.one q k is) ∙ sym (or_true (has es))
      test false is = away (λ (same : q ≡ k). absurd (cc (is, subst (λ j. is_at (cmp q) j ≡ true) same (order.itself q)))) ∙ sym (or_false (has es))

  pub insert_has : (k : K) (v : X) (es : List (K × X)) → has (insert_entry cmp es k v) ≡ (has es || is_at (cmp q) k)
  insert_has k v es = one_more k es (insert_entry cmp es k v)
      (λ (same : q ≡ k). subst (λ j. has (insert_entry cmp es j v) ≡ true) same (ap is_some (insert_here cmp order q v es)))
      (λ (ne : q ≢ k). ap is_some (insert_else cmp order k q v es ne))

  set_has : (k : K) (v w : X) (es : List (K × X)) → lookup (is_at (cmp k)) es ≡ Some w → has (set_value (is_at (cmp k)) es v) ≡ (has es || is_at (cmp q) k)
  set_has k v w es found = one_more k es (set_value (is_at (cmp k)) es v)
      (λ (same : q ≡ k). subst (λ j. lookup (is_at (cmp j)) es ≡ Some w → has (set_value (is_at (cmp j)) es v) ≡ true) same (λ at. ap is_some (set_here cmp order q v w es at)) found)
      (λ (ne : q ≢ k). ap is_some (set_else cmp order k q v es ne))

-- ---- ids more

module _ {K : Type 0} (cmp : K → K → Ordering) (order : IsKeyOrder cmp) (q : K) where
  id_more : (id : K × Carrier) (pool : Pool K) → is_carried cmp q (with_id cmp id pool) ≡ (is_carried cmp q pool || is_at (cmp q) id.0)
  id_more id pool = test (lookup (is_at (cmp id.0)) pool) refl
    where
      test : (o : Option Carrier) → lookup (is_at (cmp id.0)) pool ≡ o
          → is_carried cmp q (elim o as (λ _. Pool K) [ None ↦ insert_entry cmp pool id.0 id.1 | Some old ↦ set_value (is_at (cmp id.0)) pool (carried_again old id.1) ]) ≡ (is_carried cmp q pool || is_at (cmp q) id.0)
      test None is = insert_has cmp order q id.0 id.1 pool
      test (Some old) is = set_has cmp order q id.0 (carried_again old id.1) old pool is

  pub ids_more : (ids : List (K × Carrier)) (pool : Pool K) → is_carried cmp q (with_ids cmp ids pool) ≡ (is_carried cmp q pool || list_any (λ (e : K × Carrier). is_at (cmp q) e.0) ids)
  ids_more [] pool = sym (or_false (is_carried cmp q pool))
  ids_more (id ∷ ids) pool =
      ids_more ids (with_id cmp id pool)
      ∙ (ap (λ (b : Bool). b || list_any (λ (e : K × Carrier). is_at (cmp q) e.0) ids) (id_more id pool)
      ∙ or_assoc (is_carried cmp q pool) (is_at (cmp q) id.0) (list_any (λ (e : K × Carrier). is_at (cmp q) e.0) ids))

-- ---- the order of ids of tables

both : (x y : Ordering) → is_eq (ordering_then x y) ≡ (is_eq x && is_eq y)
both Less y = refl
both Equal y = refl
both Greater y = refl

one_number : (a b : ℕ) → is_eq (nat_cmp a b) ≡ (a == b)
one_number a b = grind (arith, nat_tests)

pub ulid_at : (a b : ℕ × ℕ) → is_at (ulid_cmp a) b ≡ same_id a b
ulid_at a b = both (nat_cmp a.0 b.0) (nat_cmp a.1 b.1) ∙ (ap (λ (x : Bool). x && is_eq (nat_cmp a.1 b.1)) (one_number a.0 b.0) ∙ ap (λ (x : Bool). (a.0 == b.0) && x) (one_number a.1 b.1))

abbrev pair : ℕ → ℕ → ℕ × ℕ
pair m t = (m, t)

pub ulid_order : IsKeyOrder ulid_cmp
ulid_order = record { itself = λ a. ulid_at a a ∙ itself a.0 a.1; one = λ a b h. one a.0 a.1 b.0 b.1 (sym (ulid_at a b) ∙ h) }
  where
    itself : (m t : ℕ) → ((m == m) && (t == t)) ≡ true
    itself m t = grind (arith, nat_tests)

    numbers : (m t n u : ℕ) → ((m == n) && (t == u)) ≡ true → (m ≡ n) × (t ≡ u)
    numbers m t n u h = test (m == n) refl h
      where
        equal : (x y : ℕ) → (x == y) ≡ true → x ≡ y
        equal x y h = grind (arith, nat_tests)

        test : (b : Bool) → (m == n) ≡ b → (b && (t == u)) ≡ true → (m ≡ n) × (t ≡ u)
        test true is h = (equal m n is, equal t u h)
        test false is h = absurd cc

    one : (m t n u : ℕ) → ((m == n) && (t == u)) ≡ true → pair m t ≡ pair n u
    one m t n u h = let e = numbers m t n u h in ap (λ (x : ℕ). pair x t) e.0 ∙ ap (λ (y : ℕ). pair n y) e.1

-- ---- as a run begins

some_is : {X : Type 0} (a b : X) → Some a ≡ Some b → a ≡ b
some_is a b h = cc

-- the databases by path
module _ (d : List ℕ) where
  databases_from : (tallies : List (List ℕ × Tally)) (specs : List DbSpec) (all : List (List ℕ × Tally)) → tallies_from tallies specs ≡ Some all
      → is_some (tally_of d all) ≡ (is_some (tally_of d tallies) || list_any (λ (spec : DbSpec). bytes_eq d spec.path) specs)
  databases_from tallies [] all h = ap (λ (ts : List (List ℕ × Tally)). is_some (tally_of d ts)) (sym (some_is tallies all h)) ∙ sym (or_false (is_some (tally_of d tallies)))
  databases_from tallies (spec ∷ specs) all h = test (is_some (tally_of spec.path tallies)) h (databases_from (insert_entry (slice_cmp nat_cmp) tallies spec.path (first_tally spec)) specs all)
    where
      test : (b : Bool) → (if b then None else tallies_from (insert_entry (slice_cmp nat_cmp) tallies spec.path (first_tally spec)) specs) ≡ Some all
          → (tallies_from (insert_entry (slice_cmp nat_cmp) tallies spec.path (first_tally spec)) specs ≡ Some all
          → is_some (tally_of d all) ≡ (is_some (tally_of d (insert_entry (slice_cmp nat_cmp) tallies spec.path (first_tally spec))) || list_any (λ (spec : DbSpec). bytes_eq d spec.path) specs))
          → is_some (tally_of d all) ≡ (is_some (tally_of d tallies) || list_any (λ (spec : DbSpec). bytes_eq d spec.path) (spec ∷ specs))
      test true h rest = absurd cc
      test false h rest =
          rest h
          ∙ (ap (λ (b : Bool). b || list_any (λ (spec : DbSpec). bytes_eq d spec.path) specs)
          (insert_has (slice_cmp nat_cmp) name_order d spec.path (first_tally spec) tallies ∙ ap (λ (b : Bool). is_some (tally_of d tallies) || b) (is_eq-slice_cmp d spec.path))
          ∙ or_assoc (is_some (tally_of d tallies)) (bytes_eq d spec.path) (list_any (λ (spec : DbSpec). bytes_eq d spec.path) specs))

-- the ids of checkpoints
module _ (id : List ℕ) where
  ids_found : (pool : Pool (List ℕ)) (cs : List Checkpoint) (all : Pool (List ℕ)) → ids_from pool cs ≡ Some all
      → is_carried checkpoint_cmp id all ≡ (is_carried checkpoint_cmp id pool || list_any (λ (c : Checkpoint). bytes_eq id c.id) cs)
  ids_found pool [] all h = ap (λ (p : Pool (List ℕ)). is_carried checkpoint_cmp id p) (sym (some_is pool all h)) ∙ sym (or_false (is_carried checkpoint_cmp id pool))
  ids_found pool (c ∷ cs) all h = test (is_carried checkpoint_cmp c.id pool) h (ids_found (insert_entry checkpoint_cmp pool c.id (only_named c.id).1) cs all)
    where
      test : (b : Bool) → (if b then None else ids_from (insert_entry checkpoint_cmp pool c.id (only_named c.id).1) cs) ≡ Some all
          → (ids_from (insert_entry checkpoint_cmp pool c.id (only_named c.id).1) cs ≡ Some all
          → is_carried checkpoint_cmp id all ≡ (is_carried checkpoint_cmp id (insert_entry checkpoint_cmp pool c.id (only_named c.id).1) || list_any (λ (c : Checkpoint). bytes_eq id c.id) cs))
          → is_carried checkpoint_cmp id all ≡ (is_carried checkpoint_cmp id pool || list_any (λ (c : Checkpoint). bytes_eq id c.id) (c ∷ cs))
      test true h rest = absurd cc
      test false h rest =
          rest h
          ∙ (ap (λ (b : Bool). b || list_any (λ (c : Checkpoint). bytes_eq id c.id) cs)
          (insert_has checkpoint_cmp name_order id c.id (only_named c.id).1 pool ∙ ap (λ (b : Bool). is_carried checkpoint_cmp id pool || b) (is_eq-slice_cmp id c.id))
          ∙ or_assoc (is_carried checkpoint_cmp id pool) (bytes_eq id c.id) (list_any (λ (c : Checkpoint). bytes_eq id c.id) cs))

  abbrev own_ids : DbSpec → Bool
  own_ids spec = list_any (λ (c : Checkpoint). bytes_eq id c.id) spec.manifest.core.checkpoints

  checkpoints_found : (pool : Pool (List ℕ)) (specs : List DbSpec) (all : Pool (List ℕ)) → checkpoints_from pool specs ≡ Some all → is_carried checkpoint_cmp id all ≡ (is_carried checkpoint_cmp id pool || list_any own_ids specs)
  checkpoints_found pool [] all h = ap (λ (p : Pool (List ℕ)). is_carried checkpoint_cmp id p) (sym (some_is pool all h)) ∙ sym (or_false (is_carried checkpoint_cmp id pool))
  checkpoints_found pool (spec ∷ specs) all h = test (ids_from pool spec.manifest.core.checkpoints) refl h (λ more. checkpoints_found more specs all)
    where
      test : (o : Option (Pool (List ℕ))) → ids_from pool spec.manifest.core.checkpoints ≡ o → and_more o (λ more. checkpoints_from more specs) ≡ Some all
          → ((more : Pool (List ℕ)) → checkpoints_from more specs ≡ Some all → is_carried checkpoint_cmp id all ≡ (is_carried checkpoint_cmp id more || list_any own_ids specs))
          → is_carried checkpoint_cmp id all ≡ (is_carried checkpoint_cmp id pool || list_any own_ids (spec ∷ specs))
      test None is h rest = absurd cc
      test (Some more) is h rest =
          rest more h
          ∙ (ap (λ (b : Bool). b || list_any own_ids specs) (ids_found pool spec.manifest.core.checkpoints more is)
          ∙ or_assoc (is_carried checkpoint_cmp id pool) (own_ids spec) (list_any own_ids specs))

  -- those of the entries of other databases
  abbrev at_id : List ℕ × Carrier → Bool
  at_id e = is_at (checkpoint_cmp id) e.0

  pins_named : (o : Option (List ℕ)) → list_any at_id (map only_pinned (option_to_list o)) ≡ is_pin id o
  pins_named None = refl
  pins_named (Some pin) = or_false (is_at (checkpoint_cmp id) pin) ∙ is_eq-slice_cmp id pin

  entry_named : (entry : ExternalDb) → list_any at_id (entry_checkpoints entry) ≡ entry_names id entry
  entry_named entry =
      ap (λ (b : Bool). b || list_any at_id (map only_pinned (option_to_list entry.final_checkpoint_id))) (is_eq-slice_cmp id entry.source_checkpoint_id)
      ∙ ap (λ (b : Bool). bytes_eq id entry.source_checkpoint_id || b) (pins_named entry.final_checkpoint_id)

  entries_named : (entries : List ExternalDb) → list_any at_id (flat_map entry_checkpoints entries) ≡ list_any (entry_names id) entries
  entries_named entries = any_flat at_id entry_checkpoints entries ∙ any_alike (λ (entry : ExternalDb). list_any at_id (entry_checkpoints entry)) (entry_names id) entries entry_named

  abbrev others_ids : DbSpec → Bool
  others_ids spec = list_any (entry_names id) spec.manifest.external_dbs

  others_named : (specs : List DbSpec) → list_any at_id (flat_map (λ (spec : DbSpec). flat_map entry_checkpoints spec.manifest.external_dbs) specs) ≡ list_any others_ids specs
  others_named specs =
      any_flat at_id (λ (spec : DbSpec). flat_map entry_checkpoints spec.manifest.external_dbs) specs
      ∙ any_alike (λ (spec : DbSpec). list_any at_id (flat_map entry_checkpoints spec.manifest.external_dbs)) others_ids specs (λ spec. entries_named spec.manifest.external_dbs)

-- those of a call, in either pool
module _ {K : Type 0} (cmp : K → K → Ordering) (order : IsKeyOrder cmp) (is : K → K → Bool) (same : (a b : K) → is_at (cmp a) b ≡ is a b) (id : K) where
  abbrev at_key : K × Carrier → Bool
  at_key e = is_at (cmp id) e.0

  alike : (f : K → K × Carrier) (xs : List K) → ((x : K) → at_key (f x) ≡ is id x) → list_any at_key (map f xs) ≡ list_any (is id) xs
  alike f xs h = any_mapped at_key f xs ∙ any_alike (λ (x : K). at_key (f x)) (is id) xs h

  named_of : (n : ℕ) (fresh named : List K) → list_any at_key (ids_of n fresh named) ≡ list_any (is id) (fresh ++ named)
  named_of n fresh named =
      list_any-append at_key (map (brought_by n) fresh) (map only_named named)
      ∙ (ap (λ (b : Bool). b || list_any at_key (map only_named named)) (alike (brought_by n) fresh (λ x. same id x))
      ∙ (ap (λ (b : Bool). list_any (is id) fresh || b) (alike only_named named (λ x. same id x))
      ∙ sym (list_any-append (is id) fresh named)))

  carried_of : (n : ℕ) (fresh named : List K) (pool : Pool K) → is_carried cmp id (with_ids cmp (ids_of n fresh named) pool) ≡ (is_carried cmp id pool || list_any (is id) (fresh ++ named))
  carried_of n fresh named pool = ids_more cmp order id (ids_of n fresh named) pool ∙ ap (λ (b : Bool). is_carried cmp id pool || b) (named_of n fresh named)

pub call_carried : (id : List ℕ) (n : ℕ) (call : Call) (pool : Pool (List ℕ)) → is_carried checkpoint_cmp id (with_ids checkpoint_cmp (ids_of n (fresh_checkpoints call) (named_checkpoints call)) pool) ≡ (is_carried checkpoint_cmp id pool || call_names id call)
call_carried id n call pool = carried_of checkpoint_cmp name_order bytes_eq is_eq-slice_cmp id n (fresh_checkpoints call) (named_checkpoints call) pool

pub call_carried_ulids : (id : ℕ × ℕ) (n : ℕ) (call : Call) (pool : Pool (ℕ × ℕ)) → is_carried ulid_cmp id (with_ids ulid_cmp (ids_of n (fresh_ulids call) (named_ulids call)) pool) ≡ (is_carried ulid_cmp id pool || call_names_ulid id call)
call_carried_ulids id n call pool = carried_of ulid_cmp ulid_order same_id ulid_at id n (fresh_ulids call) (named_ulids call) pool

-- ---- of accepted databases

-- what the first causes look at
record AreApart (specs : List DbSpec) : Type 0 where
  paths : is_some (tallies_from [] specs) ≡ true
  ids : is_some (checkpoints_from [] specs) ≡ true

are_apart : (specs : List DbSpec) → cause_of_specs specs ≡ None → AreApart specs
are_apart specs h = by_paths (is_some (tallies_from [] specs)) refl h
  where
    by_ids : (b c : Bool) → is_some (checkpoints_from [] specs) ≡ b → is_some (tallies_from [] specs) ≡ true → (rest : Option ClusterCause) → (if not (b && c) then Some cause.Ids else rest) ≡ None → AreApart specs
    by_ids true c is paths rest h = record { paths = paths; ids = is }
    by_ids false c is paths rest h = absurd cc

    by_paths : (b : Bool) → is_some (tallies_from [] specs) ≡ b
        → (if not b then Some cause.Path else (if not (are_ids_fine specs) then Some cause.Ids
        else (if not (is_some (objects_of specs)) then Some cause.Value else cause_beside (listed_or_none (objects_of specs)) specs))) ≡ None → AreApart specs
    by_paths true is h = by_ids (is_some (checkpoints_from [] specs)) (are_ulids_fine specs) refl is _ h
    by_paths false is h = absurd cc

-- what there is
given : {X : Type 0} (o : Option (List X)) → is_some o ≡ true → o ≡ Some (listed_or_none o)
given None h = absurd cc
given (Some xs) h = refl

module _ (specs : List DbSpec) (accepted : cause_of_specs specs ≡ None) where
  pub databases_open : (d : List ℕ) → is_some (tally_of d (opening_world specs).tallies) ≡ list_any (λ (spec : DbSpec). bytes_eq d spec.path) specs
  databases_open d = databases_from d [] specs (listed_or_none (tallies_from [] specs)) (given (tallies_from [] specs) (are_apart specs accepted).paths)

  pub checkpoints_open : (id : List ℕ) → is_carried checkpoint_cmp id (opening_carried specs).checkpoints ≡ list_any (opening_names id) specs
  checkpoints_open id =
      ids_more checkpoint_cmp name_order id (flat_map (λ (spec : DbSpec). flat_map entry_checkpoints spec.manifest.external_dbs) specs) (listed_or_none (checkpoints_from [] specs))
      ∙ (ap (λ (b : Bool). b || list_any (at_id id) (flat_map (λ (spec : DbSpec). flat_map entry_checkpoints spec.manifest.external_dbs) specs))
      (checkpoints_found id [] specs (listed_or_none (checkpoints_from [] specs)) (given (checkpoints_from [] specs) (are_apart specs accepted).ids))
      ∙ (ap (λ (b : Bool). list_any (own_ids id) specs || b) (others_named id specs)
      ∙ any_either (own_ids id) (others_ids id) specs))

pub ulids_open : (specs : List DbSpec) (id : ℕ × ℕ) → is_carried ulid_cmp id (opening_carried specs).ulids ≡ list_any (opening_names_ulid id) specs
ulids_open specs id =
    ids_more ulid_cmp ulid_order id (map only_named (flat_map spec_ulids specs)) []
    ∙ (any_mapped (λ (e : (ℕ × ℕ) × Carrier). is_at (ulid_cmp id) e.0) only_named (flat_map spec_ulids specs)
    ∙ (any_alike (is_at (ulid_cmp id)) (same_id id) (flat_map spec_ulids specs) (ulid_at id)
    ∙ any_flat (same_id id) spec_ulids specs))
