-- Tables that ascend, and are all used by views of them, are what is gathered of those views.
use Rattle.std.specs.Prelude.{◌≡◌, ℕ, ◌==◌, ◌||◌, Bool, true, false, List, [], ◌∷◌, Option, Some, None, if◌then◌else◌, refl}
use Rattle.std.specs.List.{list_all}
use Rattle.std.specs.Map.{lookup}
use Rattle.std.specs.BTreeMap.{insert_entry, is_at}
use Rattle.std.specs.Ordering.{is_eq}
use Rattle.std.proofs.Common.{ap, sym, ◌∙◌, subst, arith}
use Rattle.std.proofs.lemmas.Bool.{and_parts}
use Rattle.std.proofs.lemmas.Bool.Decides.{nat_tests}
use Rattle.slate_ids.specs.Ulids.{id_lt, same_id, id_cmp}
use Rattle.slate_model_tables.specs.declared.ss_table_handle.SsTableHandle.{SsTableHandle}
use Rattle.slate_model_tables.specs.Views.{View}
use Rattle.slate_layout_parts.specs.TablesOfViews.{table_id, is_before, stands_before, ascend, table_at}
use Rattle.slate_layout_parts.specs.laws.Parts.{bind_at}
use Rattle.slate_layout_parts.specs.laws.Views.{found_id}
use Rattle.slate_layout_parts.proofs.Lookups.{After, after, none_above}
use Rattle.slate_layout_manifests.specs.UsedTables.{any_of}
use Rattle.slate_layout_manifests.specs.Gathered.{ById, with_table, with_view, gathered, same_handle}
use Rattle.slate_layout_encoding.proofs.SameHandles.{handle_itself}
use Rattle.slate_layout_encoding.proofs.GatheredLaws.{values, Keyed, Absent, At, EachHas, AreGathered, at_id, lookup_put, same_at, gathered_well, each_has}

-- ---- what is gathered of views of tables

-- each table that was gathered is the one of its id among these
abbrev pub Agrees : ById → List SsTableHandle → Type 0
Agrees had tables = (q : ℕ × ℕ) (k : SsTableHandle) → At q k had → table_at q tables ≡ Some k

-- each view's table is the one of its id among these
abbrev pub EachThere : List SsTableHandle → List View → Type 0
EachThere tables [] = Unit {0}
EachThere tables (v ∷ views) = (table_at (table_id v.sst.id) tables ≡ Some v.sst) × EachThere tables views

-- tables are gathered, and agree
record Gathers (views : List View) (had : ById) (tables : List SsTableHandle) : Type 0 where
  all : ById
  at : gathered views had ≡ Some all
  agrees : Agrees all tables

found_one : (b : Bool) (q : ℕ × ℕ) (h k : SsTableHandle) (o : Option SsTableHandle) (tables : List SsTableHandle) → is_eq (id_cmp q (table_id h.id)) ≡ b → table_at (table_id h.id) tables ≡ Some h → (o ≡ Some k → table_at q tables ≡ Some k) → (if b then Some h else o) ≡ Some k → table_at q tables ≡ Some k
found_one true q h k o tables is there other e = ap (λ i. table_at i tables) (same_at q (table_id h.id) is) ∙ there ∙ e
found_one false q h k o tables is there other e = other e

agrees_put : (h : SsTableHandle) (had : ById) (tables : List SsTableHandle) → Absent (table_id h.id) had → table_at (table_id h.id) tables ≡ Some h → Agrees had tables → Agrees (insert_entry id_cmp had (table_id h.id) h) tables
agrees_put h had tables none there agrees q k at =
    found_one (is_eq (id_cmp q (table_id h.id))) q h k (lookup (is_at (id_cmp q)) had) tables refl there (agrees q k) (sym (lookup_put q (table_id h.id) h had none) ∙ at)

one_more : (v : View) (views : List View) (had : ById) (tables : List SsTableHandle) (o : Option SsTableHandle) → lookup (is_at (id_cmp (table_id v.sst.id))) had ≡ o → table_at (table_id v.sst.id) tables ≡ Some v.sst → Agrees had tables → ((next : ById) → Agrees next tables → Gathers views next tables) → Gathers (v ∷ views) had tables
one_more v views had tables None at there agrees more =
    let next = insert_entry id_cmp had (table_id v.sst.id) v.sst in
    let g = more next (agrees_put v.sst had tables at there agrees) in
    record { all = g.all; at = bind_at (gathered views) (ap (λ (o : Option SsTableHandle). with_table v.sst had o) at) ∙ g.at; agrees = g.agrees }
one_more v views had tables (Some k) at there agrees more =
    let found : Some k ≡ Some v.sst = sym (agrees (table_id v.sst.id) k at) ∙ there in
    let same : k ≡ v.sst = cc in
    let equal : same_handle k v.sst ≡ true = ap (λ (h : SsTableHandle). same_handle h v.sst) same ∙ handle_itself v.sst in
    let g = more had agrees in
    record {
      all = g.all;
      at = bind_at (gathered views) (ap (λ (o : Option SsTableHandle). with_table v.sst had o) at ∙ ap (λ b. if b then Some had else None) equal) ∙ g.at;
      agrees = g.agrees;
    }

gathers : (views : List View) (had : ById) (tables : List SsTableHandle) → Agrees had tables → EachThere tables views → Gathers views had tables
gathers [] had tables agrees there = record { all = had; at = refl; agrees = agrees }
gathers (v ∷ views) had tables agrees there = one_more v views had tables (lookup (is_at (id_cmp (table_id v.sst.id))) had) refl there.0 agrees (λ next a. gathers views next tables a there.1)

-- ---- tables that ascend and have the same one of each id are the same

below_not_same : (a b : ℕ × ℕ) → id_lt a b ≡ true → same_id b a ≡ false
below_not_same a b h = grind (arith, nat_tests)

below_not_above : (a b : ℕ × ℕ) → id_lt a b ≡ true → id_lt b a ≡ false
below_not_above a b h = grind (arith, nat_tests)

same_not_below : (a b : ℕ × ℕ) → same_id a b ≡ true → id_lt a b ≡ false
same_not_below a b h = grind (arith, nat_tests)

itself : (q : ℕ × ℕ) → same_id q q ≡ true
itself q = grind (arith, nat_tests)

neither_is_same : (a b : ℕ × ℕ) → id_lt a b ≡ false → id_lt b a ≡ false → same_id b a ≡ true
neither_is_same a b h g = grind (arith, nat_tests)

first_found : (x : SsTableHandle) (xs : List SsTableHandle) → table_at (table_id x.id) (x ∷ xs) ≡ Some x
first_found x xs = ap (λ b. if b then Some x else table_at (table_id x.id) xs) (itself (table_id x.id))

-- tables of which the first stands above an id have none of it
none_first : (q : ℕ × ℕ) (y : SsTableHandle) (ys : List SsTableHandle) → After y ys → id_lt q (table_id y.id) ≡ true → table_at q (y ∷ ys) ≡ None
none_first q y ys a below =
    ap (λ b. if b then Some y else table_at q ys) (below_not_same q (table_id y.id) below) ∙ none_above q y ys a (below_not_above q (table_id y.id) below)

-- the tables after one have none of its id
none_later : (q : ℕ × ℕ) (x : SsTableHandle) (xs : List SsTableHandle) → After x xs → same_id (table_id x.id) q ≡ true → table_at q xs ≡ None
none_later q x xs a same = none_above q x xs a (same_not_below (table_id x.id) q same)

rest_same : (b : Bool) (q : ℕ × ℕ) (x : SsTableHandle) (xs ys : List SsTableHandle) → same_id (table_id x.id) q ≡ b → After x xs → After x ys → (if b then Some x else table_at q xs) ≡ (if b then Some x else table_at q ys) → table_at q xs ≡ table_at q ys
rest_same true q x xs ys is a c e = none_later q x xs a is ∙ sym (none_later q x ys c is)
rest_same false q x xs ys is a c e = e

no_first : (x : SsTableHandle) (xs ys : List SsTableHandle) → table_at (table_id x.id) ys ≡ None → table_at (table_id x.id) (x ∷ xs) ≡ table_at (table_id x.id) ys → ⊥
no_first x xs ys none e = let both : Some x ≡ None = sym (first_found x xs) ∙ e ∙ none in absurd cc

firsts_same : (x y : SsTableHandle) (xs ys : List SsTableHandle) (b : Bool) → same_id (table_id y.id) (table_id x.id) ≡ b → b ≡ true → table_at (table_id x.id) (x ∷ xs) ≡ (if b then Some y else table_at (table_id x.id) ys) → x ≡ y
firsts_same x y xs ys true is t e = let both : Some x ≡ Some y = sym (first_found x xs) ∙ e in cc
firsts_same x y xs ys false is t e = absurd cc

by_order : (b c : Bool) (x y : SsTableHandle) (xs ys : List SsTableHandle) → id_lt (table_id x.id) (table_id y.id) ≡ b → id_lt (table_id y.id) (table_id x.id) ≡ c → After x xs → After y ys → ((q : ℕ × ℕ) → table_at q (x ∷ xs) ≡ table_at q (y ∷ ys)) → x ≡ y
by_order true c x y xs ys h g a d same = absurd (no_first x xs (y ∷ ys) (none_first (table_id x.id) y ys d h) (same (table_id x.id)))
by_order false true x y xs ys h g a d same = absurd (no_first y ys (x ∷ xs) (none_first (table_id y.id) x xs a g) (sym (same (table_id y.id))))
by_order false false x y xs ys h g a d same =
    firsts_same x y xs ys (same_id (table_id y.id) (table_id x.id)) refl (neither_is_same (table_id x.id) (table_id y.id) h g) (same (table_id x.id))

pub same_tables : (xs ys : List SsTableHandle) → ascend xs ≡ true → ascend ys ≡ true → ((q : ℕ × ℕ) → table_at q xs ≡ table_at q ys) → xs ≡ ys
same_tables [] [] a d same = refl
same_tables [] (y ∷ ys) a d same = absurd (no_first y ys [] refl (sym (same (table_id y.id))))
same_tables (x ∷ xs) [] a d same = absurd (no_first x xs [] refl (same (table_id x.id)))
same_tables (x ∷ xs) (y ∷ ys) a d same =
    let p = after x xs a in
    let r = after y ys d in
    let first : x ≡ y = by_order (id_lt (table_id x.id) (table_id y.id)) (id_lt (table_id y.id) (table_id x.id)) x y xs ys refl refl p r same in
    let s : After x ys = subst (λ (h : SsTableHandle). After h ys) (sym first) r in
    let others : xs ≡ ys = same_tables xs ys p.rest r.rest (λ q. rest_same (same_id (table_id x.id) q) q x xs ys refl p s (same q ∙ ap (λ (h : SsTableHandle). table_at q (h ∷ ys)) (sym first))) in
    ap (λ (h : SsTableHandle). h ∷ xs) first ∙ ap (λ (l : List SsTableHandle). y ∷ l) others

-- ---- all of them are gathered

passes : (b : Bool) (test : SsTableHandle → Bool) (k h : SsTableHandle) (o : Option SsTableHandle) → test k ≡ true → (o ≡ Some h → test h ≡ true) → (if b then Some k else o) ≡ Some h → test h ≡ true
passes true test k h o is more e = let same : k ≡ h = cc in subst (λ (t : SsTableHandle). test t ≡ true) same is
passes false test k h o is more e = more e

-- what holds of all tables holds of the one that is found
found_passes : (test : SsTableHandle → Bool) (q : ℕ × ℕ) (tables : List SsTableHandle) (h : SsTableHandle) → list_all test tables ≡ true → table_at q tables ≡ Some h → test h ≡ true
found_passes test q [] h all e = absurd cc
found_passes test q (k ∷ tables) h all e =
    let p = and_parts (test k) (list_all test tables) all in
    passes (same_id (table_id k.id) q) test k h (table_at q tables) p.0 (found_passes test q tables h p.1) e

same_is : (a b : ℕ × ℕ) → same_id a b ≡ true → a ≡ b
same_is a b h =
    let both = and_parts (a.0 == b.0) (a.1 == b.1) h in
    let first : a.0 ≡ b.0 = grind (arith, nat_tests) in
    let second : a.1 ≡ b.1 = grind (arith, nat_tests) in
    rw (first, second) refl

not_absent : (b : Bool) (q : ℕ × ℕ) (v : View) (views : List View) (all : ById) → same_id (table_id v.sst.id) q ≡ b → At (table_id v.sst.id) v.sst all → (any_of q views ≡ true → Absent q all → ⊥) → (b || any_of q views) ≡ true → Absent q all → ⊥
not_absent true q v views all is at more used none =
    let both : Some v.sst ≡ None = sym at ∙ ap (λ i. lookup (is_at (id_cmp i)) all) (same_is (table_id v.sst.id) q is) ∙ none in absurd cc
not_absent false q v views all is at more used none = more used none

-- a table that a view is of is there
used_there : (q : ℕ × ℕ) (views : List View) (all : ById) → EachHas views all → any_of q views ≡ true → Absent q all → ⊥
used_there q [] all has used none = absurd cc
used_there q (v ∷ views) all has used none = not_absent (same_id (table_id v.sst.id) q) q v views all refl has.0 (used_there q views all has.1) used none

-- which table has an id is the same among these and among those that were gathered
same_found : (q : ℕ × ℕ) (views : List View) (tables : List SsTableHandle) (all : ById) (o p : Option SsTableHandle) → lookup (is_at (id_cmp q)) all ≡ o → table_at q tables ≡ p → Agrees all tables → EachHas views all → list_all (λ h. any_of (table_id h.id) views) tables ≡ true → o ≡ p
same_found q views tables all (Some k) p at found agrees has used = sym (agrees q k at) ∙ found
same_found q views tables all None None at found agrees has used = refl
same_found q views tables all None (Some h) at found agrees has used =
    let is : any_of (table_id h.id) views ≡ true = found_passes (λ t. any_of (table_id t.id) views) q tables h used found in
    absurd (used_there q views all has (subst (λ i. any_of i views ≡ true) (found_id q tables h found) is) at)

-- the tables that were gathered are these
pub record GatheredAs (views : List View) (tables : List SsTableHandle) : Type 0 where
  pub all : ById
  pub at : gathered views [] ≡ Some all
  pub same : values all ≡ tables

pub gathered_as : (views : List View) (tables : List SsTableHandle) → ascend tables ≡ true → EachThere tables views → list_all (λ h. any_of (table_id h.id) views) tables ≡ true → GatheredAs views tables
gathered_as views tables ascending there used =
    let g = gathers views [] tables (λ q k e. absurd cc) there in
    let well = gathered_well views [] g.all (record { keyed = tt; ascending = refl }) g.at in
    let has = each_has views [] g.all g.at in
    record {
      all = g.all;
      at = g.at;
      same = same_tables (values g.all) tables well.ascending ascending (λ q.
          at_id q g.all well.keyed ∙ same_found q views tables g.all (lookup (is_at (id_cmp q)) g.all) (table_at q tables) refl refl g.agrees has used);
    }
