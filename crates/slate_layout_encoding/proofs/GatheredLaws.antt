-- Gathered tables ascend by id, and have the table of each view.
use Rattle.std.specs.Prelude.{◌≡◌, ℕ, Bool, true, false, List, [], ◌∷◌, map, Option, Some, None, if◌then◌else◌, refl}
use Rattle.std.specs.Map.{lookup}
use Rattle.std.specs.BTreeMap.{insert_entry, is_at}
use Rattle.std.specs.Ordering.{is_eq, match_ordering}
use Rattle.std.specs.declared.cmp.Ordering.{Ordering}
use Rattle.std.specs.declared.cmp.Ordering.TheVariants.{Less, Equal, Greater}
use Rattle.std.proofs.Common.{ap, sym, ◌∙◌, subst, arith}
use Rattle.std.proofs.lemmas.Bool.{and_parts, and_from}
use Rattle.std.proofs.lemmas.Bool.Decides.{nat_tests}
use Rattle.slate_model_tables.specs.declared.ss_table_handle.SsTableHandle.{SsTableHandle}
use Rattle.slate_model_tables.specs.Views.{View}
use Rattle.slate_layout_parts.specs.TablesOfViews.{table_id, is_before, stands_before, ascend, table_at}
use Rattle.slate_ids.specs.Ulids.{id_lt, same_id, id_cmp}
use Rattle.slate_layout_manifests.specs.Gathered.{ById, with_table, with_view, gathered, same_handle}
use Rattle.slate_layout_encoding.proofs.SameHandles.{handle_is}
use Rattle.slate_layout_parts.specs.laws.Parts.{steps}

-- the tables, without their ids
abbrev pub values : ById → List SsTableHandle
values tables = map (λ e. e.1) tables

-- each table stands at its own id
abbrev pub Keyed : ById → Type 0
Keyed [] = Unit {0}
Keyed (e ∷ tables) = (e.0 ≡ table_id e.1.id) × Keyed tables

lower : (a b : ℕ × ℕ) → id_cmp a b ≡ Less → id_lt a b ≡ true
lower a b h = grind (arith, nat_tests)

higher : (a b : ℕ × ℕ) → id_cmp a b ≡ Greater → id_lt b a ≡ true
higher a b h = grind (arith, nat_tests)

equal_is : (a b : ℕ × ℕ) → is_eq (id_cmp a b) ≡ same_id b a
equal_is a b = grind (arith, nat_tests)

-- the table of an id, in the list or in the map
pub at_id : (q : ℕ × ℕ) (tables : ById) → Keyed tables → table_at q (values tables) ≡ lookup (is_at (id_cmp q)) tables
at_id q [] k = refl
at_id q (e ∷ tables) k =
    let here : same_id (table_id e.1.id) q ≡ is_eq (id_cmp q e.0) = ap (λ i. same_id i q) (sym k.0) ∙ sym (equal_is q e.0) in
    ap (λ b. if b then Some e.1 else table_at q (values tables)) here ∙ ap (λ (o : Option SsTableHandle). if is_eq (id_cmp q e.0) then Some e.1 else o) (at_id q tables k.1)

-- no table of this id is there
abbrev pub Absent : ℕ × ℕ → ById → Type 0
Absent q tables = lookup (is_at (id_cmp q)) tables ≡ None

absent_rest : (b : Bool) (h : SsTableHandle) (o : Option SsTableHandle) → (if b then Some h else o) ≡ None → o ≡ None
absent_rest true h o e = absurd cc
absent_rest false h o e = e

absent_here : (o : Ordering) (h : SsTableHandle) (rest : Option SsTableHandle) → o ≡ Equal → (if is_eq o then Some h else rest) ≡ None → ⊥
absent_here o h rest q e = let here : (if true then Some h else rest) ≡ None = sym (ap (λ (p : Ordering). if is_eq p then Some h else rest) q) ∙ e in absurd cc

-- what was put keeps tables at their ids
pub insert_keyed : (h : SsTableHandle) (tables : ById) → Absent (table_id h.id) tables → Keyed tables → Keyed (insert_entry id_cmp tables (table_id h.id) h)
insert_keyed h [] a k = (refl, tt)
insert_keyed h (e ∷ tables) a k = by (id_cmp (table_id h.id) e.0) refl (insert_keyed h tables (absent_rest (is_eq (id_cmp (table_id h.id) e.0)) e.1 (lookup (is_at (id_cmp (table_id h.id))) tables) a) k.1)
  where
    by : (o : Ordering) → id_cmp (table_id h.id) e.0 ≡ o → Keyed (insert_entry id_cmp tables (table_id h.id) h) → Keyed (match_ordering o ((table_id h.id, h) ∷ e ∷ tables) ((e.0, h) ∷ tables) (e ∷ insert_entry id_cmp tables (table_id h.id) h))
    by Less q more = (refl, k)
    by Equal q more = absurd (absent_here (id_cmp (table_id h.id) e.0) e.1 (lookup (is_at (id_cmp (table_id h.id))) tables) q a)
    by Greater q more = (k.0, more)

-- a table that stands before an id and before others stands before them with the one of the id put among them
first_before : (x h : SsTableHandle) (tables : ById) → is_before (table_id h.id) x ≡ true → stands_before x (values tables) ≡ true → stands_before x (values (insert_entry id_cmp tables (table_id h.id) h)) ≡ true
first_before x h [] b s = b
first_before x h (e ∷ tables) b s = by (id_cmp (table_id h.id) e.0) refl
  where
    by : (o : Ordering) → id_cmp (table_id h.id) e.0 ≡ o → stands_before x (values (match_ordering o ((table_id h.id, h) ∷ e ∷ tables) ((e.0, h) ∷ tables) (e ∷ insert_entry id_cmp tables (table_id h.id) h))) ≡ true
    by Less q = b
    by Equal q = b
    by Greater q = s

-- tables that ascend do so with one more
pub insert_ascends : (h : SsTableHandle) (tables : ById) → Absent (table_id h.id) tables → Keyed tables → ascend (values tables) ≡ true → ascend (values (insert_entry id_cmp tables (table_id h.id) h)) ≡ true
insert_ascends h [] a k s = refl
insert_ascends h (e ∷ tables) a k s =
    let both = and_parts (stands_before e.1 (values tables)) (ascend (values tables)) s in
    by both (id_cmp (table_id h.id) e.0) refl (insert_ascends h tables (absent_rest (is_eq (id_cmp (table_id h.id) e.0)) e.1 (lookup (is_at (id_cmp (table_id h.id))) tables) a) k.1 both.1)
  where
    by : (stands_before e.1 (values tables) ≡ true) × (ascend (values tables) ≡ true) → (o : Ordering) → id_cmp (table_id h.id) e.0 ≡ o → ascend (values (insert_entry id_cmp tables (table_id h.id) h)) ≡ true → ascend (values (match_ordering o ((table_id h.id, h) ∷ e ∷ tables) ((e.0, h) ∷ tables) (e ∷ insert_entry id_cmp tables (table_id h.id) h))) ≡ true
    by both Less q more = and_from _ _ (sym (ap (λ i. id_lt (table_id h.id) i) k.0) ∙ lower (table_id h.id) e.0 q) s
    by both Equal q more = absurd (absent_here (id_cmp (table_id h.id) e.0) e.1 (lookup (is_at (id_cmp (table_id h.id))) tables) q a)
    by both Greater q more = and_from _ _ (first_before e.1 h tables (sym (ap (λ i. id_lt i (table_id h.id)) k.0) ∙ higher (table_id h.id) e.0 q) both.0) more

-- gathered tables stand at their ids, and ascend
pub record AreGathered (tables : ById) : Type 0 where
  pub keyed : Keyed tables
  pub ascending : ascend (values tables) ≡ true

still : (b : Bool) (tables all : ById) → AreGathered tables → (if b then Some tables else None) ≡ Some all → AreGathered all
still true tables all g e = let same : tables ≡ all = cc in subst AreGathered same g
still false tables all g e = absurd cc

with_one : (h : SsTableHandle) (tables all : ById) (o : Option SsTableHandle) → lookup (is_at (id_cmp (table_id h.id))) tables ≡ o → AreGathered tables → with_table h tables o ≡ Some all → AreGathered all
with_one h tables all None a g e =
    let same : insert_entry id_cmp tables (table_id h.id) h ≡ all = cc in
    subst AreGathered same (record { keyed = insert_keyed h tables a g.keyed; ascending = insert_ascends h tables a g.keyed g.ascending })
with_one h tables all (Some k) a g e = still (same_handle k h) tables all g e

pub gathered_well : (views : List View) (tables all : ById) → AreGathered tables → gathered views tables ≡ Some all → AreGathered all
gathered_well [] tables all g e = let same : tables ≡ all = cc in subst AreGathered same g
gathered_well (v ∷ views) tables all g e =
    let s = steps (with_view tables v) (gathered views) all e in
    gathered_well views s.value all (with_one v.sst tables s.value (lookup (is_at (id_cmp (table_id v.sst.id))) tables) refl g s.at_first) s.at_next

-- what is gathered of views ascends
pub gathered_ascends : (views : List View) (all : ById) → gathered views [] ≡ Some all → ascend (values all) ≡ true
gathered_ascends views all e = (gathered_well views [] all (record { keyed = tt; ascending = refl }) e).ascending

exclusive : (q a b : ℕ × ℕ) → is_eq (id_cmp q a) ≡ true → is_eq (id_cmp q b) ≡ true → id_cmp b a ≡ Greater → ⊥
exclusive q a b h k g = grind (arith, nat_tests)

itself : (q : ℕ × ℕ) → is_eq (id_cmp q q) ≡ true
itself q = grind (arith, nat_tests)

either : (b c : Bool) (x y z : Option SsTableHandle) → (b ≡ true → c ≡ true → ⊥) → (if b then x else if c then y else z) ≡ (if c then y else if b then x else z)
either true true x y z apart = absurd (apart refl refl)
either true false x y z apart = refl
either false c x y z apart = refl

-- the table of an id, once one was put whose id had none
pub lookup_put : (q k : ℕ × ℕ) (h : SsTableHandle) (tables : ById) → Absent k tables → lookup (is_at (id_cmp q)) (insert_entry id_cmp tables k h) ≡ (if is_eq (id_cmp q k) then Some h else lookup (is_at (id_cmp q)) tables)
lookup_put q k h [] a = refl
lookup_put q k h (e ∷ tables) a = by (id_cmp k e.0) refl (lookup_put q k h tables (absent_rest (is_eq (id_cmp k e.0)) e.1 (lookup (is_at (id_cmp k)) tables) a))
  where
    by : (o : Ordering) → id_cmp k e.0 ≡ o → lookup (is_at (id_cmp q)) (insert_entry id_cmp tables k h) ≡ (if is_eq (id_cmp q k) then Some h else lookup (is_at (id_cmp q)) tables) → lookup (is_at (id_cmp q)) (match_ordering o ((k, h) ∷ e ∷ tables) ((e.0, h) ∷ tables) (e ∷ insert_entry id_cmp tables k h)) ≡ (if is_eq (id_cmp q k) then Some h else lookup (is_at (id_cmp q)) (e ∷ tables))
    by Less g more = refl
    by Equal g more = absurd (absent_here (id_cmp k e.0) e.1 (lookup (is_at (id_cmp k)) tables) g a)
    by Greater g more = ap (λ (o : Option SsTableHandle). if is_eq (id_cmp q e.0) then Some e.1 else o) more ∙ either (is_eq (id_cmp q e.0)) (is_eq (id_cmp q k)) (Some e.1) (Some h) (lookup (is_at (id_cmp q)) tables) (λ x y. exclusive q e.0 k x y g)

-- the table of an id
abbrev pub At : ℕ × ℕ → SsTableHandle → ById → Type 0
At q h tables = lookup (is_at (id_cmp q)) tables ≡ Some h

kept_put : (b : Bool) (h k : SsTableHandle) (found : Option SsTableHandle) → found ≡ Some k → (b ≡ true → found ≡ None) → (if b then Some h else found) ≡ Some k
kept_put true h k found e none = let gone : Some k ≡ None = sym e ∙ none refl in absurd cc
kept_put false h k found e none = e

pub same_at : (q k : ℕ × ℕ) → is_eq (id_cmp q k) ≡ true → q ≡ k
same_at q k h =
    let first : q.0 ≡ k.0 = grind (arith, nat_tests) in
    let second : q.1 ≡ k.1 = grind (arith, nat_tests) in
    rw (first, second) refl

same_kept : (b : Bool) (tables all : ById) (q : ℕ × ℕ) (k : SsTableHandle) → (if b then Some tables else None) ≡ Some all → At q k tables → At q k all
same_kept true tables all q k e at = let same : tables ≡ all = cc in subst (At q k) same at
same_kept false tables all q k e at = absurd cc

-- one table more leaves the others
kept_with : (h : SsTableHandle) (tables all : ById) (o : Option SsTableHandle) (q : ℕ × ℕ) (k : SsTableHandle) → lookup (is_at (id_cmp (table_id h.id))) tables ≡ o → with_table h tables o ≡ Some all → At q k tables → At q k all
kept_with h tables all None q k a e at =
    let same : insert_entry id_cmp tables (table_id h.id) h ≡ all = cc in
    subst (At q k) same (lookup_put q (table_id h.id) h tables a ∙ kept_put (is_eq (id_cmp q (table_id h.id))) h k (lookup (is_at (id_cmp q)) tables) at (λ b. ap (λ i. lookup (is_at (id_cmp i)) tables) (same_at q (table_id h.id) b) ∙ a))
kept_with h tables all (Some other) q k a e at = same_kept (same_handle other h) tables all q k e at

had_same : (b : Bool) (other h : SsTableHandle) (tables all : ById) → same_handle other h ≡ b → (if b then Some tables else None) ≡ Some all → At (table_id h.id) other tables → At (table_id h.id) h all
had_same true other h tables all s e at =
    let same : tables ≡ all = cc in
    subst (At (table_id h.id) h) same (at ∙ ap (λ (k : SsTableHandle). Some k) (handle_is other h s))
had_same false other h tables all s e at = absurd cc

-- and has it
has_with : (h : SsTableHandle) (tables all : ById) (o : Option SsTableHandle) → lookup (is_at (id_cmp (table_id h.id))) tables ≡ o → with_table h tables o ≡ Some all → At (table_id h.id) h all
has_with h tables all None a e =
    let same : insert_entry id_cmp tables (table_id h.id) h ≡ all = cc in
    subst (At (table_id h.id) h) same (lookup_put (table_id h.id) (table_id h.id) h tables a ∙ ap (λ b. if b then Some h else lookup (is_at (id_cmp (table_id h.id))) tables) (itself (table_id h.id)))
has_with h tables all (Some other) a e = had_same (same_handle other h) other h tables all refl e a

-- the tables that were there are there when more views' are gathered
pub kept_gathering : (views : List View) (tables all : ById) (q : ℕ × ℕ) (k : SsTableHandle) → gathered views tables ≡ Some all → At q k tables → At q k all
kept_gathering [] tables all q k e at = let same : tables ≡ all = cc in subst (At q k) same at
kept_gathering (v ∷ views) tables all q k e at =
    let s = steps (with_view tables v) (gathered views) all e in
    kept_gathering views s.value all q k s.at_next (kept_with v.sst tables s.value (lookup (is_at (id_cmp (table_id v.sst.id))) tables) q k refl s.at_first at)

-- each view's table is there
abbrev pub EachHas : List View → ById → Type 0
EachHas [] tables = Unit {0}
EachHas (v ∷ views) tables = At (table_id v.sst.id) v.sst tables × EachHas views tables

pub each_has : (views : List View) (tables all : ById) → gathered views tables ≡ Some all → EachHas views all
each_has [] tables all e = tt
each_has (v ∷ views) tables all e =
    let s = steps (with_view tables v) (gathered views) all e in (
      kept_gathering views s.value all (table_id v.sst.id) v.sst s.at_next (has_with v.sst tables s.value (lookup (is_at (id_cmp (table_id v.sst.id))) tables) refl s.at_first),
      each_has views s.value all s.at_next,
    )
