-- A manifest with the trees and the entries of the old one breaks no rule on tables.
use Rattle.std.specs.Prelude.{ℕ, ◌+◌, ◌==◌, ◌&&◌, ◌||◌, Bool, true, false, not, List, [], ◌∷◌, ◌++◌, filter, Option, Some, None, bytes_eq, if◌then◌else◌}
use Rattle.std.specs.List.{list_all, list_any, flat_map, find}
use Rattle.std.proofs.Common.{◌≡◌, refl, sym, ◌∙◌, ap, arith}
use Rattle.std.proofs.lemmas.Bool.Decides.{nat_tests}
use Rattle.std.proofs.lemmas.List.Folds.{list_any-append}
use Rattle.std.proofs.lemmas.Slice.Eq.{bytes_eq-Decides}
use Rattle.slate_ids.specs.Ulids.{same_id}
use Rattle.slate_txn_log.specs.declared.right.Right.{Right}
use Rattle.slate_model_tables.specs.Views.{View}
use Rattle.slate_model_tables.specs.declared.ss_table_id.SsTableId.{SsTableId}
use Rattle.slate_model_tables.specs.declared.ss_table_id.SsTableId.TheVariants.{Wal, Compacted}
use Rattle.slate_model.specs.declared.external_db.ExternalDb.{ExternalDb}
use Rattle.slate_model.specs.declared.lsm_tree_state.LsmTreeState.{LsmTreeState}
use Rattle.slate_model.specs.declared.manifest.Manifest.{Manifest}
use Rattle.slate_model.specs.Externals.{same_table}
use Rattle.slate_model.specs.Trees.{trees_of, tables_of, tables_of_views, views_of_runs, views_of_tree}
use Rattle.slate_state_updates.specs.ExternalEntries.{same_pin, same_entry, are_sublist, is_kept, entries_known, tables_with, used_stay, entries_kept}
use Rattle.slate_state_updates.specs.FlushedTables.{tick_refusal, early_refusal, is_early, is_before, least_tick, flushed_tables}
use Rattle.slate_state_updates.specs.RunTables.{run_tables, outputs_of, attaches, runs_known}
use Rattle.slate_state_updates.specs.TableSets.{is_among}

-- ---- each is itself

same_number : (n : ℕ) → (n == n) ≡ true
same_number n = grind (arith, nat_tests)

one_id : (a : ℕ × ℕ) → same_id a a ≡ true
one_id a = grind (arith, nat_tests)

one_table : (id : SsTableId) → same_table id id ≡ true
one_table (Wal number) = same_number number
one_table (Compacted id) = one_id id

one_text : (bs : List ℕ) → bytes_eq bs bs ≡ true
one_text bs = (bytes_eq-Decides bs bs).1 refl

one_pin : (pin : Option (List ℕ)) → same_pin pin pin ≡ true
one_pin None = refl
one_pin (Some bs) = one_text bs

one_entry : (e : ExternalDb) → same_entry e e ≡ true
one_entry e = rw (one_text e.path, one_pin e.final_checkpoint_id) refl

whole_list : (ids : List SsTableId) → are_sublist ids ids ≡ true
whole_list [] = refl
whole_list (id ∷ ids) = rw (one_table id) (whole_list ids)

-- ---- tests over lists

first_is : (a b : Bool) → a ≡ true → (a || b) ≡ true
first_is true b e = refl
first_is false b e = absurd cc

later_is : (a b : Bool) → b ≡ true → (a || b) ≡ true
later_is true b e = refl
later_is false b e = e

both : (a b : Bool) → a ≡ true → b ≡ true → (a && b) ≡ true
both true b h e = e
both false b h e = absurd cc

both_parts : (a b : Bool) → (a && b) ≡ true → (a ≡ true) × (b ≡ true)
both_parts true b h = (refl, h)
both_parts false b h = absurd cc

-- what is among some of the tables is among all
all_among : (ids all : List SsTableId) → ((q : SsTableId) → is_among ids q ≡ true → is_among all q ≡ true) → list_all (is_among all) ids ≡ true
all_among [] all h = refl
all_among (id ∷ ids) all h =
    both (is_among all id) (list_all (is_among all) ids) (h id (first_is (same_table id id) (is_among ids id) (one_table id)))
    (all_among ids all (λ q e. h q (later_is (same_table q id) (is_among ids q) e)))

among_more : (ids more : List SsTableId) (q : SsTableId) → is_among ids q ≡ true → is_among (ids ++ more) q ≡ true
among_more ids more q h = list_any-append (same_table q) ids more ∙ first_is (is_among ids q) (is_among more q) h

among_later : (ids more : List SsTableId) (q : SsTableId) → is_among more q ≡ true → is_among (ids ++ more) q ≡ true
among_later ids more q h = list_any-append (same_table q) ids more ∙ later_is (is_among ids q) (is_among more q) h

-- ---- entries

known : (es all : List ExternalDb) → ((e : ExternalDb) → list_any (is_kept e) es ≡ true → list_any (is_kept e) all ≡ true) → entries_known all es ≡ true
known [] all h = refl
known (e ∷ es) all h =
    both (list_any (is_kept e) all) (entries_known all es)
    (h e (first_is (is_kept e e) (list_any (is_kept e) es) (both (same_entry e e) (are_sublist e.sst_ids e.sst_ids) (one_entry e) (whole_list e.sst_ids))))
    (known es all (λ x k. h x (later_is (is_kept x e) (list_any (is_kept x) es) k)))

all_listed : (used ids kept : List SsTableId) → list_all (is_among kept) ids ≡ true → list_all (λ id. not (is_among used id) || is_among kept id) ids ≡ true
all_listed used [] kept h = refl
all_listed used (id ∷ ids) kept h =
    let parts = both_parts (is_among kept id) (list_all (is_among kept) ids) h in
    both (not (is_among used id) || is_among kept id) (list_all (λ x. not (is_among used x) || is_among kept x) ids) (later_is (not (is_among used id)) (is_among kept id) parts.0) (all_listed used ids kept parts.1)

with_later : (e old : ExternalDb) (es : List ExternalDb) (q : SsTableId) → is_among (tables_with old es) q ≡ true → is_among (tables_with old (e ∷ es)) q ≡ true
with_later e old es q h = by_test (same_entry e old)
  where
    by_test : (b : Bool) → is_among (flat_map (λ entry. entry.sst_ids) (if b then e ∷ filter (λ entry. same_entry entry old) es else filter (λ entry. same_entry entry old) es)) q ≡ true
    by_test true = among_later e.sst_ids (tables_with old es) q h
    by_test false = h

with_own : (e : ExternalDb) (es : List ExternalDb) (q : SsTableId) → is_among e.sst_ids q ≡ true → is_among (tables_with e (e ∷ es)) q ≡ true
with_own e es q h = ap (λ (b : Bool). is_among (flat_map (λ entry. entry.sst_ids) (if b then e ∷ filter (λ entry. same_entry entry e) es else filter (λ entry. same_entry entry e) es)) q) (one_entry e) ∙ among_more e.sst_ids (tables_with e es) q h

stay : (used : List SsTableId) (es all : List ExternalDb) → ((e : ExternalDb) (q : SsTableId) → is_among (tables_with e es) q ≡ true → is_among (tables_with e all) q ≡ true) → list_all (used_stay used all) es ≡ true
stay used [] all h = refl
stay used (e ∷ es) all h =
    both (used_stay used all e) (list_all (used_stay used all) es)
    (all_listed used e.sst_ids (tables_with e all) (all_among e.sst_ids (tables_with e all) (λ q k. h e q (with_own e es q k))))
    (stay used es all (λ x q k. h x q (with_later e x es q k)))

pub entries_unchanged : (old new : Manifest) → new.external_dbs ≡ old.external_dbs → entries_kept old new ≡ true
entries_unchanged old new same =
    ap (λ (es : List ExternalDb). entries_known old.external_dbs es && list_all (used_stay (tables_of new.core) es) old.external_dbs) same
    ∙ both (entries_known old.external_dbs old.external_dbs) (list_all (used_stay (tables_of new.core) old.external_dbs) old.external_dbs)
    (known old.external_dbs old.external_dbs (λ e k. k)) (stay (tables_of new.core) old.external_dbs old.external_dbs (λ e q k. k))

-- ---- flushed tables

no_early : (moment : ℕ) (ids all : List SsTableId) → list_all (is_among all) ids ≡ true → find (is_early moment all) ids ≡ None
no_early moment [] all h = refl
no_early moment (id ∷ ids) all h =
    let parts = both_parts (is_among all id) (list_all (is_among all) ids) h in
    by_test (is_before moment id) (is_among all id) parts.0 (no_early moment ids all parts.1)
  where
    by_test : (b a : Bool) → a ≡ true → find (is_early moment all) ids ≡ None → (if b && not a then Some id else find (is_early moment all) ids) ≡ None
    by_test true true e rest = rest
    by_test false true e rest = rest
    by_test b false e rest = absurd cc

pub ticks_unchanged : (old new : Manifest) → flushed_tables new.core ≡ flushed_tables old.core → tick_refusal old new ≡ None
ticks_unchanged old new same =
    ap (λ (ids : List SsTableId). early_refusal (least_tick old) (find (is_early (least_tick old) (flushed_tables old.core)) ids)) same
    ∙ ap (early_refusal (least_tick old)) (no_early (least_tick old) (flushed_tables old.core) (flushed_tables old.core) (all_among (flushed_tables old.core) (flushed_tables old.core) (λ q k. k)))

-- ---- sorted runs

tables_append : (us vs : List View) → tables_of_views (us ++ vs) ≡ tables_of_views us ++ tables_of_views vs
tables_append [] vs = refl
tables_append (u ∷ us) vs = ap (λ (ids : List SsTableId). u.sst.id ∷ ids) (tables_append us vs)

all_append : (p : SsTableId → Bool) (xs ys : List SsTableId) → list_all p (xs ++ ys) ≡ true → (list_all p xs ≡ true) × (list_all p ys ≡ true)
all_append p [] ys h = (refl, h)
all_append p (x ∷ xs) ys h =
    let parts = both_parts (p x) (list_all p (xs ++ ys)) h in
    let rest = all_append p xs ys parts.1 in
    (both (p x) (list_all p xs) parts.0 rest.0, rest.1)

append_all : (p : SsTableId → Bool) (xs ys : List SsTableId) → list_all p xs ≡ true → list_all p ys ≡ true → list_all p (xs ++ ys) ≡ true
append_all p [] ys h k = k
append_all p (x ∷ xs) ys h k =
    let parts = both_parts (p x) (list_all p xs) h in
    both (p x) (list_all p (xs ++ ys)) parts.0 (append_all p xs ys parts.1 k)

-- what all tables of trees pass, those of their runs do
runs_pass : (p : SsTableId → Bool) (trees : List LsmTreeState) → list_all p (tables_of_views (flat_map views_of_tree trees)) ≡ true
    → list_all p (flat_map (λ tree. tables_of_views (views_of_runs tree.compacted)) trees) ≡ true
runs_pass p [] h = refl
runs_pass p (t ∷ trees) h =
    let all = sym (ap (list_all p) (tables_append (views_of_tree t) (flat_map views_of_tree trees))) ∙ h in
    let parts = all_append p (tables_of_views (views_of_tree t)) (tables_of_views (flat_map views_of_tree trees)) all in
    let own = sym (ap (list_all p) (tables_append t.l0 (views_of_runs t.compacted))) ∙ parts.0 in
    append_all p (tables_of_views (views_of_runs t.compacted)) (flat_map (λ tree. tables_of_views (views_of_runs tree.compacted)) trees)
    (all_append p (tables_of_views t.l0) (tables_of_views (views_of_runs t.compacted)) own).1 (runs_pass p trees parts.1)

pub runs_unchanged : (old new : Manifest) (right : Right) → run_tables new.core ≡ run_tables old.core → runs_known old new right ≡ true
runs_unchanged old new right same =
    let all = tables_of old.core ++ outputs_of right in
    later_is (attaches right) (list_all (is_among all) (run_tables new.core))
    (ap (list_all (is_among all)) same ∙ runs_pass (is_among all) (trees_of old.core) (all_among (tables_of old.core) all (among_more (tables_of old.core) (outputs_of right))))

-- ---- the three rules on tables

pub passes : (old new : Manifest) (right : Right) → new.external_dbs ≡ old.external_dbs → trees_of new.core ≡ trees_of old.core
    → (entries_kept old new ≡ true) × (tick_refusal old new ≡ None) × (runs_known old new right ≡ true)
passes old new right entries trees = (
  entries_unchanged old new entries,
  ticks_unchanged old new (ap (flat_map (λ (t : LsmTreeState). tables_of_views t.l0)) trees),
  runs_unchanged old new right (ap (flat_map (λ (t : LsmTreeState). tables_of_views (views_of_runs t.compacted))) trees),
)
