-- What holds of the table of each view holds of those that were gathered.
use Rattle.std.specs.Prelude.{◌≡◌, ℕ, ◌&&◌, ◌||◌, Bool, true, false, List, [], ◌∷◌, ◌++◌, map, length, Option, Some, None, if◌then◌else◌, refl}
use Rattle.std.specs.List.{list_all, flat_map}
use Rattle.std.specs.Map.{lookup}
use Rattle.std.specs.BTreeMap.{insert_entry, is_at}
use Rattle.std.specs.Ordering.{match_ordering}
use Rattle.std.specs.declared.cmp.Ordering.{Ordering}
use Rattle.std.specs.declared.cmp.Ordering.TheVariants.{Less, Equal, Greater}
use Rattle.std.proofs.Common.{◌∙◌, subst, arith}
use Rattle.std.proofs.lemmas.Bool.{and_parts, and_from}
use Rattle.std.proofs.lemmas.Bool.Decides.{nat_tests}
use Rattle.std.proofs.lemmas.List.Folds.{list_all-append}
use Rattle.slate_model_tables.specs.declared.ss_table_handle.SsTableHandle.{SsTableHandle}
use Rattle.slate_model_tables.specs.Tables.{is_compacted}
use Rattle.slate_model_tables.specs.Views.{View}
use Rattle.slate_model_tables.specs.SortedRuns.{Run}
use Rattle.slate_model.specs.declared.lsm_tree_state.LsmTreeState.{LsmTreeState}
use Rattle.slate_model.specs.Segments.{Prefixed}
use Rattle.slate_model.specs.Cores.{Core}
use Rattle.slate_model.specs.Trees.{views_of_tree, views_of}
use Rattle.slate_layout_parts.specs.TablesOfViews.{table_id}
use Rattle.slate_ids.specs.Ulids.{same_id, id_cmp}
use Rattle.slate_layout_manifests.specs.UsedTables.{any_of}
use Rattle.slate_layout_parts.specs.laws.Parts.{steps}
use Rattle.slate_layout_parts.specs.InfoParts.{are_entries}
use Rattle.slate_layout_parts.specs.InfoCodec.{is_short}
use Rattle.slate_layout_manifests.specs.Gathered.{ById, with_table, with_view, gathered, same_handle}
use Rattle.slate_layout_encoding.proofs.GatheredLaws.{values}
use Rattle.slate_layout_parts.proofs.Fitting.{is_writable}
use Rattle.slate_layout_encodable.specs.Unencodable.{has_keys, short_view, short_run, short_tree, short_segment}
use Rattle.slate_layout_parts.specs.Lengths.{few, short_range}

-- ---- tests of the gathered tables

insert_passes : (test : SsTableHandle → Bool) (h : SsTableHandle) (tables : ById) (k : ℕ × ℕ) → test h ≡ true → list_all test (values tables) ≡ true → list_all test (values (insert_entry id_cmp tables k h)) ≡ true
insert_passes test h [] k one t = and_from _ _ one refl
insert_passes test h (e ∷ tables) k one t =
    let p = and_parts (test e.1) (list_all test (values tables)) t in
    by p (id_cmp k e.0) (insert_passes test h tables k one p.1)
  where
    by : (test e.1 ≡ true) × (list_all test (values tables) ≡ true) → (o : Ordering) → list_all test (values (insert_entry id_cmp tables k h)) ≡ true → list_all test (values (match_ordering o ((k, h) ∷ e ∷ tables) ((e.0, h) ∷ tables) (e ∷ insert_entry id_cmp tables k h))) ≡ true
    by p Less more = and_from _ _ one t
    by p Equal more = and_from _ _ one p.1
    by p Greater more = and_from _ _ p.0 more

same_pass : (b : Bool) (test : SsTableHandle → Bool) (tables all : ById) → list_all test (values tables) ≡ true → (if b then Some tables else None) ≡ Some all → list_all test (values all) ≡ true
same_pass true test tables all t e = let same : tables ≡ all = cc in subst (λ (a : ById). list_all test (values a) ≡ true) same t
same_pass false test tables all t e = absurd cc

one_passes : (test : SsTableHandle → Bool) (h : SsTableHandle) (tables all : ById) (o : Option SsTableHandle) → test h ≡ true → list_all test (values tables) ≡ true → with_table h tables o ≡ Some all → list_all test (values all) ≡ true
one_passes test h tables all None one t e =
    let same : insert_entry id_cmp tables (table_id h.id) h ≡ all = cc in
    subst (λ (a : ById). list_all test (values a) ≡ true) same (insert_passes test h tables (table_id h.id) one t)
one_passes test h tables all (Some k) one t e = same_pass (same_handle k h) test tables all t e

pub gathered_pass : (test : SsTableHandle → Bool) (views : List View) (tables all : ById) → list_all (λ v. test v.sst) views ≡ true → list_all test (values tables) ≡ true → gathered views tables ≡ Some all → list_all test (values all) ≡ true
gathered_pass test [] tables all v t e = let same : tables ≡ all = cc in subst (λ (a : ById). list_all test (values a) ≡ true) same t
gathered_pass test (view ∷ views) tables all v t e =
    let p = and_parts (test view.sst) (list_all (λ v. test v.sst) views) v in
    let s = steps (with_view tables view) (gathered views) all e in
    gathered_pass test views s.value all p.1 (one_passes test view.sst tables s.value (lookup (is_at (id_cmp (table_id view.sst.id))) tables) p.0 t s.at_first) s.at_next

-- ---- each gathered table is used

implied : {X : Type 0} (f g : X → Bool) → ((x : X) → f x ≡ true → g x ≡ true) → (xs : List X) → list_all f xs ≡ true → list_all g xs ≡ true
implied f g by [] h = refl
implied f g by (x ∷ xs) h = let p = and_parts (f x) (list_all f xs) h in and_from _ _ (by x p.0) (implied f g by xs p.1)

same_itself : (q : ℕ × ℕ) → same_id q q ≡ true
same_itself q = grind (arith, nat_tests)

either : (a b : Bool) → a ≡ true → (a || b) ≡ true
either true b h = refl
either false b h = absurd cc

or_else : (a b : Bool) → b ≡ true → (a || b) ≡ true
or_else true b h = refl
or_else false b h = h

each_there : (views : List View) → list_all (λ v. any_of (table_id v.sst.id) views) views ≡ true
each_there [] = refl
each_there (v ∷ views) = and_from _ _ (either _ _ (same_itself (table_id v.sst.id))) (implied (λ w. any_of (table_id w.sst.id) views) (λ w. any_of (table_id w.sst.id) (v ∷ views)) (λ w h. or_else _ _ h) views (each_there views))

pub gathered_used : (views : List View) (all : ById) → gathered views [] ≡ Some all → list_all (λ h. any_of (table_id h.id) views) (values all) ≡ true
gathered_used views all e = gathered_pass (λ h. any_of (table_id h.id) views) views [] all (each_there views) refl e

-- ---- tables that can be written

two_pass : (a b : Bool) → a ≡ true → b ≡ true → (a && b) ≡ true
two_pass a b h g = and_from a b h g

all_append : {X : Type 0} (test : X → Bool) (xs ys : List X) → list_all test xs ≡ true → list_all test ys ≡ true → list_all test (xs ++ ys) ≡ true
all_append test xs ys h g = list_all-append test xs ys ∙ two_pass (list_all test xs) (list_all test ys) h g

short_runs : (runs : List Run) → list_all short_run runs ≡ true → list_all short_view (flat_map (λ run. run.views) runs) ≡ true
short_runs [] h = refl
short_runs (r ∷ runs) h =
    let p = and_parts (short_run r) (list_all short_run runs) h in
    let q = and_parts (few (length r.views)) (list_all short_view r.views) p.0 in
    all_append short_view r.views (flat_map (λ run. run.views) runs) q.1 (short_runs runs p.1)

short_views_of : (t : LsmTreeState) → short_tree t ≡ true → list_all short_view (views_of_tree t) ≡ true
short_views_of t h =
    let s = and_parts (few (length t.l0) && list_all short_view t.l0 && few (length t.compacted)) (list_all short_run t.compacted) h in
    let l = and_parts (few (length t.l0) && list_all short_view t.l0) (few (length t.compacted)) s.0 in
    let m = and_parts (few (length t.l0)) (list_all short_view t.l0) l.0 in
    all_append short_view t.l0 (flat_map (λ run. run.views) t.compacted) m.1 (short_runs t.compacted s.1)

short_segments : (ss : List Prefixed) → list_all short_segment ss ≡ true → list_all short_view (flat_map views_of_tree (map (λ s. s.tree) ss)) ≡ true
short_segments [] h = refl
short_segments (s ∷ ss) h =
    let p = and_parts (short_segment s) (list_all short_segment ss) h in
    let q = and_parts (few (length s.prefix)) (short_tree s.tree) p.0 in
    all_append short_view (views_of_tree s.tree) (flat_map views_of_tree (map (λ s. s.tree) ss)) (short_views_of s.tree q.1) (short_segments ss p.1)

pub short_views : (c : Core) → short_tree c.tree ≡ true → list_all short_segment c.segments ≡ true → list_all short_view (views_of c) ≡ true
short_views c h g = all_append short_view (views_of_tree c.tree) (flat_map views_of_tree (map (λ s. s.tree) c.segments)) (short_views_of c.tree h) (short_segments c.segments g)

writable : (v : View) → is_compacted v.sst.id ≡ true → has_keys v ≡ true → short_view v ≡ true → is_writable v.sst ≡ true
writable v c k s =
    let e = and_parts _ (are_entries v.sst.info.first_entry v.sst.info.last_entry) k in
    let l = and_parts (is_short v.sst.info.first_entry && is_short v.sst.info.last_entry) (short_range v.visible) s in
    and_from _ _ c (and_from _ _ e.1 l.0)

writable_views : (views : List View) → list_all (λ v. is_compacted v.sst.id) views ≡ true → list_all has_keys views ≡ true → list_all short_view views ≡ true → list_all (λ v. is_writable v.sst) views ≡ true
writable_views [] c k s = refl
writable_views (v ∷ views) c k s =
    let a = and_parts (is_compacted v.sst.id) (list_all (λ v. is_compacted v.sst.id) views) c in
    let b = and_parts (has_keys v) (list_all has_keys views) k in
    let d = and_parts (short_view v) (list_all short_view views) s in
    and_from _ _ (writable v a.0 b.0 d.0) (writable_views views a.1 b.1 d.1)

pub gathered_writable : (views : List View) (all : ById) → list_all (λ v. is_compacted v.sst.id) views ≡ true → list_all has_keys views ≡ true → list_all short_view views ≡ true → gathered views [] ≡ Some all → list_all is_writable (values all) ≡ true
gathered_writable views all c k s e = gathered_pass is_writable views [] all (writable_views views c k s) refl e
