-- Trees of views whose tables were gathered fit among those tables.
use Rattle.std.specs.Prelude.{◌≡◌, ◌&&◌, true, List, [], ◌∷◌, ◌++◌, map, length, Option, Some, None, is_some, if◌then◌else◌, refl}
use Rattle.std.specs.List.{list_all, flat_map}
use Rattle.std.proofs.Common.{ap, ◌∙◌}
use Rattle.std.proofs.lemmas.Bool.{and_parts, and_from}
use Rattle.slate_ids.specs.KeyRange.{KeyRange, is_proper, ranges_meet}
use Rattle.slate_model_tables.specs.declared.ss_table_handle.SsTableHandle.{SsTableHandle}
use Rattle.slate_model_tables.specs.Tables.{physical_range}
use Rattle.slate_model_tables.specs.Views.{View, starts_with_key}
use Rattle.slate_model_tables.specs.SortedRuns.{Run}
use Rattle.slate_model.specs.declared.lsm_tree_state.LsmTreeState.{LsmTreeState}
use Rattle.slate_model.specs.Segments.{Prefixed}
use Rattle.slate_model.specs.Trees.{views_of_tree}
use Rattle.slate_layout_parts.specs.TablesOfViews.{table_id, table_at}
use Rattle.slate_layout_parts.specs.Reads.{OptionFits, EachFits}
use Rattle.slate_layout_parts.specs.Texts.{IdFits}
use Rattle.slate_layout_parts.specs.RangeParts.{RangeFits}
use Rattle.slate_layout_parts.specs.InfoParts.{are_entries}
use Rattle.slate_layout_parts.specs.InfoCodec.{is_short}
use Rattle.slate_layout_parts.specs.ViewParts.{may_show, shown, ViewFits, RunFits, view_parts}
use Rattle.slate_layout_manifests.specs.TreeParts.{TreeFits, SegmentFits}
use Rattle.slate_layout_parts.specs.Typed.{none_or, is_u32, is_table, is_shown, is_view, is_run}
use Rattle.slate_layout_manifests.specs.TypedManifests.{is_tree, is_segment}
use Rattle.slate_ids.specs.Ulids.{is_id}
use Rattle.slate_layout_encodable.specs.Unencodable.{has_keys, short_view, short_run, short_tree, short_segment}
use Rattle.slate_layout_parts.specs.Lengths.{few, short_range}
use Rattle.slate_layout_encodable.specs.Normal.{normal_tree, normal_segment}
use Rattle.slate_layout_manifests.specs.Gathered.{ById}
use Rattle.slate_layout_encoding.proofs.GatheredLaws.{values, Keyed, At, EachHas, at_id}
use Rattle.slate_layout_parts.proofs.Fitting.{option_fits, few_is, id_fits, range_fits}

-- ---- each of a list

pub each_append : {X : Type 0} (P : X → Type 0) (xs ys : List X) → EachFits P (xs ++ ys) → EachFits P xs × EachFits P ys
each_append P [] ys h = (tt, h)
each_append P (x ∷ xs) ys h = let more = each_append P xs ys h.1 in ((h.0, more.0), more.1)

pub each_group : {X Y : Type 0} (P : Y → Type 0) (f : X → List Y) (xs : List X) → EachFits P (flat_map f xs) → EachFits (λ x. EachFits P (f x)) xs
each_group P f [] h = tt
each_group P f (x ∷ xs) h = let p = each_append P (f x) (flat_map f xs) h in (p.0, each_group P f xs p.1)

-- ---- views

-- a view's table has keys, and is the one of its id
pub record IsHad (tables : ById) (v : View) : Type 0 where
  pub keys : has_keys v ≡ true
  pub there : At (table_id v.sst.id) v.sst tables

pub each_had : (tables : ById) (views : List View) → list_all has_keys views ≡ true → EachHas views tables → EachFits (IsHad tables) views
each_had tables [] k h = tt
each_had tables (v ∷ views) k h =
    let p = and_parts (has_keys v) (list_all has_keys views) k in
    (record { keys = p.0; there = h.0 }, each_had tables views p.1 h.1)

may : (h : SsTableHandle) (visible : Option KeyRange) → is_some h.info.first_entry ≡ true → is_shown h visible ≡ true → may_show h visible ≡ true
may h None first e = first
may h (Some r) first e =
    let p = and_parts (is_proper r) (starts_with_key r.start && ranges_meet (physical_range h) r) e in
    let q = and_parts (starts_with_key r.start) (ranges_meet (physical_range h) r) p.1 in
    and_from _ _ (and_from _ _ first q.0) q.1

visible_fits : (h : SsTableHandle) (visible : Option KeyRange) → is_shown h visible ≡ true → short_range visible ≡ true → OptionFits RangeFits visible
visible_fits h None e short = tt
visible_fits h (Some r) e short = range_fits r (and_parts (is_proper r) (starts_with_key r.start && ranges_meet (physical_range h) r) e).0 short

pub view_fits : (tables : ById) → Keyed tables → (v : View) → is_view v ≡ true → short_view v ≡ true → IsHad tables v → ViewFits (values tables) v
view_fits tables keyed v typed short had =
    let p = and_parts (is_id v.id) (is_table v.sst.id && is_shown v.sst v.visible) typed in
    let q = and_parts (is_table v.sst.id) (is_shown v.sst v.visible) p.1 in
    let s = and_parts (is_short v.sst.info.first_entry && is_short v.sst.info.last_entry) (short_range v.visible) short in
    let k = and_parts (is_some v.sst.info.first_entry) (are_entries v.sst.info.first_entry v.sst.info.last_entry) had.keys in
    let found : table_at (table_id v.sst.id) (values tables) ≡ Some v.sst = at_id (table_id v.sst.id) tables keyed ∙ had.there in
    record {
      fits = (id_fits v.id p.0, (id_fits (table_id v.sst.id) q.0, visible_fits v.sst v.visible q.1 s.1));
      is_made = ap (shown (view_parts v)) found ∙ ap (λ b. if b then Some v else None) (may v.sst v.visible k.0 q.1);
    }

pub views_fit : (tables : ById) → Keyed tables → (views : List View) → list_all is_view views ≡ true → list_all short_view views ≡ true → EachFits (IsHad tables) views → EachFits (ViewFits (values tables)) views
views_fit tables keyed [] typed short had = tt
views_fit tables keyed (v ∷ views) typed short had =
    let p = and_parts (is_view v) (list_all is_view views) typed in
    let s = and_parts (short_view v) (list_all short_view views) short in
    (view_fits tables keyed v p.0 s.0 had.0, views_fit tables keyed views p.1 s.1 had.1)

-- ---- runs

run_fits : (tables : ById) → Keyed tables → (r : Run) → is_run r ≡ true → short_run r ≡ true → EachFits (IsHad tables) r.views → RunFits (values tables) r
run_fits tables keyed r typed short had =
    let p = and_parts (is_u32 r.id) (list_all is_view r.views) typed in
    let s = and_parts (few (length r.views)) (list_all short_view r.views) short in
    record { fits = (few_is r.id p.0, record { each = views_fit tables keyed r.views p.1 s.1 had; few = few_is (length r.views) s.0 }); is_made = refl }

runs_fit : (tables : ById) → Keyed tables → (runs : List Run) → list_all is_run runs ≡ true → list_all short_run runs ≡ true → EachFits (λ r. EachFits (IsHad tables) r.views) runs → EachFits (RunFits (values tables)) runs
runs_fit tables keyed [] typed short had = tt
runs_fit tables keyed (r ∷ runs) typed short had =
    let p = and_parts (is_run r) (list_all is_run runs) typed in
    let s = and_parts (short_run r) (list_all short_run runs) short in
    (run_fits tables keyed r p.0 s.0 had.0, runs_fit tables keyed runs p.1 s.1 had.1)

-- ---- trees

pub tree_fits : (tables : ById) → Keyed tables → (t : LsmTreeState) → is_tree t ≡ true → short_tree t ≡ true → EachFits (IsHad tables) (views_of_tree t) → TreeFits (values tables) (normal_tree t)
tree_fits tables keyed t typed short had =
    let p = and_parts (none_or is_id t.last_compacted_l0_sst_view_id) (list_all is_view t.l0 && list_all is_run t.compacted) typed in
    let q = and_parts (list_all is_view t.l0) (list_all is_run t.compacted) p.1 in
    let s = and_parts (few (length t.l0) && list_all short_view t.l0 && few (length t.compacted)) (list_all short_run t.compacted) short in
    let l = and_parts (few (length t.l0) && list_all short_view t.l0) (few (length t.compacted)) s.0 in
    let m = and_parts (few (length t.l0)) (list_all short_view t.l0) l.0 in
    let h = each_append (IsHad tables) t.l0 (flat_map (λ run. run.views) t.compacted) had in
    record {
      fits = (
        option_fits is_id IdFits id_fits t.last_compacted_l0_sst_view_id p.0,
        (
          record { each = views_fit tables keyed t.l0 q.0 m.1 h.0; few = few_is (length t.l0) m.0 },
          record { each = runs_fit tables keyed t.compacted q.1 s.1 (each_group (IsHad tables) (λ run. run.views) t.compacted h.1); few = few_is (length t.compacted) l.1 },
        ),
      );
      is_made = refl;
    }

-- ---- segments

segment_fits : (tables : ById) → Keyed tables → (s : Prefixed) → is_segment s ≡ true → short_segment s ≡ true → EachFits (IsHad tables) (views_of_tree s.tree) → SegmentFits (values tables) (normal_segment s)
segment_fits tables keyed s typed short had =
    let p = and_parts (few (length s.prefix)) (short_tree s.tree) short in
    record { fits = (few_is (length s.prefix) p.0, tree_fits tables keyed s.tree typed p.1 had); is_made = refl }

pub segments_fit : (tables : ById) → Keyed tables → (ss : List Prefixed) → list_all is_segment ss ≡ true → list_all short_segment ss ≡ true → EachFits (IsHad tables) (flat_map views_of_tree (map (λ s. s.tree) ss)) → EachFits (SegmentFits (values tables)) (map normal_segment ss)
segments_fit tables keyed [] typed short had = tt
segments_fit tables keyed (s ∷ ss) typed short had =
    let p = and_parts (is_segment s) (list_all is_segment ss) typed in
    let q = and_parts (short_segment s) (list_all short_segment ss) short in
    let h = each_append (IsHad tables) (views_of_tree s.tree) (flat_map views_of_tree (map (λ s. s.tree) ss)) had in
    (segment_fits tables keyed s p.0 q.0 h.0, segments_fit tables keyed ss p.1 q.1 h.1)
