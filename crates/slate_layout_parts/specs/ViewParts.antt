-- The bytes of views and runs, whose views are of the tables of their manifest.
use Rattle.std.specs.Prelude.{ℕ, ◌<◌, ◌^◌, ◌&&◌, Bool, List, Option, Some, None, is_some, if◌then◌else◌}
use Rattle.slate_ids.specs.KeyRange.{KeyRange, ranges_meet}
use Rattle.slate_model_tables.specs.declared.ss_table_handle.SsTableHandle.{SsTableHandle}
use Rattle.slate_model_tables.specs.Tables.{physical_range}
use Rattle.slate_model_tables.specs.Views.{View, starts_with_key}
use Rattle.slate_model_tables.specs.SortedRuns.{Run}
use Rattle.slate_layout_parts.specs.TablesOfViews.{table_id, table_at}
use Rattle.slate_layout_parts.specs.Bytes.{u32_bytes, option_bytes, list_bytes, pair_bytes}
use Rattle.slate_layout_parts.specs.Reading.{u32_in, option_in, list_in, pair_in, made_in}
use Rattle.slate_layout_parts.specs.Reads.{OptionFits, ListFits, PairFits, MadeFits}
use Rattle.slate_layout_parts.specs.Texts.{id_bytes, id_in, IdFits}
use Rattle.slate_layout_parts.specs.RangeParts.{range_bytes, range_in, RangeFits}

-- ---- views

-- the view's id, its table's id, and what is visible, where not all is
abbrev pub ViewParts : Type 0
ViewParts = (ℕ × ℕ) × ((ℕ × ℕ) × Option KeyRange)

-- whether a table has a first entry, and a visible range starts at a key or is open there, and meets the table's physical range
abbrev pub may_show : SsTableHandle → Option KeyRange → Bool
may_show h None = is_some h.info.first_entry
may_show h (Some r) = is_some h.info.first_entry && starts_with_key r.start && ranges_meet (physical_range h) r

-- the view of a table, where there is one that it may be of
abbrev pub shown : ViewParts → Option SsTableHandle → Option View
shown p None = None
shown p (Some h) = if may_show h p.1.1 then Some (record { id = p.0; sst = h; visible = p.1.1 }) else None

-- the view of its parts, among these tables
abbrev pub view_of : List SsTableHandle → ViewParts → Option View
view_of tables p = shown p (table_at p.1.0 tables)

abbrev pub view_parts : View → ViewParts
view_parts v = (v.id, (table_id v.sst.id, v.visible))

abbrev pub view_parts_in : List ℕ → Option (ViewParts × List ℕ)
view_parts_in = pair_in id_in (pair_in id_in (option_in range_in))

abbrev pub view_parts_bytes : ViewParts → List ℕ
view_parts_bytes = pair_bytes id_bytes (pair_bytes id_bytes (option_bytes range_bytes))

abbrev pub ViewPartsFit : ViewParts → Type 0
ViewPartsFit = PairFits IdFits (PairFits IdFits (OptionFits RangeFits))

abbrev pub view_bytes : View → List ℕ
view_bytes v = view_parts_bytes (view_parts v)

abbrev pub view_in : List SsTableHandle → List ℕ → Option (View × List ℕ)
view_in tables = made_in (view_of tables) view_parts_in

abbrev pub ViewFits : List SsTableHandle → View → Type 0
ViewFits tables = MadeFits (view_of tables) view_parts ViewPartsFit

-- ---- runs

abbrev pub run_of : ℕ × List View → Option Run
run_of p = Some (record { id = p.0; views = p.1 })

abbrev pub run_parts : Run → ℕ × List View
run_parts r = (r.id, r.views)

abbrev pub run_bytes : Run → List ℕ
run_bytes r = pair_bytes u32_bytes (list_bytes view_bytes) (run_parts r)

abbrev pub run_in : List SsTableHandle → List ℕ → Option (Run × List ℕ)
run_in tables = made_in run_of (pair_in u32_in (list_in (view_in tables) 8))

abbrev pub RunFits : List SsTableHandle → Run → Type 0
RunFits tables = MadeFits run_of run_parts (PairFits (λ n. n < 2 ^ 32) (ListFits (ViewFits tables)))
