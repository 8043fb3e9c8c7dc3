-- Tables that flushes add, from one version of a manifest to the next: none is older than the old floor and watermark.
use Rattle.std.specs.Prelude.{ℕ, ℤ, pos, min, nat_lt, ◌&&◌, Bool, false, not, List, Option, Some, None}
use Rattle.std.specs.List.{flat_map, find}
use Rattle.slate_ids.specs.declared.error.SlateDBError.{SlateDBError}
use Rattle.slate_ids.specs.declared.error.SlateDBError.TheVariants.{InvalidClockTick}
use Rattle.slate_model_tables.specs.declared.ss_table_id.SsTableId.{SsTableId}
use Rattle.slate_model_tables.specs.declared.ss_table_id.SsTableId.TheVariants.{Wal, Compacted}
use Rattle.slate_model.specs.declared.manifest.Manifest.{Manifest}
use Rattle.slate_model.specs.Cores.{Core}
use Rattle.slate_model.specs.Trees.{trees_of, tables_of_views}
use Rattle.slate_model.specs.Watermark.{raised_floor}
use Rattle.slate_state_updates.specs.TableSets.{is_among}

-- the tables that flushes wrote and no compaction took: of the root, then of the segments, of each the newest first
abbrev pub flushed_tables : Core → List SsTableId
flushed_tables core = flat_map (λ tree. tables_of_views tree.l0) (trees_of core)

-- whether a table is from before a moment in milliseconds; a file of the write-ahead log has no moment
abbrev pub is_before : ℕ → SsTableId → Bool
is_before moment (Wal number) = false
is_before moment (Compacted id) = nat_lt id.0 moment

-- whether a table is none of the old ones, and from before a moment
abbrev pub is_early : ℕ → List SsTableId → SsTableId → Bool
is_early moment old id = is_before moment id && not (is_among old id)

-- the moment from which on new tables may be: the greater of the floor and the watermark
abbrev pub least_tick : Manifest → ℕ
least_tick m = raised_floor m.core.floor m.core

-- a moment as a clock tick: the last tick for one above it
abbrev pub as_tick : ℕ → ℤ
as_tick moment = pos (min moment 9223372036854775807)

-- the refusal of a table that is from before a moment
abbrev pub early_refusal : ℕ → Option SsTableId → Option SlateDBError
early_refusal moment None = None
early_refusal moment (Some (Wal number)) = None
early_refusal moment (Some (Compacted id)) = Some (InvalidClockTick (as_tick moment) (pos id.0))

-- the refusal of the first flushed table that the old manifest hasn't, from before the old floor or watermark
abbrev pub tick_refusal : Manifest → Manifest → Option SlateDBError
tick_refusal old new = early_refusal (least_tick old) (find (is_early (least_tick old) (flushed_tables old.core)) (flushed_tables new.core))
