-- Tables of sorted runs, from one version of a manifest to the next.
use Rattle.std.specs.Prelude.{◌||◌, Bool, true, false, List, [], ◌++◌, map}
use Rattle.std.specs.List.{flat_map, list_all}
use Rattle.slate_txn_log.specs.declared.right.Right.{Right}
use Rattle.slate_txn_log.specs.declared.right.Right.TheVariants.{Plain, Attach, Compactor, RecordHolder}
use Rattle.slate_model_tables.specs.declared.ss_table_id.SsTableId.{SsTableId}
use Rattle.slate_model_tables.specs.declared.ss_table_id.SsTableId.TheVariants.{Compacted}
use Rattle.slate_model.specs.declared.manifest.Manifest.{Manifest}
use Rattle.slate_model.specs.Cores.{Core}
use Rattle.slate_model.specs.Trees.{trees_of, tables_of, tables_of_views, views_of_runs}
use Rattle.slate_state_updates.specs.TableSets.{is_among}

-- the tables of all trees' sorted runs
abbrev pub run_tables : Core → List SsTableId
run_tables core = flat_map (λ tree. tables_of_views (views_of_runs tree.compacted)) (trees_of core)

-- the tables that a compactor made
abbrev pub outputs_of : Right → List SsTableId
outputs_of (Compactor outputs) = map (λ id. Compacted id) outputs
outputs_of Plain = []
outputs_of Attach = []
outputs_of (RecordHolder pending) = []

-- whether the right attaches another database, whose tables come along
abbrev pub attaches : Right → Bool
attaches Attach = true
attaches Plain = false
attaches (Compactor outputs) = false
attaches (RecordHolder pending) = false

-- whether each table of a sorted run was in a tree of the old manifest, or was made by the compactor whose right it is; with an attached database any may come
abbrev pub runs_known : Manifest → Manifest → Right → Bool
runs_known old new right = attaches right || list_all (is_among (tables_of old.core ++ outputs_of right)) (run_tables new.core)
