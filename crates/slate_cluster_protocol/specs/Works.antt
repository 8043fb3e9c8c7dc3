-- The work under way: at which database, and the store call that it asks.
use Rattle.std.specs.Prelude.{ℕ, List, Some}
use Rattle.slate_txn_changes.specs.LogWorks.{work_asks}
use Rattle.slate_state_calls.specs.Opening.{open_asks}
use Rattle.slate_state_calls.specs.StateSteps.{state_asks}
use Rattle.slate_script_events.specs.WrittenFilters.{returned_by}
use Rattle.slate_script_events.specs.declared.filter_word.FilterWord.{FilterWord}
use Rattle.slate_ids.specs.declared.object_path.ObjectPath.TheVariants as paths
use Rattle.slate_layout.specs.Codec.{encoded}
use Rattle.slate_txn_log.specs.declared.log_kind.LogKind.TheVariants.{Manifest as ManifestLog, Compactions as RecordLog}
use Rattle.slate_layout_manifests.specs.Decoding.{decoded_manifest}
use Rattle.slate_gc_passes.specs.GcPhase.{gc_asks}
use Rattle.slate_gc_passes.specs.Ways.{Ways, ways}
use Rattle.slate_gc_picks.specs.Filter.{allowed}
use Rattle.slate_gc_picks.specs.WalFiles.{collected}
use Rattle.slate_gc_picks.specs.declared.wal_gc.WalGcMode.TheVariants.{Regular}
use Rattle.slate_cluster_protocol.specs.declared.work.Work.{Work}
use Rattle.slate_cluster_protocol.specs.declared.work.Work.TheVariants.{Manifests, Records, PutTable, Pass, Opening, Compacting}
use Rattle.slate_layout_records.specs.RecordBytes.{decoded_record}
use Rattle.slate_store.specs.declared.store_call.StoreCall.{StoreCall}
use Rattle.slate_store.specs.declared.store_call.StoreCall.TheVariants as store

-- the database whose objects it speaks of
abbrev pub db_of : Work → List ℕ
db_of (Manifests db p) = db
db_of (Records db p) = db
db_of (PutTable db upload bytes) = db
db_of (Pass db settings filter phase) = db
db_of (Opening db phase) = db
db_of (Compacting db phase) = db

-- the one store call that it asks
abbrev pub asks : Work → StoreCall
asks (Manifests db p) = work_asks db ManifestLog p.work
asks (Records db p) = work_asks db RecordLog p.work
asks (PutTable db upload bytes) = store.Put (paths.Table db upload.table) bytes
asks (Pass db settings filter phase) = gc_asks db settings.pass phase
asks (Opening db phase) = open_asks db phase
asks (Compacting db phase) = state_asks db phase

-- what a pass with a filter goes by
abbrev pub pass_ways : FilterWord → Ways
pass_ways filter = ways decoded_manifest encoded decoded_record (allowed returned_by (Some filter)) (collected Regular)
