-- The row of each pass: what it lists, and whose boundary it advances.
use Rattle.std.specs.Prelude.{ℕ, Bool, true, false, List, Option, Some, None, if◌then◌else◌}
use Rattle.slate_ids.specs.declared.gc_message.GcMessage.{GcMessage}
use Rattle.slate_ids.specs.declared.gc_message.GcMessage.TheVariants.{Manifest, Wal, WalFence, Compacted, Compactions, Detach}
use Rattle.slate_txn_log.specs.Boundary.{greatest}
use Rattle.slate_txn_log.specs.declared.log_kind.LogKind.{LogKind}
use Rattle.slate_txn_log.specs.declared.log_kind.LogKind.TheVariants as logs
use Rattle.slate_gc_passes.specs.declared.pass_settings.PassSettings.{PassSettings}
use Rattle.slate_store.specs.declared.list_dir.ListDir.{ListDir}
use Rattle.slate_store.specs.declared.list_dir.ListDir.TheVariants as folders
use Rattle.slate_store.specs.declared.object.ObjectMetadata.{ObjectMetadata}

-- the folder that a pass lists
abbrev pub folder_of : GcMessage → List ℕ → ListDir
folder_of Manifest db = folders.Manifests db
folder_of Wal db = folders.Wals db
folder_of WalFence db = folders.Wals db
folder_of Compacted db = folders.Tables db
folder_of Compactions db = folders.Records db
folder_of Detach db = folders.Manifests db

-- whether a pass reads the greatest listed version, and the boundary, before it knows its candidates
abbrev pub reads_greatest : GcMessage → Bool
reads_greatest Manifest = true
reads_greatest Wal = false
reads_greatest WalFence = false
reads_greatest Compacted = false
reads_greatest Compactions = false
reads_greatest Detach = false

-- the log whose versions a pass deletes, where it does
abbrev pub log_of_pass : GcMessage → Option LogKind
log_of_pass Manifest = Some logs.Manifest
log_of_pass Compactions = Some logs.Compactions
log_of_pass Wal = None
log_of_pass WalFence = None
log_of_pass Compacted = None
log_of_pass Detach = None

-- the log whose boundary a pass advances, where it deletes versions
abbrev pub log_or_manifests : Option LogKind → LogKind
log_or_manifests None = logs.Manifest
log_or_manifests (Some log) = log

-- the number to which the boundary is moved up: that of the greatest candidate, where the pass deletes versions and boundaries are kept
abbrev pub target_in : Option LogKind → List ObjectMetadata → Option ℕ
target_in None candidates = None
target_in (Some log) candidates = greatest log candidates

abbrev pub target : PassSettings → List ObjectMetadata → Option ℕ
target settings candidates = if settings.boundary_files_enabled then target_in (log_of_pass settings.pass) candidates else None

-- how many versions its log has, where the pass deletes versions
abbrev pub versions_in : Option LogKind → ℕ → ℕ
versions_in None listed = 0
versions_in (Some log) listed = listed
