-- What a pass over tables picks of what it read: the latest record, the latest manifest, the versions that its checkpoints name, and the list.
use Rattle.std.specs.Prelude.{ℕ, ℤ, nat_le, List, [], ◌∷◌, Option, Some, None, option_and_then, Result, Ok, if◌then◌else◌}
use Rattle.std.specs.BTreeMap.{insert_entry}
use Rattle.std.specs.Ordering.{nat_cmp}
use Rattle.std.specs.Result.{result_ok}
use Rattle.slate_ids.specs.declared.error.SlateDBError.{SlateDBError}
use Rattle.slate_layout_manifests.specs.Decoding.{decoded_manifest}
use Rattle.slate_layout_records.specs.RecordBytes.{decoded_record}
use Rattle.slate_model.specs.Watermark.{watermark}
use Rattle.slate_model_records.specs.Records.{Record}
use Rattle.slate_store.specs.declared.object.ObjectMetadata.{ObjectMetadata}
use Rattle.slate_store.specs.declared.store_answer.StoreAnswer.TheVariants.{Found, Got}
use Rattle.slate_script_events.specs.declared.filter_word.FilterWord.{FilterWord}
use Rattle.slate_txn_log.specs.Boundary.{boundary_got, greatest}
use Rattle.slate_txn_log.specs.declared.log_kind.LogKind.{LogKind}
use Rattle.slate_txn_log.specs.declared.log_kind.LogKind.TheVariants.{Manifest as ManifestLog, Compactions as RecordLog}
use Rattle.slate_state_record_updates.specs.RecordRules.{least_ms}
use Rattle.slate_state_referenced.specs.Named.{named_numbers}
use Rattle.slate_state_referenced.specs.Referenced.{Versions}
use Rattle.slate_gc_passes.specs.declared.pass_settings.PassSettings.{PassSettings}
use Rattle.slate_gc_picks.specs.Filter.{picks}
use Rattle.slate_gc_picks.specs.TablePicks.{unused_tables}
use Rattle.slate_cluster_protocol.specs.Rows.{Answered}
use Rattle.slate_cluster_protocol.specs.Works.{pass_ways}

-- ---- what answers give

-- what answers give, and the answers after these; nothing, where a read was refused or has not ended
abbrev pub Given : Type 0 → Type 0
Given A = Option (A × List Answered)

-- what is made of what they give, and of the answers after it
abbrev pub given : {A B : Type 0} → Given A → (A → List Answered → Option B) → Option B
given None makes = None
given (Some g) makes = makes g.0 g.1

-- ---- the read of a log: its list, the get of the greatest, the get of the boundary

-- without a number there is no version, and its list ends the read; else what comes after the list
abbrev pub if_listed : {V : Type 0} → Option ℕ → List Answered → (ℕ → Given (Option (ℕ × V))) → Given (Option (ℕ × V))
if_listed None after_list gets = Some (None, after_list)
if_listed (Some n) after_list gets = gets n

-- the version of the greatest number, where its boundary is below it; else the read starts again
abbrev pub above_boundary : {V : Type 0} → ℕ → Result V SlateDBError → Option ℕ → List Answered → Given (Option (ℕ × V)) → Given (Option (ℕ × V))
above_boundary n (Ok value) (Some bound) later again = if nat_le n bound then again else Some (Some (n, value), later)
above_boundary n _ _ later again = None

-- the latest version of a log, where there is one, of the answers from its list on; where the greatest is gone the read starts again
abbrev pub latest_in : {V : Type 0} → LogKind → (List ℕ → Result V SlateDBError) → List Answered → Given (Option (ℕ × V))
latest_in log decoded ((Found found, at) ∷ (Got (Some object), by) ∷ (Got boundary, to) ∷ later) =
    if_listed (greatest log found) ((Got (Some object), by) ∷ (Got boundary, to) ∷ later)
    (λ n. above_boundary n (decoded object.bytes) (boundary_got boundary) later (latest_in log decoded later))
latest_in log decoded ((Found found, at) ∷ (Got None, by) ∷ later) = if_listed (greatest log found) ((Got None, by) ∷ later) (λ n. latest_in log decoded later)
latest_in log decoded ((Found found, at) ∷ later) = if_listed (greatest log found) later (λ n. None)
latest_in log decoded _ = None

-- the same of a log that has to have a version
abbrev pub version_in : {V : Type 0} → LogKind → (List ℕ → Result V SlateDBError) → List Answered → Given (ℕ × V)
version_in log decoded answers = given (latest_in log decoded answers) (λ latest later. option_and_then (λ version. Some (version, later)) latest)

-- ---- the other reads

-- the manifests of these numbers besides those before, of the answers to their gets, one each
abbrev pub named_in : List ℕ → Versions → List Answered → Given Versions
named_in [] versions answers = Some (versions, answers)
named_in (n ∷ numbers) versions ((Got (Some object), at) ∷ later) =
    option_and_then (λ m. named_in numbers (insert_entry nat_cmp versions n m) later) (result_ok (decoded_manifest object.bytes))
named_in (n ∷ numbers) versions _ = None

-- the listed objects, of the answer to a list
abbrev pub list_in : List Answered → Given (List ObjectMetadata)
list_in ((Found found, at) ∷ later) = Some (found, later)
list_in _ = None

-- ---- the rule

-- the least milliseconds of a record's compactions; 0 where there is no record
abbrev pub least_of : Option (ℕ × Record) → ℕ
least_of None = 0
least_of (Some version) = least_ms version.1.entries

-- the picks among the listed tables, at a moment: of those that none of these versions uses and that are from before the moment less the least
-- age, from before the least of the record and from before the watermark
abbrev pub table_picks : PassSettings → FilterWord → ℤ → ℕ → ℕ → Versions → List ObjectMetadata → List ObjectMetadata
table_picks settings filter now least mark versions found =
    picks (pass_ways filter).allows settings.options.dry_run (unused_tables settings.options.min_age now least mark versions found)

-- from the read of the manifest on: it is read, then the versions that its checkpoints name besides it, and then the tables are listed
abbrev pub tables_after : PassSettings → FilterWord → ℤ → ℕ → List Answered → Option (List ObjectMetadata)
tables_after settings filter now least answers =
    given (version_in ManifestLog decoded_manifest answers) (λ latest after_manifest.
    given (named_in (named_numbers latest.0 latest.1.core.checkpoints) (latest ∷ []) after_manifest) (λ versions after_versions.
    given (list_in after_versions) (λ found after_list. Some (table_picks settings filter now least (watermark latest.1.core) versions found))))

-- of the answers of a pass over tables from its first read on, which gives it its moment: the record is read before all else. Nothing, before it has
-- read all
abbrev pub tables_read : PassSettings → FilterWord → List Answered → Option (List ObjectMetadata)
tables_read settings filter [] = None
tables_read settings filter (first ∷ answers) =
    given (latest_in RecordLog decoded_record (first ∷ answers)) (λ compactions after_record. tables_after settings filter first.1 (least_of compactions) after_record)
