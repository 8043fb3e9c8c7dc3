-- What a pass over tables picks, by the phase in which its answers begin.
use Rattle.std.proofs.Common.{◌≡◌, ℕ, ℤ, List, [], ◌∷◌, Option, Some, None, option_and_then, Result, Ok, Err, refl, ap, ◌∙◌}
use Rattle.std.specs.BTreeMap.{insert_entry}
use Rattle.std.specs.Ordering.{nat_cmp}
use Rattle.std.specs.Result.{result_ok}
use Rattle.slate_ids.specs.declared.error.SlateDBError.{SlateDBError}
use Rattle.slate_ids.specs.declared.gc_message.GcMessage.TheVariants as of
use Rattle.slate_layout_manifests.specs.Decoding.{decoded_manifest}
use Rattle.slate_layout_records.specs.RecordBytes.{decoded_record}
use Rattle.slate_model.specs.declared.manifest.Manifest.{Manifest}
use Rattle.slate_model_records.specs.Records.{Record}
use Rattle.slate_store.specs.Machines.{Stay, End}
use Rattle.slate_store.specs.declared.object.ObjectMetadata.{ObjectMetadata}
use Rattle.slate_store.specs.declared.store_answer.StoreAnswer.TheVariants.{Found, Got}
use Rattle.slate_script_events.specs.declared.filter_word.FilterWord.{FilterWord}
use Rattle.slate_txn_log.specs.ReadPhase.{Reply, read_goes}
use Rattle.slate_txn_log.specs.TryRead.{some_value}
use Rattle.slate_txn_log.specs.declared.log_kind.LogKind.TheVariants.{Manifest as ManifestLog, Compactions as RecordLog}
use Rattle.slate_txn_log.specs.declared.read_phase.ReadPhase.TheVariants as reading
use Rattle.slate_state_record_updates.specs.RecordRules.{least_ms}
use Rattle.slate_state_referenced.specs.Named.{named_numbers}
use Rattle.slate_state_referenced.specs.Referenced.{Versions, number_goes, rest_goes}
use Rattle.slate_gc_passes.specs.Candidates.{heads_at}
use Rattle.slate_gc_passes.specs.Exact.{or_nothing, picked_along}
use Rattle.slate_gc_passes.specs.GcPhase.{GcGoes, collect_on}
use Rattle.slate_gc_passes.specs.Pass.{fetched_goes, manifest_goes, record_goes}
use Rattle.slate_gc_passes.specs.declared.directory_options.GarbageCollectorDirectoryOptions.{GarbageCollectorDirectoryOptions}
use Rattle.slate_gc_passes.specs.declared.gc_phase.GcPhase.{GcPhase}
use Rattle.slate_gc_passes.specs.declared.gc_phase.GcPhase.TheVariants.{Collecting}
use Rattle.slate_gc_passes.specs.declared.heads.Heads.{Heads}
use Rattle.slate_gc_passes.specs.declared.pass_counts.PassCounts.{PassCounts}
use Rattle.slate_gc_passes.specs.declared.pass_phase.PassPhase.TheVariants as passing
use Rattle.slate_gc_passes.specs.declared.pass_settings.PassSettings.{PassSettings}
use Rattle.slate_cluster_protocol.specs.Rows.{Answered}
use Rattle.slate_cluster_protocol.specs.Specs.{listed_or_none}
use Rattle.slate_cluster_protocol.specs.TablePasses.{Given, given, least_of, list_in, named_in, table_picks, tables_after, tables_read}
use Rattle.slate_cluster_protocol.specs.Works.{pass_ways}
use Rattle.slate_cluster_laws.proofs.Passes.{bounded_pass}
use Rattle.slate_cluster_pass_laws.proofs.LatestReads.{latest_read, read_along}

module _ (options : GarbageCollectorDirectoryOptions) (word : FilterWord) where
  abbrev settings : PassSettings
  settings = bounded_pass of.Compacted options

  -- the objects that the machine has picked from here on
  abbrev picked_from : GcGoes → List Answered → List ObjectMetadata
  picked_from g answers = (or_nothing (picked_along (pass_ways word) settings g answers)).objects

  none_ended : (phase : GcPhase) (r : Result PassCounts SlateDBError) (answers : List Answered) → picked_from (End phase r) answers ≡ []
  none_ended phase r [] = refl
  none_ended phase r (a ∷ answers) = refl

  -- ---- the list

  abbrev of_list : ℤ → Heads → Versions → List Answered → Option (List ObjectMetadata)
  of_list now heads versions answers = given (list_in answers) (λ found later. Some (table_picks settings word now heads.least heads.watermark versions found))

  list_from : (now : ℤ) (heads : Heads) (versions : Versions) (answers : List Answered)
      → picked_from (Stay (Collecting (Some now) (passing.Listing heads versions))) answers ≡ listed_or_none (of_list now heads versions answers)
  list_from now heads versions [] = refl
  list_from now heads versions ((Found found, t) ∷ answers) = refl
  list_from now heads versions ((_, t) ∷ answers) = none_ended _ _ answers

  -- ---- the versions that the manifest's checkpoints name

  abbrev of_named : ℤ → Heads → List ℕ → Versions → List Answered → Option (List ObjectMetadata)
  of_named now heads numbers versions answers = given (named_in numbers versions answers) (λ all later. of_list now heads all later)

  -- so from where these numbers are left
  abbrev NamedFrom : ℤ → Heads → List ℕ → List Answered → Type 0
  NamedFrom now heads numbers answers =
      (at : Option ℤ) (versions : Versions) → picked_from (collect_on at now (fetched_goes heads (rest_goes numbers versions))) answers ≡ listed_or_none (of_named now heads numbers versions answers)

  -- by what is read of the bytes of the first of them
  number_from : (now : ℤ) (heads : Heads) (n : ℕ) (numbers : List ℕ) (versions : Versions) (answers : List Answered) → NamedFrom now heads numbers answers → (r : Result Manifest SlateDBError)
      → picked_from (collect_on (Some now) now (fetched_goes heads (number_goes n numbers versions (some_value r)))) answers
      ≡ listed_or_none (given (option_and_then (λ m. named_in numbers (insert_entry nat_cmp versions n m) answers) (result_ok r)) (λ all later. of_list now heads all later))
  number_from now heads n numbers versions answers rest (Ok m) = rest (Some now) (insert_entry nat_cmp versions n m)
  number_from now heads n numbers versions answers rest (Err e) = none_ended _ _ answers

  named_from : (now : ℤ) (heads : Heads) (numbers : List ℕ) (answers : List Answered) → NamedFrom now heads numbers answers
  named_from now heads [] answers at versions = list_from now heads versions answers
  named_from now heads (n ∷ numbers) [] at versions = refl
  named_from now heads (n ∷ numbers) ((Got (Some object), t) ∷ answers) at versions =
      number_from now heads n numbers versions answers (named_from now heads numbers answers) (decoded_manifest object.bytes)
  named_from now heads (n ∷ numbers) ((_, t) ∷ answers) at versions = none_ended _ _ answers

  -- ---- the manifest

  -- what is picked once it was read
  abbrev of_version : ℤ → ℕ → ℕ × Manifest → List Answered → Option (List ObjectMetadata)
  of_version now least latest later = of_named now (heads_at least latest.0 latest.1) (named_numbers latest.0 latest.1.core.checkpoints) (latest ∷ []) later

  abbrev of_manifest : ℤ → ℕ → Given (Option (ℕ × Manifest)) → Option (List ObjectMetadata)
  of_manifest now least out = given (given out (λ latest later. option_and_then (λ version. Some (version, later)) latest)) (λ latest later. of_version now least latest later)

  manifest_along : (now : ℤ) (least : ℕ) (answers : List Answered) (at : Option ℤ) (out : Reply Manifest)
      → picked_from (collect_on at now (manifest_goes least out)) answers ≡ listed_or_none (of_manifest now least (read_along ManifestLog decoded_manifest out answers))
  manifest_along now least answers at (End phase (Ok None)) = none_ended _ _ answers
  manifest_along now least answers at (End phase (Ok (Some (n, m)))) = named_from now (heads_at least n m) (named_numbers n m.core.checkpoints) answers at ((n, m) ∷ [])
  manifest_along now least answers at (End phase (Err e)) = none_ended _ _ answers
  manifest_along now least [] at (Stay phase) = refl
  manifest_along now least (a ∷ answers) at (Stay phase) = manifest_along now least answers (Some now) (read_goes ManifestLog decoded_manifest phase a.0)

  manifest_from : (now : ℤ) (least : ℕ) (answers : List Answered)
      → picked_from (Stay (Collecting (Some now) (passing.ReadingManifest least reading.Listing))) answers ≡ listed_or_none (tables_after settings word now least answers)
  manifest_from now least answers =
      manifest_along now least answers (Some now) (Stay reading.Listing)
      ∙ ap (λ (out : Given (Option (ℕ × Manifest))). listed_or_none (of_manifest now least out)) (latest_read ManifestLog decoded_manifest answers)

  -- ---- the record

  abbrev of_record : ℤ → Given (Option (ℕ × Record)) → Option (List ObjectMetadata)
  of_record now out = given out (λ compactions later. tables_after settings word now (least_of compactions) later)

  record_along : (now : ℤ) (answers : List Answered) (at : Option ℤ) (out : Reply Record)
      → picked_from (collect_on at now (record_goes out)) answers ≡ listed_or_none (of_record now (read_along RecordLog decoded_record out answers))
  record_along now answers at (End phase (Ok None)) = manifest_from now 0 answers
  record_along now answers at (End phase (Ok (Some version))) = manifest_from now (least_ms version.1.entries) answers
  record_along now answers at (End phase (Err e)) = none_ended _ _ answers
  record_along now [] at (Stay phase) = refl
  record_along now (a ∷ answers) at (Stay phase) = record_along now answers (Some now) (read_goes RecordLog decoded_record phase a.0)

  -- from its first read on
  pub tables_from : (answers : List Answered) → picked_from (Stay (Collecting None (passing.ReadingRecord reading.Listing))) answers ≡ listed_or_none (tables_read settings word answers)
  tables_from [] = refl
  tables_from (a ∷ answers) =
      record_along a.1 answers None (read_goes RecordLog decoded_record reading.Listing a.0)
      ∙ ap (λ (out : Given (Option (ℕ × Record))). listed_or_none (of_record a.1 out)) (latest_read RecordLog decoded_record (a ∷ answers))
