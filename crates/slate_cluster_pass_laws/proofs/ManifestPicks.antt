-- What a pass over the manifests picks, by the phase in which its answers begin.
use Rattle.std.proofs.Common.{◌≡◌, ℕ, ℤ, nat_le, Bool, true, false, List, [], ◌∷◌, length, Option, Some, None, Result, Ok, Err, refl}
use Rattle.std.specs.Prelude.{if◌then◌else◌}
use Rattle.std.specs.Option.{option_or}
use Rattle.slate_ids.specs.declared.error.SlateDBError.{SlateDBError}
use Rattle.slate_ids.specs.declared.error.SlateDBError.TheVariants.{ManifestMissing}
use Rattle.slate_ids.specs.declared.gc_message.GcMessage.TheVariants as of
use Rattle.slate_layout_manifests.specs.Decoding.{decoded_manifest}
use Rattle.slate_model.specs.declared.manifest.Manifest.{Manifest}
use Rattle.slate_store.specs.Machines.{Stay, End}
use Rattle.slate_store.specs.declared.object.ObjectMetadata.{ObjectMetadata}
use Rattle.slate_store.specs.declared.object.StoredObject.{StoredObject}
use Rattle.slate_store.specs.declared.store_answer.StoreAnswer.TheVariants.{Found, Got}
use Rattle.slate_script_events.specs.declared.filter_word.FilterWord.{FilterWord}
use Rattle.slate_txn_log.specs.Boundary.{boundary_got, greatest}
use Rattle.slate_txn_log.specs.declared.log_kind.LogKind.TheVariants.{Manifest as ManifestLog}
use Rattle.slate_gc_passes.specs.Exact.{chosen, or_nothing, picked_above, picked_along}
use Rattle.slate_gc_passes.specs.GcPhase.{GcGoes, collect_on, moment_of_pass}
use Rattle.slate_gc_passes.specs.Pass.{bounded_goes, chosen_goes, decoded_goes, manifests_goes}
use Rattle.slate_gc_passes.specs.declared.directory_options.GarbageCollectorDirectoryOptions.{GarbageCollectorDirectoryOptions}
use Rattle.slate_gc_passes.specs.declared.gc_phase.GcPhase.{GcPhase}
use Rattle.slate_gc_passes.specs.declared.gc_phase.GcPhase.TheVariants.{Collecting}
use Rattle.slate_gc_passes.specs.declared.heads.Heads.{Heads}
use Rattle.slate_gc_passes.specs.declared.pass_counts.PassCounts.{PassCounts}
use Rattle.slate_gc_passes.specs.declared.pass_phase.PassPhase.TheVariants as passing
use Rattle.slate_gc_passes.specs.declared.pass_settings.PassSettings.{PassSettings}
use Rattle.slate_gc_picks.specs.Ages.{aged}
use Rattle.slate_gc_picks.specs.Filter.{picks}
use Rattle.slate_gc_picks.specs.VersionPicks.{unneeded}
use Rattle.slate_cluster_protocol.specs.Passes.{manifest_picks, manifests_read, picks_at, picks_of}
use Rattle.slate_cluster_protocol.specs.Rows.{Answered}
use Rattle.slate_cluster_protocol.specs.Specs.{listed_or_none}
use Rattle.slate_cluster_protocol.specs.Works.{pass_ways}
use Rattle.slate_cluster_laws.proofs.Passes.{bounded_pass}

-- ---- of its answers

module _ (settings : PassSettings) (word : FilterWord) where
  abbrev pub of_candidates : List ObjectMetadata → List ObjectMetadata
  of_candidates ms = picks (pass_ways word).allows settings.options.dry_run ms

  abbrev pub bounded_picks : ℕ → List ObjectMetadata → Option ℕ → List ObjectMetadata
  bounded_picks n ms None = []
  bounded_picks n ms (Some bound) = if nat_le n bound then [] else of_candidates ms

  abbrev pub bound_picks : ℕ → List ObjectMetadata → List Answered → List ObjectMetadata
  bound_picks n ms ((Got boundary, at) ∷ answers) = bounded_picks n ms (boundary_got boundary)
  bound_picks n ms _ = []

  abbrev pub decoded_picks : ℕ → List ObjectMetadata → Result Manifest SlateDBError → List Answered → List ObjectMetadata
  decoded_picks n found (Ok m) answers = bound_picks n (unneeded ManifestLog n m.core.checkpoints found) answers
  decoded_picks n found (Err e) answers = []

  abbrev pub get_picks : ℕ → List ObjectMetadata → List Answered → List ObjectMetadata
  get_picks n found ((Got (Some object), at) ∷ answers) = decoded_picks n found (decoded_manifest object.bytes) answers
  get_picks n found _ = []

  abbrev pub listed_picks : ℤ → List ObjectMetadata → Option ℕ → List Answered → List ObjectMetadata
  listed_picks now found None answers = []
  listed_picks now found (Some n) answers = get_picks n (aged settings.options.min_age now found) answers

  abbrev pub list_picks : List Answered → List ObjectMetadata
  list_picks ((Found found, now) ∷ answers) = listed_picks now found (greatest ManifestLog found) answers
  list_picks _ = []

  above_picks : (ms : List ObjectMetadata) (b : Bool) → listed_or_none (if b then None else Some ms) ≡ (if b then [] else ms)
  above_picks ms true = refl
  above_picks ms false = refl

  bounded_same : (now : ℤ) (found : List ObjectMetadata) (n : ℕ) (m : Manifest) (bound : Option ℕ)
      → listed_or_none (picks_at settings word now found (Some n) (Ok m) bound) ≡ bounded_picks n (unneeded ManifestLog n m.core.checkpoints (aged settings.options.min_age now found)) bound
  bounded_same now found n m None = refl
  bounded_same now found n m (Some bound) = above_picks (manifest_picks settings word now found n m) (nat_le n bound)

  decoded_same : (now : ℤ) (found : List ObjectMetadata) (n : ℕ) (r : Result Manifest SlateDBError) (boundary : Option StoredObject) (by : ℤ) (answers : List Answered)
      → listed_or_none (picks_at settings word now found (Some n) r (boundary_got boundary)) ≡ decoded_picks n (aged settings.options.min_age now found) r ((Got boundary, by) ∷ answers)
  decoded_same now found n (Ok m) boundary by answers = bounded_same now found n m (boundary_got boundary)
  decoded_same now found n (Err e) boundary by answers = refl

  -- of three answers that have what they are to have
  listed_same : (now : ℤ) (found : List ObjectMetadata) (n : Option ℕ) (object : StoredObject) (at : ℤ) (boundary : Option StoredObject) (by : ℤ) (answers : List Answered)
      → listed_or_none (picks_at settings word now found n (decoded_manifest object.bytes) (boundary_got boundary)) ≡ listed_picks now found n ((Got (Some object), at) ∷ (Got boundary, by) ∷ answers)
  listed_same now found None object at boundary by answers = refl
  listed_same now found (Some n) object at boundary by answers = decoded_same now found n (decoded_manifest object.bytes) boundary by answers

  -- of other answers, or fewer
  none_decoded : (n : ℕ) (found : List ObjectMetadata) (r : Result Manifest SlateDBError) (answers : List Answered) → ((ms : List ObjectMetadata) → [] ≡ bound_picks n ms answers)
      → [] ≡ decoded_picks n found r answers
  none_decoded n found (Ok m) answers h = h (unneeded ManifestLog n m.core.checkpoints found)
  none_decoded n found (Err e) answers h = refl

  none_listed : (now : ℤ) (found : List ObjectMetadata) (o : Option ℕ) (answers : List Answered) → ((n : ℕ) (ms : List ObjectMetadata) → [] ≡ get_picks n ms answers)
      → [] ≡ listed_picks now found o answers
  none_listed now found None answers h = refl
  none_listed now found (Some n) answers h = h n (aged settings.options.min_age now found)

  two_same : (now : ℤ) (found : List ObjectMetadata) (object : StoredObject) (at : ℤ) (answers : List Answered) → ((n : ℕ) (ms : List ObjectMetadata) → [] ≡ bound_picks n ms answers)
      → [] ≡ listed_picks now found (greatest ManifestLog found) ((Got (Some object), at) ∷ answers)
  two_same now found object at answers h =
      none_listed now found (greatest ManifestLog found) ((Got (Some object), at) ∷ answers) (λ n ms. none_decoded n ms (decoded_manifest object.bytes) answers (h n))

  third_same : (now : ℤ) (found : List ObjectMetadata) (object : StoredObject) (at : ℤ) (boundary : Answered) (answers : List Answered)
      → listed_or_none (picks_of settings word (Found found, now) (Got (Some object), at) boundary) ≡ listed_picks now found (greatest ManifestLog found) ((Got (Some object), at) ∷ boundary ∷ answers)
  third_same now found object at (Got boundary, by) answers = listed_same now found (greatest ManifestLog found) object at boundary by answers
  third_same now found object at (_, by) answers = two_same now found object at _ (λ n ms. refl)

  second_same : (now : ℤ) (found : List ObjectMetadata) (version : Answered) (boundary : Answered) (answers : List Answered)
      → listed_or_none (picks_of settings word (Found found, now) version boundary) ≡ listed_picks now found (greatest ManifestLog found) (version ∷ boundary ∷ answers)
  second_same now found (Got (Some object), at) boundary answers = third_same now found object at boundary answers
  second_same now found (_, at) boundary answers = none_listed now found (greatest ManifestLog found) _ (λ n ms. refl)

  -- what the answers of a pass have picked
  pub picks_same : (answers : List Answered) → listed_or_none (manifests_read settings word answers) ≡ list_picks answers
  picks_same [] = refl
  picks_same ((Found found, now) ∷ []) = none_listed now found (greatest ManifestLog found) [] (λ n ms. refl)
  picks_same ((Found found, now) ∷ (Got (Some object), at) ∷ []) = two_same now found object at [] (λ n ms. refl)
  picks_same ((Found found, now) ∷ (_, at) ∷ []) = none_listed now found (greatest ManifestLog found) _ (λ n ms. refl)
  picks_same ((Found found, now) ∷ version ∷ boundary ∷ answers) = second_same now found version boundary answers
  picks_same ((_, now) ∷ []) = refl
  picks_same ((_, now) ∷ version ∷ []) = refl
  picks_same ((_, now) ∷ version ∷ boundary ∷ answers) = refl

-- ---- they are what its machine has picked

module _ (options : GarbageCollectorDirectoryOptions) (word : FilterWord) where
  abbrev settings : PassSettings
  settings = bounded_pass of.Manifest options

  -- the objects that the machine has picked from here on
  abbrev picked_from : GcGoes → List Answered → List ObjectMetadata
  picked_from g answers = (or_nothing (picked_along (pass_ways word) settings g answers)).objects

  none_ended : (phase : GcPhase) (r : Result PassCounts SlateDBError) (answers : List Answered) → picked_from (End phase r) answers ≡ []
  none_ended phase r [] = refl
  none_ended phase r (a ∷ answers) = refl

  abbrev allows : List ObjectMetadata → List ObjectMetadata
  allows = (pass_ways word).allows

  bounded_from : (at : Option ℤ) (now : ℤ) (n count : ℕ) (ms : List ObjectMetadata) (bound : Option ℕ) (answers : List Answered)
      → (or_nothing (option_or (picked_above (pass_ways word) settings n count ms bound) (picked_along (pass_ways word) settings (collect_on at now (bounded_goes allows settings n count ms bound)) answers))).objects
      ≡ bounded_picks settings word n ms bound
  bounded_from at now n count ms None answers = none_ended _ _ answers
  bounded_from at now n count ms (Some bound) answers = test (nat_le n bound)
    where
      test : (b : Bool) → (or_nothing (option_or (if b then None else Some (chosen (pass_ways word) settings count ms))
          (picked_along (pass_ways word) settings (collect_on at now (if b then End passing.Over (Err (ManifestMissing n)) else chosen_goes allows settings count ms)) answers))).objects
          ≡ (if b then [] else of_candidates settings word ms)
      test true = none_ended _ _ answers
      test false = refl

  bound_from : (at : Option ℤ) (n count : ℕ) (ms : List ObjectMetadata) (answers : List Answered) → picked_from (Stay (Collecting at (passing.Bounding n count ms))) answers ≡ bound_picks settings word n ms answers
  bound_from at n count ms [] = refl
  bound_from at n count ms ((Got boundary, t) ∷ answers) = bounded_from at (moment_of_pass at t) n count ms (boundary_got boundary) answers
  bound_from at n count ms ((_, t) ∷ answers) = none_ended _ _ answers

  decoded_from : (at : Option ℤ) (now : ℤ) (n count : ℕ) (found : List ObjectMetadata) (r : Result Manifest SlateDBError) (answers : List Answered)
      → picked_from (collect_on at now (decoded_goes n count found r)) answers ≡ decoded_picks settings word n found r answers
  decoded_from at now n count found (Ok m) answers = bound_from (Some now) n count (unneeded ManifestLog n m.core.checkpoints found) answers
  decoded_from at now n count found (Err e) answers = none_ended _ _ answers

  get_from : (at : Option ℤ) (n count : ℕ) (found : List ObjectMetadata) (answers : List Answered) → picked_from (Stay (Collecting at (passing.Getting n count found))) answers ≡ get_picks settings word n found answers
  get_from at n count found [] = refl
  get_from at n count found ((Got (Some object), t) ∷ answers) = decoded_from at (moment_of_pass at t) n count found (decoded_manifest object.bytes) answers
  get_from at n count found ((_, t) ∷ answers) = none_ended _ _ answers

  listed_from : (now : ℤ) (found : List ObjectMetadata) (n : Option ℕ) (answers : List Answered)
      → picked_from (collect_on None now (manifests_goes options.min_age now found n)) answers ≡ listed_picks settings word now found n answers
  listed_from now found None answers = none_ended _ _ answers
  listed_from now found (Some n) answers = get_from (Some now) n (length found) (aged options.min_age now found) answers

  -- from its list on
  pub list_from : (heads : Heads) (versions : List (ℕ × Manifest)) (answers : List Answered) → picked_from (Stay (Collecting None (passing.Listing heads versions))) answers ≡ list_picks settings word answers
  list_from heads versions [] = refl
  list_from heads versions ((Found found, now) ∷ answers) = listed_from now found (greatest ManifestLog found) answers
  list_from heads versions ((_, now) ∷ answers) = none_ended _ _ answers
