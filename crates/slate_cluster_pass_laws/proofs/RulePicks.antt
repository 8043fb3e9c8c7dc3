-- What a pass picks is what its answers from its first read on give.
use Rattle.std.proofs.Common.{◌≡◌, ℕ, ℤ, Bool, true, List, [], ◌∷◌, Option, Some, None, Result, Ok, Err, refl, sym, ap, ◌∙◌}
use Rattle.slate_ids.specs.declared.error.SlateDBError.{SlateDBError}
use Rattle.slate_ids.specs.declared.gc_message.GcMessage.{GcMessage}
use Rattle.slate_ids.specs.declared.gc_message.GcMessage.TheVariants as of
use Rattle.slate_layout.specs.Codec.{encoded}
use Rattle.slate_layout_manifests.specs.Decoding.{decoded_manifest}
use Rattle.slate_model.specs.declared.manifest.Manifest.{Manifest}
use Rattle.slate_store.specs.Machines.{Stay, End}
use Rattle.slate_store.specs.declared.object.ObjectMetadata.{ObjectMetadata}
use Rattle.slate_store.specs.declared.store_answer.StoreAnswer.TheVariants.{Found}
use Rattle.slate_script_events.specs.declared.call.Call.{Call}
use Rattle.slate_script_events.specs.declared.call.Call.TheVariants as calls
use Rattle.slate_script_events.specs.declared.filter_word.FilterWord.{FilterWord}
use Rattle.slate_script_events.specs.declared.reply.Reply.TheVariants.{Refused}
use Rattle.slate_txn_log.specs.CommitPhase.{CommitGoes, commit_goes}
use Rattle.slate_txn_log.specs.ReadPhase.{Reply, read_goes}
use Rattle.slate_txn_log.specs.declared.commit_phase.CommitPhase.{CommitPhase}
use Rattle.slate_txn_log.specs.declared.log_kind.LogKind.TheVariants.{Manifest as ManifestLog}
use Rattle.slate_gc_passes.specs.Candidates.{no_heads}
use Rattle.slate_gc_passes.specs.Exact.{or_nothing, picked_along}
use Rattle.slate_gc_passes.specs.GcPhase.{GcGoes, commit_on, gc_goes, gc_start, read_on, removal_goes}
use Rattle.slate_gc_passes.specs.Pass.{first_phase}
use Rattle.slate_gc_passes.specs.declared.directory_options.GarbageCollectorDirectoryOptions.{GarbageCollectorDirectoryOptions}
use Rattle.slate_gc_passes.specs.declared.gc_phase.GcPhase.{GcPhase}
use Rattle.slate_txn_changes.specs.declared.log_work.LogWork.TheVariants.{Reading, Committing}
use Rattle.slate_gc_passes.specs.declared.gc_phase.GcPhase.TheVariants.{Removing, Collecting}
use Rattle.slate_gc_passes.specs.declared.heads.Heads.{Heads}
use Rattle.slate_gc_passes.specs.declared.pass_phase.PassPhase.{PassPhase}
use Rattle.slate_gc_passes.specs.declared.pass_phase.PassPhase.TheVariants as passing
use Rattle.slate_gc_passes.specs.declared.pass_settings.PassSettings.{PassSettings}
use Rattle.slate_state_updates.specs.ManifestChanges.{commit_of}
use Rattle.slate_state_updates.specs.declared.manifest_change.ManifestChange.TheVariants.{DropExpired}
use Rattle.slate_cluster_protocol.specs.Calls.{collector_has, pass_settings}
use Rattle.slate_cluster_protocol.specs.Passes.{picks_read, read_by, records_read, pass_answers, picked, picked_so_far, reply_of}
use Rattle.slate_cluster_protocol.specs.Rows.{Answered, Standing}
use Rattle.slate_cluster_protocol.specs.Specs.{listed_or_none}
use Rattle.slate_cluster_protocol.specs.Works.{pass_ways}
use Rattle.slate_cluster_protocol.specs.declared.party.Facts.{Facts}
use Rattle.slate_cluster_pass_laws.proofs.Exact.{standing_at, went, replied_answers}
use Rattle.slate_cluster_pass_laws.proofs.ManifestPicks.{list_from, picks_same}
use Rattle.slate_cluster_pass_laws.proofs.TablePicks.{tables_from}
use Rattle.slate_cluster_laws.proofs.Passes.{bounded_pass}

-- ---- from its first read on

module _ (options : GarbageCollectorDirectoryOptions) (word : FilterWord) where
  -- the objects that the machine picks from a phase on, in which the pass has no moment yet
  abbrev picked_from : GcMessage → PassPhase → List Answered → List ObjectMetadata
  picked_from pass phase answers = (or_nothing (picked_along (pass_ways word) (bounded_pass pass options) (Stay (Collecting None phase)) answers)).objects

  -- a pass over the records picks of its list
  record_list : (heads : Heads) (versions : List (ℕ × Manifest)) (answers : List Answered) → picked_from of.Compactions (passing.Listing heads versions) answers ≡ listed_or_none (records_read (bounded_pass of.Compactions options) word answers)
  record_list heads versions [] = refl
  record_list heads versions ((Found found, now) ∷ answers) = refl
  record_list heads versions ((_, now) ∷ []) = refl
  record_list heads versions ((_, now) ∷ a ∷ answers) = refl

  first_picked : (min_age : ℕ) (dry_run : Bool) (pass : GcMessage) → collector_has (calls.Pass pass min_age dry_run word) ≡ true → (answers : List Answered)
      → picked_from pass (first_phase pass) answers ≡ listed_or_none (picks_read (bounded_pass pass options) word answers)
  first_picked min_age dry_run of.Manifest has answers = list_from options word no_heads [] answers ∙ sym (picks_same (bounded_pass of.Manifest options) word answers)
  first_picked min_age dry_run of.Compactions has answers = record_list no_heads [] answers
  first_picked min_age dry_run of.Compacted has answers = tables_from options word answers
  first_picked min_age dry_run _ has answers = absurd (cc (has))

-- ---- before its first read

-- a pass that still removes, or that is to make its first read
abbrev IsBefore : GcMessage → GcPhase → Type 0
IsBefore pass (Removing work) = Unit {0}
IsBefore pass (Collecting None phase) = phase ≡ first_phase pass
IsBefore pass (Collecting (Some now) phase) = ⊥

abbrev Begins : GcMessage → GcGoes → Type 0
Begins pass (Stay phase) = IsBefore pass phase
Begins pass (End phase r) = Unit {0}

module _ (pass : GcMessage) where
  removal_begins : (now : ℤ) (n : ℕ) (m : Manifest) (r : Result (Option (CommitPhase Manifest)) SlateDBError) → Begins pass (removal_goes pass now n m r)
  removal_begins now n m (Ok (Some commit)) = tt
  removal_begins now n m (Ok None) = refl
  removal_begins now n m (Err e) = tt

  read_begins : (now : ℤ) (g : Reply Manifest) → Begins pass (read_on encoded pass now g)
  read_begins now (Stay phase) = tt
  read_begins now (End phase (Ok None)) = tt
  read_begins now (End phase (Ok (Some version))) = removal_begins now version.0 version.1 (commit_of encoded DropExpired now version.0 version.1)
  read_begins now (End phase (Err e)) = tt

  commit_begins : (made : ℤ) (g : CommitGoes Manifest) → Begins pass (commit_on pass made g)
  commit_begins made (Stay phase) = tt
  commit_begins made (End phase (Ok version)) = refl
  commit_begins made (End phase (Err e)) = tt

module _ (facts : Facts) (pass : GcMessage) (min_age : ℕ) (dry_run : Bool) (word : FilterWord) (has : collector_has (calls.Pass pass min_age dry_run word) ≡ true) where
  abbrev call : Call
  call = calls.Pass pass min_age dry_run word

  abbrev own : PassSettings
  own = pass_settings pass min_age dry_run

  abbrev at_goes : GcGoes → Standing
  at_goes g = standing_at facts call facts.db own word g

  -- of no answers none is picked
  none_read : (p : GcMessage) → listed_or_none (read_by p own word []) ≡ []
  none_read of.Manifest = refl
  none_read of.Compactions = refl
  none_read of.Compacted = refl
  none_read _ = refl

  -- the picks of the answers from where the call stands are those of its machine
  picks_from : (answers : List Answered) (g : GcGoes) → Begins pass g → (or_nothing (picked_along (pass_ways word) own g answers)).objects ≡ listed_or_none (picks_read own word (pass_answers call (at_goes g) answers))
  picks_from [] g h = sym (none_read pass)
  picks_from (a ∷ answers) (End phase (Ok counts)) h = sym (ap (λ (xs : List Answered). listed_or_none (picks_read own word xs)) (replied_answers call facts (reply_of counts) answers) ∙ none_read pass)
  picks_from (a ∷ answers) (End phase (Err e)) h = sym (ap (λ (xs : List Answered). listed_or_none (picks_read own word xs)) (replied_answers call facts (Refused e) answers) ∙ none_read pass)
  picks_from (a ∷ answers) (Stay (Removing (Reading phase))) h =
      picks_from answers (gc_goes (pass_ways word) own a.1 (Removing (Reading phase)) a.0) (read_begins pass a.1 (read_goes ManifestLog decoded_manifest phase a.0))
      ∙ sym (ap (λ (st : Standing). listed_or_none (picks_read own word (pass_answers call st answers))) (went facts call facts.db own word (Removing (Reading phase)) a))
  picks_from (a ∷ answers) (Stay (Removing (Committing made phase))) h =
      picks_from answers (gc_goes (pass_ways word) own a.1 (Removing (Committing made phase)) a.0) (commit_begins pass made (commit_goes phase a.0))
      ∙ sym (ap (λ (st : Standing). listed_or_none (picks_read own word (pass_answers call st answers))) (went facts call facts.db own word (Removing (Committing made phase)) a))
  picks_from (a ∷ answers) (Stay (Collecting None phase)) h =
      ap (λ (p : PassPhase). picked_from own.options word pass p (a ∷ answers)) h ∙ first_picked own.options word min_age dry_run pass has (a ∷ answers)
  picks_from (a ∷ answers) (Stay (Collecting (Some now) phase)) h = absurd h

  -- what it has picked is what its answers give
  pub picks_are : (answers : List Answered) → (picked_so_far own word answers).objects ≡ picked facts call own word answers
  picks_are answers = picks_from answers (Stay gc_start) tt
