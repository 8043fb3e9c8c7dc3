-- A dry run deletes nothing.
use Rattle.std.proofs.Common.{◌≡◌, ℕ, ℤ, nat_le, Bool, true, false, List, [], ◌∷◌, ◌++◌, length, Option, Some, None, refl, ap, ◌∙◌}
use Rattle.std.specs.Prelude.{if◌then◌else◌}
use Rattle.std.specs.Option.{option_or}
use Rattle.slate_ids.specs.declared.gc_message.GcMessage.{GcMessage}
use Rattle.slate_store.specs.Machines.{Stay, End}
use Rattle.slate_store.specs.declared.made.Made.{Made}
use Rattle.slate_store.specs.declared.object.ObjectMetadata.{ObjectMetadata}
use Rattle.slate_store.specs.declared.store_answer.StoreAnswer.{StoreAnswer}
use Rattle.slate_store.specs.declared.store_answer.StoreAnswer.TheVariants.{Found, Got}
use Rattle.slate_script_events.specs.declared.call.Call.TheVariants.{Pass}
use Rattle.slate_script_events.specs.declared.filter_word.FilterWord.{FilterWord}
use Rattle.slate_txn_log.specs.Boundary.{boundary_got}
use Rattle.slate_model.specs.declared.manifest.Manifest.{Manifest}
use Rattle.slate_gc_passes.specs.Exact.{Answered, Chosen, or_nothing, picked_above, picked_along, picked_at, picked_in, picked_of_boundary, picked_of_list}
use Rattle.slate_gc_passes.specs.GcPhase.{GcGoes, gc_goes, gc_start, moment_of_pass}
use Rattle.slate_gc_passes.specs.Rows.{reads_greatest}
use Rattle.slate_gc_passes.specs.declared.gc_phase.GcPhase.{GcPhase}
use Rattle.slate_txn_changes.specs.declared.log_work.LogWork.TheVariants.{Reading, Committing}
use Rattle.slate_gc_passes.specs.declared.gc_phase.GcPhase.TheVariants.{Removing, Collecting}
use Rattle.slate_gc_passes.specs.declared.heads.Heads.{Heads}
use Rattle.slate_gc_passes.specs.declared.pass_phase.PassPhase.{PassPhase}
use Rattle.slate_gc_passes.specs.declared.pass_phase.PassPhase.TheVariants as passing
use Rattle.slate_gc_passes.specs.declared.pass_settings.PassSettings.{PassSettings}
use Rattle.slate_cluster_protocol.specs.Calls.{pass_settings}
use Rattle.slate_cluster_protocol.specs.Passes.{deletes_made, deletes_of, calls_of}
use Rattle.slate_cluster_protocol.specs.Works.{pass_ways}
use Rattle.slate_cluster_protocol.specs.declared.party.Facts.{Facts}
use Rattle.slate_cluster_pass_laws.proofs.Exact.{exact_pass}

-- nothing is picked
abbrev NonePicked : Option Chosen → Type 0
NonePicked o = (or_nothing o).objects ≡ []

module _ (pass : GcMessage) (min_age : ℕ) (word : FilterWord) where
  abbrev settings : PassSettings
  settings = pass_settings pass min_age true

  none_found : (now : ℤ) (heads : Heads) (versions : List (ℕ × Manifest)) (answer : StoreAnswer) → NonePicked (picked_of_list (pass_ways word) settings now heads versions answer)
  none_found now heads versions (Found found) = test (reads_greatest pass)
    where
      test : (b : Bool) → NonePicked (if b then None else Some (record { objects = []; listed = length found }))
      test true = refl
      test false = refl
  none_found now heads versions _ = refl

  none_above : (n count : ℕ) (found : List ObjectMetadata) (bound : Option ℕ) → NonePicked (picked_above (pass_ways word) settings n count found bound)
  none_above n count found None = refl
  none_above n count found (Some bound) = test (nat_le n bound)
    where
      test : (b : Bool) → NonePicked (if b then None else Some (record { objects = []; listed = count }))
      test true = refl
      test false = refl

  none_bounded : (n count : ℕ) (found : List ObjectMetadata) (answer : StoreAnswer) → NonePicked (picked_of_boundary (pass_ways word) settings n count found answer)
  none_bounded n count found (Got object) = none_above n count found (boundary_got object)
  none_bounded n count found _ = refl

  none_in : (now : ℤ) (phase : PassPhase) (answer : StoreAnswer) → NonePicked (picked_in (pass_ways word) settings now phase answer)
  none_in now (passing.Listing heads versions) answer = none_found now heads versions answer
  none_in now (passing.Bounding n count found) answer = none_bounded n count found answer
  none_in now _ answer = refl

  none_at : (moment : ℤ) (phase : GcPhase) (answer : StoreAnswer) → NonePicked (picked_at (pass_ways word) settings moment phase answer)
  none_at moment (Removing (Reading phase)) answer = refl
  none_at moment (Removing (Committing made phase)) answer = refl
  none_at moment (Collecting at phase) answer = none_in (moment_of_pass at moment) phase answer

  none_either : (a b : Option Chosen) → NonePicked a → NonePicked b → NonePicked (option_or a b)
  none_either None b h k = k
  none_either (Some x) b h k = h

  none_along : (g : GcGoes) (answers : List Answered) → NonePicked (picked_along (pass_ways word) settings g answers)
  none_along g [] = refl
  none_along (Stay phase) (a ∷ answers) =
      none_either (picked_at (pass_ways word) settings a.1 phase a.0) (picked_along (pass_ways word) settings (gc_goes (pass_ways word) settings a.1 phase a.0) answers)
      (none_at a.1 phase a.0) (none_along (gc_goes (pass_ways word) settings a.1 phase a.0) answers)
  none_along (End phase r) (a ∷ answers) = refl

  none_before : (ds : List Made) (left : List ObjectMetadata) → calls_of ds ++ deletes_of left ≡ [] → ds ≡ []
  none_before [] left h = refl
  none_before (d ∷ ds) left h = absurd cc

  pub dry_run : (facts : Facts) (answers : List Answered) → deletes_made facts (Pass pass min_age true word) answers ≡ []
  dry_run facts answers =
      let e = exact_pass facts pass min_age true word answers in
      none_before (deletes_made facts (Pass pass min_age true word) answers) e.left (e.front ∙ ap deletes_of (none_along (Stay gc_start) answers))
