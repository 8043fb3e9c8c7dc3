-- What a pass deletes and counts along its answers, and what it picked of what it read.
use Rattle.std.specs.Prelude.{◌≡◌, ℕ, ℤ, nat_le, List, [], ◌∷◌, ◌++◌, length, Option, Some, None, option_to_list, Ok, if◌then◌else◌}
use Rattle.std.specs.Option.{option_or}
use Rattle.slate_txn_log.specs.Boundary.{boundary_got}
use Rattle.slate_model.specs.declared.manifest.Manifest.{Manifest}
use Rattle.slate_gc_passes.specs.Candidates.{candidates}
use Rattle.slate_gc_passes.specs.PassCounts.{counts_of, one_deleted, one_failed}
use Rattle.slate_gc_passes.specs.GcPhase.{GcGoes, gc_goes, gc_start, moment_of_pass}
use Rattle.slate_gc_passes.specs.Rows.{log_of_pass, reads_greatest, versions_in}
use Rattle.slate_gc_passes.specs.Ways.{Ways}
use Rattle.slate_gc_passes.specs.declared.gc_phase.GcPhase.{GcPhase}
use Rattle.slate_gc_passes.specs.declared.gc_phase.GcPhase.TheVariants.{Removing, Collecting}
use Rattle.slate_gc_passes.specs.declared.heads.Heads.{Heads}
use Rattle.slate_gc_passes.specs.declared.pass_counts.PassCounts.{PassCounts}
use Rattle.slate_gc_passes.specs.declared.pass_phase.PassPhase.{PassPhase}
use Rattle.slate_gc_passes.specs.declared.pass_phase.PassPhase.TheVariants.{ReadingRecord, ReadingManifest, Fetching, Listing, Getting, Bounding, Advancing, Deleting, Over}
use Rattle.slate_gc_passes.specs.declared.pass_settings.PassSettings.{PassSettings}
use Rattle.slate_gc_picks.specs.Filter.{picks}
use Rattle.slate_gc_picks.specs.Queue.{first_object}
use Rattle.slate_store.specs.Machines.{Stay, End}
use Rattle.slate_store.specs.declared.object.ObjectMetadata.{ObjectMetadata}
use Rattle.slate_store.specs.declared.store_answer.StoreAnswer.{StoreAnswer}
use Rattle.slate_store.specs.declared.store_answer.StoreAnswer.TheVariants.{Found, Got, Created, Replaced, Written, Deleted, Fault}

-- an answer, with the moment of its call
abbrev pub Answered : Type 0
Answered = StoreAnswer × ℤ

-- where a pass stands after answers
abbrev pub stands_after : Ways → PassSettings → GcGoes → List Answered → GcGoes
stands_after ways settings goes [] = goes
stands_after ways settings (Stay p) (a ∷ answers) = stands_after ways settings (gc_goes ways settings a.1 p a.0) answers
stands_after ways settings (End p r) (a ∷ answers) = End p r

-- ---- what is deleted

-- the object that is to be deleted, while a pass deletes
abbrev pub object_in : PassPhase → Option ObjectMetadata
object_in (ReadingRecord phase) = None
object_in (ReadingManifest least phase) = None
object_in (Fetching heads phase) = None
object_in (Listing heads versions) = None
object_in (Getting n listed found) = None
object_in (Bounding n listed found) = None
object_in (Advancing phase left counts) = None
object_in (Deleting left counts) = first_object left
object_in Over = None

abbrev pub to_delete : GcPhase → Option ObjectMetadata
to_delete (Removing work) = None
to_delete (Collecting at phase) = object_in phase

-- the objects whose deletes were answered, in order; a delete that faulted is one of them
abbrev pub deleted_along : Ways → PassSettings → GcGoes → List Answered → List ObjectMetadata
deleted_along ways settings goes [] = []
deleted_along ways settings (Stay p) (a ∷ answers) = option_to_list (to_delete p) ++ deleted_along ways settings (gc_goes ways settings a.1 p a.0) answers
deleted_along ways settings (End p r) (a ∷ answers) = []

-- ---- what is counted

-- the counts after the answer to one delete
abbrev pub with_delete : StoreAnswer → PassCounts → PassCounts
with_delete Fault counts = one_failed counts
with_delete answer counts = one_deleted counts

-- the counts after an answer: they move where a delete was due
abbrev pub counted : Option ObjectMetadata → StoreAnswer → PassCounts → PassCounts
counted None answer counts = counts
counted (Some m) answer counts = with_delete answer counts

-- the counts, moved by each answer to a delete that was due
abbrev pub counted_along : Ways → PassSettings → GcGoes → List Answered → PassCounts → PassCounts
counted_along ways settings goes [] counts = counts
counted_along ways settings (Stay p) (a ∷ answers) counts = counted_along ways settings (gc_goes ways settings a.1 p a.0) answers (counted (to_delete p) a.0 counts)
counted_along ways settings (End p r) (a ∷ answers) counts = counts

-- ---- what is picked

-- the objects that a pass picked, and how many objects its list found
pub record Chosen : Type 0 where
  pub objects : List ObjectMetadata
  pub listed : ℕ

-- the candidates that the filter allows, none in a dry run, of so many listed objects
abbrev pub chosen : Ways → PassSettings → ℕ → List ObjectMetadata → Chosen
chosen ways settings listed found = record { objects = picks ways.allows settings.options.dry_run found; listed = listed }

-- of what was listed, where the pass reads nothing after its list
abbrev pub picked_of_list : Ways → PassSettings → ℤ → Heads → List (ℕ × Manifest) → StoreAnswer → Option Chosen
picked_of_list ways settings now heads versions (Found found) =
    if reads_greatest settings.pass then None else Some (chosen ways settings (length found) (candidates ways.files settings.options.min_age now heads versions found settings.pass))
picked_of_list ways settings now heads versions (Got object) = None
picked_of_list ways settings now heads versions (Created tag) = None
picked_of_list ways settings now heads versions (Replaced tag) = None
picked_of_list ways settings now heads versions (Written tag) = None
picked_of_list ways settings now heads versions Deleted = None
picked_of_list ways settings now heads versions Fault = None

-- of the candidates, where the boundary is below the greatest manifest
abbrev pub picked_above : Ways → PassSettings → ℕ → ℕ → List ObjectMetadata → Option ℕ → Option Chosen
picked_above ways settings n listed found None = None
picked_above ways settings n listed found (Some boundary) = if nat_le n boundary then None else Some (chosen ways settings listed found)

abbrev pub picked_of_boundary : Ways → PassSettings → ℕ → ℕ → List ObjectMetadata → StoreAnswer → Option Chosen
picked_of_boundary ways settings n listed found (Got object) = picked_above ways settings n listed found (boundary_got object)
picked_of_boundary ways settings n listed found (Found listing) = None
picked_of_boundary ways settings n listed found (Created tag) = None
picked_of_boundary ways settings n listed found (Replaced tag) = None
picked_of_boundary ways settings n listed found (Written tag) = None
picked_of_boundary ways settings n listed found Deleted = None
picked_of_boundary ways settings n listed found Fault = None

-- what a pass picks of the answer that ends its reads
abbrev pub picked_in : Ways → PassSettings → ℤ → PassPhase → StoreAnswer → Option Chosen
picked_in ways settings now (ReadingRecord phase) answer = None
picked_in ways settings now (ReadingManifest least phase) answer = None
picked_in ways settings now (Fetching heads phase) answer = None
picked_in ways settings now (Listing heads versions) answer = picked_of_list ways settings now heads versions answer
picked_in ways settings now (Getting n listed found) answer = None
picked_in ways settings now (Bounding n listed found) answer = picked_of_boundary ways settings n listed found answer
picked_in ways settings now (Advancing phase left counts) answer = None
picked_in ways settings now (Deleting left counts) answer = None
picked_in ways settings now Over answer = None

abbrev pub picked_at : Ways → PassSettings → ℤ → GcPhase → StoreAnswer → Option Chosen
picked_at ways settings moment (Removing work) answer = None
picked_at ways settings moment (Collecting at phase) answer = picked_in ways settings (moment_of_pass at moment) phase answer

-- what a pass picked of what it read, along its answers; none before it has read all
abbrev pub picked_along : Ways → PassSettings → GcGoes → List Answered → Option Chosen
picked_along ways settings goes [] = None
picked_along ways settings (Stay p) (a ∷ answers) = option_or (picked_at ways settings a.1 p a.0) (picked_along ways settings (gc_goes ways settings a.1 p a.0) answers)
picked_along ways settings (End p r) (a ∷ answers) = None

-- nothing, of no listed objects, where none were picked
abbrev pub or_nothing : Option Chosen → Chosen
or_nothing None = record { objects = []; listed = 0 }
or_nothing (Some made) = made

-- the counts of a pass before its first delete
abbrev pub counts_before : PassSettings → Chosen → PassCounts
counts_before settings made = counts_of (length made.objects) (versions_in (log_of_pass settings.pass) made.listed)

-- a pass has deleted a front of what it picked, in order; where it ended without a refusal, all of it, and its counts are those of its
-- picks and of the versions that its list found, moved by the answers to its deletes
pub record IsExact (ways : Ways) (settings : PassSettings) (answers : List Answered) : Type 0 where
  pub left : List ObjectMetadata
  pub front : deleted_along ways settings (Stay gc_start) answers ++ left ≡ (or_nothing (picked_along ways settings (Stay gc_start) answers)).objects
  pub whole : (p : GcPhase) (counts : PassCounts) → stands_after ways settings (Stay gc_start) answers ≡ End p (Ok counts)
      → (left ≡ []) × (counts ≡ counted_along ways settings (Stay gc_start) answers (counts_before settings (or_nothing (picked_along ways settings (Stay gc_start) answers))))
