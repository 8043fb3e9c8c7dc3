-- Advance: get the boundary, and where it is below a number put that number in its place.
use Rattle.std.specs.Prelude.{ℕ, ◌<◌, ◌==◌, Bool, true, false, List, Option, Some, None, Ok, Err, nat_le, decimal, if◌then◌else◌}
use Rattle.slate_ids.specs.declared.error.SlateDBError.TheVariants.{StoreFault, Corrupt}
use Rattle.slate_ids.specs.declared.error.FormatName.TheVariants.{Boundary as BoundaryFormat}
use Rattle.slate_store.specs.declared.object.StoredObject.{StoredObject}
use Rattle.slate_store.specs.declared.store_call.StoreCall.{StoreCall}
use Rattle.slate_store.specs.declared.store_call.StoreCall.TheVariants.{Get, PutNew, Replace}
use Rattle.slate_store.specs.declared.store_answer.StoreAnswer.{StoreAnswer}
use Rattle.slate_store.specs.declared.store_answer.StoreAnswer.TheVariants.{Got, Created, Replaced}
use Rattle.slate_store.specs.Machines.{Goes, Stay, End}
use Rattle.slate_txn_log.specs.Boundary.{boundary_of}
use Rattle.slate_txn_log.specs.LogPaths.{boundary_path}
use Rattle.slate_txn_log.specs.declared.advance_phase.AdvancePhase.{AdvancePhase}
use Rattle.slate_txn_log.specs.declared.advance_phase.AdvancePhase.TheVariants.{Bounding, Creating, Replacing, Over}
use Rattle.slate_txn_log.specs.declared.log_kind.LogKind.{LogKind}

-- the one call of each phase
abbrev pub advance_asks : List ℕ → LogKind → AdvancePhase → StoreCall
advance_asks db log (Bounding n) = Get (boundary_path log db)
advance_asks db log (Creating n) = PutNew (boundary_path log db) (decimal n)
advance_asks db log (Replacing n tag) = Replace (boundary_path log db) tag (decimal n)
advance_asks db log Over = Get (boundary_path log db)

-- how an advance goes on
abbrev pub AdvanceGoes : Type 0
AdvanceGoes = Goes AdvancePhase (Unit {0})

-- it is reached where the boundary is at least the number, and else the object of this tag is to be replaced
abbrev pub read_goes_to : ℕ → ℕ → Option ℕ → AdvanceGoes
read_goes_to n tag None = End Over (Err (Corrupt BoundaryFormat))
read_goes_to n tag (Some boundary) = if nat_le n boundary then End Over (Ok tt) else Stay (Replacing n tag)

-- an absent boundary is 0
abbrev pub bound_goes : ℕ → Option StoredObject → AdvanceGoes
bound_goes n None = if n == 0 then End Over (Ok tt) else Stay (Creating n)
bound_goes n (Some object) = read_goes_to n object.e_tag (boundary_of object.bytes)

-- a write that had no place lost a race, and the advance starts again
abbrev pub written_goes : ℕ → Option ℕ → AdvanceGoes
written_goes n None = Stay (Bounding n)
written_goes n (Some tag) = End Over (Ok tt)

-- how the advance goes on from the answer; an answer to another call ends as a fault does
abbrev pub advance_goes : AdvancePhase → StoreAnswer → AdvanceGoes
advance_goes (Bounding n) (Got object) = bound_goes n object
advance_goes (Creating n) (Created tag) = written_goes n tag
advance_goes (Replacing n old) (Replaced tag) = written_goes n tag
advance_goes phase answer = End Over (Err StoreFault)

-- whether a call is due
abbrev pub advance_due : AdvancePhase → Bool
advance_due (Bounding n) = true
advance_due (Creating n) = true
advance_due (Replacing n tag) = true
advance_due Over = false

-- whether the boundary is to be got
abbrev pub is_bounding : AdvancePhase → Bool
is_bounding (Bounding n) = true
is_bounding (Creating n) = false
is_bounding (Replacing n tag) = false
is_bounding Over = false

-- the steps of a try that are left
abbrev pub advance_rank : AdvancePhase → ℕ
advance_rank (Bounding n) = 2
advance_rank (Creating n) = 1
advance_rank (Replacing n tag) = 1
advance_rank Over = 0

-- a step starts again, or fewer steps are left
abbrev pub AdvanceFalls : AdvancePhase → AdvancePhase → Type 0
AdvanceFalls old (Bounding n) = Unit {0}
AdvanceFalls old new = advance_rank new < advance_rank old
