-- Read: list, get the greatest, get the boundary.
use Rattle.std.specs.Prelude.{◌≡◌, ℕ, List, Option, Some, None, Result, Ok, Err, nat_le, ◌<◌, Bool, true, false, if◌then◌else◌}
use Rattle.slate_ids.specs.declared.error.SlateDBError.{SlateDBError}
use Rattle.slate_ids.specs.declared.error.SlateDBError.TheVariants.{StoreFault, Corrupt}
use Rattle.slate_ids.specs.declared.error.FormatName.TheVariants.{Boundary as BoundaryFormat}
use Rattle.slate_store.specs.declared.store_call.StoreCall.{StoreCall}
use Rattle.slate_store.specs.declared.store_call.StoreCall.TheVariants.{List as ListCall, Get}
use Rattle.slate_store.specs.declared.object.StoredObject.{StoredObject}
use Rattle.slate_store.specs.declared.store_answer.StoreAnswer.{StoreAnswer}
use Rattle.slate_store.specs.declared.store_answer.StoreAnswer.TheVariants.{Found, Got}
use Rattle.slate_store.specs.declared.step.Step.{Step}
use Rattle.slate_store.specs.declared.step.Step.TheVariants.{Done}
use Rattle.slate_store.specs.Machines.{Goes, Stay, End}
use Rattle.slate_txn_log.specs.Boundary.{boundary_got, greatest}
use Rattle.slate_txn_log.specs.LogPaths.{version_path, boundary_path, folder}
use Rattle.slate_txn_log.specs.declared.log_kind.LogKind.{LogKind}
use Rattle.slate_txn_log.specs.declared.read_phase.ReadPhase.{ReadPhase}
use Rattle.slate_txn_log.specs.declared.read_phase.ReadPhase.TheVariants.{Listing, Getting, Bounding, Over}

-- the one call of each phase
abbrev pub read_asks : {T : Type 0} → List ℕ → LogKind → ReadPhase T → StoreCall
read_asks db log Listing = ListCall (folder log db)
read_asks db log (Getting n) = Get (version_path log db n)
read_asks db log (Bounding n value) = Get (boundary_path log db)
read_asks db log Over = ListCall (folder log db)

-- how a read goes on
abbrev pub Reply : Type 0 → Type 0
Reply T = Goes (ReadPhase T) (Option (ℕ × T))

-- no version is no value; else the greatest is got
abbrev pub listed_goes : {T : Type 0} → Option ℕ → Reply T
listed_goes None = End Over (Ok None)
listed_goes (Some n) = Stay (Getting n)

-- after the codec: its refusal ends the read
abbrev pub decoded_goes : {T : Type 0} → ℕ → Result T SlateDBError → Reply T
decoded_goes n (Ok value) = Stay (Bounding n value)
decoded_goes n (Err e) = End Over (Err e)

-- a version that is gone starts the read again
abbrev pub got_goes : {T : Type 0} → (List ℕ → Result T SlateDBError) → ℕ → Option StoredObject → Reply T
got_goes decoded n None = Stay Listing
got_goes decoded n (Some object) = decoded_goes n (decoded object.bytes)

-- a number at or below the boundary counts as gone
abbrev pub above_goes : {T : Type 0} → ℕ → T → ℕ → Reply T
above_goes n value boundary = if nat_le n boundary then Stay Listing else End Over (Ok (Some (n, value)))

-- a boundary that is none ends the read
abbrev pub boundary_goes : {T : Type 0} → ℕ → T → Option ℕ → Reply T
boundary_goes n value None = End Over (Err (Corrupt BoundaryFormat))
boundary_goes n value (Some boundary) = above_goes n value boundary

-- how the read goes on from the answer; an answer to another call ends as a fault does
abbrev pub read_goes : {T : Type 0} → LogKind → (List ℕ → Result T SlateDBError) → ReadPhase T → StoreAnswer → Reply T
read_goes log decoded Listing (Found metadata) = listed_goes (greatest log metadata)
read_goes log decoded (Getting n) (Got object) = got_goes decoded n object
read_goes log decoded (Bounding n value) (Got object) = boundary_goes n value (boundary_got object)
read_goes log decoded phase answer = End Over (Err StoreFault)

-- whether a call is due
abbrev pub read_due : {T : Type 0} → ReadPhase T → Bool
read_due Listing = true
read_due (Getting n) = true
read_due (Bounding n value) = true
read_due Over = false

-- whether the versions are to be listed
abbrev pub is_listing : {T : Type 0} → ReadPhase T → Bool
is_listing Listing = true
is_listing (Getting n) = false
is_listing (Bounding n value) = false
is_listing Over = false

-- the steps of a try that are left
abbrev pub rank : {T : Type 0} → ReadPhase T → ℕ
rank Listing = 3
rank (Getting n) = 2
rank (Bounding n value) = 1
rank Over = 0

-- a step starts again, or fewer steps are left
abbrev pub Falls : {T : Type 0} → ReadPhase T → ReadPhase T → Type 0
Falls old Listing = Unit {0}
Falls old new = rank new < rank old

-- a version is given where its boundary was read
abbrev pub AtVersion : {T : Type 0} → Step (Option (ℕ × T)) → ReadPhase T → Type 0
AtVersion (Done (Ok (Some version))) from = from ≡ Bounding version.0 version.1
AtVersion _ from = Unit {0}
