-- Reading one version by its number.
use Rattle.std.specs.Prelude.{ℕ, List, Bool, true, false, Option, Some, None, Result, Ok, Err}
use Rattle.slate_ids.specs.declared.error.SlateDBError.{SlateDBError}
use Rattle.slate_ids.specs.declared.error.SlateDBError.TheVariants.{StoreFault}
use Rattle.slate_store.specs.declared.object.StoredObject.{StoredObject}
use Rattle.slate_store.specs.declared.store_call.StoreCall.{StoreCall}
use Rattle.slate_store.specs.declared.store_call.StoreCall.TheVariants.{Get}
use Rattle.slate_store.specs.declared.store_answer.StoreAnswer.{StoreAnswer}
use Rattle.slate_store.specs.declared.store_answer.StoreAnswer.TheVariants.{Got}
use Rattle.slate_store.specs.Machines.{Goes, End}
use Rattle.slate_txn_log.specs.LogPaths.{version_path, boundary_path}
use Rattle.slate_txn_log.specs.declared.log_kind.LogKind.{LogKind}
use Rattle.slate_txn_log.specs.declared.try_read_phase.TryReadPhase.{TryReadPhase}
use Rattle.slate_txn_log.specs.declared.try_read_phase.TryReadPhase.TheVariants.{Getting, Over}

-- a value, where it is not refused
abbrev pub some_value : {T : Type 0} → Result T SlateDBError → Result (Option T) SlateDBError
some_value (Ok value) = Ok (Some value)
some_value (Err e) = Err e

-- the value of the object that was got
abbrev pub value_got : {T : Type 0} → (List ℕ → Result T SlateDBError) → Option StoredObject → Result (Option T) SlateDBError
value_got decoded None = Ok None
value_got decoded (Some object) = some_value (decoded object.bytes)

-- the value of the version, or none where it isn't there
abbrev pub try_reply : {T : Type 0} → (List ℕ → Result T SlateDBError) → StoreAnswer → Result (Option T) SlateDBError
try_reply decoded (Got object) = value_got decoded object
try_reply decoded answer = Err StoreFault

-- the one call
abbrev pub try_asks : List ℕ → LogKind → TryReadPhase → StoreCall
try_asks db log (Getting n) = Get (version_path log db n)
try_asks db log Over = Get (boundary_path log db)

-- how it ends
abbrev pub try_goes : {T : Type 0} → (List ℕ → Result T SlateDBError) → TryReadPhase → StoreAnswer → Goes TryReadPhase (Option T)
try_goes decoded (Getting n) answer = End Over (try_reply decoded answer)
try_goes decoded Over answer = End Over (Err StoreFault)

-- whether the call is due
abbrev pub try_due : TryReadPhase → Bool
try_due (Getting n) = true
try_due Over = false
