-- The versions of a log that a list has, ascending by number.
use Rattle.std.specs.Prelude.{◌≡◌, ◌≤◌, ℕ, ◌+◌, Bool, true, false, nat_le, List, [], ◌∷◌, Option, Some, None, Result, Ok, Err, Vec, if◌then◌else◌}
use Rattle.std.specs.declared.alloc.Global.{Global}
use Rattle.slate_ids.specs.Ranges.{is_within}
use Rattle.slate_ids.specs.declared.error.SlateDBError.{SlateDBError}
use Rattle.slate_ids.specs.declared.error.SlateDBError.TheVariants.{StoreFault}
use Rattle.slate_ids.specs.declared.number_range.NumberRange.{NumberRange}
use Rattle.slate_store.specs.declared.object.ObjectMetadata.{ObjectMetadata}
use Rattle.slate_store.specs.declared.store_call.StoreCall.{StoreCall}
use Rattle.slate_store.specs.declared.store_call.StoreCall.TheVariants.{List as ListCall}
use Rattle.slate_store.specs.declared.store_answer.StoreAnswer.{StoreAnswer}
use Rattle.slate_store.specs.declared.store_answer.StoreAnswer.TheVariants.{Found}
use Rattle.slate_store.specs.Machines.{Goes, End}
use Rattle.slate_txn_log.specs.LogPaths.{number_of, folder}
use Rattle.slate_txn_log.specs.declared.log_kind.LogKind.{LogKind}
use Rattle.slate_txn_log.specs.declared.list_phase.ListPhase.{ListPhase}
use Rattle.slate_txn_log.specs.declared.list_phase.ListPhase.TheVariants.{Listing, Over}

-- a number and what is told of its object
abbrev pub Version : Type 0
Version = ℕ × ObjectMetadata

-- a version put in its place among ascending ones, after its equals
abbrev pub put_in : Version → List Version → List Version
put_in v [] = v ∷ []
put_in v (w ∷ ws) = if nat_le w.0 v.0 then w ∷ put_in v ws else v ∷ w ∷ ws

-- how many of the first ones stand before a number
abbrev pub place : ℕ → List Version → ℕ
place n [] = 0
place n (w ∷ ws) = if nat_le w.0 n then place n ws + 1 else 0

-- with an object, where it is a version in the range
abbrev pub kept_with : NumberRange → List Version → ObjectMetadata → Option ℕ → List Version
kept_with r kept m None = kept
kept_with r kept m (Some n) = if is_within r n then put_in (n, m) kept else kept

-- those of a list, put in among the ones kept so far
abbrev pub versions_from : LogKind → NumberRange → List Version → List ObjectMetadata → List Version
versions_from log r kept [] = kept
versions_from log r kept (m ∷ ms) = versions_from log r (kept_with r kept m (number_of log m.location)) ms

-- the versions of this log with numbers in the range, ascending
abbrev pub versions_in : LogKind → NumberRange → List ObjectMetadata → List Version
versions_in log r found = versions_from log r [] found

-- what the list replies
abbrev pub list_reply : LogKind → NumberRange → StoreAnswer → Result (List Version) SlateDBError
list_reply log r (Found found) = Ok (versions_in log r found)
list_reply log r answer = Err StoreFault

-- the one call
abbrev pub list_asks : List ℕ → LogKind → StoreCall
list_asks db log = ListCall (folder log db)

-- how it ends
abbrev pub list_goes : LogKind → ListPhase → StoreAnswer → Goes ListPhase (List Version)
list_goes log (Listing r) answer = End Over (list_reply log r answer)
list_goes log Over answer = End Over (Err StoreFault)

-- whether the call is due
abbrev pub list_due : ListPhase → Bool
list_due (Listing r) = true
list_due Over = false

-- the versions of a vector
abbrev pub versions_of : Result (Vec Version Global) SlateDBError → Result (List Version) SlateDBError
versions_of (Ok v) = Ok v.items
versions_of (Err e) = Err e

-- each number is at most every later one
abbrev pub AtMostAll : ℕ → List Version → Type 0
AtMostAll n [] = Unit {0}
AtMostAll n (w ∷ ws) = (n ≤ w.0) × AtMostAll n ws

-- the numbers ascend
abbrev pub Ascending : List Version → Type 0
Ascending [] = Unit {0}
Ascending (w ∷ ws) = AtMostAll w.0 ws × Ascending ws

-- each number is in the range
abbrev pub Within : NumberRange → List Version → Type 0
Within r [] = Unit {0}
Within r (w ∷ ws) = (is_within r w.0 ≡ true) × Within r ws
