-- Referenced: get each version that a manifest's checkpoints name, once.
use Rattle.std.specs.Prelude.{◌≡◌, ℕ, ℤ, pos, Bool, true, false, List, [], ◌∷◌, drop, is_some, length, Option, Some, None, Result, Ok, Err}
use Rattle.std.specs.BTreeMap.{BTreeMap, insert_entry}
use Rattle.std.specs.Ordering.{nat_cmp}
use Rattle.slate_ids.specs.Answers.{OrMemory}
use Rattle.slate_ids.specs.declared.error.SlateDBError.{SlateDBError}
use Rattle.slate_ids.specs.declared.error.SlateDBError.TheVariants.{ManifestMissing, StoreFault}
use Rattle.slate_txn_log.specs.Commit.{never}
use Rattle.slate_txn_log.specs.LogPaths.{version_path, boundary_path}
use Rattle.slate_txn_log.specs.TryRead.{try_reply}
use Rattle.slate_txn_log.specs.declared.log_kind.LogKind.TheVariants as logs
use Rattle.slate_model.specs.declared.manifest.Manifest.{Manifest}
use Rattle.slate_store.specs.StoreCalls.{Told}
use Rattle.slate_store.specs.Machines.{Goes, Stay, End, Steps}
use Rattle.slate_store.specs.CallRuns.{Ran, Began}
use Rattle.slate_store.specs.declared.step.Step.{Step}
use Rattle.slate_store.specs.declared.step.Step.TheVariants.{Done}
use Rattle.slate_store.specs.declared.store_answer.StoreAnswer.{StoreAnswer}
use Rattle.slate_store.specs.declared.store_call.StoreCall.{StoreCall}
use Rattle.slate_store.specs.declared.store_call.StoreCall.TheVariants.{Get}
use Rattle.slate_state_referenced.specs.Named.{named_numbers}
use Rattle.slate_state_referenced.specs.declared.referenced_phase.ReferencedPhase.{ReferencedPhase}
use Rattle.slate_state_referenced.specs.declared.referenced_phase.ReferencedPhase.TheVariants.{Getting, Over}

-- versions by their numbers, ascending
abbrev pub Versions : Type 0
Versions = List (ℕ × Manifest)

-- the reading of the versions that a manifest's checkpoints name: the version itself is there
abbrev pub referenced_start : ℕ → Manifest → ReferencedPhase
referenced_start n m = Getting (named_numbers n m.core.checkpoints) ((n, m) ∷ [])

-- the first number that is left
abbrev pub first_number : List ℕ → Option ℕ
first_number [] = None
first_number (n ∷ ns) = Some n

-- the get of a number; nothing is asked where none is left
abbrev pub number_asks : List ℕ → Option ℕ → StoreCall
number_asks db (Some n) = Get (version_path logs.Manifest db n)
number_asks db None = Get (boundary_path logs.Manifest db)

-- the one call of each phase
abbrev pub referenced_asks : List ℕ → ReferencedPhase → StoreCall
referenced_asks db (Getting left found) = number_asks db (first_number left)
referenced_asks db Over = Get (boundary_path logs.Manifest db)

-- how the reading goes on
abbrev pub ReferencedGoes : Type 0
ReferencedGoes = Goes ReferencedPhase Versions

-- it ends where no number is left
abbrev pub rest_goes : List ℕ → Versions → ReferencedGoes
rest_goes [] found = End Over (Ok found)
rest_goes (n ∷ left) found = Stay (Getting (n ∷ left) found)

-- a version that isn't there ends it
abbrev pub number_goes : ℕ → List ℕ → Versions → Result (Option Manifest) SlateDBError → ReferencedGoes
number_goes n left found (Ok (Some m)) = rest_goes left (insert_entry nat_cmp found n m)
number_goes n left found (Ok None) = End Over (Err (ManifestMissing n))
number_goes n left found (Err e) = End Over (Err e)

-- the same of the number that is first, where there is one
abbrev pub first_goes : Option ℕ → List ℕ → Versions → Result (Option Manifest) SlateDBError → ReferencedGoes
first_goes (Some n) left found reply = number_goes n left found reply
first_goes None left found reply = End Over (Err StoreFault)

-- how it goes on from the answer; an answer to another call ends as a fault does
abbrev pub referenced_goes : (List ℕ → Result Manifest SlateDBError) → ReferencedPhase → StoreAnswer → ReferencedGoes
referenced_goes decoded (Getting left found) answer = first_goes (first_number left) (drop 1 left) found (try_reply decoded answer)
referenced_goes decoded Over answer = End Over (Err StoreFault)

-- whether a call is due
abbrev pub referenced_due : ReferencedPhase → Bool
referenced_due (Getting left found) = is_some (first_number left)
referenced_due Over = false

-- whether it has not ended
abbrev pub referenced_open : ReferencedPhase → Bool
referenced_open (Getting left found) = true
referenced_open Over = false

-- the gets that are left
abbrev pub referenced_rank : ReferencedPhase → ℕ
referenced_rank (Getting left found) = length left
referenced_rank Over = 0

-- it ends with what it has
abbrev pub found_goes : ReferencedPhase → ReferencedGoes
found_goes (Getting left found) = End Over (Ok found)
found_goes Over = End Over (Err StoreFault)

-- one fact where no number is left, and else another
abbrev pub IfNone : Option ℕ → Type 0 → Type 0 → Type 0
IfNone None P Q = P
IfNone (Some n) P Q = Q

-- what next does: where nothing is left to get it answers at once
abbrev pub ReferencedSteps : List ℕ → (List ℕ → Result Manifest SlateDBError) → Told → Told → ℤ → ReferencedPhase → ReferencedPhase → Step Versions → Type 0
ReferencedSteps db decoded old new moment (Getting left found) to step =
    IfNone (first_number left) ((new ≡ old) × (step ≡ Done (Ok found)) × (to ≡ Over))
    (Steps old new (referenced_asks db (Getting left found)) moment (referenced_goes decoded (Getting left found)) (Getting left found) to step)
ReferencedSteps db decoded old new moment Over to step = Unit {0}

-- a reading that is to get something ran
abbrev pub ReferencedRan : List ℕ → (List ℕ → Result Manifest SlateDBError) → Told → Told → ReferencedPhase → Result Versions SlateDBError → Type 0
ReferencedRan db decoded old new from result = (to : ReferencedPhase) × Ran never (referenced_asks db) (referenced_goes decoded) (pos 0) 1 old new from to result

-- memory ran out within it
abbrev pub ReferencedBegan : List ℕ → (List ℕ → Result Manifest SlateDBError) → Told → Told → ReferencedPhase → Type 0
ReferencedBegan db decoded old new from = (to : ReferencedPhase) × Began never (referenced_asks db) (referenced_goes decoded) (pos 0) 1 old new from to

-- a reading makes no call where nothing is left to get, and else runs to its end
abbrev pub ReadsAll : List ℕ → (List ℕ → Result Manifest SlateDBError) → Told → Told → ReferencedPhase → Result Versions SlateDBError → Type 0
ReadsAll db decoded old new (Getting left found) result =
    IfNone (first_number left) ((new ≡ old) × (result ≡ Ok found)) (OrMemory result (ReferencedBegan db decoded old new (Getting left found))
    (ReferencedRan db decoded old new (Getting left found) result))
ReadsAll db decoded old new Over result = Unit {0}

-- the versions that a manifest's checkpoints name were read, or memory ran out
abbrev pub Referenced : List ℕ → (List ℕ → Result Manifest SlateDBError) → ℕ → Manifest → Told → Told → Result Versions SlateDBError → Type 0
Referenced db decoded n m old new result = OrMemory result (new ≡ old) (ReadsAll db decoded old new (referenced_start n m) result)

-- the entries of a map
abbrev pub entries_of : Result (BTreeMap ℕ Manifest) SlateDBError → Result Versions SlateDBError
entries_of (Ok m) = Ok m.entries
entries_of (Err e) = Err e
