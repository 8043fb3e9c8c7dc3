-- Reading the latest versions of two logs: the one log's is read to its end, and then the other's.
use Rattle.std.specs.Prelude.{◌≡◌, ◌⊎◌, ◌<◌, ◌+◌, ℕ, pos, Bool, true, false, List, Option, Result, Ok, Err}
use Rattle.slate_ids.specs.declared.error.SlateDBError.{SlateDBError}
use Rattle.slate_ids.specs.declared.error.SlateDBError.TheVariants.{StoreFault}
use Rattle.slate_store.specs.StoreCalls.{Told}
use Rattle.slate_store.specs.Machines.{Goes, Stay, End}
use Rattle.slate_store.specs.CallRuns.{Ran, Began}
use Rattle.slate_store.specs.declared.store_answer.StoreAnswer.{StoreAnswer}
use Rattle.slate_store.specs.declared.store_call.StoreCall.{StoreCall}
use Rattle.slate_txn_log.specs.ReadPhase.{read_asks, read_goes, read_due, is_listing, rank}
use Rattle.slate_txn_log.specs.declared.read_phase.ReadPhase.{ReadPhase}
use Rattle.slate_txn_log.specs.declared.read_phase.ReadPhase.TheVariants.{Listing}
use Rattle.slate_txn_log.specs.declared.sequenced.Sequenced.{Sequenced}
use Rattle.slate_state_reader.specs.declared.both_phase.Both.{Both}
use Rattle.slate_state_reader.specs.declared.both_phase.BothPhase.{BothPhase}
use Rattle.slate_state_reader.specs.declared.both_phase.BothPhase.TheVariants.{First, Between, Second, Over}

-- how such a read goes on
abbrev pub BothGoes : Type 0 → Type 0 → Type 0
BothGoes T V = Goes (BothPhase T V) (Both T V)

-- after a step of the first read: its end leads to the other log
abbrev pub after_first : {T V : Type 0} → Goes (ReadPhase T) (Option (ℕ × T)) → BothGoes T V
after_first (Stay read) = Stay (First read)
after_first (End read (Ok one)) = Stay (Between one)
after_first (End read (Err e)) = End Over (Err e)

-- after a step of the second read: its end is the end of both
abbrev pub after_second : {T V : Type 0} → Option (ℕ × T) → Goes (ReadPhase V) (Option (ℕ × V)) → BothGoes T V
after_second one (Stay read) = Stay (Second one read)
after_second one (End read (Ok other)) = End Over (Ok (record { one = one; other = other }))
after_second one (End read (Err e)) = End Over (Err e)

-- the one call of each phase
abbrev pub both_asks : {T C V D : Type 0} → Sequenced T C → Sequenced V D → BothPhase T V → StoreCall
both_asks first second (First read) = read_asks first.db first.log read
both_asks {V = V} first second (Between one) = read_asks {T = V} second.db second.log Listing
both_asks first second (Second one read) = read_asks second.db second.log read
both_asks {T = T} first second Over = read_asks {T = T} first.db first.log Listing

-- how it goes on from the answer; an answer to another call ends as a fault does
abbrev pub both_goes : {T C V D : Type 0} → (C → List ℕ → Result T SlateDBError) → (D → List ℕ → Result V SlateDBError) → Sequenced T C → Sequenced V D → BothPhase T V → StoreAnswer → BothGoes T V
both_goes one_decoded other_decoded first second (First read) answer = after_first (read_goes first.log (one_decoded first.codec) read answer)
both_goes one_decoded other_decoded first second (Between one) answer = after_second one (read_goes second.log (other_decoded second.codec) Listing answer)
both_goes one_decoded other_decoded first second (Second one read) answer = after_second one (read_goes second.log (other_decoded second.codec) read answer)
both_goes one_decoded other_decoded first second Over answer = End Over (Err StoreFault)

-- whether a call is due
abbrev pub both_due : {T V : Type 0} → BothPhase T V → Bool
both_due (First read) = read_due read
both_due (Between one) = true
both_due (Second one read) = read_due read
both_due Over = false

-- whether the versions of a log are to be listed again
abbrev pub both_starts : {T V : Type 0} → BothPhase T V → Bool
both_starts (First read) = is_listing read
both_starts (Between one) = false
both_starts (Second one read) = is_listing read
both_starts Over = false

-- the steps of a try that are left
abbrev pub both_rank : {T V : Type 0} → BothPhase T V → ℕ
both_rank (First read) = rank read + 4
both_rank (Between one) = 4
both_rank (Second one read) = rank read
both_rank Over = 0

-- a step starts again, or fewer steps are left
abbrev pub BothFalls : {T V : Type 0} → BothPhase T V → BothPhase T V → Type 0
BothFalls old new = (both_starts new ≡ true) ⊎ (both_rank new < both_rank old)

-- both were read, with so many tries
abbrev pub BothRan : {T C V D : Type 0} → (C → List ℕ → Result T SlateDBError) → (D → List ℕ → Result V SlateDBError) → Sequenced T C → Sequenced V D
    → ℕ → Told → Told → Result (Both T V) SlateDBError → Type 0
BothRan one_decoded other_decoded first second tries old new result =
    (to : BothPhase _ _) × Ran both_starts (both_asks first second) (both_goes one_decoded other_decoded first second) (pos 0) tries old new (First Listing) to result

-- memory ran out within it
abbrev pub BothBegan : {T C V D : Type 0} → (C → List ℕ → Result T SlateDBError) → (D → List ℕ → Result V SlateDBError) → Sequenced T C → Sequenced V D → ℕ → Told → Told → Type 0
BothBegan one_decoded other_decoded first second tries old new =
    (to : BothPhase _ _) × Began both_starts (both_asks first second) (both_goes one_decoded other_decoded first second) (pos 0) tries old new (First Listing) to
