-- Steps and plain calls whose replies are told as others.
use Rattle.std.specs.Prelude.{◌≡◌, ℕ, ℤ, Bool, List, Option, Some, None, Result, Ok, Err, refl}
use Rattle.std.proofs.Common.{ap, sym, ◌∙◌, inl, inr}
use Rattle.slate_ids.specs.Answers.{OrMemory, ran_out}
use Rattle.slate_ids.specs.declared.error.SlateDBError.{SlateDBError}
use Rattle.slate_ids.specs.declared.error.SlateDBError.TheVariants.{StoreFault}
use Rattle.slate_txn_log.specs.Due.{FaultOf, FaultRose, StillDue}
use Rattle.slate_txn_log.specs.Once.{Once}
use Rattle.slate_txn_log.specs.ReadLatest.{Read, ReadBegan}
use Rattle.slate_txn_log.specs.declared.sequenced.Sequenced.{Sequenced}
use Rattle.slate_txn_log.specs.declared.try_read_phase.TryReadPhase.{TryReadPhase}
use Rattle.slate_txn_log.specs.declared.try_read_phase.TryReadPhase.TheVariants.{Getting, Over}
use Rattle.slate_store.specs.StoreCalls.{Told}
use Rattle.slate_store.specs.Machines.{Goes, Steps}
use Rattle.slate_store.specs.declared.step.Step.{Step}
use Rattle.slate_store.specs.declared.step.Step.TheVariants.{Again, Done}
use Rattle.slate_store.specs.declared.store_answer.StoreAnswer.{StoreAnswer}
use Rattle.slate_store.specs.declared.store_call.StoreCall.{StoreCall}
use Rattle.slate_txn_laws.specs.Replies.{goes_as, step_as, Faithful, MissingIsPlain, latest, latest_or_none, present, present_at, ReadAs}

-- a step whose reply is told as another
pub steps_as : {P A B : Type 0} (told_as : Result A SlateDBError → Result B SlateDBError) → Faithful told_as → (old new : Told) (call : StoreCall) (moment : ℤ) (goes : StoreAnswer → Goes P A) (from to : P) (step : Step A)
    → Steps old new call moment goes from to step → Steps old new call moment (λ answer. goes_as told_as (goes answer)) from to (step_as told_as step)
steps_as told_as faithful old new call moment goes from to Again h = record { answer = h.answer; makes = h.makes; gives = ap (goes_as told_as) h.gives }
steps_as told_as faithful old new call moment goes from to (Done r) (inl h) = inl (record { answer = h.answer; makes = h.makes; gives = ap (goes_as told_as) h.gives })
steps_as told_as faithful old new call moment goes from to (Done r) (inr m) = inr (faithful.memory r ∙ m.0, m.1)

-- a call is due after it exactly where one was
pub due_as : {A B : Type 0} (told_as : Result A SlateDBError → Result B SlateDBError) → Faithful told_as → (step : Step A) (due : Bool) → StillDue step due → StillDue (step_as told_as step) due
due_as told_as faithful Again due h = h
due_as told_as faithful (Done r) due h = h ∙ sym (faithful.memory r)

-- it is a fault only where it was
pub fault_as : {A B : Type 0} (told_as : Result A SlateDBError → Result B SlateDBError) → Faithful told_as → (old new : Told) (step : Step A) → FaultRose old new step → FaultRose old new (step_as told_as step)
fault_as told_as faithful old new Again h = λ same. absurd cc
fault_as told_as faithful old new (Done r) h = λ same. h (ap (λ (k : Result _ SlateDBError). Done k) (faithful.fault r (let both : told_as r ≡ Err StoreFault = cc in both)))

-- the same of a plain call
pub fault_of_as : {A B : Type 0} (told_as : Result A SlateDBError → Result B SlateDBError) → Faithful told_as → (old new : Told) (r : Result A SlateDBError) → FaultOf old new r → FaultOf old new (told_as r)
fault_of_as told_as faithful old new r h = λ same. h (faithful.fault r same)

-- a plain call of one store call
pub once_as : {A B : Type 0} (told_as : Result A SlateDBError → Result B SlateDBError) → Faithful told_as → (old new : Told) (call : StoreCall) (moment : ℤ) (reply : StoreAnswer → Result A SlateDBError) (r : Result A SlateDBError)
    → Once old new call moment reply r → Once old new call moment (λ answer. told_as (reply answer)) (told_as r)
once_as told_as faithful old new call moment reply r (inl h) = inl (record { answer = h.answer; makes = h.makes; gives = ap told_as h.gives })
once_as told_as faithful old new call moment reply r (inr m) = inr (faithful.memory r ∙ m.0, m.1)

-- ---- a version in place of its number and its value

latest_memory : {T V : Type 0} (version : ℕ × T → V) (r : Result (Option (ℕ × T)) SlateDBError) → ran_out (latest version r) ≡ ran_out r
latest_memory version (Ok (Some v)) = refl
latest_memory version (Ok None) = refl
latest_memory version (Err e) = refl

latest_fault : {T V : Type 0} (version : ℕ × T → V) (r : Result (Option (ℕ × T)) SlateDBError) → latest version r ≡ Err StoreFault → r ≡ Err StoreFault
latest_fault version (Ok (Some v)) h = absurd cc
latest_fault version (Ok None) h = absurd cc
latest_fault version (Err e) h = let both : e ≡ StoreFault = cc in ap (λ (k : SlateDBError). Err k) both

pub latest_faithful : {T V : Type 0} (version : ℕ × T → V) → Faithful (latest version)
latest_faithful version = record { memory = latest_memory version; fault = latest_fault version }

none_memory : {T V : Type 0} (version : ℕ × T → V) (r : Result (Option (ℕ × T)) SlateDBError) → ran_out (latest_or_none version r) ≡ ran_out r
none_memory version (Ok (Some v)) = refl
none_memory version (Ok None) = refl
none_memory version (Err e) = refl

none_fault : {T V : Type 0} (version : ℕ × T → V) (r : Result (Option (ℕ × T)) SlateDBError) → latest_or_none version r ≡ Err StoreFault → r ≡ Err StoreFault
none_fault version (Ok (Some v)) h = absurd cc
none_fault version (Ok None) h = absurd cc
none_fault version (Err e) h = let both : e ≡ StoreFault = cc in ap (λ (k : SlateDBError). Err k) both

pub latest_or_none_faithful : {T V : Type 0} (version : ℕ × T → V) → Faithful (latest_or_none version)
latest_or_none_faithful version = record { memory = none_memory version; fault = none_fault version }

-- ---- a value that has to be there

present_memory : {T : Type 0} (missing : ℕ → SlateDBError) → MissingIsPlain missing → (n : ℕ) (r : Result (Option T) SlateDBError) → ran_out (present missing n r) ≡ ran_out r
present_memory missing fine n (Ok (Some v)) = refl
present_memory missing fine n (Ok None) = fine.memory n
present_memory missing fine n (Err e) = refl

present_fault : {T : Type 0} (missing : ℕ → SlateDBError) → MissingIsPlain missing → (n : ℕ) (r : Result (Option T) SlateDBError) → present missing n r ≡ Err StoreFault → r ≡ Err StoreFault
present_fault missing fine n (Ok (Some v)) h = absurd cc
present_fault missing fine n (Ok None) h = absurd (fine.fault n (let both : missing n ≡ StoreFault = cc in both))
present_fault missing fine n (Err e) h = let both : e ≡ StoreFault = cc in ap (λ (k : SlateDBError). Err k) both

pub present_faithful : {T : Type 0} (missing : ℕ → SlateDBError) → MissingIsPlain missing → (n : ℕ) → Faithful {A = Option T} {B = T} (present missing n)
present_faithful missing fine n = record { memory = present_memory missing fine n; fault = present_fault missing fine n }

pub present_at_faithful : {T : Type 0} (missing : ℕ → SlateDBError) → MissingIsPlain missing → (p : TryReadPhase) → Faithful {A = Option T} {B = T} (present_at missing p)
present_at_faithful missing fine (Getting n) = present_faithful missing fine n
present_at_faithful missing fine Over = present_faithful missing fine 0

-- a read of the latest version
pub read_as : {T C A : Type 0} (decoded : C → List ℕ → Result T SlateDBError) (told_as : Result (Option (ℕ × T)) SlateDBError → Result A SlateDBError) → Faithful told_as → (sequenced : Sequenced T C) (tries : ℕ) (old new : Told) (r : Result (Option (ℕ × T)) SlateDBError)
    → OrMemory r (ReadBegan decoded sequenced tries old new) (Read decoded sequenced tries old new r) → ReadAs decoded told_as sequenced tries old new (told_as r)
read_as decoded told_as faithful sequenced tries old new r (inl read) = inl (r, read, refl)
read_as decoded told_as faithful sequenced tries old new r (inr m) = inr (faithful.memory r ∙ m.0, m.1)
