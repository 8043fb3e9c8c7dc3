-- From a read to a refresh.
use Rattle.std.proofs.Common.{◌≡◌, ℤ, ℕ, true, false, List, Option, Some, None, Result, Ok, Err, inl, inr, ap, sym, subst, ◌∙◌, refl}
use Rattle.std.specs.Prelude.{OnErr}
use Rattle.slate_ids.specs.Answers.{OrMemory, ran_out}
use Rattle.slate_ids.specs.declared.error.SlateDBError.{SlateDBError}
use Rattle.slate_ids.specs.declared.error.SlateDBError.TheVariants.{Fenced, StoreFault}
use Rattle.slate_store.specs.StoreCalls.{Told}
use Rattle.slate_store.specs.Machines.{Steps}
use Rattle.slate_store.specs.declared.step.Step.{Step}
use Rattle.slate_store.specs.declared.step.Step.TheVariants.{Again, Done}
use Rattle.slate_txn_log.specs.Due.{FaultOf, FaultRose, NoFault}
use Rattle.slate_txn_log.specs.ReadPhase.{read_asks, read_goes}
use Rattle.slate_txn_log.specs.ReadLatest.{Read, ReadBegan}
use Rattle.slate_txn_log.specs.declared.read_phase.ReadPhase.{ReadPhase}
use Rattle.slate_txn_log.specs.declared.sequenced.Sequenced.{Sequenced}
use Rattle.slate_txn.proofs.Fences.{ran_free, step_free, read_free}
use Rattle.slate_txn.specs.Fencing.{NoFence, NotFenced, NotFencedStep}
use Rattle.slate_txn.specs.Holder.{Holder}
use Rattle.slate_txn.specs.Refreshing.{Refreshes, held_after, held_after_step, refreshed, refreshed_step, refresh_asks, refresh_on, refresh_goes}

-- a read that ran is a refresh
pub refreshes : {T C R : Type 0} (decoded : C → List ℕ → Result T SlateDBError) (tries : ℕ) (old new : Told) (inside from to : Holder T C R) (reply : Result (Option (ℕ × T)) SlateDBError) (result : Result (Unit {0}) SlateDBError)
    → inside ≡ from → OrMemory reply (ReadBegan decoded inside.sequenced tries old new) (Read decoded inside.sequenced tries old new reply) → to ≡ held_after from reply → result ≡ refreshed reply
    → Refreshes decoded tries old new from to result
refreshes decoded tries old new inside from to reply result same (inl read) held answers =
    inl (record { reply = reply; read = subst (λ (h : Holder _ _ _). Read decoded h.sequenced tries old new reply) same read; held = held; answers = answers })
refreshes decoded tries old new inside from to (Ok found) result same (inr m) held answers = absurd (let out : false ≡ true = m.0 in cc)
refreshes decoded tries old new inside from to (Err e) result same (inr m) held answers =
    inr (ap ran_out answers ∙ m.0, (subst (λ (h : Holder _ _ _). ReadBegan decoded h.sequenced tries old new) same m.1, held))

kept_at : {T C R : Type 0} (from : Holder T C R) (reply : Result (Option (ℕ × T)) SlateDBError) → OnErr (refreshed reply) (held_after from reply ≡ from)
kept_at from (Ok (Some version)) = tt
kept_at from (Ok None) = refl
kept_at from (Err e) = refl

-- after a refusal the holder is unchanged
pub refresh_kept : {T C R : Type 0} (from to : Holder T C R) (reply : Result (Option (ℕ × T)) SlateDBError) (result : Result (Unit {0}) SlateDBError) → to ≡ held_after from reply → result ≡ refreshed reply → OnErr result (to ≡ from)
refresh_kept from to reply result held answers =
    subst (λ (h : Holder _ _ _). OnErr result (h ≡ from)) (sym held) (subst (λ (r : Result (Unit {0}) SlateDBError). OnErr r (held_after from reply ≡ from)) (sym answers) (kept_at from reply))

fault_of_read : {T : Type 0} (reply : Result (Option (ℕ × T)) SlateDBError) → refreshed reply ≡ Err StoreFault → reply ≡ Err StoreFault
fault_of_read (Ok (Some version)) same = absurd cc
fault_of_read (Ok None) same = absurd cc
fault_of_read (Err e) same = let is : e ≡ StoreFault = cc in ap (λ (k : SlateDBError). Err k) is

-- a fault is one of the read
pub refresh_fault : {T C R : Type 0} (decoded : C → List ℕ → Result T SlateDBError) (old new : Told) (inside from : Holder T C R) (reply : Result (Option (ℕ × T)) SlateDBError) (result : Result (Unit {0}) SlateDBError)
    → inside ≡ from → (NoFault (decoded inside.sequenced.codec) → FaultOf old new reply) → result ≡ refreshed reply → NoFault (decoded from.sequenced.codec) → FaultOf old new result
refresh_fault decoded old new inside from reply result same rose answers good = λ fault.
    rose (subst (λ (h : Holder _ _ _). NoFault (decoded h.sequenced.codec)) (sym same) good) (fault_of_read reply (sym answers ∙ fault))

fault_of_step : {T : Type 0} (step : Step (Option (ℕ × T))) → refreshed_step step ≡ Done (Err StoreFault) → step ≡ Done (Err StoreFault)
fault_of_step Again same = absurd cc
fault_of_step (Done reply) same = let is : refreshed reply ≡ Err StoreFault = cc in ap (λ (r : Result _ SlateDBError). Done r) (fault_of_read reply is)

-- and so in a step
pub step_fault : {T C R : Type 0} (decoded : C → List ℕ → Result T SlateDBError) (old new : Told) (inside from : Holder T C R) (step : Step (Option (ℕ × T))) (result : Step (Unit {0}))
    → inside ≡ from → (NoFault (decoded inside.sequenced.codec) → FaultRose old new step) → result ≡ refreshed_step step → NoFault (decoded from.sequenced.codec) → FaultRose old new result
step_fault decoded old new inside from step result same rose answers good = λ fault.
    rose (subst (λ (h : Holder _ _ _). NoFault (decoded h.sequenced.codec)) (sym same) good) (fault_of_step step (sym answers ∙ fault))

fence_of_read : {T : Type 0} (reply : Result (Option (ℕ × T)) SlateDBError) → NotFenced reply → NotFenced (refreshed reply)
fence_of_read (Ok (Some version)) free = λ own read same. absurd cc
fence_of_read (Ok None) free = λ own read same. absurd cc
fence_of_read (Err e) free = λ own read same. (let is : e ≡ Fenced own read = cc in free own read (ap (λ (k : SlateDBError). Err k) is))

read_not_fenced : {T C : Type 0} (decoded : C → List ℕ → Result T SlateDBError) (sequenced : Sequenced T C) (tries : ℕ) (old new : Told) (reply : Result (Option (ℕ × T)) SlateDBError)
    → OrMemory reply (ReadBegan decoded sequenced tries old new) (Read decoded sequenced tries old new reply) → NoFence (decoded sequenced.codec) → NotFenced reply
read_not_fenced decoded sequenced tries old new reply (inl read) good = ran_free (read_free sequenced.db sequenced.log (decoded sequenced.codec) good) read.1
read_not_fenced decoded sequenced tries old new reply (inr m) good = λ own read same. absurd (let not : ran_out reply ≡ false = ap ran_out same in let out : ran_out reply ≡ true = m.0 in cc)

-- a refresh of a holder without a fence doesn't answer Fenced
pub refresh_free : {T C R : Type 0} (decoded : C → List ℕ → Result T SlateDBError) (tries : ℕ) (old new : Told) (inside from : Holder T C R) (reply : Result (Option (ℕ × T)) SlateDBError) (result : Result (Unit {0}) SlateDBError)
    → inside ≡ from → OrMemory reply (ReadBegan decoded inside.sequenced tries old new) (Read decoded inside.sequenced tries old new reply) → result ≡ refreshed reply → NoFence (decoded from.sequenced.codec) → NotFenced result
refresh_free decoded tries old new inside from reply result same ran answers good =
    subst (λ (r : Result (Unit {0}) SlateDBError). NotFenced r) (sym answers)
    (fence_of_read reply (read_not_fenced decoded inside.sequenced tries old new reply ran (subst (λ (h : Holder _ _ _). NoFence (decoded h.sequenced.codec)) (sym same) good)))

free_step : {T : Type 0} (step : Step (Option (ℕ × T))) → NotFencedStep step → NotFencedStep (refreshed_step step)
free_step Again free = λ own read same. absurd cc
free_step (Done reply) free = λ own read same.
    let is : refreshed reply ≡ Err (Fenced own read) = cc in fence_of_read reply (λ m n h. free m n (ap (λ (r : Result _ SlateDBError). Done r) h)) own read is

-- nor does a step of it
pub next_free : {T C R : Type 0} (decoded : C → List ℕ → Result T SlateDBError) (old new : Told) (moment : ℤ) (inside from : Holder T C R) (p q : ReadPhase T) (step : Step (Option (ℕ × T))) (result : Step (Unit {0}))
    → inside ≡ from → Steps old new (read_asks inside.sequenced.db inside.sequenced.log p) moment (read_goes inside.sequenced.log (decoded inside.sequenced.codec) p) p q step → result ≡ refreshed_step step
    → NoFence (decoded from.sequenced.codec) → NotFencedStep result
next_free decoded old new moment inside from p q step result same steps answers good =
    let here = subst (λ (h : Holder _ _ _). NoFence (decoded h.sequenced.codec)) (sym same) good in
    subst (λ (s : Step (Unit {0})). NotFencedStep s) (sym answers)
    (free_step step (step_free old new moment p q step (read_free inside.sequenced.db inside.sequenced.log (decoded inside.sequenced.codec) here) steps))

-- a step of the read is one of the refresh
refresh_steps : {T C R : Type 0} (decoded : C → List ℕ → Result T SlateDBError) (old new : Told) (moment : ℤ) (holder : Holder T C R) (p q : ReadPhase T) (step : Step (Option (ℕ × T)))
    → Steps old new (read_asks holder.sequenced.db holder.sequenced.log p) moment (read_goes holder.sequenced.log (decoded holder.sequenced.codec) p) p q step
    → Steps old new (refresh_asks (p, holder)) moment (refresh_goes decoded (p, holder)) (p, holder) (q, held_after_step holder step) (refreshed_step step)
refresh_steps decoded old new moment holder p q Again stepped = record { answer = stepped.answer; makes = stepped.makes; gives = ap (refresh_on holder) stepped.gives }
refresh_steps decoded old new moment holder p q (Done reply) (inl stepped) = inl (record { answer = stepped.answer; makes = stepped.makes; gives = ap (refresh_on holder) stepped.gives })
refresh_steps decoded old new moment holder p q (Done (Ok found)) (inr m) = absurd (let out : false ≡ true = m.0 in cc)
refresh_steps decoded old new moment holder p q (Done (Err e)) (inr m) = inr (m.0, record { kept = ap (λ (r : ReadPhase _). (r, holder)) m.1.kept; made = m.1.made })

-- and so is what the holder and the answer are after it
pub refresh_next : {T C R : Type 0} (decoded : C → List ℕ → Result T SlateDBError) (old new : Told) (moment : ℤ) (inside holder to : Holder T C R) (read p q : ReadPhase T) (step : Step (Option (ℕ × T))) (result : Step (Unit {0}))
    → inside ≡ holder → read ≡ p → to ≡ held_after_step holder step → result ≡ refreshed_step step
    → Steps old new (read_asks inside.sequenced.db inside.sequenced.log read) moment (read_goes inside.sequenced.log (decoded inside.sequenced.codec) read) read q step
    → Steps old new (refresh_asks (p, holder)) moment (refresh_goes decoded (p, holder)) (p, holder) (q, to) result
refresh_next decoded old new moment inside holder to read p q step result same phase held answers steps =
    subst (λ (h : Holder _ _ _). Steps old new (refresh_asks (p, holder)) moment (refresh_goes decoded (p, holder)) (p, holder) (q, h) result) (sym held)
    (subst (λ (r : Step (Unit {0})). Steps old new (refresh_asks (p, holder)) moment (refresh_goes decoded (p, holder)) (p, holder) (q, held_after_step holder step) r) (sym answers)
    (refresh_steps decoded old new moment holder p q step
    (subst (λ (h : Holder _ _ _). Steps old new (read_asks h.sequenced.db h.sequenced.log p) moment (read_goes h.sequenced.log (decoded h.sequenced.codec) p) p q step) same
    (subst (λ (r : ReadPhase _). Steps old new (read_asks inside.sequenced.db inside.sequenced.log r) moment (read_goes inside.sequenced.log (decoded inside.sequenced.codec) r) r q step) phase steps))))
