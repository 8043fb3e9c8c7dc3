-- From a refresh to one of a fenced holder.
use Rattle.std.proofs.Common.{◌≡◌, ◌≢◌, ℤ, ℕ, Bool, true, false, List, Option, Some, None, Result, Ok, Err, if◌then◌else◌, inl, inr, ap, sym, subst, ◌∙◌, refl}
use Rattle.std.specs.Prelude.{nat_lt}
use Rattle.slate_ids.specs.Answers.{refused}
use Rattle.slate_ids.specs.declared.error.SlateDBError.{SlateDBError}
use Rattle.slate_ids.specs.declared.error.SlateDBError.TheVariants.{Fenced, StoreFault}
use Rattle.slate_store.specs.StoreCalls.{Told}
use Rattle.slate_store.specs.Machines.{Steps}
use Rattle.slate_store.specs.declared.step.Step.{Step}
use Rattle.slate_store.specs.declared.step.Step.TheVariants.{Again, Done}
use Rattle.slate_txn_log.specs.Due.{FaultOf, FaultRose}
use Rattle.slate_txn_log.specs.declared.read_phase.ReadPhase.{ReadPhase}
use Rattle.slate_txn.specs.FencedHolder.{FencedHolder, state_within}
use Rattle.slate_txn.specs.FencedRefreshing.{FencedRefreshed, fence_after, fence_after_step, fence_within, fenced_refresh_goes}
use Rattle.slate_txn.specs.Fencing.{held_fence, FencedOnly, FencedStep, NotFenced, NotFencedStep}
use Rattle.slate_txn_log.specs.Fence.{fence}
use Rattle.slate_txn.specs.Holder.{Holder}
use Rattle.slate_txn.specs.Refreshing.{Refreshes, refresh_asks, refresh_goes}

not_fault : (b : Bool) (own read : ℕ) → refused (if b then Some (Fenced own read) else None) ≢ Err StoreFault
not_fault true own read = λ same. absurd cc
not_fault false own read = λ same. absurd cc

fault_within : (own read : ℕ) (reply : Result (Unit {0}) SlateDBError) → fence_after (fence own read) reply ≡ Err StoreFault → reply ≡ Err StoreFault
fault_within own read (Ok done) same = absurd (not_fault (nat_lt own read) own read same)
fault_within own read (Err e) same = let is : e ≡ StoreFault = cc in ap (λ (k : SlateDBError). Err k) is

-- a fault is one of the refresh within
pub fenced_fault : (old new : Told) (own read : ℕ) (refusal : Option SlateDBError) (reply result : Result (Unit {0}) SlateDBError) → refusal ≡ fence own read → FaultOf old new reply → result ≡ fence_after refusal reply → FaultOf old new result
fenced_fault old new own read refusal reply result is rose answers = λ fault.
    rose (fault_within own read reply (sym (answers ∙ ap (λ (o : Option SlateDBError). fence_after o reply) is) ∙ fault))

step_within : (own read : ℕ) (step : Step (Unit {0})) → fence_after_step (fence own read) step ≡ Done (Err StoreFault) → step ≡ Done (Err StoreFault)
step_within own read Again same = absurd cc
step_within own read (Done reply) same = let is : fence_after (fence own read) reply ≡ Err StoreFault = cc in ap (λ (r : Result (Unit {0}) SlateDBError). Done r) (fault_within own read reply is)

-- and so in a step
pub fenced_step_fault : (old new : Told) (own read : ℕ) (refusal : Option SlateDBError) (step result : Step (Unit {0})) → refusal ≡ fence own read → FaultRose old new step → result ≡ fence_after_step refusal step → FaultRose old new result
fenced_step_fault old new own read refusal step result is rose answers = λ fault.
    rose (step_within own read step (sym (answers ∙ ap (λ (o : Option SlateDBError). fence_after_step o step) is) ∙ fault))

is_refused : (refusal : Option SlateDBError) (e : SlateDBError) → refused refusal ≡ Err e → refusal ≡ Some e
is_refused None e same = absurd cc
is_refused (Some other) e same = let is : other ≡ e = cc in ap (λ (k : SlateDBError). Some k) is

fence_only : (refusal : Option SlateDBError) (reply : Result (Unit {0}) SlateDBError) → NotFenced reply → FencedOnly refusal (fence_after refusal reply)
fence_only refusal (Ok done) free = λ own read same. is_refused refusal (Fenced own read) same
fence_only refusal (Err e) free = λ own read same. absurd (let is : e ≡ Fenced own read = cc in free own read (ap (λ (k : SlateDBError). Err k) is))

-- Fenced is answered only by the fence of what is held then
pub after_fence : (refusal : Option SlateDBError) (reply result : Result (Unit {0}) SlateDBError) → NotFenced reply → result ≡ fence_after refusal reply → FencedOnly refusal result
after_fence refusal reply result free answers = subst (λ (r : Result (Unit {0}) SlateDBError). FencedOnly refusal r) (sym answers) (fence_only refusal reply free)

step_only : (refusal : Option SlateDBError) (step : Step (Unit {0})) → NotFencedStep step → FencedStep refusal (fence_after_step refusal step)
step_only refusal Again free = λ own read same. absurd cc
step_only refusal (Done reply) free = λ own read same.
    let is : fence_after refusal reply ≡ Err (Fenced own read) = cc in fence_only refusal reply (λ m n h. free m n (ap (λ (r : Result (Unit {0}) SlateDBError). Done r) h)) own read is

-- and so in a step
pub after_fence_step : (refusal : Option SlateDBError) (step result : Step (Unit {0})) → NotFencedStep step → result ≡ fence_after_step refusal step → FencedStep refusal result
after_fence_step refusal step result free answers = subst (λ (s : Step (Unit {0})). FencedStep refusal s) (sym answers) (step_only refusal step free)

-- a step of the refresh within is one of the fenced holder
fenced_steps : {T C R E : Type 0} (decoded : C → List ℕ → Result T SlateDBError) (epoch : E → T → ℕ) (old new : Told) (moment : ℤ) (fenced : FencedHolder T C R E) (p q : ReadPhase T) (held : Holder T C R) (step : Step (Unit {0}))
    → Steps old new (refresh_asks (p, fenced.holder)) moment (refresh_goes decoded (p, fenced.holder)) (p, fenced.holder) (q, held) step
    → Steps old new (refresh_asks (p, fenced.holder)) moment (fenced_refresh_goes decoded epoch (p, fenced)) (p, fenced) (q, record fenced { holder = held }) (fence_after_step (held_fence epoch (record fenced { holder = held })) step)
fenced_steps decoded epoch old new moment fenced p q held Again stepped = record { answer = stepped.answer; makes = stepped.makes; gives = ap (fence_within epoch fenced) stepped.gives }
fenced_steps decoded epoch old new moment fenced p q held (Done reply) (inl stepped) = inl (record { answer = stepped.answer; makes = stepped.makes; gives = ap (fence_within epoch fenced) stepped.gives })
fenced_steps decoded epoch old new moment fenced p q held (Done (Ok done)) (inr m) = absurd (let out : false ≡ true = m.0 in cc)
fenced_steps decoded epoch old new moment fenced p q held (Done (Err e)) (inr m) = inr (m.0, record { kept = ap (state_within fenced) m.1.kept; made = m.1.made })

-- and so is what the answer is after it
pub fenced_refresh_next : {T C R E : Type 0} (decoded : C → List ℕ → Result T SlateDBError) (epoch : E → T → ℕ) (old new : Told) (moment : ℤ) (inside fenced : FencedHolder T C R E) (read p q : ReadPhase T) (held : Holder T C R) (step result : Step (Unit {0}))
    → inside ≡ fenced → read ≡ p → Steps old new (refresh_asks (read, inside.holder)) moment (refresh_goes decoded (read, inside.holder)) (read, inside.holder) (q, held) step
    → result ≡ fence_after_step (held_fence epoch (record inside { holder = held })) step
    → Steps old new (refresh_asks (p, fenced.holder)) moment (fenced_refresh_goes decoded epoch (p, fenced)) (p, fenced) (q, record inside { holder = held }) result
fenced_refresh_next decoded epoch old new moment inside fenced read p q held step result same phase steps answers =
    subst (λ (f : FencedHolder _ _ _ _). Steps old new (refresh_asks (p, f.holder)) moment (fenced_refresh_goes decoded epoch (p, f)) (p, f) (q, record inside { holder = held }) result) same
    (subst (λ (r : ReadPhase _). Steps old new (refresh_asks (r, inside.holder)) moment (fenced_refresh_goes decoded epoch (r, inside)) (r, inside) (q, record inside { holder = held }) result) phase
    (subst (λ (s : Step (Unit {0})). Steps old new (refresh_asks (read, inside.holder)) moment (fenced_refresh_goes decoded epoch (read, inside)) (read, inside) (q, record inside { holder = held }) s) (sym answers)
    (fenced_steps decoded epoch old new moment inside read q held step steps)))

-- the refresh within is one of the fenced holder
pub refreshed_within : {T C R E : Type 0} (decoded : C → List ℕ → Result T SlateDBError) (epoch : E → T → ℕ) (tries : ℕ) (old new : Told) (inside from : FencedHolder T C R E) (held : Holder T C R) (refusal : Option SlateDBError) (reply result : Result (Unit {0}) SlateDBError)
    → inside ≡ from → Refreshes decoded tries old new inside.holder held reply → refusal ≡ held_fence epoch (record inside { holder = held }) → result ≡ fence_after refusal reply
    → FencedRefreshed decoded epoch tries old new from (record inside { holder = held }) result
refreshed_within decoded epoch tries old new inside from held refusal reply result same refresh is answers =
    subst (λ (f : FencedHolder _ _ _ _). FencedRefreshed decoded epoch tries old new f (record inside { holder = held }) result) same
    (record { reply = reply; refresh = refresh; kept = refl; answers = answers ∙ ap (λ (o : Option SlateDBError). fence_after o reply) is })

-- a codec of the holder within is the fenced holder's
pub codec_within : {T C R E : Type 0} (P : C → Type 0) (inside from : FencedHolder T C R E) → inside ≡ from → P from.holder.sequenced.codec → P inside.holder.sequenced.codec
codec_within P inside from same = subst (λ (f : FencedHolder _ _ _ _). P f.holder.sequenced.codec) (sym same)
