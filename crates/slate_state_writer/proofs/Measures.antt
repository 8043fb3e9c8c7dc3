-- The plain calls end: with each step fewer turns are left, or fewer steps of the turn.
use Rattle.std.specs.Prelude.{◌≡◌, ◌<◌, ◌≤◌, ◌+◌, ◌-◌, ◌*◌, ℕ, Bool, true, false}
use Rattle.std.proofs.Common.{◌⊎◌, arith, inl, inr, sym, ◌∙◌}
use Rattle.slate_txn_changes.proofs.Ranks.{work_bound}
use Rattle.slate_state_calls.specs.Opening.{left_after, open_rank}
use Rattle.slate_state_calls.specs.StateSteps.{after_manifest, after_record, state_rank}
use Rattle.slate_state_calls.specs.declared.open_phase.OpenPhase.{OpenPhase}
use Rattle.slate_state_calls.specs.declared.open_phase.OpenPhase.TheVariants as opens
use Rattle.slate_state_calls.specs.declared.open_phase.OpenStep.{OpenStep}
use Rattle.slate_state_calls.specs.declared.open_phase.OpenStep.TheVariants.{Give, Begin, GiveFirst, Reset}
use Rattle.slate_state_calls.specs.declared.state_phase.ManifestStep.{ManifestStep}
use Rattle.slate_state_calls.specs.declared.state_phase.ManifestStep.TheVariants.{Follow, Keep, Merge}
use Rattle.slate_state_calls.specs.declared.state_phase.RecordStep.{RecordStep}
use Rattle.slate_state_calls.specs.declared.state_phase.RecordStep.TheVariants as steps
use Rattle.slate_state_calls.specs.declared.state_phase.StatePhase.{StatePhase}
use Rattle.slate_state_calls.specs.declared.state_phase.StatePhase.TheVariants as calls
use Rattle.slate_state_writer.specs.PlainOpening.{OpenTurnFalls}
use Rattle.slate_state_writer.specs.StateCalls.{StateTurnFalls}

left_bound : (step : OpenStep) → left_after step ≤ 9
left_bound Give = omega arith
left_bound Begin = omega arith
left_bound GiveFirst = omega arith
left_bound Reset = omega arith

open_bound : (phase : OpenPhase) → open_rank phase ≤ 20
open_bound (opens.Raising p) = let bound = work_bound p.work in omega (arith, bound)
open_bound (opens.OnRecord step m p) = let bound = work_bound p.work in let left = left_bound step in omega (arith, bound, left)
open_bound opens.Over = omega arith

record_bound : (step : RecordStep) → after_record step ≤ 12
record_bound steps.Follow = omega arith
record_bound steps.Schedule = omega arith
record_bound (steps.Fetch write) = omega arith
record_bound (steps.Record write) = omega arith

manifest_bound : (step : ManifestStep) → after_manifest step ≤ 12
manifest_bound Follow = omega arith
manifest_bound (Keep write) = omega arith
manifest_bound (Merge write) = omega arith

state_bound : (phase : StatePhase) → state_rank phase ≤ 20
state_bound (calls.OnRecord step p) = let bound = work_bound p.work in let left = record_bound step in omega (arith, bound, left)
state_bound (calls.OnManifest step p) = let bound = work_bound p.work in let left = manifest_bound step in omega (arith, bound, left)
state_bound calls.Over = omega arith

turn : (old new left : ℕ) → new ≤ 20 → 0 < left → 21 * (left - 1) + new < 21 * left + old
turn old new left bound some = omega (arith, bound, some)

step : (old new left : ℕ) (turned : Bool) → (turned ≡ true) ⊎ (new < old) → turned ≡ false → 21 * left + new < 21 * left + old
step old new left turned (inl used) not = absurd (let both : true ≡ false = sym used ∙ not in cc)
step old new left turned (inr falls) not = omega (arith, falls)

-- an open that uses a turn
pub open_turn : (old new : OpenPhase) (left : ℕ) → 0 < left → 21 * (left - 1) + open_rank new < 21 * left + open_rank old
open_turn old new left some = turn (open_rank old) (open_rank new) left (open_bound new) some

-- and one that goes on in its turn
pub open_step : (old new : OpenPhase) (turned : Bool) (left : ℕ) → OpenTurnFalls old new turned → turned ≡ false → 21 * left + open_rank new < 21 * left + open_rank old
open_step old new turned left falls not = step (open_rank old) (open_rank new) left turned falls not

-- the same of a call on the state
pub state_turn : (old new : StatePhase) (left : ℕ) → 0 < left → 21 * (left - 1) + state_rank new < 21 * left + state_rank old
state_turn old new left some = turn (state_rank old) (state_rank new) left (state_bound new) some

pub state_step : (old new : StatePhase) (turned : Bool) (left : ℕ) → StateTurnFalls old new turned → turned ≡ false → 21 * left + state_rank new < 21 * left + state_rank old
state_step old new turned left falls not = step (state_rank old) (state_rank new) left turned falls not
