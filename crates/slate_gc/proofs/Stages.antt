-- What a step, and a stage, makes of the plain call that stands there.
use Rattle.std.specs.Prelude.{◌≡◌, ℕ, ℤ, Bool, true, false, refl}
use Rattle.std.proofs.Common.{subst}
use Rattle.slate_gc.specs.PassTurns.{Turn, TurnGoes, is_turned}
use Rattle.slate_gc.specs.PlainStages.{Becomes, GoesFurther, UsesTurn}
use Rattle.slate_store.specs.StoreCalls.{Told}
use Rattle.slate_store.specs.Machines.{Stay, Stepped}
use Rattle.slate_store.specs.CallRuns.{Running, gives_up, goes_further, starts_again}
use Rattle.slate_store.specs.declared.step.Step.TheVariants.{Again}
use Rattle.slate_store.specs.declared.store_answer.StoreAnswer.{StoreAnswer}
use Rattle.slate_store.specs.declared.store_call.StoreCall.{StoreCall}

module _ (asks : Turn → StoreCall) (goes : Turn → StoreAnswer → TurnGoes) (moment : ℤ) (tries left : ℕ) (first mid new : Told) (start from to : Turn) where
  steps_by : (used : Bool) → is_turned to ≡ used → Running is_turned asks goes moment tries first mid start from left → Stepped mid new (asks from) moment (goes from) (Stay to)
      → GoesFurther used asks goes moment tries first new start to left
  steps_by true used running step = record {
    again = λ two. starts_again running step used two;
    last = λ one. gives_up running step used one;
  }
  steps_by false used running step = goes_further running step used

  -- a step on
  pub steps_on : Running is_turned asks goes moment tries first mid start from left → Stepped mid new (asks from) moment (goes from) (Stay to) → Becomes asks goes moment tries first new start to left Again
  steps_on running step = steps_by (is_turned to) refl running step

-- a stage that was left with a turn used, and one without
pub used_turn : (asks : Turn → StoreCall) (goes : Turn → StoreAnswer → TurnGoes) (moment : ℤ) (tries left : ℕ) (first new : Told) (start to : Turn) → is_turned to ≡ true
    → Becomes asks goes moment tries first new start to left Again → UsesTurn asks goes moment tries first new start to left
used_turn asks goes moment tries left first new start to used becomes = subst (λ (b : Bool). GoesFurther b asks goes moment tries first new start to left) used becomes

pub used_none : (asks : Turn → StoreCall) (goes : Turn → StoreAnswer → TurnGoes) (moment : ℤ) (tries left : ℕ) (first new : Told) (start to : Turn) → is_turned to ≡ false
    → Becomes asks goes moment tries first new start to left Again → Running is_turned asks goes moment tries first new start to left
used_none asks goes moment tries left first new start to used becomes = subst (λ (b : Bool). GoesFurther b asks goes moment tries first new start to left) used becomes
