-- A step that takes no memory, as any step.
use Rattle.std.proofs.Common.{inl}
use Rattle.slate_store.specs.Machines.{Goes, GoesOn, GoesOnAlways}
use Rattle.slate_store.specs.declared.step.Step.{Step}
use Rattle.slate_store.specs.declared.step.Step.TheVariants.{Again, Done}

pub goes_on : {P R : Type 0} (goes : Goes P R) (from to : P) (step : Step R) → GoesOnAlways goes to step → GoesOn goes from to step
goes_on goes from to Again h = h
goes_on goes from to (Done r) h = inl h
