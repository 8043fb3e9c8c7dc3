-- Running out of memory leaves a load as it was; a load is one that may find none, and refuses none.
use Rattle.std.specs.Prelude.{◌≡◌, ℕ, ℤ, List, Option, Result, Ok, Err, false, true, refl}
use Rattle.std.proofs.Common.{inl, inr, ap}
use Rattle.slate_ids.specs.Answers.{ran_out, is_memory}
use Rattle.slate_ids.specs.declared.error.SlateDBError.{SlateDBError}
use Rattle.slate_store.specs.StoreCalls.{Told}
use Rattle.slate_store.specs.Machines.{Held}
use Rattle.slate_store.specs.declared.step.Step.{Step}
use Rattle.slate_store.specs.declared.step.Step.TheVariants.{Again, Done}
use Rattle.slate_txn_log.specs.ReadPhase.{read_asks}
use Rattle.slate_txn.specs.declared.load.TryLoadMachine.{TryLoadMachine}
use Rattle.slate_txn.specs.declared.load.TryLoadMachine.TheVariants.{Reading, Over}
use Rattle.slate_txn_log.specs.declared.read_phase.ReadPhase.{ReadPhase}
use Rattle.slate_txn_log.specs.declared.sequenced.Sequenced.{Sequenced}
use Rattle.slate_txn.specs.Holder.{Holder}
use Rattle.slate_txn.specs.Loading.{TryLoadSteps, LoadSteps, found, found_goes, found_step}

abbrev reading : {T C R : Type 0} → Sequenced T C → R → ReadPhase T → TryLoadMachine T C R
reading sequenced rules read = Reading read sequenced rules

-- running out of memory leaves a load as it was
pub load_held : {T C R : Type 0} (decoded : C → List ℕ → Result T SlateDBError) (old new : Told) (moment : ℤ) (p q : ReadPhase T) (sequenced : Sequenced T C) (rules : R) (e : SlateDBError) → is_memory e ≡ true → Held old new (read_asks sequenced.db sequenced.log p) moment p q
    → TryLoadSteps decoded old new moment (Reading p sequenced rules) (Reading q sequenced rules) (Done (Err e))
load_held decoded old new moment p q sequenced rules e out held = inr (out, record { kept = ap (λ (r : ReadPhase _). reading sequenced rules r) held.kept; made = held.made })

found_out : {X : Type 0} (reply : Result (Option X) SlateDBError) → ran_out reply ≡ true → ran_out (found reply) ≡ true
found_out (Ok x) out = absurd (let both : false ≡ true = out in cc)
found_out (Err e) out = out

-- a step of a load that may find none is one of a load
pub load_found : {T C R : Type 0} (decoded : C → List ℕ → Result T SlateDBError) (old new : Told) (moment : ℤ) (from to : TryLoadMachine T C R) (step : Step (Option (Holder T C R)))
    → TryLoadSteps decoded old new moment from to step → LoadSteps decoded old new moment from to (found_step step)
load_found decoded old new moment Over to step steps = tt
load_found decoded old new moment (Reading read sequenced rules) to Again stepped = record { answer = stepped.answer; makes = stepped.makes; gives = ap found_goes stepped.gives }
load_found decoded old new moment (Reading read sequenced rules) to (Done reply) (inl stepped) = inl (record { answer = stepped.answer; makes = stepped.makes; gives = ap found_goes stepped.gives })
load_found decoded old new moment (Reading read sequenced rules) to (Done reply) (inr m) = inr (found_out reply m.0, m.1)
