use Rattle.std.proofs.Common.{w64}
use Rattle.std.proofs.lemmas.Int.{to_z-of_z}
use Rattle.slate_txn_log.proofs.Faults.{step_rose}
use Rattle.slate_txn_log.proofs.Steps.{goes_steps}
use Rattle.slate_state_reader.specs.BothReads.{both_asks, both_goes}
use Rattle.slate_state_reader.proofs.BothFaults.{both_faults, both_reads}
use Rattle.slate_state_reader.proofs.both_phase.BothPhase.next.Goals as goal

pub returns-in-Ok : goal.returns-in-Ok
returns-in-Ok g c =
    let first = c.args.first.now in
    let second = c.args.second.now in
    let one = g.C.ObjectCodec.decoded in
    let other = g.D.ObjectCodec.decoded in
    let steps = goes_steps (both_asks first second c.args.self.now) c.args.moment (both_goes one other first second c.args.self.now) c.args.self.now c.goes_on-step.new.self c.asks-call.ensures (both_reads first second c.args.self.now) (rw (to_z-of_z w64 c.args.moment c.ranges.moment) at c.in-Ok.ensures) c.goes_on-step.result c.goes_on-step.ensures.goes in
    record {
      steps = steps;
      falls = c.goes_on-step.ensures.falls;
      due = c.goes_on-step.ensures.due;
      fault = λ good fine. step_rose (g.S.ObjectStore.told c.args.store.now) (g.S.ObjectStore.told c.perform-performed.new.store) c.args.moment c.args.self.now c.goes_on-step.new.self c.goes_on-step.result (both_faults one other first second good fine) c.requires.due steps;
    }
