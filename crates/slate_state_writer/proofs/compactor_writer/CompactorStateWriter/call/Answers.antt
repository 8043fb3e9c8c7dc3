use Rattle.std.proofs.Common.{arith, inl, refl, w64}
use Rattle.std.proofs.lemmas.Int.{to_z-of_z}
use Rattle.slate_txn_changes.specs.Turns.{Turn, is_turned, turn_asks}
use Rattle.slate_state_calls.specs.StateSteps.{StateAt}
use Rattle.slate_state_writer.proofs.Measures.{state_step, state_turn}
use Rattle.slate_state_writer.proofs.Owns.{keeps_on}
use Rattle.slate_state_writer.proofs.StateFaults.{start_due, turning_faults}
use Rattle.slate_state_writer.specs.StateCalls.{asks_at, first_turn, state_turning}
use Rattle.slate_ids.specs.Answers.{OrMemory-map}
use Rattle.slate_txn_log.proofs.Faults.{call_rose, ran_rose}
use Rattle.slate_store.specs.CallRuns.{begins, done_with, gives_up, goes_further, starts_again}
use Rattle.slate_state_logs.specs.laws.RecordsPlain.{records_plain}
use Rattle.slate_state_writer.proofs.compactor_writer.CompactorStateWriter.call.Goals as goal

pub returns-in-Done : goal.returns-in-Done
returns-in-Done g c =
    let to : Turn StateAt = ((c.next.new.self.machine.phase, c.next.new.writer.compactor), c.next.new.self.is_turned) in
    let steps = rw c.loop-result.invariant.own.db at c.in-Done.ensures.steps in
    let first = done_with c.loop-result.invariant.running (g.S.ObjectStore.told c.next.new.store) to c.in-Done.result steps in
    let ran = rw (to_z-of_z w64 c.args.moment c.ranges.moment) at first in
    record {
      call = OrMemory-map c.in-Done.result (λ began. (to.0.0, to.1, began)) (λ ran. (to.0.0, to.1, ran)) ran;
      own = keeps_on c.loop-result.invariant.own c.in-Done.ensures.own;
      fault = call_rose c.in-Done.result (turning_faults records_plain c.args.self.now.db c.args.start c.args.moment) (start_due c.args.start c.args.self.now.compactor) ran;
    }

pub returns-then-left-eq1 : goal.returns-then-left-eq1
returns-then-left-eq1 g c =
    let to : Turn StateAt = ((c.next.new.self.machine.phase, c.next.new.writer.compactor), c.next.new.self.is_turned) in
    let steps = rw c.loop-result.invariant.own.db at c.in-Again.ensures.steps in
    let first = gives_up c.loop-result.invariant.running steps c.if-turns.true c.if-left-eq1.true in
    let ran = rw (to_z-of_z w64 c.args.moment c.ranges.moment) at first in
    record {
      call = inl (to.0.0, to.1, ran);
      own = keeps_on c.loop-result.invariant.own c.in-Again.ensures.own;
      fault = ran_rose (turning_faults records_plain c.args.self.now.db c.args.start c.args.moment) (start_due c.args.start c.args.self.now.compactor) ran;
    }

pub loop-result-preserved-then-turns : goal.loop-result-preserved-then-turns
loop-result-preserved-then-turns g c =
    let steps = rw c.loop-result.invariant.own.db at c.in-Again.ensures.steps in
    record {
      running = starts_again c.loop-result.invariant.running steps c.if-turns.true (omega (arith, c.loop-result.invariant.running.more));
      due = c.in-Again.ensures.due;
      own = keeps_on c.loop-result.invariant.own c.in-Again.ensures.own;
    }

pub loop-result-preserved : goal.loop-result-preserved
loop-result-preserved g c =
    let steps = rw c.loop-result.invariant.own.db at c.in-Again.ensures.steps in
    record {
      running = goes_further c.loop-result.invariant.running steps c.if-turns.false;
      due = c.in-Again.ensures.due;
      own = keeps_on c.loop-result.invariant.own c.in-Again.ensures.own;
    }

pub loop-result-smaller-then-turns : goal.loop-result-smaller-then-turns
loop-result-smaller-then-turns g c = state_turn c.loop-result.turns.machine.phase c.next.new.self.machine.phase c.loop-result.left c.loop-result.invariant.running.more

pub loop-result-smaller : goal.loop-result-smaller
loop-result-smaller g c = state_step c.loop-result.turns.machine.phase c.next.new.self.machine.phase c.next.new.self.is_turned c.loop-result.left (c.in-Again.ensures.falls tt) c.if-turns.false

pub loop-result-init : goal.loop-result-init
loop-result-init g c =
    let told = g.S.ObjectStore.told c.args.store.now in
    let from = c.args.self.now in
    rw (to_z-of_z w64 c.args.moment c.ranges.moment, c.started.ensures.phase) (record {
      running = begins is_turned (turn_asks (asks_at from.db)) (state_turning c.args.start c.args.moment) c.args.moment c.args.tries told (first_turn c.args.start from.compactor) c.requires;
      due = start_due c.args.start from.compactor;
      own = record { db = refl; epoch = refl };
    })
