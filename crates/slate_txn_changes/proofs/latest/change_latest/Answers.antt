use Rattle.slate_ids.specs.Answers.{OrMemory-map}
use Rattle.slate_store.specs.CallRuns.{begins, goes_further, starts_again, gives_up, done_with}
use Rattle.slate_txn_changes.proofs.Ranks.{work_step, work_turn}
use Rattle.slate_txn_changes.specs.Changes.{change_commit}
use Rattle.slate_txn_changes.specs.Latest.{first_turn, latest_goes}
use Rattle.slate_txn_changes.specs.LogWorks.{work_asks}
use Rattle.slate_txn_changes.specs.Turns.{Turn, is_turned, turn_asks}
use Rattle.slate_txn_changes.specs.declared.log_work.LogWork.{LogWork}
use Rattle.std.proofs.Common.{arith, inl, refl, w64}
use Rattle.std.proofs.lemmas.Int.{to_z-of_z}
use Rattle.slate_txn_changes.proofs.latest.change_latest.Goals as goal

pub returns-in-Done : goal.returns-in-Done
returns-in-Done g c =
    let to : Turn (LogWork g.row.V.Denot) = (c.next.new.self.work, c.next.new.self.is_turned) in
    let first = done_with c.loop-result.invariant.running (g.S.ObjectStore.told c.next.new.store) to c.in-Done.result c.in-Done.ensures.steps in
    let ran = rw (to_z-of_z w64 c.args.moment c.ranges.moment) at first in
    record { changes = OrMemory-map c.in-Done.result (λ began. (to, began)) (λ ran. (to, ran)) ran }

pub returns-then-left-eq1 : goal.returns-then-left-eq1
returns-then-left-eq1 g c =
    let to : Turn (LogWork g.row.V.Denot) = (c.next.new.self.work, c.next.new.self.is_turned) in
    let first = gives_up c.loop-result.invariant.running c.in-Again.ensures.steps c.if-turns.true c.if-left-eq1.true in
    let ran = rw (to_z-of_z w64 c.args.moment c.ranges.moment) at first in
    record { changes = inl (to, ran) }

pub loop-result-preserved-then-turns : goal.loop-result-preserved-then-turns
loop-result-preserved-then-turns g c = record {
  running = starts_again c.loop-result.invariant.running c.in-Again.ensures.steps c.if-turns.true (omega (arith, c.loop-result.invariant.running.more));
  due = c.in-Again.ensures.due;
}

pub loop-result-preserved : goal.loop-result-preserved
loop-result-preserved g c = record {
  running = goes_further c.loop-result.invariant.running c.in-Again.ensures.steps c.if-turns.false;
  due = c.in-Again.ensures.due;
}

pub loop-result-smaller-then-turns : goal.loop-result-smaller-then-turns
loop-result-smaller-then-turns g c = work_turn c.loop-result.turns.work c.next.new.self.work c.loop-result.left c.loop-result.invariant.running.more

pub loop-result-smaller : goal.loop-result-smaller
loop-result-smaller g c = work_step c.loop-result.turns.work c.next.new.self.work c.next.new.self.is_turned c.loop-result.left (c.in-Again.ensures.falls tt) c.if-turns.false

pub loop-result-init : goal.loop-result-init
loop-result-init g c =
    let told = g.S.ObjectStore.told c.args.store.now in
    let log = c.args.log.now in
    let change = c.args.change.now in
    let commit = change_commit (g.H.Change.made change) (g.H.Change.right_of change) (g.H.Change.fence_of change) (g.R.Rules.refusal c.args.rules.now) (g.C.ObjectCodec.encoded log.codec) in
    rw (to_z-of_z w64 c.args.moment c.ranges.moment, c.start.ensures) (record {
      running = begins is_turned (turn_asks (work_asks log.db log.log)) (latest_goes log.log (g.C.ObjectCodec.decoded log.codec) commit c.args.moment) c.args.moment c.args.tries told first_turn c.requires;
      due = refl;
    })
