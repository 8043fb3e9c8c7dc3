use Rattle.std.proofs.Common.{w64}
use Rattle.std.proofs.lemmas.Int.{to_z-of_z}
use Rattle.slate_txn_changes.specs.Changes.{change_commit}
use Rattle.slate_txn_changes.specs.LogWorks.{work_asks, work_goes}
use Rattle.slate_txn_log.proofs.Steps.{steps_where}
use Rattle.slate_txn_changes.proofs.log_work.LogWork.next.Goals as goal

pub returns-in-Ok-performed : goal.returns-in-Ok-performed
returns-in-Ok-performed g c =
    let log = c.args.log.now in
    let change = c.args.change.now in
    let commit = change_commit (g.H.Change.made change) (g.H.Change.right_of change) (g.H.Change.fence_of change) (g.R.Rules.refusal c.args.rules.now) (g.C.ObjectCodec.encoded log.codec) in
    let from = c.args.self.now in
    let to = c.goes_on-step.new.self in
    let calls = rw (to_z-of_z w64 c.args.moment c.ranges.moment) at c.in-Ok-performed.ensures in
    let goes = rw (to_z-of_z w64 c.args.moment c.ranges.moment) at c.goes_on-step.ensures.goes in
    record {
      steps = steps_where (work_asks log.db log.log from) c.args.moment (work_goes log.log (g.C.ObjectCodec.decoded log.codec) commit c.args.moment from) from to c.in-Ok.ensures calls c.goes_on-step.result goes c.goes_on-step.ensures.reads;
      falls = c.goes_on-step.ensures.falls;
      due = c.goes_on-step.ensures.due;
    }
