use Rattle.std.proofs.Common.{sym, w64, ◌∙◌}
use Rattle.std.proofs.lemmas.Int.{to_z-of_z}
use Rattle.slate_txn_changes.specs.Changes.{change_commit}
use Rattle.slate_txn_changes.specs.Latest.{begins_again, lists_again}
use Rattle.slate_txn_changes.specs.LogWorks.{work_asks, work_goes}
use Rattle.slate_txn_changes.proofs.Turning.{turned_conflict, turned_err}
use Rattle.slate_txn_changes.proofs.latest.Turns.next.Goals as goal

pub returns-then-is_conflict-clause-steps : goal.returns-then-is_conflict-clause-steps
returns-then-is_conflict-clause-steps g c =
    let told = g.S.ObjectStore.told in
    let log = c.args.log.now in
    let change = c.args.change.now in
    let commit = change_commit (g.H.Change.made change) (g.H.Change.right_of change) (g.H.Change.fence_of change) (g.R.Rules.refusal c.args.rules.now) (g.C.ObjectCodec.encoded log.codec) in
    let from = c.args.self.now.work in
    let steps = rw c.in-Done-Err.field-0-is at (rw (to_z-of_z w64 c.args.moment c.ranges.moment) at c.in-Done-Err.ensures.steps) in
    let again = turned_conflict lists_again begins_again (work_goes log.log (g.C.ObjectCodec.decoded log.codec) commit c.args.moment) (told c.args.store.now) (told c.next.new.store) (work_asks log.db log.log from) c.args.moment from c.next.new.self c.args.self.now.is_turned c.in-Done-Err.e (sym c.is_conflict.ensures ∙ c.if-is_conflict.true) steps in
    rw (c.stand.ensures ∙ c.start.ensures) again

pub returns-else-is_conflict-clause-steps : goal.returns-else-is_conflict-clause-steps
returns-else-is_conflict-clause-steps g c =
    let told = g.S.ObjectStore.told in
    let log = c.args.log.now in
    let change = c.args.change.now in
    let commit = change_commit (g.H.Change.made change) (g.H.Change.right_of change) (g.H.Change.fence_of change) (g.R.Rules.refusal c.args.rules.now) (g.C.ObjectCodec.encoded log.codec) in
    let from = c.args.self.now.work in
    let steps = rw c.in-Done-Err.field-0-is at (rw (to_z-of_z w64 c.args.moment c.ranges.moment) at c.in-Done-Err.ensures.steps) in
    turned_err lists_again begins_again (work_goes log.log (g.C.ObjectCodec.decoded log.codec) commit c.args.moment) (told c.args.store.now) (told c.next.new.store) (work_asks log.db log.log from) c.args.moment from c.next.new.self c.args.self.now.is_turned c.in-Done-Err.e (sym c.is_conflict.ensures ∙ c.if-is_conflict.false) steps
