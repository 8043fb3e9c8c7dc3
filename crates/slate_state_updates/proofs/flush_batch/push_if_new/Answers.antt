use Rattle.slate_state_updates.proofs.Freshening.{put_known}
use Rattle.slate_state_updates.proofs.flush_batch.push_if_new.Goals as goal

pub returns-else-branch-clause-ok : goal.returns-else-branch-clause-ok
returns-else-branch-clause-ok c = put_known c.args.set.now c.note.new.set c.args.core.now c.args.table.now (rw c.if-branch.false at c.in_ok-note.ensures)
