use Rattle.slate_gc_complete.proofs.Passes as passes
use Rattle.slate_gc_complete.proofs.reports.pass_ends.Goals as goal

pub returns-clause-ends : goal.returns-clause-ends
returns-clause-ends c = passes.pass_ends

pub returns-clause-leaves : goal.returns-clause-leaves
returns-clause-leaves c = passes.pass_leaves
