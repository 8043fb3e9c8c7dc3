use Rattle.slate_state_updates.proofs.Unchanged.{passes}
use Rattle.slate_state_updates.proofs.laws.unchanged_trees_pass.Goals as goal

pub returns : goal.returns
returns c = passes
