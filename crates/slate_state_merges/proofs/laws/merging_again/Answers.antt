use Rattle.slate_state_merges.proofs.Fronts.{merged_twice}
use Rattle.slate_state_merges.proofs.laws.merging_again.Goals as goal

pub returns : goal.returns
returns c = merged_twice
