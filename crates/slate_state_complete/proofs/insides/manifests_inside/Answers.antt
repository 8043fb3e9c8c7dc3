use Rattle.slate_state_complete.proofs.Refusals.{all_fenced_inside, changes_inside}
use Rattle.slate_state_complete.proofs.insides.manifests_inside.Goals as goal

pub returns-clause-changes : goal.returns-clause-changes
returns-clause-changes c = changes_inside

pub returns-clause-fenced : goal.returns-clause-fenced
returns-clause-fenced c = all_fenced_inside
