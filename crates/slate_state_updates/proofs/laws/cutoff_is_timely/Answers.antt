use Rattle.slate_state_updates.proofs.Lawful.{timely}
use Rattle.slate_state_updates.proofs.laws.cutoff_is_timely.Goals as goal

pub returns : goal.returns
returns c = timely
