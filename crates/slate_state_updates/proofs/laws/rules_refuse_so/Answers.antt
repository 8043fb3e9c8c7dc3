use Rattle.slate_state_updates.proofs.Lawful.{causes}
use Rattle.slate_state_updates.proofs.laws.rules_refuse_so.Goals as goal

pub returns : goal.returns
returns c = causes
