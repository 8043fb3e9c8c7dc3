use Rattle.slate_state_updates.proofs.Lawful.{nothing_falls, names_stay}
use Rattle.slate_state_updates.proofs.laws.lawful_updates_keep.Goals as goal

pub returns-clause-numbers : goal.returns-clause-numbers
returns-clause-numbers c = nothing_falls

pub returns-clause-names : goal.returns-clause-names
returns-clause-names c = names_stay
