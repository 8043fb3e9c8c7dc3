use Rattle.slate_state_updates.proofs.StandingApart.{exactly, lawful}
use Rattle.slate_state_updates.proofs.laws.prefixes_stand_apart.Goals as goal

pub returns-clause-exactly : goal.returns-clause-exactly
returns-clause-exactly c = exactly

pub returns-clause-lawful : goal.returns-clause-lawful
returns-clause-lawful c = lawful
