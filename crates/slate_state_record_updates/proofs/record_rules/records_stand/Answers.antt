use Rattle.slate_state_record_updates.proofs.LeastIds.{keeps_least}
use Rattle.slate_state_record_updates.proofs.record_rules.records_stand.Goals as goal

pub returns : goal.returns
returns c = λ id old new right h some. keeps_least old new right h some
