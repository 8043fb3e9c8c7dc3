use Rattle.slate_state_compactor_complete.proofs.PlainCalls as calls
use Rattle.slate_state_compactor_complete.proofs.calls.open_ends.Goals as goal

pub returns : goal.returns
returns c = λ db named moment tries some old new s result opens serves ready. calls.open_ends db named moment tries old new s result opens some serves ready
