use Rattle.slate_state_compactor_complete.proofs.PlainCalls as calls
use Rattle.slate_state_compactor_complete.proofs.calls.state_call_ends.Goals as goal

pub returns : goal.returns
returns c = λ db named start moment tries some old new s from to result called serves ready. calls.call_ends db named moment start tries old new s from to result called some serves ready
