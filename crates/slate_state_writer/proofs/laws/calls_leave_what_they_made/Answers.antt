use Rattle.slate_state_writer.proofs.Leaving.{begun_calls_leave, begun_opens_leave, calls_add, calls_leave, opens_add, opens_leave}
use Rattle.slate_state_writer.proofs.laws.calls_leave_what_they_made.Goals as goal

pub returns-clause-opens_add : goal.returns-clause-opens_add
returns-clause-opens_add c = opens_add

pub returns-clause-calls_add : goal.returns-clause-calls_add
returns-clause-calls_add c = calls_add

pub returns-clause-opens : goal.returns-clause-opens
returns-clause-opens c = opens_leave

pub returns-clause-begun_opens : goal.returns-clause-begun_opens
returns-clause-begun_opens c = begun_opens_leave

pub returns-clause-calls : goal.returns-clause-calls
returns-clause-calls c = calls_leave

pub returns-clause-begun_calls : goal.returns-clause-begun_calls
returns-clause-begun_calls c = begun_calls_leave
