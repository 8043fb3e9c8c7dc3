use Rattle.slate_cluster.proofs.Outcomes.{tells, exact, ends_too_long}
use Rattle.slate_cluster.proofs.top_call.program.Goals as goal

pub returns-clause-words : goal.returns-clause-words
returns-clause-words g c = (tells _ _ _ _ _ c.ended.result c.ended.ensures).words

pub returns-clause-read_fault : goal.returns-clause-read_fault
returns-clause-read_fault g c = (tells _ _ _ _ _ c.ended.result c.ended.ensures).read_fault

pub returns-clause-no_read_fault : goal.returns-clause-no_read_fault
returns-clause-no_read_fault g c = (tells _ _ _ _ _ c.ended.result c.ended.ensures).no_read_fault

pub returns-clause-write_fault : goal.returns-clause-write_fault
returns-clause-write_fault g c = (tells _ _ _ _ _ c.ended.result c.ended.ensures).write_fault

pub returns-clause-no_write_fault : goal.returns-clause-no_write_fault
returns-clause-no_write_fault g c = (tells _ _ _ _ _ c.ended.result c.ended.ensures).no_write_fault

pub returns-clause-exact : goal.returns-clause-exact
returns-clause-exact g c = exact _ _ _ _ _ _ c.ended.result c.ended.ensures

pub returns-clause-too_long : goal.returns-clause-too_long
returns-clause-too_long g c = ends_too_long _ _ _ _ _ _ c.ended.result c.ended.ensures
