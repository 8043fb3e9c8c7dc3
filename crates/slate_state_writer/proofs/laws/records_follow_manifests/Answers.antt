use Rattle.slate_state_writer.proofs.StateLaws.{record_follows, refusals_keep, steps_keep}
use Rattle.slate_state_writer.proofs.laws.records_follow_manifests.Goals as goal

pub returns-clause-refusals : goal.returns-clause-refusals
returns-clause-refusals c = refusals_keep

pub returns-clause-onward : goal.returns-clause-onward
returns-clause-onward c = steps_keep

pub returns-clause-follows : goal.returns-clause-follows
returns-clause-follows c = record_follows
