use Rattle.slate_model_records.proofs.Ordered.{first_is, none_before}
use Rattle.slate_model_records.proofs.entries.least.Goals as goal

pub returns-in-Some-clause-first : goal.returns-in-Some-clause-first
returns-in-Some-clause-first c = first_is c.args.entries.now.entries c.in-Some.id.now _ c.in-Some.ensures.first c.requires

pub returns-in-Some-clause-least : goal.returns-in-Some-clause-least
returns-in-Some-clause-least c = none_before c.in-Some.id.now c.args.entries.now.entries c.in-Some.ensures.all_from c.requires
