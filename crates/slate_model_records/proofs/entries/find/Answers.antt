use Rattle.std.proofs.Common.{◌∙◌}
use Rattle.slate_model_records.proofs.Ordered.{found}
use Rattle.slate_model_records.proofs.entries.find.Goals as goal

pub returns : goal.returns
returns c = c.get.ensures.value ∙ found c.args.id c.args.entries.now.entries c.requires
