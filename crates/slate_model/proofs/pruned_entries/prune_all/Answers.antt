use Rattle.std.proofs.Common.{arith}
use Rattle.std.proofs.lemmas.Grind.{common_steps}
use Rattle.std.proofs.lemmas.List.Edits.{map_over_more}
use Rattle.slate_model.specs.Externals.{pruned_entry}
use Rattle.slate_model.proofs.pruned_entries.prune_all.Goals as goal

pub loop-entry-preserved : goal.loop-entry-preserved
loop-entry-preserved c = grind (arith, common_steps, map_over_more (pruned_entry c.args.core.now))
