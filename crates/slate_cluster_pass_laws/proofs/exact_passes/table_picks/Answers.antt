use Rattle.std.proofs.Common.{refl}
use Rattle.slate_ids.specs.declared.gc_message.GcMessage.TheVariants as of
use Rattle.slate_cluster_pass_laws.proofs.RulePicks.{picks_are}
use Rattle.slate_cluster_pass_laws.proofs.exact_passes.table_picks.Goals as goal

pub returns : goal.returns
returns c = λ facts min_age dry_run filter answers. picks_are facts of.Compacted min_age dry_run filter refl answers
