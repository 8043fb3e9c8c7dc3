use Rattle.std.proofs.Common.{◌≡◌, sym, ◌∙◌, subst, arith}
use Rattle.std.proofs.lemmas.Grind.{common_steps}
use Rattle.slate_model.proofs.Latest.{later-assoc, later-none, latest-append, moment-latest, latest-greatest}
use Rattle.slate_model.specs.Watermark.{flushed_of, latest, IsGreatestOf}
use Rattle.slate_model.proofs.manifest_core.ManifestCore.max_l0_ulid_timestamp_across_trees.Goals as goal

pub loop-tree-preserved : goal.loop-tree-preserved
loop-tree-preserved c = grind (arith, common_steps, later-assoc, latest-append)

pub returns-clause-greatest : goal.returns-clause-greatest
returns-clause-greatest c = grind (arith, common_steps, later-none, latest-greatest (flushed_of c.args.self.now))

pub returns-clause-watermark : goal.returns-clause-watermark
returns-clause-watermark c = grind (arith, common_steps, later-none, moment-latest (flushed_of c.args.self.now))
