use Rattle.std.proofs.Common.{rules}
use Rattle.slate_model_tables.proofs.Projections.{projection_of}
use Rattle.slate_model_tables.proofs.ss_table_view.SsTableView.try_with_visible_range.Goals as goal

pub invariant_of-result : goal.invariant_of-result
invariant_of-result c = projection_of c.args.self.now.sst _ c.args.visible (search rules) c.requires.start (search rules) (search rules)
