use Rattle.std.proofs.Common.{rules}
use Rattle.slate_model_tables.proofs.Shown.{some_key, not_proper}
use Rattle.slate_model_tables.proofs.ss_table_view.SsTableView.shows_key.Goals as goal

pub returns-clause-some : goal.returns-clause-some
returns-clause-some c = some_key c.args.self.now

pub returns-clause-none : goal.returns-clause-none
returns-clause-none c h key = c.ranges_are_sets.ensures.none _ key (not_proper c.args.self.now (search rules) h)
