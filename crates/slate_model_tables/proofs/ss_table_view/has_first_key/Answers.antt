use Rattle.std.proofs.Common.{rules}
use Rattle.slate_model_tables.proofs.Slots.{own_first}
use Rattle.slate_model_tables.proofs.ss_table_view.has_first_key.Goals as goal

pub returns-in-Included : goal.returns-in-Included
returns-in-Included c = let e = own_first c.args.range.now c.in-Included.key.now (search rules) in search (rules, e)
