use Rattle.slate_model_records.proofs.Ordered.{ascending}
use Rattle.slate_model_records.proofs.compactions_iter.CompactionsIter.over.Goals as goal

pub returns-clause-ascending : goal.returns-clause-ascending
returns-clause-ascending c = ascending c.args.entries.now.entries c.values.ensures.ordered c.requires
