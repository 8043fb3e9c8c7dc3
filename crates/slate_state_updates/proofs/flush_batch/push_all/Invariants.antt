use Rattle.std.proofs.Common.{drop}
use Rattle.slate_model.specs.Trees.{tables_of}
use Rattle.slate_state_updates.specs.Flushes.{with_all_flushed, fresh_tables}
use Rattle.slate_state_updates.proofs.Freshening.{Freshens}
use Rattle.slate_state_updates.proofs.flush_batch.push_all.Given as goal

-- the tables so far are put or known, and those that are left lead to all of them
abbrev pub invariant-loop-table : goal.invariant-loop-table
invariant-loop-table l = Freshens l.set l.core (drop l.table-index l.tables) (with_all_flushed l.fn.core (fresh_tables (tables_of l.fn.core) l.tables))
