use Rattle.slate_model.specs.Trees.{tables_of, tables_of_views}
use Rattle.slate_gc_picks.proofs.Sets.{TablesLeft}
use Rattle.slate_gc_picks.proofs.tables.note_tables.Given as goal

-- the set has the tables so far besides those that it had, and those of the views that are left
abbrev pub invariant-loop-view : goal.invariant-loop-view
invariant-loop-view l = TablesLeft l.fn.used l.used (tables_of_views l.view-iterator) (tables_of l.core)
