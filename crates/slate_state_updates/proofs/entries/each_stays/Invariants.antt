use Rattle.std.proofs.Common.{◌≡◌, drop}
use Rattle.std.specs.List.{list_all}
use Rattle.slate_model.specs.Trees.{tables_of}
use Rattle.slate_state_updates.specs.ExternalEntries.{used_stay}
use Rattle.slate_state_updates.proofs.entries.each_stays.Given as goal

-- the entries that are left decide
abbrev pub invariant-loop-entry : goal.invariant-loop-entry
invariant-loop-entry l = list_all (used_stay (tables_of l.new.core) l.new.external_dbs) (drop l.entry-index l.old) ≡ list_all (used_stay (tables_of l.new.core) l.new.external_dbs) l.old
