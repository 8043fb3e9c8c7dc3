use Rattle.std.proofs.Common.{◌≡◌, ◌++◌, drop}
use Rattle.slate_state_updates.specs.ExternalEntries.{tables_with}
use Rattle.slate_state_updates.proofs.entries.tables_with.Given as goal

-- the tables so far and those of the entries that are left
abbrev pub invariant-loop-entry : goal.invariant-loop-entry
invariant-loop-entry l = l.ids ++ tables_with l.old (drop l.entry-index l.new) ≡ tables_with l.old l.new
