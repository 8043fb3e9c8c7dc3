use Rattle.std.proofs.Common.{◌≡◌, ◌++◌, take, drop, map}
use Rattle.slate_model.specs.Externals.{pruned_entry}
use Rattle.slate_model.proofs.pruned_entries.prune_all.Given as goal

-- the entries so far are pruned, and the others as they were
abbrev pub invariant-loop-entry : goal.invariant-loop-entry
invariant-loop-entry l = l.entries ≡ map (pruned_entry l.core) (take l.entry-index l.initial.entries) ++ drop l.entry-index l.initial.entries
