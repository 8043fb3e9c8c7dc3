use Rattle.std.proofs.Common.{◌≡◌, ◌++◌, drop}
use Rattle.std.specs.List.{flat_map}
use Rattle.slate_cluster_protocol.specs.Specs.{entry_checkpoints}
use Rattle.slate_cluster_opening.proofs.opening_ids.entries_checkpoints.Given as goal

-- the ids so far and the entries that are left
abbrev pub invariant-loop-entry : goal.invariant-loop-entry
invariant-loop-entry l = l.all.items ++ flat_map entry_checkpoints (drop l.entry-index l.entries) ≡ flat_map entry_checkpoints l.entries
