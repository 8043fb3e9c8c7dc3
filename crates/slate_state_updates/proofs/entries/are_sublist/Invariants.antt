use Rattle.std.proofs.Common.{◌≡◌, drop}
use Rattle.slate_state_updates.specs.ExternalEntries.{are_sublist}
use Rattle.slate_state_updates.proofs.entries.are_sublist.Given as goal

-- what is left is to be found in what is left
abbrev pub invariant-loop-id : goal.invariant-loop-id
invariant-loop-id l = are_sublist l.left (drop l.id-index l.ids) ≡ are_sublist l.kept l.ids
