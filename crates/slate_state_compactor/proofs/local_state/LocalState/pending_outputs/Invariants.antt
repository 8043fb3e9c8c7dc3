use Rattle.std.proofs.Common.{◌≡◌, ◌++◌}
use Rattle.slate_state_compactor.specs.Local.{outputs_among}
use Rattle.slate_state_compactor.proofs.local_state.LocalState.pending_outputs.Given as goal

-- the outputs of the compactions so far and of those that are left
abbrev pub invariant-loop-compaction : goal.invariant-loop-compaction
invariant-loop-compaction l = l.ids ++ outputs_among l.self.pending l.compaction-iterator ≡ outputs_among l.self.pending l.self.compactions.entries
