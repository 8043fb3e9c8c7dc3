use Rattle.std.proofs.Common.{◌≡◌, ◌+◌, ◌++◌, length}
use Rattle.slate_state_merges.specs.SegmentMerging.{Ascends, from_compactor}
use Rattle.slate_state_merges.proofs.segment_merges.merge_segments_from_compactor.Given as goal

-- what is merged so far, with the merge of what is left, is the merge; what is left ascends
abbrev pub invariant-turns : goal.invariant-turns
invariant-turns l = record {
  so_far : l.merged.items ++ from_compactor l.left.writer.now l.left.compactor.now ≡ from_compactor l.local l.compactor;
  writer : Ascends l.left.writer.now;
  compactor : Ascends l.left.compactor.now;
}

abbrev pub decreases-turns : goal.decreases-turns
decreases-turns l = length l.left.writer.now + length l.left.compactor.now
