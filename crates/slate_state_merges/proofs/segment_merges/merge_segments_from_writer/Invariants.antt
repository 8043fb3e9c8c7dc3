use Rattle.std.proofs.Common.{◌≡◌, ◌+◌, length}
use Rattle.slate_state_merges.specs.SegmentMerging.{Ascends, from_writer}
use Rattle.slate_state_merges.proofs.WriterTurns.{after}
use Rattle.slate_state_merges.proofs.segment_merges.merge_segments_from_writer.Given as goal

-- what is merged so far, with the merge of what is left, is the merge; what is left ascends
abbrev pub invariant-turns : goal.invariant-turns
invariant-turns l = record {
  so_far : after l.merged.items (from_writer l.left.compactor.now l.left.writer.now) ≡ from_writer l.local l.writer;
  writer : Ascends l.left.writer.now;
  compactor : Ascends l.left.compactor.now;
}

abbrev pub decreases-turns : goal.decreases-turns
decreases-turns l = length l.left.writer.now + length l.left.compactor.now
