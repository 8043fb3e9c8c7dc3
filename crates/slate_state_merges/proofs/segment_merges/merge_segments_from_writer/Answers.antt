use Rattle.std.proofs.Common.{inl, inr}
use Rattle.slate_state_merges.specs.SegmentMerging.{from_writer}
use Rattle.slate_state_merges.specs.SideBySide.{followed}
use Rattle.slate_state_merges.proofs.WriterTurns.{left_ascend, writer_on, writer_over, writer_refused, gives_ok, merge_ascends, merge_is_ascending}
use Rattle.slate_state_merges.proofs.segment_merges.merge_segments_from_writer.Goals as goal

pub returns-in-None-clause-ascends : goal.returns-in-None-clause-ascends
returns-in-None-clause-ascends c =
    let all = writer_over c.turns.left.writer.now c.turns.left.compactor.now c.turns.merged.items (from_writer c.args.local.now c.args.writer.now) c.in-None.ensures.writer c.in-None.ensures.compactor c.turns.invariant.so_far in
    merge_ascends c.args.local.now c.args.writer.now c.turns.merged.items all c.requires.writer

pub returns-in-None-clause-named : goal.returns-in-None-clause-named
returns-in-None-clause-named c =
    let all = writer_over c.turns.left.writer.now c.turns.left.compactor.now c.turns.merged.items (from_writer c.args.local.now c.args.writer.now) c.in-None.ensures.writer c.in-None.ensures.compactor c.turns.invariant.so_far in
    merge_is_ascending c.args.local.now c.args.writer.now c.turns.merged.items all

pub returns-in-Err-clause-err : goal.returns-in-Err-clause-err
returns-in-Err-clause-err c =
    elim c.in-Err.ensures [
      | inl h ↦ inl (writer_refused c.in-Some.turn c.turns.left.writer.now c.turns.left.compactor.now c.next.new.self.writer.now c.next.new.self.compactor.now c.turns.merged.items c.in-Err.e (from_writer c.args.local.now c.args.writer.now) c.in-Some.ensures.takes c.turns.invariant.writer c.turns.invariant.compactor c.turns.invariant.so_far h)
      | inr m ↦ inr m
    ]

pub turns-preserved : goal.turns-preserved
turns-preserved c =
    let takes = c.in-Some.ensures.takes in
    let left = left_ascend c.in-Some.turn c.turns.left.writer.now c.turns.left.compactor.now c.next.new.self.writer.now c.next.new.self.compactor.now takes c.turns.invariant.writer c.turns.invariant.compactor in
    let is = gives_ok c.in-Ok.segment (followed c.in-Some.turn) c.in-Ok.ensures in
    let more = writer_on c.in-Some.turn c.turns.left.writer.now c.turns.left.compactor.now c.next.new.self.writer.now c.next.new.self.compactor.now c.turns.merged.items c.in-Ok.segment (from_writer c.args.local.now c.args.writer.now) takes c.turns.invariant.writer c.turns.invariant.compactor c.turns.invariant.so_far is in
    record {
      so_far = rw (c.in_ok-push_some-in-Ok.ensures) more;
      writer = left.0;
      compactor = left.1;
    }
