use Rattle.std.proofs.Common.{List, sym, subst}
use Rattle.slate_model.specs.Segments.{Prefixed, IsAscending}
use Rattle.slate_state_merges.specs.SegmentMerging.{Ascends, IsMergeByPrefix, from_compactor}
use Rattle.slate_state_merges.proofs.ByPrefix.{merge_by_prefix}
use Rattle.slate_state_merges.proofs.CompactorTurns.{compactor_on, compactor_over, merge_ascends, merge_is_ascending}
use Rattle.slate_state_merges.proofs.WriterTurns.{left_ascend}
use Rattle.slate_state_merges.proofs.segment_merges.merge_segments_from_compactor.Goals as goal

pub returns-in-None-clause-by_prefix : goal.returns-in-None-clause-by_prefix
returns-in-None-clause-by_prefix c =
    let all = compactor_over c.turns.left.writer.now c.turns.left.compactor.now c.turns.merged.items (from_compactor c.args.local.now c.args.compactor.now) c.in-None.ensures.writer c.in-None.ensures.compactor c.turns.invariant.so_far in
    subst (λ (l : List Prefixed). IsMergeByPrefix c.args.local.now c.args.compactor.now l) (sym all) (merge_by_prefix c.args.local.now c.args.compactor.now c.requires.local)

pub returns-in-None-clause-ascends : goal.returns-in-None-clause-ascends
returns-in-None-clause-ascends c =
    let all = compactor_over c.turns.left.writer.now c.turns.left.compactor.now c.turns.merged.items (from_compactor c.args.local.now c.args.compactor.now) c.in-None.ensures.writer c.in-None.ensures.compactor c.turns.invariant.so_far in
    subst Ascends (sym all) (merge_ascends c.args.local.now c.args.compactor.now c.requires.local)

pub returns-in-None-clause-named : goal.returns-in-None-clause-named
returns-in-None-clause-named c =
    let all = compactor_over c.turns.left.writer.now c.turns.left.compactor.now c.turns.merged.items (from_compactor c.args.local.now c.args.compactor.now) c.in-None.ensures.writer c.in-None.ensures.compactor c.turns.invariant.so_far in
    λ a b. subst IsAscending (sym all) (merge_is_ascending c.args.local.now c.args.compactor.now a b)

pub turns-preserved : goal.turns-preserved
turns-preserved c =
    let takes = c.in-Some.ensures.takes in
    let left = left_ascend c.in-Some.turn c.turns.left.writer.now c.turns.left.compactor.now c.next.new.self.writer.now c.next.new.self.compactor.now takes c.turns.invariant.writer c.turns.invariant.compactor in
    let more = compactor_on c.in-Some.turn c.turns.left.writer.now c.turns.left.compactor.now c.next.new.self.writer.now c.next.new.self.compactor.now c.turns.merged.items (from_compactor c.args.local.now c.args.compactor.now) takes c.turns.invariant.writer c.turns.invariant.compactor c.turns.invariant.so_far in
    record {
      so_far = rw (c.in_ok-push_kept-in-Some.ensures) (rw (← c.in_ok-merge-in-Some.ensures) at more);
      writer = left.0;
      compactor = left.1;
    }
