use Rattle.std.proofs.Common.{[], rules}
use Rattle.std.proofs.lemmas.List.Sorted.{IsPartitionPoint-from_clause}
use Rattle.slate_model.specs.SegmentReach.{is_over}
use Rattle.slate_ids.specs.Keys.{pointed}
use Rattle.slate_model.proofs.Ascending.{someone}
use Rattle.slate_model.proofs.Chosen.{partitioned, stays_fallen, over_falls, point_is}
use Rattle.slate_model.proofs.segment_selection.passed.Goals as goal

pub returns-clause-place : goal.returns-clause-place
returns-clause-place c =
    let test = is_over (pointed c.args.start) in
    let segments = c.args.segments.now in
    point_is test segments someone _ c.partition_point.ensures.bound
    (IsPartitionPoint-from_clause test _ _ c.partition_point.ensures.partitioned (partitioned test segments (stays_fallen test (over_falls (pointed c.args.start)) [] segments c.requires.ascending c.requires.apart)) (λ a r q k. search rules))
