use Rattle.std.proofs.Common.{[], rules}
use Rattle.std.proofs.lemmas.List.Sorted.{IsPartitionPoint-from_clause}
use Rattle.slate_model.proofs.Ascending.{before, parted, place_is}
use Rattle.slate_model.proofs.segment_search.place_of.Goals as goal

pub returns-clause-place : goal.returns-clause-place
returns-clause-place c =
    place_is c.args.prefix.now c.args.segments.now _ c.partition_point.ensures.bound
    (IsPartitionPoint-from_clause (before c.args.prefix.now) _ _ c.partition_point.ensures.partitioned (parted c.args.prefix.now [] _ c.requires.ascending) (λ a r q k. search rules))
