use Rattle.std.proofs.Common.{rules, ℕ, List}
use Rattle.std.proofs.lemmas.List.Sorted.{IsPartitionPoint-from_clause}
use Rattle.slate_ids.specs.Keys.{key_lt}
use Rattle.slate_model_tables.proofs.Counting.{point_counts}
use Rattle.slate_model_tables.proofs.Overlaps.{parts_before}
use Rattle.slate_model_tables.proofs.l0_overlap.count_before.Goals as goal

pub returns-clause-value : goal.returns-clause-value
returns-clause-value c =
    let keys = c.args.keys.now in
    let key = c.args.key.now in
    let test = λ (k : List ℕ). key_lt k key in
    let parts = parts_before keys key c.requires in
    point_counts test keys c.partition_point.result c.partition_point.ensures.bound parts (IsPartitionPoint-from_clause test keys c.partition_point.result c.partition_point.ensures.partitioned parts (λ a q f k. search rules))
