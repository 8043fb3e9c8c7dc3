use Rattle.std.proofs.Common.{rules, inl}
use Rattle.slate_ids.proofs.PrefixRanges.{prefix_ordered}
use Rattle.slate_ids.proofs.bytes_range.BytesRange.from_prefix.Goals as goal

pub invariant_of-result : goal.invariant_of-result
invariant_of-result c = inl (search (rules, prefix_ordered c.args.prefix.now c.in_ok-end.end))
