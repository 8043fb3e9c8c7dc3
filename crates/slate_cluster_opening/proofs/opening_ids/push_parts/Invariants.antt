use Rattle.std.proofs.Common.{◌≡◌, ◌++◌, drop, map}
use Rattle.std.specs.List.{flat_map}
use Rattle.slate_cluster_protocol.specs.Ids.{only_named}
use Rattle.slate_cluster_protocol.specs.Specs.{handle_ulids}
use Rattle.slate_cluster_opening.proofs.opening_ids.push_parts.Given as goal

-- the ids so far and the parts that are left
abbrev pub invariant-loop-part : goal.invariant-loop-part
invariant-loop-part l = l.all.items ++ map only_named (flat_map (λ part. handle_ulids part.output_ssts) (drop l.part-index l.parts)) ≡ l.fn.all.items ++ map only_named (flat_map (λ part. handle_ulids part.output_ssts) l.parts)
