use Rattle.std.proofs.Common.{◌≡◌, ◌++◌, map}
use Rattle.slate_cluster_opening.proofs.ids.push_record_ids.Given as goal

-- the ids so far and the compactions that are left
abbrev pub invariant-loop-compaction : goal.invariant-loop-compaction
invariant-loop-compaction l = l.ids.items ++ map (λ c. c.id) l.compaction-iterator ≡ l.fn.ids.items ++ map (λ c. c.id) l.compactions.entries
