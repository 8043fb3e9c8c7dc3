use Rattle.std.proofs.Common.{◌≡◌, ◌++◌, map}
use Rattle.slate_script_databases.specs.Databases.{segment_of}
use Rattle.slate_script_databases.specs.PrefixGroups.{group_at}
use Rattle.slate_script_databases.proofs.trees.segments_at.Given as goal

-- the segments so far and the prefixes that are left
abbrev pub invariant-loop-prefix : goal.invariant-loop-prefix
invariant-loop-prefix l = l.segments.items ++ map (λ p. segment_of (group_at l.groups p) p) l.prefix-iterator ≡ map (λ p. segment_of (group_at l.groups p) p) l.prefixes.keys
