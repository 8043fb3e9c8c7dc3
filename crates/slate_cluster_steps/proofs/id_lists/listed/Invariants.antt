use Rattle.std.proofs.Common.{◌≡◌, ◌++◌, drop}
use Rattle.std.specs.List.{filter_map}
use Rattle.slate_cluster_steps.proofs.id_lists.listed.Given as goal

-- the ids so far and those that are left
abbrev pub invariant-loop-one : goal.invariant-loop-one
invariant-loop-one g l = l.all ++ filter_map (λ o. o) (drop l.one-index l.ids) ≡ filter_map (λ o. o) l.ids
