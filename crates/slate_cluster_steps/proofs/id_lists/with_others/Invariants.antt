use Rattle.std.proofs.Common.{◌≡◌, ◌++◌, ◌∷◌, drop}
use Rattle.slate_cluster_steps.proofs.id_lists.with_others.Given as goal

-- the ids so far and those that are left
abbrev pub invariant-loop-other : goal.invariant-loop-other
invariant-loop-other l = l.all ++ drop l.other-index l.others ≡ l.fn.id ∷ l.others
