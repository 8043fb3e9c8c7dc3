use Rattle.std.proofs.Common.{◌++◌, drop}
use Rattle.slate_state_compactor.proofs.Sets.{HaveSame}
use Rattle.slate_state_compactor.proofs.taken.set_of.Given as goal

-- the keys so far and those that are left
abbrev pub invariant-loop-key : goal.invariant-loop-key
invariant-loop-key g l = HaveSame g.K.Ord.cmp (l.set.keys ++ drop l.key-index l.all) l.all
