use Rattle.std.proofs.Common.{◌≡◌, drop, take, true, None}
use Rattle.std.specs.List.{list_all}
use Rattle.slate_model.specs.Sequences.{follows, is_pair}
use Rattle.slate_model.proofs.sequence_tracker.are_in_order.Given as goal

-- the pairs so far are in order and fit: the others decide
abbrev pub invariant-loop-pair : goal.invariant-loop-pair
invariant-loop-pair l = record { ordered : follows l.last (drop l.pair-index l.pairs) ≡ follows None l.pairs; fit : list_all is_pair (take l.pair-index l.pairs) ≡ true }
