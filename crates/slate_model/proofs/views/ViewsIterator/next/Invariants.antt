use Rattle.std.proofs.Common.{◌≡◌}
use Rattle.slate_model.specs.Walks.{views_left, parts_left}
use Rattle.slate_model.proofs.views.ViewsIterator.next.Given as goal

-- what is left stays the same
abbrev pub invariant-loop-self : goal.invariant-loop-self
invariant-loop-self l = views_left l.self-inside.parts ≡ views_left l.initial.self-inside.parts

abbrev pub decreases-loop-self : goal.decreases-loop-self
decreases-loop-self l = parts_left l.self-inside.parts
