use Rattle.std.proofs.Common.{◌≡◌, ◌++◌, drop}
use Rattle.slate_state_compactor.specs.Sources.{source_views}
use Rattle.slate_state_compactor.proofs.taken.source_views.Given as goal

-- the views so far and those that are left
abbrev pub invariant-loop-source : goal.invariant-loop-source
invariant-loop-source l = l.ids ++ source_views (drop l.source-index l.sources) ≡ source_views l.sources
