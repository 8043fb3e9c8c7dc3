use Rattle.std.proofs.Common.{◌≡◌, []}
use Rattle.slate_model.specs.Trees.{views_of}
use Rattle.slate_layout_manifests.specs.Gathered.{gathered}
use Rattle.slate_layout_manifests.proofs.gathered.Gathered.of_core.Given as goal

-- the tables so far, with those of the views that are left
abbrev pub invariant-loop-view : goal.invariant-loop-view
invariant-loop-view l = gathered l.view-iterator l.tables ≡ gathered (views_of l.core) []
