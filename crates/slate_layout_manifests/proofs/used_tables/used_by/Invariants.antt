use Rattle.std.proofs.Common.{◌≡◌, ◌||◌, ℕ}
use Rattle.slate_model.specs.Trees.{views_of}
use Rattle.slate_layout_manifests.specs.UsedTables.{has, any_of}
use Rattle.slate_layout_manifests.proofs.used_tables.used_by.Given as goal

-- the tables so far, and those of the views that are left
abbrev pub invariant-loop-view : goal.invariant-loop-view
invariant-loop-view l = (q : ℕ × ℕ) → (any_of q l.view-iterator || has l.ids q) ≡ any_of q (views_of l.core)
