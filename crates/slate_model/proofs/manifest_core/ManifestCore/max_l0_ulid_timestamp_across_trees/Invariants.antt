use Rattle.std.proofs.Common.{◌≡◌}
use Rattle.std.specs.List.{flat_map}
use Rattle.slate_model.specs.Watermark.{later, latest, flushed_of_tree, flushed_of}
use Rattle.slate_model.proofs.manifest_core.ManifestCore.max_l0_ulid_timestamp_across_trees.Given as goal

-- the best so far and the best of the trees that are left
abbrev pub invariant-loop-tree : goal.invariant-loop-tree
invariant-loop-tree l = later l.best (latest (flat_map flushed_of_tree l.tree-iterator)) ≡ latest (flushed_of l.self)
