use Rattle.std.proofs.Common.{◌≡◌, ◌++◌, map, drop}
use Rattle.std.specs.List.{filter}
use Rattle.slate_script_databases.specs.Databases.{is_l0_of, view_of}
use Rattle.slate_script_databases.proofs.trees.views_in.Given as goal

-- the views of the items that are left come after those so far
abbrev pub invariant-loop-item : goal.invariant-loop-item
invariant-loop-item l = l.views.items ++ map view_of (filter (is_l0_of l.prefix) (drop l.item-index l.items)) ≡ map view_of (filter (is_l0_of l.prefix) l.items)
