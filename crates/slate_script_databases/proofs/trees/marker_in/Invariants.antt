use Rattle.std.proofs.Common.{◌≡◌, drop}
use Rattle.std.specs.List.{find}
use Rattle.slate_script_databases.specs.Databases.{is_marker_of}
use Rattle.slate_script_databases.proofs.trees.marker_in.Given as goal

-- the items that are left decide
abbrev pub invariant-loop-item : goal.invariant-loop-item
invariant-loop-item l = find (is_marker_of l.prefix) (drop l.item-index l.items) ≡ find (is_marker_of l.prefix) l.items
