use Rattle.std.proofs.Common.{◌≡◌, ℕ, List, take}
use Rattle.std.specs.List.{filter}
use Rattle.slate_script_databases.specs.Databases.{is_marker_of}
use Rattle.slate_script_databases.specs.PrefixGroups.{group_at, with_markers}
use Rattle.slate_script_databases.proofs.groups.add_markers.Given as goal

-- the items so far are there
abbrev pub invariant-loop-item : goal.invariant-loop-item
invariant-loop-item l = (q : List ℕ) → group_at l.groups q ≡ with_markers (group_at l.fn.groups q) (filter (is_marker_of q) (take l.item-index l.items))
