use Rattle.std.proofs.Common.{◌≡◌, ℕ, List, take}
use Rattle.std.specs.List.{filter}
use Rattle.slate_script_databases.specs.Databases.{is_l0_of}
use Rattle.slate_script_databases.specs.PrefixGroups.{group_at, with_l0}
use Rattle.slate_script_databases.proofs.groups.add_all_l0.Given as goal

-- the items so far are there
abbrev pub invariant-loop-item : goal.invariant-loop-item
invariant-loop-item l = (q : List ℕ) → group_at l.groups q ≡ with_l0 (group_at l.fn.groups q) (filter (is_l0_of q) (take l.item-index l.items))
