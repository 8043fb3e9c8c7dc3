use Rattle.std.proofs.Common.{◌≡◌, ℕ, List, take}
use Rattle.std.specs.List.{filter}
use Rattle.slate_script_databases.specs.Databases.{is_run_of}
use Rattle.slate_script_databases.specs.PrefixGroups.{group_at, with_runs}
use Rattle.slate_script_databases.proofs.groups.add_runs.Given as goal

-- the items so far are there
abbrev pub invariant-loop-item : goal.invariant-loop-item
invariant-loop-item l = (q : List ℕ) → group_at l.groups q ≡ with_runs (group_at l.fn.groups q) (filter (is_run_of q) (take l.item-index l.items))
