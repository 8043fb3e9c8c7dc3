use Rattle.std.proofs.Common.{◌≡◌, ◌++◌, take}
use Rattle.std.specs.List.{flat_map}
use Rattle.slate_script_databases.proofs.opening_tables.push_run_tables.Given as goal

-- the tables of the runs so far are there
abbrev pub invariant-loop-item : goal.invariant-loop-item
invariant-loop-item l = l.ids ≡ l.fn.ids ++ flat_map (λ i. i.table_ids) (take l.item-index l.items)
