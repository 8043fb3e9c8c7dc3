use Rattle.std.proofs.Common.{◌≡◌, ◌++◌, map, take}
use Rattle.slate_script_databases.proofs.opening_tables.push_l0_tables.Given as goal

-- the tables of the items so far are there
abbrev pub invariant-loop-item : goal.invariant-loop-item
invariant-loop-item l = l.ids ≡ l.fn.ids ++ map (λ i. i.table_id) (take l.item-index l.items)
