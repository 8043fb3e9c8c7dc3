use Rattle.std.proofs.Common.{◌≡◌, ◌++◌, take}
use Rattle.slate_script_databases.proofs.opening_tables.push_ids.Given as goal

-- the ids so far are there
abbrev pub invariant-loop-id : goal.invariant-loop-id
invariant-loop-id l = l.ids ≡ l.fn.ids ++ take l.id-index l.others
