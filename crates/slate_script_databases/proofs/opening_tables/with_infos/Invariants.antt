use Rattle.std.proofs.Common.{◌≡◌, map, take}
use Rattle.slate_script_databases.specs.Databases.{with_info}
use Rattle.slate_script_databases.proofs.opening_tables.with_infos.Given as goal

-- the tables of the ids so far are there
abbrev pub invariant-loop-id : goal.invariant-loop-id
invariant-loop-id l = l.tables ≡ map with_info (take l.id-index l.ids)
