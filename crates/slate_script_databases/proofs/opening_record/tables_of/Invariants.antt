use Rattle.std.proofs.Common.{◌≡◌, map, take}
use Rattle.slate_script_databases.specs.Databases.{table_of}
use Rattle.slate_script_databases.proofs.opening_record.tables_of.Given as goal

-- the tables of the ids so far are there
abbrev pub invariant-loop-id : goal.invariant-loop-id
invariant-loop-id l = l.tables ≡ map table_of (take l.id-index l.ids)
