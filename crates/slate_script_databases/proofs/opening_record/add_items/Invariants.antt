use Rattle.std.proofs.Common.{◌≡◌, drop}
use Rattle.slate_script_databases.specs.OpeningRecords.{with_items}
use Rattle.slate_script_databases.proofs.opening_record.add_items.Given as goal

-- the record so far and the items that are left
abbrev pub invariant-loop-item : goal.invariant-loop-item
invariant-loop-item l = with_items l.compactions (drop l.item-index l.items) ≡ with_items l.fn.compactions l.items
