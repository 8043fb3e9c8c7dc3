use Rattle.std.proofs.Common.{◌≡◌, drop}
use Rattle.std.specs.List.{list_all}
use Rattle.slate_layout_parts.specs.TablesOfViews.{table_id}
use Rattle.slate_layout_manifests.specs.UsedTables.{has}
use Rattle.slate_layout_manifests.proofs.used_tables.are_among.Given as goal

-- the tables that are left decide
abbrev pub invariant-loop-table : goal.invariant-loop-table
invariant-loop-table l = list_all (λ h. has l.ids (table_id h.id)) (drop l.table-index l.handles) ≡ list_all (λ h. has l.ids (table_id h.id)) l.handles
