use Rattle.std.proofs.Common.{◌≡◌, ◌++◌, map, true}
use Rattle.std.specs.List.{flat_map, list_all}
use Rattle.slate_layout_parts.specs.InfoParts.{handle_bytes}
use Rattle.slate_layout_parts.specs.Typed.{is_handle}
use Rattle.slate_layout_manifests.proofs.gathered.write_tables.Given as goal

-- the bytes so far, and those of the tables that are left; all tables are of their type where those are
abbrev pub invariant-loop-table : goal.invariant-loop-table
invariant-loop-table l = (l.out.items ++ flat_map handle_bytes (map (λ e. e.1) l.table-iterator) ≡ l.fn.out.items ++ flat_map handle_bytes (map (λ e. e.1) l.tables.entries)) × (list_all is_handle (map (λ e. e.1) l.table-iterator) ≡ true → list_all is_handle (map (λ e. e.1) l.tables.entries) ≡ true)
