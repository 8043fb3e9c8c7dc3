use Rattle.std.proofs.Common.{◌≡◌, ◌∷◌, drop}
use Rattle.slate_layout_parts.specs.TablesOfViews.{ascend}
use Rattle.slate_layout_parts.proofs.tables.are_ascending.Given as goal

-- the last table and those that are left decide
abbrev pub invariant-loop-table : goal.invariant-loop-table
invariant-loop-table l = ascend (l.last ∷ drop l.table-index l.others) ≡ ascend l.handles
