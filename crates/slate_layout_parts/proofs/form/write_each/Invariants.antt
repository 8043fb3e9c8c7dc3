use Rattle.std.proofs.Common.{◌≡◌, ◌++◌, take, true}
use Rattle.std.specs.List.{flat_map, list_all}
use Rattle.slate_layout_parts.proofs.form.write_each.Given as goal

-- the bytes of the values so far, which are of their type
abbrev pub invariant-loop-item : goal.invariant-loop-item
invariant-loop-item g l = (l.out.items ≡ l.fn.out.items ++ flat_map g.F.Form.bytes (take l.item-index l.items)) × (list_all g.F.Form.is_typed (take l.item-index l.items) ≡ true)
