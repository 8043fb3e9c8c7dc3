use Rattle.std.proofs.Common.{◌≡◌, ◌-◌}
use Rattle.slate_layout_parts.specs.Reading.{items_in}
use Rattle.slate_layout_parts.proofs.Items.{with_front}
use Rattle.slate_layout_parts.proofs.form.read_each.Given as goal

-- the values so far, and those that are still to be read
abbrev pub invariant-loop : goal.invariant-loop
invariant-loop g l = with_front l.items (items_in (g.F.Form.in_front l.tables) (l.count - l.counter) l.left) ≡ items_in (g.F.Form.in_front l.tables) l.count l.fn.from
