use Rattle.std.proofs.Common.{◌≡◌, ◌-◌}
use Rattle.slate_layout_parts.specs.Reading.{items_in}
use Rattle.slate_layout_manifests.specs.OldManifests.{old_run_in}
use Rattle.slate_layout_parts.proofs.Items.{with_front}
use Rattle.slate_layout_decoding.proofs.first_version.read_run_items.Given as goal

-- the values so far, and those that are still to be read
abbrev pub invariant-loop : goal.invariant-loop
invariant-loop l = with_front l.items (items_in old_run_in (l.count - l.counter) l.left) ≡ items_in old_run_in l.count l.fn.from
