use Rattle.std.proofs.Common.{◌≡◌, ◌≤◌, true, length, drop}
use Rattle.std.specs.Ordering.{nat_cmp}
use Rattle.std.specs.Cmp.Lexicographic.{slice_cmp}
use Rattle.std.specs.BTreeSet.{contains}
use Rattle.slate_script_databases.specs.DatabaseFields as database_fields
use Rattle.slate_script_databases.proofs.Markers.{Seen}
use Rattle.slate_script_databases.proofs.tree_items.one_each.Given as goal

-- the prefixes of the markers behind were seen, each once
abbrev pub invariant-loop-i : goal.invariant-loop-i
invariant-loop-i l = record {
  within : l.i ≤ length l.markers;
  seen : Seen (contains (slice_cmp nat_cmp) l.seen) (drop l.i l.markers);
  once : database_fields.one_each (drop l.i l.markers) ≡ true;
}

abbrev pub decreases-loop-i : goal.decreases-loop-i
decreases-loop-i l = l.i
