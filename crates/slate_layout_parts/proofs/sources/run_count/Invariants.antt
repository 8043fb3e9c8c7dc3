use Rattle.std.proofs.Common.{◌≡◌, ◌≤◌, ◌+◌, drop, length}
use Rattle.slate_layout_parts.specs.RecordParts.{runs_in}
use Rattle.slate_layout_parts.proofs.sources.run_count.Given as goal

-- those so far and those that are left
abbrev pub invariant-loop-source : goal.invariant-loop-source
invariant-loop-source l = (l.count + length (runs_in (drop l.source-index l.sources)) ≡ length (runs_in l.sources)) × (l.count ≤ l.source-index)
