use Rattle.std.proofs.Common.{◌≡◌, ◌≤◌, ◌+◌, drop, length}
use Rattle.slate_layout_parts.specs.RecordParts.{views_in}
use Rattle.slate_layout_parts.proofs.sources.view_count.Given as goal

-- those so far and those that are left
abbrev pub invariant-loop-source : goal.invariant-loop-source
invariant-loop-source l = (l.count + length (views_in (drop l.source-index l.sources)) ≡ length (views_in l.sources)) × (l.count ≤ l.source-index)
