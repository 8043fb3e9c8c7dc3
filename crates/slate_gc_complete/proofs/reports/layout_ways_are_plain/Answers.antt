use Rattle.slate_gc_complete.proofs.LayoutWays.{layout_plain}
use Rattle.slate_gc_complete.proofs.reports.layout_ways_are_plain.Goals as goal

pub returns : goal.returns
returns c = layout_plain
