use Rattle.slate_layout_encodable.proofs.NormalSegments.{ascend_as_before}
use Rattle.slate_layout_encodable.proofs.normal.ascending_segments.Goals as goal

pub returns-clause-ascending : goal.returns-clause-ascending
returns-clause-ascending c = rw c.in_ok-made.ensures (ascend_as_before c.args.segments.now c.requires.ascending)
