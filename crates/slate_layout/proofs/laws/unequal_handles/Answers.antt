use Rattle.slate_layout_encoding.proofs.UnequalHandles.{none_gathered}
use Rattle.slate_layout.proofs.laws.unequal_handles.Goals as goal

pub returns : goal.returns
returns c = none_gathered
