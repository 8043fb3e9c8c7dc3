use Rattle.slate_layout_parts.proofs.LeastLengths.{parts_is}
use Rattle.slate_layout_parts.proofs.laws.lists_are_whole.Goals as goal

pub returns : goal.returns
returns c s tables bytes small = parts_is _ _ _ _ (c.F.Form.reads tables) bytes small
