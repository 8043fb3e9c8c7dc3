use Rattle.slate_layout_records.proofs.NormalLaws.{normal_only, normal_told}
use Rattle.slate_layout_records.proofs.laws.normal_records.Goals as goal

pub returns : goal.returns
returns c r = (normal_only r, normal_told r)
