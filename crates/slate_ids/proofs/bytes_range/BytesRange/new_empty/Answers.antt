use Rattle.std.proofs.Common.{refl}
use Rattle.slate_ids.specs.Keys.{is_ordered}
use Rattle.slate_ids.specs.KeyRange.{no_keys}
use Rattle.slate_ids.proofs.RangeLaws.{improper_no_keys}
use Rattle.slate_ids.proofs.bytes_range.BytesRange.new_empty.Goals as goal

pub returns-clause-empty : goal.returns-clause-empty
unfolding is_ordered
returns-clause-empty c key = improper_no_keys no_keys key refl
