use Rattle.slate_ids.proofs.PrefixRanges.{prefix_keys, prefix_is_proper}
use Rattle.slate_ids.proofs.RangeLaws.{common_keys, improper_no_keys, meet_sides}
use Rattle.slate_ids.proofs.laws.ranges_are_sets.Goals as goal

pub returns : goal.returns
returns c = record {
  common = common_keys;
  meet = meet_sides;
  none = improper_no_keys;
  prefix = prefix_keys;
  prefix_proper = prefix_is_proper;
}
