use Rattle.slate_script_databases.specs.Databases.{named_prefixes, segment_prefixes}
use Rattle.slate_script_databases.specs.PrefixGroups.{group_at}
use Rattle.slate_script_databases.proofs.Grouped.{same_segments}
use Rattle.slate_script_databases.proofs.trees.segments_of.Goals as goal

pub returns-clause-segments : goal.returns-clause-segments
returns-clause-segments c = rw (c.in_ok-prefixes.ensures, same_segments (group_at c.in_ok-groups.groups) c.args.items.now c.in_ok-groups.ensures (segment_prefixes (named_prefixes c.args.items.now))) at c.segments_at.ensures
