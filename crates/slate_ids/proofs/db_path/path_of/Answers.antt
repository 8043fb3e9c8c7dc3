use Rattle.slate_ids.proofs.Paths.{name_in_block, short_name}
use Rattle.slate_ids.proofs.db_path.path_of.Goals as goal

pub invariant_of-result : goal.invariant_of-result
invariant_of-result c = name_in_block _ _ c.copy_from_slice.ensures.after (short_name _ c.requires) c.requires
