use Rattle.slate_state_compactor.proofs.Sets.{if_ids}
use Rattle.slate_state_compactor.specs.Sources.{source_views}
use Rattle.slate_state_compactor.proofs.taken.views_of.Goals as goal

pub returns : goal.returns
returns c = if_ids c.set_of-set.result (source_views c.args.sources.now) (rw c.in_ok-ids.ensures at (rw c.as_slice.ensures at c.set_of-set.ensures))
