use Rattle.std.proofs.Common.{◌∙◌, sym, subst}
use Rattle.slate_state_merges.specs.Merging.{IsFront}
use Rattle.slate_state_merges.proofs.Fronts.{is_front}
use Rattle.slate_state_merges.proofs.tree_merge.merge_writer_and_compactor.Goals as goal

pub returns-in-Ok-clause-front : goal.returns-in-Ok-clause-front
returns-in-Ok-clause-front c = subst (IsFront c.args.compactor.now c.args.writer.now.l0) (sym (c.shrink_to_fit.ensures ∙ c.in_ok-l0.ensures)) (is_front c.args.compactor.now c.args.writer.now.l0)
