use Rattle.std.proofs.Common.{rules}
use Rattle.std.proofs.lemmas.Fn.{filter_same}
use Rattle.slate_model.specs.Externals.{is_used}
use Rattle.slate_model.proofs.pruned_entries.keep_used.Goals as goal

pub returns : goal.returns
returns c = filter_same _ (is_used c.args.core.now) _ (λ x b f' k. search rules) _ _ c.retain.ensures.filtered
