use Rattle.std.proofs.Common.{rules, of_calls, ◌∙◌, int_lt}
use Rattle.std.proofs.lemmas.Fn.{always_returns_same}
use Rattle.slate_model.proofs.Trackers.{first_from_ts_is}
use Rattle.slate_model.proofs.sequence_tracker.find_first_from_ts.Goals as goal

pub returns : goal.returns
returns c =
    let place = c.partition_point-count.ensures.partitioned (λ pair. int_lt pair.1 c.args.ts) (always_returns_same _ _ _ (λ a r f k. search (rules, of_calls))) in
    c.copied.ensures ∙ c.first.ensures.value ∙ first_from_ts_is c.args.pairs.now c.args.ts c.partition_point-count.result c.requires place
