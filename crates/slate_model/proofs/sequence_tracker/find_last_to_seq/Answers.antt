use Rattle.std.proofs.Common.{rules, of_calls, ◌∙◌, nat_le}
use Rattle.std.proofs.lemmas.Fn.{always_returns_same}
use Rattle.slate_model.proofs.Trackers.{last_to_seq_is}
use Rattle.slate_model.proofs.sequence_tracker.find_last_to_seq.Goals as goal

pub returns : goal.returns
returns c =
    let place = c.partition_point-count.ensures.partitioned (λ pair. nat_le pair.0 c.args.seq) (always_returns_same _ _ _ (λ a r f k. search (rules, of_calls))) in
    c.copied.ensures ∙ c.last.ensures.value ∙ last_to_seq_is c.args.pairs.now c.args.seq c.partition_point-count.result c.requires place
