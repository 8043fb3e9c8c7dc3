use Rattle.std.proofs.Common.{rules}
use Rattle.slate_model_tables.proofs.Overlaps.{is_greatest}
use Rattle.slate_model_tables.proofs.l0_overlap.max_l0_overlap.Goals as goal

pub returns : goal.returns
returns c = is_greatest c.args.l0.now.items _ _ _ c.most_open-most.result c.requires (record { start_order = search rules; end_order = search rules; limit_order = search rules }) (search rules) c.most_open-most.ensures
