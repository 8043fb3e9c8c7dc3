use Rattle.std.proofs.Common.{rules, arith, ap, ◌∙◌, ◌≤◌, ◌≡◌, ℕ, ℤ, List, length, slice_set, ◌-◌}
use Rattle.slate_model.proofs.Trackers.{turned}
use Rattle.slate_model.proofs.sequence_tracker.append.Goals as goal

pub returns-clause-ok : goal.returns-clause-ok
returns-clause-ok c =
    let len : c.len-len.result ≡ length c.args.pairs.now.items = search rules in
    let full : 4096 ≤ length c.args.pairs.now.items = omega arith in
    ap (λ (l : List (ℕ × ℤ)). slice_set l (c.len-len.result - 1) c.args.pair) c.rotate_left.ensures.items
    ∙ turned c.args.pairs.now.items c.args.pair c.len-len.result full len
