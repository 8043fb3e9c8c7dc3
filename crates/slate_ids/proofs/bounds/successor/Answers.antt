use Rattle.std.proofs.Common.{rules, arith, ◌≡◌, ◌+◌, ◌-◌, sym}
use Rattle.slate_ids.proofs.PrefixRanges.{successor_none, successor_at}
use Rattle.slate_ids.proofs.bounds.successor.Goals as goal

pub returns-then-used-eq0 : goal.returns-then-used-eq0
returns-then-used-eq0 c = sym (successor_none c.args.prefix.now (rw c.if-used-eq0.true at c.used_len-used.ensures.rest))

pub returns-in-Ok : goal.returns-in-Ok
returns-in-Ok c =
    let n = c.used_len-used.result - 1 in
    let next : n + 1 ≡ c.used_len-used.result = omega arith in
    let made = successor_at c.args.prefix.now n (omega (arith, c.used_len-used.ensures.within)) (c.used_len-used.ensures.last (omega arith)) (rw next c.used_len-used.ensures.rest) in
    search (rules, made)
