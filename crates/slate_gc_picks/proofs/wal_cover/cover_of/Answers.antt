use Rattle.std.proofs.Common.{rules, ◌≡◌}
use Rattle.slate_gc_picks.proofs.WalCovered.{all_covered}
use Rattle.slate_gc_picks.specs.WalCovers.{HasNumbers}
use Rattle.slate_gc_picks.proofs.wal_cover.cover_of.Goals as goal

pub returns : goal.returns
returns c =
    let has : HasNumbers c.in_ok-spans.spans.items c.args.ranges.now = c.in_ok-spans.ensures in
    let whole : c.as_slice.result.now ≡ c.sort.new.spans.items = search rules in
    all_covered c.in_ok-spans.spans.items c.sort.new.spans.items c.as_slice.result.now c.args.ranges.now c.raised-cover.result has c.sort.ensures.same c.sort.ensures.sorted whole c.raised-cover.ensures
