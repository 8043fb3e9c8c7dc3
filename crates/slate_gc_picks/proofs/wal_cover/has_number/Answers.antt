use Rattle.std.proofs.Common.{rules, of_calls, nat_le}
use Rattle.std.proofs.lemmas.Fn.{always_returns_same}
use Rattle.slate_gc_picks.proofs.WalCovered.{Place, absent, present}
use Rattle.slate_gc_picks.specs.WalCovers.{Span}
use Rattle.slate_gc_picks.proofs.wal_cover.has_number.Goals as goal

pub returns-then-count-eq0 : goal.returns-then-count-eq0
returns-then-count-eq0 c =
    let place : Place c.args.number c.args.cover.now c.partition_point-count.result =
    c.partition_point-count.ensures.partitioned (λ (s : Span). nat_le s.first c.args.number) (always_returns_same _ _ _ (λ a r f k. search (rules, of_calls))) in
    λ ranges covers. absent c.args.number c.partition_point-count.result c.args.cover.now ranges c.ranges.number.fits c.if-count-eq0.true place covers

pub returns : goal.returns
returns c =
    let place : Place c.args.number c.args.cover.now c.partition_point-count.result =
    c.partition_point-count.ensures.partitioned (λ (s : Span). nat_le s.first c.args.number) (always_returns_same _ _ _ (λ a r f k. search (rules, of_calls))) in
    λ ranges covers. present c.args.number c.partition_point-count.result c.args.cover.now _ ranges c.ranges.number.fits (search rules) c.partition_point-count.ensures.bound place covers
