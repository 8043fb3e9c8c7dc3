use Rattle.std.proofs.Common.{◌+◌, ◌≤◌, ◌-◌, length, take, vec_len, vec_capacity}
use Rattle.slate_gc.specs.Collector.{at_once, setup_of}
use Rattle.slate_gc.specs.GcPass.{layout_ways}
use Rattle.slate_gc.specs.Taking.{Adds}
use Rattle.slate_gc_picks.specs.Filter.{allowed}
use Rattle.slate_gc_picks.specs.WalPicks.{wal_candidates}
use Rattle.slate_gc.proofs.taking.take_all.Given as goal

-- the passes so far ran, and there is room for those that follow
abbrev pub invariant-loop-pass : goal.invariant-loop-pass
invariant-loop-pass g l =
    let told = g.S.ObjectStore.told in
    let setup = setup_of l.setup.db l.setup.options (layout_ways (allowed g.F.GcFilter.returns l.setup.filter) (wal_candidates g.W.WalGc.picked l.setup.wal)) in
    record {
      adds : Adds setup l.tries (at_once l.moment (take l.pass-index l.passes)) (told l.fn.store) (told l.store) l.fn.stats l.stats l.fn.entries.items l.entries.items;
      room : vec_len l.entries + (length l.passes - l.pass-index) ≤ vec_capacity l.entries;
    }
