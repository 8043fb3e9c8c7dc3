use Rattle.std.proofs.Common.{◌≡◌}
use Rattle.slate_gc.proofs.Takes.{SoFar}
use Rattle.slate_gc.specs.Collector.{setup_of}
use Rattle.slate_gc.specs.GcPass.{layout_ways}
use Rattle.slate_gc_picks.specs.Filter.{allowed}
use Rattle.slate_gc_picks.specs.WalPicks.{wal_candidates}
use Rattle.slate_gc.proofs.collector.GarbageCollector.run.Given as goal

-- so many ticks were taken, none of them a Stop, and their passes ran
abbrev pub invariant-ticks : goal.invariant-ticks
invariant-ticks g l =
    let told = g.S.ObjectStore.told in
    let source = g.T.Ticks.told in
    let setup = setup_of l.fn.self.setup.db l.fn.self.setup.options (layout_ways
    (allowed (λ boxed. (goal.GcFilter-dyn g (boxed.vtable, boxed.value)).returns boxed.value) l.fn.self.setup.filter)
    (wal_candidates (λ boxed. (goal.WalGc-dyn g (boxed.vtable, boxed.value)).picked boxed.value) l.fn.self.setup.wal)) in
    record {
      so_far : SoFar setup l.tries (source l.fn.ticks) (source l.ticks) (told l.fn.store) (told l.store) l.fn.self.stats l.self.stats l.entries.items l.i;
      setup : l.self.setup ≡ l.fn.self.setup;
    }
