use Rattle.std.proofs.Common.{refl, w64}
use Rattle.std.proofs.lemmas.Int.{to_z-of_z}
use Rattle.slate_gc.proofs.ReportRose.{once_rose}
use Rattle.slate_gc.proofs.Takes.{once_ran}
use Rattle.slate_gc.specs.Collector.{setup_of}
use Rattle.slate_gc.specs.GcPass.{layout_ways}
use Rattle.slate_gc_picks.specs.Filter.{allowed}
use Rattle.slate_gc_picks.specs.WalPicks.{wal_candidates}
use Rattle.slate_gc.proofs.collector.GarbageCollector.run_gc_once.Goals as goal

pub returns-clause-ran : goal.returns-clause-ran
returns-clause-ran g c =
    let told = g.S.ObjectStore.told in
    once_ran _ c.args.tries c.args.moment (told c.args.store.now) (told c.take_all.new.store) c.args.self.now.stats c.take_all.new.stats c.add_run.new.self c.in_ok-entries.entries.items c.take_all.new.entries.items c.from_vec.result
    c.in_ok-entries.ensures.items (rw (to_z-of_z w64 c.args.moment c.ranges.moment) at c.take_all.ensures.adds) c.add_run.ensures c.from_vec.ensures

pub returns-clause-faults : goal.returns-clause-faults
returns-clause-faults g c =
    let told = g.S.ObjectStore.told in
    let made = c.args.self.now.setup in
    let allows = allowed (λ boxed. (goal.GcFilter-dyn g (boxed.vtable, boxed.value)).returns boxed.value) made.filter in
    let files = wal_candidates (λ boxed. (goal.WalGc-dyn g (boxed.vtable, boxed.value)).picked boxed.value) made.wal in
    let setup = setup_of made.db made.options (layout_ways allows files) in
    let ran = once_ran setup c.args.tries c.args.moment (told c.args.store.now) (told c.take_all.new.store) c.args.self.now.stats c.take_all.new.stats c.add_run.new.self c.in_ok-entries.entries.items c.take_all.new.entries.items c.from_vec.result
    c.in_ok-entries.ensures.items (rw (to_z-of_z w64 c.args.moment c.ranges.moment) at c.take_all.ensures.adds) c.add_run.ensures c.from_vec.ensures in
    once_rose setup allows files refl c.args.tries c.args.moment (told c.args.store.now) (told c.take_all.new.store) c.args.self.now.stats c.add_run.new.self c.from_vec.result ran
