use Rattle.std.proofs.Common.{of_z, refl, rules, to_z, w64, ◌∙◌, [], ◌∷◌}
use Rattle.std.proofs.lemmas.Int.{to_z-of_z}
use mir.Val.{SFits}
use Rattle.std.specs.Prelude.{OnErr, Result, Ok, Err}
use Rattle.slate_gc.proofs.ReportRose.{so_far_rose}
use Rattle.slate_gc.proofs.Takes.{so_far_began, so_far_push, so_far_start, so_far_stops}
use Rattle.slate_gc.specs.Collector.{setup_of}
use Rattle.slate_gc.specs.GcPass.{layout_ways}
use Rattle.slate_gc.specs.Taking.{Adds}
use Rattle.slate_gc.specs.declared.tick.Tick.TheVariants.{At}
use Rattle.slate_gc_picks.specs.Filter.{allowed}
use Rattle.slate_gc_picks.specs.WalPicks.{wal_candidates}
use Rattle.slate_gc.proofs.collector.GarbageCollector.run.Goals as goal

on_err : {T E : Type 0} (P : Type 0) (r : Result T E) → P → OnErr r P
on_err P (Ok x) p = tt
on_err P (Err e) p = p

pub ticks-init : goal.ticks-init
ticks-init g c = record {
  so_far = so_far_start _ c.args.tries _ _ _ c.new-entries.result.items c.new-entries.ensures.items;
  setup = refl;
}

pub returns-in_err-reserve-clause-began : goal.returns-in_err-reserve-clause-began
returns-in_err-reserve-clause-began g c =
    on_err _ c.from_residual.result (so_far_began _ c.args.tries c.args.turns _ _ _ _ _ _ c.ticks.entries.items c.ticks.i c.ticks.invariant.so_far c.ticks-test.true)

pub returns-in-Stop-clause-ran : goal.returns-in-Stop-clause-ran
returns-in-Stop-clause-ran g c =
    so_far_stops _ c.args.tries c.args.turns _ _ _ _ _ _ _ c.ticks.entries.items c.from_vec-passes.result c.ticks.i c.ticks.invariant.so_far c.ticks-test.true c.in-Stop.ensures (c.from_vec-passes.ensures ∙ c.reserve.ensures.items)

pub returns-in-Stop-clause-faults : goal.returns-in-Stop-clause-faults
returns-in-Stop-clause-faults g c =
    let made = c.args.self.now.setup in
    let allows = allowed (λ boxed. (goal.GcFilter-dyn g (boxed.vtable, boxed.value)).returns boxed.value) made.filter in
    let files = wal_candidates (λ boxed. (goal.WalGc-dyn g (boxed.vtable, boxed.value)).picked boxed.value) made.wal in
    so_far_rose (setup_of made.db made.options (layout_ways allows files)) allows files refl c.args.tries _ _ _ _ _ _ c.ticks.entries.items c.from_vec-passes.result c.ticks.i c.ticks.invariant.so_far (c.from_vec-passes.ensures ∙ c.reserve.ensures.items)

pub ticks-preserved : goal.ticks-preserved
ticks-preserved g c =
    let told = g.S.ObjectStore.told in
    let made = c.ticks.self.setup in
    let allows = allowed (λ boxed. (goal.GcFilter-dyn g (boxed.vtable, boxed.value)).returns boxed.value) made.filter in
    let files = wal_candidates (λ boxed. (goal.WalGc-dyn g (boxed.vtable, boxed.value)).picked boxed.value) made.wal in
    let adds : Adds (setup_of made.db made.options (layout_ways allows files)) c.args.tries (At c.in-At.pass (to_z w64 (of_z w64 c.in-At.moment)) ∷ []) (told c.ticks.store) (told c.take.new.store) c.ticks.self.stats c.take.new.stats c.reserve.new.self.items c.take.new.entries.items = c.take.ensures.adds in
    let fits : SFits w64 c.in-At.moment = search rules in
    let ran = rw c.ticks.invariant.setup at (rw c.reserve.ensures.items at (rw (to_z-of_z w64 c.in-At.moment fits) at adds)) in
    record {
      so_far = so_far_push _ c.args.tries _ _ _ _ _ _ _ _ _ c.ticks.entries.items c.take.new.entries.items c.ticks.i c.in-At.pass c.in-At.moment c.ticks.invariant.so_far c.in-At.ensures ran;
      setup = c.ticks.invariant.setup;
    }

pub returns-clause-faults : goal.returns-clause-faults
returns-clause-faults g c =
    let made = c.args.self.now.setup in
    let allows = allowed (λ boxed. (goal.GcFilter-dyn g (boxed.vtable, boxed.value)).returns boxed.value) made.filter in
    let files = wal_candidates (λ boxed. (goal.WalGc-dyn g (boxed.vtable, boxed.value)).picked boxed.value) made.wal in
    so_far_rose (setup_of made.db made.options (layout_ways allows files)) allows files refl c.args.tries _ _ _ _ _ _ c.ticks.entries.items c.from_vec-passes-2.result c.ticks.i c.ticks.invariant.so_far c.from_vec-passes-2.ensures
