use Rattle.std.proofs.Common.{arith, of_z, to_z, w64, List}
use Rattle.std.proofs.lemmas.Int.{to_z-of_z}
use Rattle.std.proofs.lemmas.List.{take_all}
use Rattle.slate_gc.proofs.Takes.{adds_next}
use Rattle.slate_gc.specs.Collector.{at_once, setup_of}
use Rattle.slate_gc.specs.GcPass.{layout_ways}
use Rattle.slate_gc.specs.Taking.{Adds}
use Rattle.slate_ids.specs.declared.gc_message.GcMessage.{GcMessage}
use Rattle.slate_gc_picks.specs.Filter.{allowed}
use Rattle.slate_gc_picks.specs.WalPicks.{wal_candidates}
use Rattle.std.proofs.Common.{subst}
use Rattle.slate_gc.proofs.taking.take_all.Goals as goal

pub loop-pass-preserved : goal.loop-pass-preserved
loop-pass-preserved g c =
    let told = g.S.ObjectStore.told in
    let made = c.args.setup.now in
    let setup = setup_of made.db made.options (layout_ways (allowed g.F.GcFilter.returns made.filter) (wal_candidates g.W.WalGc.picked made.wal)) in
    record {
      adds = adds_next setup c.args.tries (to_z w64 (of_z w64 c.args.moment)) c.args.passes.now c.loop-pass.pass-index _ (told c.args.store.now) (told c.loop-pass.store) (told c.take.new.store) c.args.stats.now c.loop-pass.stats c.take.new.stats c.args.entries.now.items c.loop-pass.entries.items c.take.new.entries.items c.loop-pass-test.true c.loop-pass.invariant.adds c.take.ensures.adds;
      room = omega (arith, c.take.ensures.len, c.take.ensures.capacity, c.loop-pass.invariant.room, c.loop-pass-test.true);
    }

pub returns : goal.returns
returns g c =
    let told = g.S.ObjectStore.told in
    let made = c.args.setup.now in
    let setup = setup_of made.db made.options (layout_ways (allowed g.F.GcFilter.returns made.filter) (wal_candidates g.W.WalGc.picked made.wal)) in
    let whole = rw (to_z-of_z w64 c.args.moment c.ranges.moment) at c.loop-pass.invariant.adds in
    record {
      adds = subst (λ (ps : List GcMessage). Adds setup c.args.tries (at_once c.args.moment ps) (told c.args.store.now) (told c.loop-pass.store) c.args.stats.now c.loop-pass.stats c.args.entries.now.items c.loop-pass.entries.items) (take_all c.loop-pass.pass-index c.args.passes.now c.loop-pass-test.false) whole;
    }
