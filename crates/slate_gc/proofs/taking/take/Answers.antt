use Rattle.std.proofs.Common.{sym, w64, ◌∙◌}
use Rattle.std.proofs.lemmas.Int.{to_z-of_z}
use Rattle.slate_gc.proofs.Takes.{adds_none, adds_one}
use Rattle.slate_gc.specs.Collector.{setup_of}
use Rattle.slate_gc.specs.Ended.{ended_with}
use Rattle.slate_gc.specs.GcPass.{layout_ways}
use Rattle.slate_gc_picks.specs.Filter.{allowed}
use Rattle.slate_gc_picks.specs.WalPicks.{wal_candidates}
use Rattle.slate_gc.proofs.taking.take.Goals as goal

pub returns-in-Some-clause-adds : goal.returns-in-Some-clause-adds
returns-in-Some-clause-adds g c =
    let told = g.S.ObjectStore.told in
    let made = c.args.setup.now in
    let setup = setup_of made.db made.options (layout_ways (allowed g.F.GcFilter.returns made.filter) (wal_candidates g.W.WalGc.picked made.wal)) in
    let end = c.run_pass-end.result in
    adds_one setup c.args.tries c.args.pass c.args.moment c.in-Some.settings (told c.args.store.now) (told c.run_pass-end.new.store) c.args.stats.now c.add_pass.new.self c.args.entries.now.items c.keep.new.entries.items (ended_with c.in-Some.settings.pass end.result end.deleted)
    (sym c.settings.ensures ∙ c.in-Some.is) (rw (to_z-of_z w64 c.args.moment c.ranges.moment) at c.run_pass-end.ensures) c.add_pass.ensures c.keep.ensures.items

pub returns-in_default-clause-adds : goal.returns-in_default-clause-adds
returns-in_default-clause-adds g c =
    let told = g.S.ObjectStore.told in
    let made = c.args.setup.now in
    let setup = setup_of made.db made.options (layout_ways (allowed g.F.GcFilter.returns made.filter) (wal_candidates g.W.WalGc.picked made.wal)) in
    adds_none setup c.args.tries c.args.pass c.args.moment (told c.args.store.now) c.args.stats.now c.args.entries.now.items (sym c.settings.ensures ∙ c.in_default.is)
