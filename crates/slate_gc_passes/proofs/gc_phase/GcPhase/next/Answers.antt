use Rattle.std.proofs.Common.{w64}
use Rattle.std.proofs.lemmas.Int.{to_z-of_z}
use Rattle.slate_txn_log.proofs.Faults.{step_rose}
use Rattle.slate_txn_log.proofs.Steps.{steps_where}
use Rattle.slate_gc_passes.proofs.GcFaults.{gc_faults, where_reads, wrote_nothing}
use Rattle.slate_gc_passes.specs.Ways.{ways}
use Rattle.slate_gc_picks.specs.Filter.{allowed}
use Rattle.slate_gc_picks.specs.WalPicks.{wal_candidates}
use Rattle.std.specs.Option.{option_copied}
use Rattle.slate_gc_passes.proofs.gc_phase.GcPhase.next.Goals as goal

pub returns-in-Ok-performed-clause-steps : goal.returns-in-Ok-performed-clause-steps
returns-in-Ok-performed-clause-steps g c =
    let calls = rw (to_z-of_z w64 c.args.moment c.ranges.moment) at c.in-Ok-performed.ensures in
    let goes = rw (to_z-of_z w64 c.args.moment c.ranges.moment) at c.goes_on-step.ensures.goes in
    steps_where _ _ _ _ _ c.in-Ok.ensures calls c.goes_on-step.result goes (where_reads c.args.logs.now.db c.args.settings.now.pass c.args.self.now c.goes_on-step.result c.goes_on-step.ensures.writes)

pub returns-in-Ok-performed-clause-memory : goal.returns-in-Ok-performed-clause-memory
returns-in-Ok-performed-clause-memory g c = wrote_nothing _ _ c.args.logs.now.db c.args.settings.now.pass c.args.self.now c.goes_on-step.result c.goes_on-step.ensures.writes

pub returns-in-Ok-performed-clause-fault : goal.returns-in-Ok-performed-clause-fault
returns-in-Ok-performed-clause-fault g c = λ free. λ well. λ sound.
    let old = g.S.ObjectStore.told c.args.store.now in
    let new = g.S.ObjectStore.told c.perform-performed.new.store in
    let calls = rw (to_z-of_z w64 c.args.moment c.ranges.moment) at c.in-Ok-performed.ensures in
    let goes = rw (to_z-of_z w64 c.args.moment c.ranges.moment) at c.goes_on-step.ensures.goes in
    let steps = steps_where _ _ _ _ _ c.in-Ok.ensures calls c.goes_on-step.result goes (where_reads c.args.logs.now.db c.args.settings.now.pass c.args.self.now c.goes_on-step.result c.goes_on-step.ensures.writes) in
    step_rose old new c.args.moment c.args.self.now c.goes_on-step.new.self c.goes_on-step.result (gc_faults c.args.logs.now.db (ways (g.C.ObjectCodec.decoded c.args.logs.now.manifests) (g.C.ObjectCodec.encoded c.args.logs.now.manifests) (g.R.ObjectCodec.decoded c.args.logs.now.records) (allowed g.F.GcFilter.returns (option_copied c.args.filter)) (wal_candidates g.W.WalGc.picked (option_copied c.args.wal))) (record { manifests = free; bytes = well; records = sound }) c.args.settings.now c.args.moment) c.requires.due steps
