use Rattle.std.proofs.Common.{w64, sym, ◌∙◌}
use Rattle.std.proofs.lemmas.Int.{to_z-of_z}
use Rattle.slate_state_referenced.proofs.ReferencedFaults.{steps_at}
use Rattle.slate_state_referenced.proofs.referenced_phase.ReferencedPhase.next.Goals as goal

pub returns-then-due-clause-steps : goal.returns-then-due-clause-steps
returns-then-due-clause-steps g c =
    let told = g.S.ObjectStore.told in
    let sequenced = c.args.sequenced.now in
    steps_at sequenced.db (g.C.ObjectCodec.decoded sequenced.codec) (told c.args.store.now) (told c.step.new.store) c.args.moment c.args.self.now c.step.new.self c.step.result (sym c.due.ensures.due ∙ c.if-due.true) (rw (to_z-of_z w64 c.args.moment c.ranges.moment) at c.step.ensures.steps)
