use Rattle.std.proofs.Common.{subst, sym, w64}
use Rattle.std.proofs.lemmas.Int.{to_z-of_z}
use Rattle.slate_txn.proofs.Loads.{load_found}
use Rattle.slate_txn.specs.Loading.{LoadSteps}
use Rattle.slate_txn.specs.declared.load.TryLoadMachine.{TryLoadMachine}
use Rattle.slate_txn.proofs.load.LoadMachine.next.Goals as goal

pub returns-clause-steps : goal.returns-clause-steps
returns-clause-steps g c =
    let old = g.S.ObjectStore.told c.args.store.now in
    let new = g.S.ObjectStore.told c.next.new.store in
    let to = c.next.new.self in
    let steps = rw (to_z-of_z w64 c.args.moment c.ranges.moment) at c.next.ensures.steps in
    let found = load_found g.C.ObjectCodec.decoded old new c.args.moment c.self.inside.load to c.next.result steps in
    subst (λ (m : TryLoadMachine _ _ _). LoadSteps g.C.ObjectCodec.decoded old new c.args.moment m to c.find_step.result) c.self.view_is
    (subst (λ s. LoadSteps g.C.ObjectCodec.decoded old new c.args.moment c.self.inside.load to s) (sym c.find_step.ensures) found)
