use Rattle.std.proofs.Common.{◌≡◌, true, subst, sym, Err, w64, ap, ◌∙◌}
use Rattle.slate_ids.specs.Answers.{ran_out, is_memory}
use Rattle.std.proofs.lemmas.Int.{to_z-of_z}
use Rattle.slate_store.specs.declared.step.Step.TheVariants.{Done}
use Rattle.slate_txn.specs.Loading.{TryLoadSteps}
use Rattle.slate_txn.proofs.Loads.{load_held}
use Rattle.slate_txn.specs.declared.load.TryLoadMachine.{TryLoadMachine}
use Rattle.slate_txn.specs.declared.load.TryLoadMachine.TheVariants.{Reading}
use Rattle.slate_txn.proofs.load.TryLoadMachine.next.Goals as goal

pub returns-then-is_memory-clause-steps : goal.returns-then-is_memory-clause-steps
returns-then-is_memory-clause-steps g c =
    let old = g.S.ObjectStore.told c.args.store.now in
    let new = g.S.ObjectStore.told c.next.new.store in
    let decoded = g.C.ObjectCodec.decoded in
    let sequenced = c.in-Reading.sequenced in
    let rules = c.in-Reading.rules in
    let to = c.next.new.self in
    let e = c.in-Done-Err.e in
    let held = rw (to_z-of_z w64 c.args.moment c.ranges.moment) at c.in-Done-Err.ensures.memory in
    let is : is_memory e ≡ true = search in
    let out : ran_out c.in-Done-Err.field-0 ≡ true = ap ran_out c.in-Done-Err.field-0-is ∙ is in
    subst (λ (m : TryLoadMachine _ _ _). TryLoadSteps decoded old new c.args.moment c.args.self.now m (Done (Err e))) (sym c.replace-then-is_memory.ensures.after)
    (subst (λ (m : TryLoadMachine _ _ _). TryLoadSteps decoded old new c.args.moment m (Reading to sequenced rules) (Done (Err e))) c.in-Reading.ensures.value
    (load_held decoded old new c.args.moment c.in-Reading.read to sequenced rules e is (held out)))
