use Rattle.std.proofs.Common.{rules, w64}
use Rattle.std.proofs.lemmas.Int.{to_z-of_z}
use Rattle.slate_txn.proofs.AppliesBy.{applies_more, wraps}
use Rattle.slate_txn.proofs.MovesFaults.{never_less}
use Rattle.slate_txn.proofs.stored.Stored.maybe_apply.Goals as goal

pub returns-clause-apply : goal.returns-clause-apply
returns-clause-apply g c = λ made computes.
    rw (to_z-of_z w64 c.args.moment c.ranges.moment) at (c.apply.ensures.apply made (λ codec id value reply answers. search (rules, computes, answers)))

pub returns-clause-moves : goal.returns-clause-moves
returns-clause-moves g c =
    let old = g.S.ObjectStore.told c.args.store.now in
    let new = g.S.ObjectStore.told c.apply.new.store in
    let moves = rw (to_z-of_z w64 c.args.moment c.ranges.moment) at c.apply.ensures.moves in
    applies_more _ _ (wraps _ _ (λ codec id shown reply answers. search (rules, answers))) c.args.moment c.args.tries old new c.args.self.now c.apply.new.self c.apply.result moves

pub returns-clause-never : goal.returns-clause-never
returns-clause-never g c = λ free. c.apply.ensures.never (never_less _ _ (wraps _ _ (λ codec id shown reply answers. search (rules, answers))) free)
