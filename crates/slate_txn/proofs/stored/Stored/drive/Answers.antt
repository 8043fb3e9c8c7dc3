use Rattle.slate_ids.specs.Answers.{OrMemory-map}
use Rattle.slate_txn.proofs.Moves.{begins_by, goes_further_by, starts_again_by, gives_up_by, done_by}
use Rattle.slate_txn.proofs.MovesFaults.{applied_rose}
use Rattle.slate_txn.proofs.ApplyRuns.{putting_due}
use Rattle.std.proofs.Common.{arith, sym, ◌∙◌, inl, w64}
use Rattle.std.proofs.lemmas.Int.{to_z-of_z}
use Rattle.slate_txn.proofs.stored.Stored.drive.Goals as goal

pub loop-result-init : goal.loop-result-init
loop-result-init g c = record { running = begins_by _ _ _ _ _ _ _ c.requires.some; some = c.requires.some; due = putting_due c.args.commit c.requires.putting }

pub returns-in-Done : goal.returns-in-Done
returns-in-Done g c =
    let new = g.S.ObjectStore.told c.next.new.store in
    let first = done_by c.loop-result.invariant.running new (c.next.new.self, c.next.new.holder) c.in-Done.result c.in-Done.ensures.moves in
    let ran = rw (to_z-of_z w64 c.args.moment c.ranges.moment) at first in
    let moves = OrMemory-map c.in-Done.result (λ began. (c.next.new.self, began)) (λ done. (c.next.new.self, done)) ran in
    record {
      moves = moves;
      never = λ free. applied_rose _ free c.args.moment c.args.tries _ new c.args.commit _ c.next.new.holder c.in-Done.result c.requires.putting moves;
    }

pub returns-then-left-eq1 : goal.returns-then-left-eq1
returns-then-left-eq1 g c =
    let new = g.S.ObjectStore.told c.next.new.store in
    let first = gives_up_by c.loop-result.invariant.running c.in-Again.ensures.moves (sym c.is_start.ensures ∙ c.if-is_start.true) c.if-left-eq1.true in
    let ran = rw (to_z-of_z w64 c.args.moment c.ranges.moment) at first in
    record {
      moves = inl (c.next.new.self, ran);
      never = λ free. applied_rose {M = ⊥} _ free c.args.moment c.args.tries _ new c.args.commit _ c.next.new.holder _ c.requires.putting (inl (c.next.new.self, ran));
    }

pub loop-result-preserved-then-is_start : goal.loop-result-preserved-then-is_start
loop-result-preserved-then-is_start g c = record {
  running = starts_again_by c.loop-result.invariant.running c.in-Again.ensures.moves (sym c.is_start.ensures ∙ c.if-is_start.true) (omega (arith, c.loop-result.invariant.some));
  some = omega (arith, c.loop-result.invariant.some);
  due = c.in-Again.ensures.due;
}

pub loop-result-preserved : goal.loop-result-preserved
loop-result-preserved g c = record {
  running = goes_further_by c.loop-result.invariant.running c.in-Again.ensures.moves (sym c.is_start.ensures ∙ c.if-is_start.false);
  some = c.loop-result.invariant.some;
  due = c.in-Again.ensures.due;
}
