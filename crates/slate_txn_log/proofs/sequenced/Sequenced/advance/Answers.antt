use Rattle.slate_ids.specs.Answers.{OrMemory-map}
use Rattle.slate_store.specs.CallRuns.{goes_further, starts_again, gives_up, done_with}
use Rattle.slate_txn_log.proofs.Advances.{advance_faults}
use Rattle.slate_txn_log.proofs.Faults.{call_rose, ran_rose}
use Rattle.slate_txn_log.proofs.Reached.{advance_leaves, advanced_leaves}
use Rattle.std.proofs.Common.{arith, sym, ◌∙◌, inl, refl, w64}
use Rattle.std.proofs.Math.Facts.{Fits-lt-pow}
use Rattle.std.proofs.lemmas.Int.{to_z-of_z}
use Rattle.slate_txn_log.proofs.sequenced.Sequenced.advance.Goals as goal

pub returns-in-Done : goal.returns-in-Done
returns-in-Done g c =
    let told = g.S.ObjectStore.told in
    let ran = done_with c.loop-result.invariant.running (told c.next.new.store) c.next.new.self c.in-Done.result c.in-Done.ensures.steps in
    let here = rw (to_z-of_z w64 c.args.moment c.ranges.moment) at ran in
    let sequenced = c.args.self.now in
    let advance = OrMemory-map c.in-Done.result (λ began. (c.next.new.self, began)) (λ ran. (c.next.new.self, ran)) here in
    let leaves = advance_leaves sequenced c.args.n c.args.moment c.args.tries (told c.args.store.now) (told c.next.new.store) c.in-Done.result (Fits-lt-pow c.ranges.n) advance in
    record {
      advance = advance;
      reached = leaves.reached;
      never_lower = leaves.never_lower;
      fault = call_rose c.in-Done.result (advance_faults sequenced.db sequenced.log) refl here;
    }

pub returns-then-left-eq1 : goal.returns-then-left-eq1
returns-then-left-eq1 g c =
    let told = g.S.ObjectStore.told in
    let ran = gives_up c.loop-result.invariant.running c.in-Again.ensures.steps (sym c.is_bounding.ensures ∙ c.if-is_bounding.true) c.if-left-eq1.true in
    let here = rw (to_z-of_z w64 c.args.moment c.ranges.moment) at ran in
    let sequenced = c.args.self.now in
    let leaves = advanced_leaves sequenced c.args.n c.args.moment c.args.tries (told c.args.store.now) (told c.next.new.store) _ (Fits-lt-pow c.ranges.n) (c.next.new.self, here) in
    record {
      advance = inl (c.next.new.self, here);
      reached = leaves.reached;
      never_lower = leaves.never_lower;
      fault = ran_rose (advance_faults sequenced.db sequenced.log) refl here;
    }

pub loop-result-preserved-then-is_bounding : goal.loop-result-preserved-then-is_bounding
loop-result-preserved-then-is_bounding g c = record {
  running = starts_again c.loop-result.invariant.running c.in-Again.ensures.steps (sym c.is_bounding.ensures ∙ c.if-is_bounding.true) (omega (arith, c.loop-result.invariant.running.more));
  due = c.in-Again.ensures.due;
}

pub loop-result-preserved : goal.loop-result-preserved
loop-result-preserved g c = record {
  running = goes_further c.loop-result.invariant.running c.in-Again.ensures.steps (sym c.is_bounding.ensures ∙ c.if-is_bounding.false);
  due = c.in-Again.ensures.due;
}
