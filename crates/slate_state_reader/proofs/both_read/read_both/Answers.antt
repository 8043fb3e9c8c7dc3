use Rattle.slate_ids.specs.Answers.{OrMemory-map}
use Rattle.slate_store.specs.CallRuns.{goes_further, starts_again, gives_up, done_with}
use Rattle.slate_txn_log.proofs.Faults.{call_rose, ran_rose}
use Rattle.slate_state_reader.proofs.BothFaults.{both_faults}
use Rattle.std.proofs.Common.{arith, sym, ◌∙◌, inl, refl}
use Rattle.slate_state_reader.proofs.both_read.read_both.Goals as goal

pub returns-in-Done : goal.returns-in-Done
returns-in-Done g c =
    let ran = done_with c.loop-result.invariant.running (g.S.ObjectStore.told c.next.new.store) c.next.new.self c.in-Done.result c.in-Done.ensures.steps in
    record {
      read = OrMemory-map c.in-Done.result (λ began. (c.next.new.self, began)) (λ ran. (c.next.new.self, ran)) ran;
      fault = λ good fine. call_rose c.in-Done.result (both_faults g.C.ObjectCodec.decoded g.D.ObjectCodec.decoded c.args.first.now c.args.second.now good fine) refl ran;
    }

pub returns-then-left-eq1 : goal.returns-then-left-eq1
returns-then-left-eq1 g c =
    let ran = gives_up c.loop-result.invariant.running c.in-Again.ensures.steps (sym c.is_start.ensures ∙ c.if-is_start.true) c.if-left-eq1.true in
    record {
      read = inl (c.next.new.self, ran);
      fault = λ good fine. ran_rose (both_faults g.C.ObjectCodec.decoded g.D.ObjectCodec.decoded c.args.first.now c.args.second.now good fine) refl ran;
    }

pub loop-result-preserved-then-is_start : goal.loop-result-preserved-then-is_start
loop-result-preserved-then-is_start g c = record {
  running = starts_again c.loop-result.invariant.running c.in-Again.ensures.steps (sym c.is_start.ensures ∙ c.if-is_start.true) (omega (arith, c.loop-result.invariant.running.more));
  due = c.in-Again.ensures.due;
}

pub loop-result-preserved : goal.loop-result-preserved
loop-result-preserved g c = record {
  running = goes_further c.loop-result.invariant.running c.in-Again.ensures.steps (sym c.is_start.ensures ∙ c.if-is_start.false);
  due = c.in-Again.ensures.due;
}
