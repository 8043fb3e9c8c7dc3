use Rattle.std.proofs.Common.{rules, arith}
use Rattle.std.proofs.Math.Seq.{take-add}
use Rattle.std.proofs.KnownBytes.{Appends-trans}
use Rattle.slate_store.proofs.Slices.{tail_slice}
use Rattle.slate_store.proofs.writing.write_all.Goals as goal

pub loop-place-preserved : goal.loop-place-preserved
loop-place-preserved g c =
    let p = c.loop-place.place in
    let bs = c.args.bytes.now in
    record {
      within = search rules;
      front = rw (take-add p c.in_ok-count.count bs) (Appends-trans _ _ _ _ _ c.loop-place.invariant.front (rw (tail_slice p bs) at c.in_ok-count.ensures.bytes));
      counted = grind (arith, c.in_ok-count.ensures.counted, c.loop-place.invariant.counted, c.if-count-eq0.false);
    }
