use Rattle.std.proofs.Common.{arith, w64}
use Rattle.std.proofs.lemmas.Int.{to_z-of_z}
use Rattle.slate_state_calls.proofs.open_phase.with_version.Goals as goal

pub returns-in-Give : goal.returns-in-Give
returns-in-Give c = rw (c.in-Give.is) (rw (to_z-of_z w64 c.args.now c.ranges.now) at (c.put_next.ensures c.args.raised.now 9 (omega arith)))

pub returns-in-GiveFirst : goal.returns-in-GiveFirst
returns-in-GiveFirst c = rw (c.in-GiveFirst.is) (rw (to_z-of_z w64 c.args.now c.ranges.now) at (c.put_next-in-GiveFirst.ensures c.args.raised.now 3 (omega arith)))

pub returns-in-Begin : goal.returns-in-Begin
returns-in-Begin c = rw (c.in-Begin.is) (rw (to_z-of_z w64 c.args.now c.ranges.now) at (c.put_next-in-Begin.ensures c.args.raised.now 6 (omega arith)))
