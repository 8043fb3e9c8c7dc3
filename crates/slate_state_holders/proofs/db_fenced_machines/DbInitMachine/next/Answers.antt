use Rattle.std.proofs.Common.{sym, w64}
use Rattle.std.proofs.lemmas.Int.{to_z-of_z}
use Rattle.slate_state_holders.proofs.db_fenced_machines.DbInitMachine.next.Goals as goal

pub returns-clause-steps : goal.returns-clause-steps
returns-clause-steps g c = rw (sym c.hold_step.ensures) at (rw (to_z-of_z w64 c.args.moment c.ranges.moment) at c.next.ensures.steps)
