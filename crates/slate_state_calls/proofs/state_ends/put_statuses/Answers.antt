use Rattle.std.proofs.Common.{arith, refl, w64}
use Rattle.std.proofs.lemmas.Int.{to_z-of_z}
use Rattle.slate_state_calls.proofs.Leading.{records_lead, records_refuse}
use Rattle.slate_state_calls.specs.Commits.{put_of, statuses_of}
use Rattle.slate_state_calls.proofs.state_ends.put_statuses.Goals as goal

pub returns-in-Ok : goal.returns-in-Ok
returns-in-Ok c =
    let holds = c.args.compactor.now in
    let put = put_of (statuses_of holds.epoch holds.local) c.args.now (c.args.n, c.args.compactions) in
    record { leads = (records_lead c.args.write holds c.in-Ok.put put (rw (to_z-of_z w64 c.args.now c.ranges.now) at c.in-Ok.ensures.begun), c.in-Ok.ensures.due, omega (arith, c.in-Ok.ensures.rank)) }

pub returns-in-Err : goal.returns-in-Err
returns-in-Err c =
    let holds = c.args.compactor.now in
    let put = put_of (statuses_of holds.epoch holds.local) c.args.now (c.args.n, c.args.compactions) in
    record { leads = (records_refuse c.args.write holds c.in-Err.e put (rw (to_z-of_z w64 c.args.now c.ranges.now) at c.in-Err.ensures.begun), λ out. refl) }
