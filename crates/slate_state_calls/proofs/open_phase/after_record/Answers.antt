use Rattle.std.proofs.Common.{sym, w64, ◌∙◌}
use Rattle.std.proofs.lemmas.Int.{to_z-of_z}
use Rattle.slate_state_calls.proofs.open_phase.after_record.Goals as goal

pub returns-in-None : goal.returns-in-None
returns-in-None c = rw (sym c.in_ok-record_in.ensures ∙ c.in-None.is) (rw (to_z-of_z w64 c.args.now c.ranges.now) at (c.without_version.ensures c.args.raised.now))
