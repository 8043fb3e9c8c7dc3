use Rattle.std.proofs.Common.{sym, ◌∙◌}
use Rattle.slate_txn_laws.proofs.PlainCommits.{decoding_fine}
use Rattle.slate_state_holders.proofs.db_stored_machines.DbTryLoadMachine.next.Goals as goal

pub returns-clause-fault : goal.returns-clause-fault
returns-clause-fault g c = λ same. c.next.ensures.fault (decoding_fine _ _ _ g.met.L.DbLog.plain) (sym c.hold_some_step.ensures ∙ same)
