use Rattle.slate_state_complete.proofs.HolderCalls.{fenced_stays, fenced_taken, fenced_update}
use Rattle.slate_state_complete.proofs.db_updates.fenced_update_ends.Goals as goal

pub returns-clause-answers : goal.returns-clause-answers
returns-clause-answers g c = λ moment fenced dirty right named small old new s result ran serves ready. fenced_update g.L.Codec.ObjectCodec.decoded g.L.Codec.ObjectCodec.encoded g.L.Rules.Rules.refusal g.met.L.DbLog.plain g.L.Epochs.Epochs.epoch moment old new s fenced dirty right result ran named small serves ready

pub returns-clause-inside : goal.returns-clause-inside
returns-clause-inside g c = λ moment fenced dirty right own named small old new s result ran serves ready latest. fenced_stays g.L.Codec.ObjectCodec.decoded g.L.Codec.ObjectCodec.encoded g.L.Rules.Rules.refusal g.met.L.DbLog.plain g.L.Epochs.Epochs.epoch moment old new s fenced dirty right result ran named small serves ready latest own

pub returns-clause-taken : goal.returns-clause-taken
returns-clause-taken g c = λ moment fenced dirty right named small old new s result ran serves ready. fenced_taken g.L.Codec.ObjectCodec.decoded g.L.Codec.ObjectCodec.encoded g.L.Rules.Rules.refusal g.met.L.DbLog.plain g.L.Epochs.Epochs.epoch moment old new s fenced dirty right result ran named small serves ready
