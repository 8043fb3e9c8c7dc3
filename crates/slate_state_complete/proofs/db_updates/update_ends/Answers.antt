use Rattle.slate_txn_laws.proofs.UpdateWalks.{update_ends}
use Rattle.slate_state_complete.proofs.HolderCalls.{update_stays, update_taken}
use Rattle.slate_state_complete.proofs.db_updates.update_ends.Goals as goal

pub returns-clause-answers : goal.returns-clause-answers
returns-clause-answers g c = λ moment holder dirty right named small old new s result ran serves ready. update_ends g.L.Rules.Rules.refusal g.L.Codec.ObjectCodec.encoded moment old new s holder dirty right result ran named small serves ready

pub returns-clause-inside : goal.returns-clause-inside
returns-clause-inside g c = λ moment holder dirty right own named small old new s result ran serves ready latest. update_stays g.L.Codec.ObjectCodec.decoded g.L.Codec.ObjectCodec.encoded g.L.Rules.Rules.refusal g.met.L.DbLog.plain g.L.Epochs.Epochs.epoch moment old new s holder dirty right result (update_ends g.L.Rules.Rules.refusal g.L.Codec.ObjectCodec.encoded moment old new s holder dirty right result ran named small serves ready) latest own

pub returns-clause-taken : goal.returns-clause-taken
returns-clause-taken g c = λ moment holder dirty right named small old new s result ran serves ready. update_taken g.L.Codec.ObjectCodec.decoded g.L.Codec.ObjectCodec.encoded g.L.Rules.Rules.refusal g.met.L.DbLog.plain g.L.Epochs.Epochs.epoch moment old new s holder dirty right result (update_ends g.L.Rules.Rules.refusal g.L.Codec.ObjectCodec.encoded moment old new s holder dirty right result ran named small serves ready)
