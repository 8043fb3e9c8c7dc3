use Rattle.slate_state_complete.proofs.HolderCalls.{refresh_by, refresh_inside}
use Rattle.slate_state_complete.proofs.db_refreshes.refresh_ends.Goals as goal

pub returns-clause-answers : goal.returns-clause-answers
returns-clause-answers g c = λ tries from to some old new s result ran serves ready. refresh_by g.L.Codec.ObjectCodec.decoded g.L.Codec.ObjectCodec.encoded g.L.Rules.Rules.refusal g.met.L.DbLog.plain g.L.Epochs.Epochs.epoch tries old new s from to result ran some serves ready

pub returns-clause-inside : goal.returns-clause-inside
returns-clause-inside g c = λ tries from to some old new s result ran serves ready. refresh_inside g.L.Codec.ObjectCodec.decoded g.L.Codec.ObjectCodec.encoded g.L.Rules.Rules.refusal g.met.L.DbLog.plain g.L.Epochs.Epochs.epoch tries old new s from to result (refresh_by g.L.Codec.ObjectCodec.decoded g.L.Codec.ObjectCodec.encoded g.L.Rules.Rules.refusal g.met.L.DbLog.plain g.L.Epochs.Epochs.epoch tries old new s from to result ran some serves ready)
