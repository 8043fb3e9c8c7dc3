use Rattle.slate_state_complete.proofs.DbCalls.{load_db, load_inside}
use Rattle.slate_state_complete.proofs.db_loads.load_db_ends.Goals as goal

pub returns-clause-answers : goal.returns-clause-answers
returns-clause-answers g c = λ db tries some old new s result ran serves ready. load_db g.L.Codec.ObjectCodec.decoded g.L.Codec.ObjectCodec.encoded g.L.Rules.Rules.refusal g.met.L.DbLog.plain g.L.DbLog.its_kind db tries old new s some serves ready result ran

pub returns-clause-inside : goal.returns-clause-inside
returns-clause-inside g c = λ db tries some old new s result ran serves ready. load_inside g.L.Codec.ObjectCodec.decoded g.L.Codec.ObjectCodec.encoded g.L.Rules.Rules.refusal g.met.L.DbLog.plain g.L.DbLog.its_kind db tries old new s some serves ready result ran
