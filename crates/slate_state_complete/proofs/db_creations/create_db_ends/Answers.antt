use Rattle.slate_state_complete.proofs.DbCalls.{create_db, create_inside, first_taken}
use Rattle.slate_state_complete.proofs.db_creations.create_db_ends.Goals as goal

pub returns-clause-answers : goal.returns-clause-answers
returns-clause-answers g c = λ db first moment named old new s result ran serves ready. create_db g.L.Codec.ObjectCodec.decoded g.L.Codec.ObjectCodec.encoded g.L.Rules.Rules.refusal g.met.L.DbLog.plain g.L.DbLog.its_kind db first moment old new s result named serves ready ran

pub returns-clause-taken : goal.returns-clause-taken
returns-clause-taken g c = λ db first moment named old new s result ran serves ready. first_taken g.L.Codec.ObjectCodec.decoded g.L.Codec.ObjectCodec.encoded g.L.Rules.Rules.refusal g.met.L.DbLog.plain g.L.DbLog.its_kind db first moment old new s result named serves ready (create_db g.L.Codec.ObjectCodec.decoded g.L.Codec.ObjectCodec.encoded g.L.Rules.Rules.refusal g.met.L.DbLog.plain g.L.DbLog.its_kind db first moment old new s result named serves ready ran)

pub returns-clause-inside : goal.returns-clause-inside
returns-clause-inside g c = λ db first moment named old new s result ran serves ready. create_inside g.L.Codec.ObjectCodec.decoded g.L.Codec.ObjectCodec.encoded g.L.Rules.Rules.refusal g.met.L.DbLog.plain g.L.DbLog.its_kind db first moment old new s result named serves ready (create_db g.L.Codec.ObjectCodec.decoded g.L.Codec.ObjectCodec.encoded g.L.Rules.Rules.refusal g.met.L.DbLog.plain g.L.DbLog.its_kind db first moment old new s result named serves ready ran)
