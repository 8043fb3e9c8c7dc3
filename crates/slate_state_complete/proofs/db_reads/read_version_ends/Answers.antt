use Rattle.slate_txn_laws.proofs.PlainInside.{plain_inside}
use Rattle.slate_state_complete.proofs.DbReadings.{needed, needed_inside, tried, tried_inside}
use Rattle.slate_state_complete.proofs.db_reads.read_version_ends.Goals as goal

pub returns-clause-tried : goal.returns-clause-tried
returns-clause-tried g c = tried g.L.Codec.ObjectCodec.decoded g.L.Codec.ObjectCodec.encoded g.L.Rules.Rules.refusal g.met.L.DbLog.plain g.L.DbLog.missing_at (λ n. plain_inside (g.L.DbLog.missing_at n) (g.met.L.DbLog.missing_inside n))

pub returns-clause-needed : goal.returns-clause-needed
returns-clause-needed g c = needed g.L.Codec.ObjectCodec.decoded g.L.Codec.ObjectCodec.encoded g.L.Rules.Rules.refusal g.met.L.DbLog.plain g.L.DbLog.missing_at (λ n. plain_inside (g.L.DbLog.missing_at n) (g.met.L.DbLog.missing_inside n))

pub returns-clause-tried_inside : goal.returns-clause-tried_inside
returns-clause-tried_inside g c = λ sequenced n old new s result once serves. tried_inside g.L.Codec.ObjectCodec.decoded g.L.Codec.ObjectCodec.encoded g.L.Rules.Rules.refusal g.met.L.DbLog.plain g.L.DbLog.missing_at (λ n. plain_inside (g.L.DbLog.missing_at n) (g.met.L.DbLog.missing_inside n)) sequenced n old new s result (tried g.L.Codec.ObjectCodec.decoded g.L.Codec.ObjectCodec.encoded g.L.Rules.Rules.refusal g.met.L.DbLog.plain g.L.DbLog.missing_at (λ n. plain_inside (g.L.DbLog.missing_at n) (g.met.L.DbLog.missing_inside n)) sequenced n old new s result once serves)

pub returns-clause-needed_inside : goal.returns-clause-needed_inside
returns-clause-needed_inside g c = λ sequenced n old new s result once serves. needed_inside g.L.Codec.ObjectCodec.decoded g.L.Codec.ObjectCodec.encoded g.L.Rules.Rules.refusal g.met.L.DbLog.plain g.L.DbLog.missing_at (λ n. plain_inside (g.L.DbLog.missing_at n) (g.met.L.DbLog.missing_inside n)) sequenced n old new s result (needed g.L.Codec.ObjectCodec.decoded g.L.Codec.ObjectCodec.encoded g.L.Rules.Rules.refusal g.met.L.DbLog.plain g.L.DbLog.missing_at (λ n. plain_inside (g.L.DbLog.missing_at n) (g.met.L.DbLog.missing_inside n)) sequenced n old new s result once serves)
