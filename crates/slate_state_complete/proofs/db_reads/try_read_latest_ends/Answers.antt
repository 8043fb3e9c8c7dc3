use Rattle.slate_state_complete.proofs.DbCalls.{reads_as, reads_inside}
use Rattle.slate_state_complete.proofs.DbReadings.{or_none_keeps}
use Rattle.slate_txn_laws.specs.Replies.{latest_or_none}
use Rattle.slate_state_complete.proofs.db_reads.try_read_latest_ends.Goals as goal

pub returns-clause-answers : goal.returns-clause-answers
returns-clause-answers g c = λ sequenced tries some old new s result ran serves ready. reads_as g.L.Codec.ObjectCodec.decoded g.L.Codec.ObjectCodec.encoded g.L.Rules.Rules.refusal g.met.L.DbLog.plain sequenced (latest_or_none g.L.DbLog.version_of) tries old new s result some serves ready ran

pub returns-clause-inside : goal.returns-clause-inside
returns-clause-inside g c = λ sequenced tries some old new s result ran serves ready. reads_inside g.L.Codec.ObjectCodec.decoded g.L.Codec.ObjectCodec.encoded g.L.Rules.Rules.refusal g.met.L.DbLog.plain sequenced (latest_or_none g.L.DbLog.version_of) tries old new s result some serves ready (or_none_keeps g.L.DbLog.version_of) ran
