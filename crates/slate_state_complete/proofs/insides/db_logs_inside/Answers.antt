use Rattle.slate_txn_laws.proofs.PlainInside as plain
use Rattle.slate_txn_log.specs.declared.right.Right.TheVariants.{Plain}
use Rattle.slate_state_complete.proofs.insides.db_logs_inside.Goals as goal

pub returns-clause-decodes : goal.returns-clause-decodes
returns-clause-decodes g c = plain.decodes_inside g.L.Codec.ObjectCodec.decoded g.L.Codec.ObjectCodec.encoded g.L.Rules.Rules.refusal g.met.L.DbLog.plain

pub returns-clause-encodes : goal.returns-clause-encodes
returns-clause-encodes g c = plain.encodes_inside g.L.Codec.ObjectCodec.decoded g.L.Codec.ObjectCodec.encoded g.L.Rules.Rules.refusal g.met.L.DbLog.plain

pub returns-clause-allows : goal.returns-clause-allows
returns-clause-allows g c = plain.rules_inside g.L.Codec.ObjectCodec.decoded g.L.Codec.ObjectCodec.encoded g.L.Rules.Rules.refusal g.met.L.DbLog.plain

pub returns-clause-ways : goal.returns-clause-ways
returns-clause-ways g c = plain.ways_inside g.L.Codec.ObjectCodec.decoded g.L.Codec.ObjectCodec.encoded g.L.Rules.Rules.refusal g.met.L.DbLog.plain

pub returns-clause-fences : goal.returns-clause-fences
returns-clause-fences g c = plain.fences_inside g.L.Codec.ObjectCodec.decoded g.L.Codec.ObjectCodec.encoded g.L.Rules.Rules.refusal g.met.L.DbLog.plain g.L.Epochs.Epochs.epoch

pub returns-clause-raises : goal.returns-clause-raises
returns-clause-raises g c = λ kind. plain.raises_inside g.L.Codec.ObjectCodec.decoded g.L.Codec.ObjectCodec.encoded g.L.Rules.Rules.refusal g.met.L.DbLog.plain (g.L.Epochs.Epochs.epoch kind) (g.L.Epochs.Epochs.with_epoch kind) Plain
