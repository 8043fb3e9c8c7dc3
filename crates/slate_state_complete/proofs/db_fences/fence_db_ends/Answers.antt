use Rattle.slate_txn_laws.proofs.HolderReads.{fence_ends}
use Rattle.slate_txn_laws.proofs.PlainInside.{raises_inside}
use Rattle.slate_state_complete.proofs.DbFences.{fence_inside}
use Rattle.slate_txn_log.specs.declared.right.Right.TheVariants.{Plain}
use Rattle.slate_txn.specs.Fence.{raising}
use Rattle.slate_state_complete.proofs.db_fences.fence_db_ends.Goals as goal

pub returns-clause-answers : goal.returns-clause-answers
returns-clause-answers g c = λ kind moment tries holder two named small old new s result ran serves ready. fence_ends g.L.Epochs.Epochs.epoch (raising g.L.Codec.ObjectCodec.decoded g.L.Codec.ObjectCodec.encoded g.L.Rules.Rules.refusal g.L.Epochs.Epochs.epoch g.L.Epochs.Epochs.with_epoch kind) moment tries old new s holder kind result ran two named small serves ready

pub returns-clause-inside : goal.returns-clause-inside
returns-clause-inside g c = λ kind moment tries holder two named small old new s result ran serves ready. fence_inside g.L.Epochs.Epochs.epoch (raising g.L.Codec.ObjectCodec.decoded g.L.Codec.ObjectCodec.encoded g.L.Rules.Rules.refusal g.L.Epochs.Epochs.epoch g.L.Epochs.Epochs.with_epoch kind) (raises_inside g.L.Codec.ObjectCodec.decoded g.L.Codec.ObjectCodec.encoded g.L.Rules.Rules.refusal g.met.L.DbLog.plain (g.L.Epochs.Epochs.epoch kind) (g.L.Epochs.Epochs.with_epoch kind) Plain) kind moment tries old new s holder result ran two named small serves ready
