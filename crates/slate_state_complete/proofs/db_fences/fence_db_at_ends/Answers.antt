use Rattle.slate_txn_laws.proofs.HolderReads.{fence_ends}
use Rattle.slate_txn_laws.proofs.PlainInside.{fences_inside}
use Rattle.slate_state_complete.proofs.DbFences.{fence_inside}
use Rattle.slate_txn_log.specs.declared.right.Right.TheVariants.{Plain}
use Rattle.slate_txn.specs.Fence.{setting}
use Rattle.slate_txn.specs.Raise.{this_epoch}
use Rattle.slate_state_complete.proofs.db_fences.fence_db_at_ends.Goals as goal

pub returns-clause-answers : goal.returns-clause-answers
returns-clause-answers g c = λ kind own moment tries holder two named small old new s result ran serves ready. fence_ends g.L.Epochs.Epochs.epoch (setting g.L.Codec.ObjectCodec.decoded g.L.Codec.ObjectCodec.encoded g.L.Rules.Rules.refusal g.L.Epochs.Epochs.epoch g.L.Epochs.Epochs.with_epoch kind own Plain) moment tries old new s holder kind result ran two named small serves ready

pub returns-clause-inside : goal.returns-clause-inside
returns-clause-inside g c = λ kind own moment tries holder two named small old new s result ran serves ready. fence_inside g.L.Epochs.Epochs.epoch (setting g.L.Codec.ObjectCodec.decoded g.L.Codec.ObjectCodec.encoded g.L.Rules.Rules.refusal g.L.Epochs.Epochs.epoch g.L.Epochs.Epochs.with_epoch kind own Plain) (fences_inside g.L.Codec.ObjectCodec.decoded g.L.Codec.ObjectCodec.encoded g.L.Rules.Rules.refusal g.met.L.DbLog.plain g.L.Epochs.Epochs.epoch kind own (this_epoch (g.L.Epochs.Epochs.with_epoch kind) own) Plain (λ n value e same. absurd cc)) kind moment tries old new s holder result ran two named small serves ready
