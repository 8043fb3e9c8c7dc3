use Rattle.std.proofs.Common.{rules}
use Rattle.slate_txn_log.proofs.Ascend.{placed}
use Rattle.slate_txn_log.proofs.versions.put_in.Goals as goal

pub returns : goal.returns
returns c = search (rules, placed (c.args.number, c.args.metadata) c.args.kept.now.items)
