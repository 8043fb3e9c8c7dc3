use Rattle.std.proofs.Common.{rules}
use Rattle.slate_txn_log.specs.LogPaths.{number_of}
use Rattle.slate_gc_picks.specs.VersionPicks.{is_unneeded, unneeded}
use Rattle.slate_gc_picks.proofs.OneMore.{kept}
use Rattle.slate_state_updates.specs.NamedSets.{IsSetOf}
use Rattle.slate_gc_picks.proofs.versions.unneeded.Goals as goal

pub loop-object-preserved : goal.loop-object-preserved
loop-object-preserved c =
    let set : IsSetOf c.in_ok-named.named c.args.checkpoints.now = search rules in
    kept (λ m. is_unneeded c.args.greatest c.args.checkpoints.now (number_of c.args.log m.location)) c.args.found.now c.loop-object.object-index c.object-item.result c.may_go-keeps.result c.loop-object.objects c.push_if.new.objects
    (unneeded c.args.log c.args.greatest c.args.checkpoints.now c.args.found.now) c.loop-object-test.true c.object-item.is (c.may_go-keeps.ensures c.args.checkpoints.now set) (search rules) c.loop-object.invariant
