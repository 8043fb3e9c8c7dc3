use Rattle.std.proofs.Common.{rules, w64}
use Rattle.std.proofs.lemmas.Int.{to_z-of_z}
use Rattle.slate_state_logs.proofs.ChangesPlain.{change_fine}
use Rattle.slate_state_updates.specs.ManifestChanges.{made}
use Rattle.slate_state_holders.proofs.stored_manifest.StoredManifest.commit_change.Goals as goal

pub returns-clause-change : goal.returns-clause-change
returns-clause-change g c =
    let moment = c.args.moment in
    let ran = c.maybe_apply_update.ensures.apply (made c.args.change.now moment) (λ id value reply answers. search (rules, answers)) in
    rw (to_z-of_z w64 moment c.ranges.moment) at (rw (to_z-of_z w64 moment c.ranges.moment) at ran)

pub returns-clause-fault : goal.returns-clause-fault
returns-clause-fault g c =
    let change = c.args.change.now in
    c.maybe_apply_update.ensures.fault (made change c.args.moment) (λ id value reply answers. search (rules, answers)) (change_fine change c.args.moment)
