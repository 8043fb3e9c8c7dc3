use Rattle.std.proofs.Common.{rules, w64}
use Rattle.std.proofs.lemmas.Int.{to_z-of_z}
use Rattle.slate_state_logs.proofs.ChangesPlain.{change_fine, change_free}
use Rattle.slate_state_logs.specs.ManifestLog.{manifest_decoded, manifest_encoded, manifest_rules}
use Rattle.slate_state_logs.specs.laws.ManifestsPlain.{manifests_plain}
use Rattle.slate_txn_log.specs.declared.right.Right.TheVariants.{Plain}
use Rattle.slate_txn_laws.proofs.PlainCommits as plain
use Rattle.slate_txn.specs.FencedApplying.{fenced_made}
use Rattle.slate_state_updates.specs.ManifestChanges.{made}
use Rattle.slate_state_updates.specs.Writers.{epoch_of}
use Rattle.slate_state_holders.proofs.fenceable_manifest.FenceableManifest.commit_change.Goals as goal

pub returns-clause-change : goal.returns-clause-change
returns-clause-change g c =
    let moment = c.args.moment in
    let ran = c.maybe_apply.ensures.apply (made c.args.change.now moment) (λ id value reply answers. search (rules, answers)) in
    rw c.self.view_is at (rw (to_z-of_z w64 moment c.ranges.moment) at (rw (to_z-of_z w64 moment c.ranges.moment) at ran))

pub returns-clause-fault : goal.returns-clause-fault
returns-clause-fault g c =
    let changed = made c.args.change.now c.args.moment in
    let inside = c.self.inside.fenced in
    let fine = plain.fenced_fine epoch_of inside.epochs inside.epoch changed (change_fine c.args.change.now c.args.moment) in
    c.maybe_apply.ensures.fault changed (λ id value reply answers. search (rules, answers)) (plain.ways_fine manifest_decoded manifest_encoded manifest_rules manifests_plain (fenced_made epoch_of inside.epochs inside.epoch changed) Plain fine)

pub returns-clause-fenced : goal.returns-clause-fenced
returns-clause-fenced g c =
    let changed = made c.args.change.now c.args.moment in
    c.maybe_apply.ensures.fenced changed (λ id value reply answers. search (rules, answers)) (plain.ways_free manifest_decoded manifest_encoded manifest_rules manifests_plain changed Plain (change_free c.args.change.now c.args.moment))
