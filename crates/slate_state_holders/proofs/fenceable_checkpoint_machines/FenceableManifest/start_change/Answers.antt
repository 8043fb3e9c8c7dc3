use Rattle.std.proofs.Common.{◌≡◌, IfOk, rules, subst, w64}
use Rattle.std.proofs.lemmas.Int.{to_z-of_z}
use Rattle.slate_txn.specs.declared.update.UpdateMachine.{UpdateMachine}
use Rattle.slate_model.specs.declared.manifest.Manifest.{Manifest}
use Rattle.slate_state_updates.specs.ManifestChanges.{made}
use Rattle.slate_state_holders.specs.CheckpointMachines.{fenced_machine}
use Rattle.slate_state_holders.specs.ManifestHolders.{FencedManifest}
use Rattle.slate_state_holders.proofs.fenceable_checkpoint_machines.FenceableManifest.start_change.Goals as goal

pub returns-clause-machine : goal.returns-clause-machine
returns-clause-machine c =
    let change = c.args.change.now in
    let moment = c.args.moment in
    subst (λ (h : FencedManifest). IfOk c.start_maybe_apply.result (λ (machine : UpdateMachine Manifest). machine ≡ fenced_machine change moment h)) c.self.view_is
    (c.start_maybe_apply.ensures.machine (made change moment) (λ id value reply answers. search (rules, answers, answers.said-raw, to_z-of_z w64 moment c.ranges.moment)))
