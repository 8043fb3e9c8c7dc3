use Rattle.std.proofs.Common.{subst, sym, w64, ◌∙◌}
use Rattle.std.proofs.lemmas.Int.{to_z-of_z}
use Rattle.slate_state_reader.specs.BothReads.{both_asks, both_goes}
use Rattle.slate_state_logs.specs.laws.RecordsPlain as records
use Rattle.slate_state_logs.specs.RecordLog.{record_of_bytes}
use Rattle.slate_state_reader.specs.StateViews.{viewed, view_goes, Logs}
use Rattle.slate_state_reader.proofs.Viewed.{viewed_faithful}
use Rattle.slate_state_reader.proofs.state_reader.ReadViewMachine.next.Goals as goal
use Rattle.slate_state_logs.specs.laws.ManifestsPlain as manifests
use Rattle.slate_state_logs.specs.ManifestLog.{manifest_decoded}
use Rattle.slate_txn_laws.proofs.Told.{fault_as, steps_as}
use Rattle.slate_txn_laws.specs.Replies.{step_as}
use Rattle.slate_store.specs.Machines.{Steps}

pub returns-clause-steps : goal.returns-clause-steps
returns-clause-steps g c =
    let told = g.S.ObjectStore.told in
    let old = told c.args.store.now in
    let new = told c.next.new.store in
    let records = c.reader.inside.records in
    let manifests = c.reader.inside.manifests in
    let from = c.args.self.now.phase in
    let steps = steps_as viewed viewed_faithful old new (both_asks records manifests from) c.args.moment (both_goes record_of_bytes manifest_decoded records manifests from) from c.next.new.self c.next.result (rw (to_z-of_z w64 c.args.moment c.ranges.moment) at c.next.ensures.steps) in
    rw (sym c.viewed_step.ensures) at (subst (λ (logs : Logs). Steps old new (both_asks logs.records logs.manifests from) c.args.moment (view_goes logs from) from c.next.new.self (step_as viewed c.next.result)) c.reader.view_is steps)

pub returns-clause-fault : goal.returns-clause-fault
returns-clause-fault g c = λ same.
    let told = g.S.ObjectStore.told in
    fault_as viewed viewed_faithful (told c.args.store.now) (told c.next.new.store) c.next.result (c.next.ensures.fault records.decoding_fine manifests.decoding_fine) (sym c.viewed_step.ensures ∙ same)
