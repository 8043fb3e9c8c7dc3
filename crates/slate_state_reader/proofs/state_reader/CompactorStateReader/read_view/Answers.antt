use Rattle.std.proofs.Common.{subst, sym, ◌∙◌}
use Rattle.slate_state_logs.specs.laws.RecordsPlain as records
use Rattle.slate_state_reader.specs.StateViews.{viewed, Logs, ViewRead}
use Rattle.slate_state_reader.proofs.Viewed.{read_so, viewed_faithful}
use Rattle.slate_state_reader.proofs.state_reader.CompactorStateReader.read_view.Goals as goal
use Rattle.slate_state_logs.specs.laws.ManifestsPlain as manifests
use Rattle.slate_txn_laws.proofs.Told.{fault_of_as}

pub returns-clause-read : goal.returns-clause-read
returns-clause-read g c =
    let told = g.S.ObjectStore.told in
    let old = told c.args.store.now in
    let new = told c.read_both.new.store in
    let inside : Logs = record { records = c.self.inside.records; manifests = c.self.inside.manifests } in
    let read = read_so inside c.args.tries old new c.read_both.result c.read_both.ensures.read in
    rw (sym c.viewed.ensures) at (subst (λ (logs : Logs). ViewRead logs c.args.tries old new (viewed c.read_both.result)) c.self.view_is read)

pub returns-clause-fault : goal.returns-clause-fault
returns-clause-fault g c = λ same.
    let told = g.S.ObjectStore.told in
    fault_of_as viewed viewed_faithful (told c.args.store.now) (told c.read_both.new.store) c.read_both.result (c.read_both.ensures.fault records.decoding_fine manifests.decoding_fine) (sym c.viewed.ensures ∙ same)
