use Rattle.std.proofs.Common.{ap, sym, ◌∙◌}
use Rattle.slate_state_logs.specs.laws.ManifestsPlain.{decoding_fine}
use Rattle.slate_state_referenced.specs.Referenced.{entries_of}
use Rattle.slate_state_stores.proofs.manifest_store.ManifestStore.read_referenced_manifests.Goals as goal

pub returns-clause-read : goal.returns-clause-read
returns-clause-read g c = rw (sym c.into_map.ensures) at (rw c.self.view_is at c.read_named.ensures.read)

pub returns-clause-fault : goal.returns-clause-fault
returns-clause-fault g c = λ same. c.read_named.ensures.fault decoding_fine (sym c.into_map.ensures ∙ ap entries_of same)
