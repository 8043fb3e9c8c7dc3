use Rattle.slate_state_logs.specs.laws.ManifestsPlain.{decoding_fine}
use Rattle.slate_state_stores.proofs.manifest_store.ReferencedManifestsMachine.next.Goals as goal

pub returns-clause-fault : goal.returns-clause-fault
returns-clause-fault g c = c.next.ensures.fault decoding_fine
