use Rattle.slate_state_holders.proofs.stored_manifest.StoredManifest.start_create_new_db.Goals as goal

pub returns-clause-create : goal.returns-clause-create
returns-clause-create c = rw c.initial-first.ensures at c.start_first.ensures.create

pub returns-clause-version : goal.returns-clause-version
returns-clause-version c = rw c.initial-first.ensures at c.start_first.ensures.version
