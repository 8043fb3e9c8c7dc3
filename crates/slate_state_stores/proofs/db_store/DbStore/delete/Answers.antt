use Rattle.slate_state_stores.proofs.db_store.DbStore.delete.Goals as goal

pub returns-clause-delete : goal.returns-clause-delete
returns-clause-delete g c = rw c.self.view_is at (rw c.names.ensures at c.delete_checked.ensures.delete)
