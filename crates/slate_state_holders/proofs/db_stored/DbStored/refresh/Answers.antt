use Rattle.slate_state_holders.proofs.db_stored.DbStored.refresh.Goals as goal

pub returns-clause-refresh : goal.returns-clause-refresh
returns-clause-refresh g c = rw c.self.view_is at c.refresh.ensures.refresh
