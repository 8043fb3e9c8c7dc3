use Rattle.slate_state_holders.proofs.stored_compactions.StoredCompactions.start_create.Goals as goal

pub returns-clause-create : goal.returns-clause-create
returns-clause-create c = rw c.new-first.ensures at c.start_first.ensures.create

pub returns-clause-version : goal.returns-clause-version
returns-clause-version c = rw c.new-first.ensures at c.start_first.ensures.version
