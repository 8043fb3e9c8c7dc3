use Rattle.slate_store.proofs.memory_store.MemoryStore.listed.Goals as goal

pub returns : goal.returns
returns c = rw (← c.self.view_is) c.listing.ensures
