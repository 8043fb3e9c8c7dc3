use Rattle.std.proofs.Common.{◌≡◌, ◌++◌, take, map}
use Rattle.slate_model.proofs.owned_tables.push_shared.Given as goal

-- the tables so far are there
abbrev pub invariant-loop-id : goal.invariant-loop-id
invariant-loop-id l = l.shared.items ≡ l.fn.shared.items ++ map (λ id. (id, l.entry.path)) (take l.id-index l.entry.sst_ids)
