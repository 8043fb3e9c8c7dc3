use Rattle.std.proofs.Common.{◌≡◌, ◌++◌, drop}
use Rattle.slate_state_updates.proofs.entries.push_ids.Given as goal

-- the tables so far and those that are left
abbrev pub invariant-loop-id : goal.invariant-loop-id
invariant-loop-id l = l.ids ++ drop l.id-index l.entry.sst_ids ≡ l.fn.ids ++ l.entry.sst_ids
