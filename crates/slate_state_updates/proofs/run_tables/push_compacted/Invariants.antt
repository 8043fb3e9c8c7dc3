use Rattle.std.proofs.Common.{◌≡◌, ◌++◌, map, drop}
use Rattle.slate_model_tables.specs.declared.ss_table_id.SsTableId.TheVariants.{Compacted}
use Rattle.slate_state_updates.proofs.run_tables.push_compacted.Given as goal

-- the tables so far and those that are left
abbrev pub invariant-loop-id : goal.invariant-loop-id
invariant-loop-id l = l.ids ++ map (λ id. Compacted id) (drop l.id-index l.outputs) ≡ l.fn.ids ++ map (λ id. Compacted id) l.outputs
