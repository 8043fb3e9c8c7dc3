use Rattle.std.proofs.Common.{◌≡◌, drop}
use Rattle.std.specs.List.{find}
use Rattle.slate_cluster_protocol.specs.Calls.{is_missing}
use Rattle.slate_cluster_steps.proofs.uploaded.refusal_of_missing.Given as goal

-- the first missing table is among those that are left
abbrev pub invariant-loop-table : goal.invariant-loop-table
invariant-loop-table l = find (is_missing l.uploads) (drop l.table-index l.tables) ≡ find (is_missing l.uploads) l.tables
