use Rattle.std.proofs.Common.{◌≡◌, drop}
use Rattle.std.specs.List.{find}
use Rattle.slate_cluster_protocol.specs.Calls.{is_unknown}
use Rattle.slate_cluster_steps.proofs.uploaded.refusal_of_unknown.Given as goal

-- the first table that wasn't uploaded is among those that are left
abbrev pub invariant-loop-table : goal.invariant-loop-table
invariant-loop-table l = find (is_unknown l.uploads) (drop l.table-index l.tables) ≡ find (is_unknown l.uploads) l.tables
