use Rattle.std.proofs.Common.{◌≡◌, ◌++◌, string_bytes}
use Rattle.std.specs.List.{flat_map}
use Rattle.slate_cluster_protocol.specs.Reports.{tally_line}
use Rattle.slate_cluster_reports.proofs.report_end.push_tallies.Given as goal

abbrev pub invariant-loop-db : goal.invariant-loop-db
invariant-loop-db l = string_bytes l.out ++ flat_map tally_line l.db-iterator ≡ string_bytes l.fn.out ++ flat_map tally_line l.tallies.entries
