use Rattle.std.proofs.Common.{◌≡◌, drop}
use Rattle.slate_layout_records.specs.RecordBytes.{least_from, least_or_zero}
use Rattle.slate_layout_records.proofs.record_reading.least_or_zero.Given as goal

-- the least so far and those that are left decide
abbrev pub invariant-loop-run : goal.invariant-loop-run
invariant-loop-run l = least_from l.least (drop l.run-index l.others) ≡ least_or_zero l.runs
