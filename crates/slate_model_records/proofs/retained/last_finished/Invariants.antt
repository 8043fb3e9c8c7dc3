use Rattle.std.proofs.Common.{◌≡◌}
use Rattle.std.specs.Option.{option_or}
use Rattle.slate_model_records.specs.Entries.{compactions_of}
use Rattle.slate_model_records.specs.LastFinished as finished
use Rattle.slate_model_records.proofs.retained.last_finished.Given as goal

-- the last of those that are left, or else the last so far
abbrev pub invariant-loop-compaction : goal.invariant-loop-compaction
invariant-loop-compaction l = option_or (finished.last_finished l.compaction-iterator) l.last ≡ finished.last_finished (compactions_of l.entries.entries)
