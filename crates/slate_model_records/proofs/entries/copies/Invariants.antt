use Rattle.std.proofs.Common.{◌≡◌, ◌++◌}
use Rattle.slate_model_records.specs.Entries.{compactions_of, UnderOwnIds}
use Rattle.slate_model_records.proofs.entries.copies.Given as goal

-- the compactions so far are copied, and the others are left
abbrev pub invariant-loop-compaction : goal.invariant-loop-compaction
invariant-loop-compaction l = record { own : UnderOwnIds l.copied.entries; so_far : compactions_of l.copied.entries ++ l.compaction-iterator ≡ compactions_of l.entries.entries }
