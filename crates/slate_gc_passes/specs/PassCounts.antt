-- The counts of a pass: one delete for each pick, in their order; a fault is counted.
use Rattle.std.specs.Prelude.{ℕ, ◌-◌}
use Rattle.slate_ids.specs.Limits.{next_count}
use Rattle.slate_gc_passes.specs.declared.pass_counts.PassCounts.{PassCounts}

-- the counts of a pass that has this many picks, before its first delete, and that found this many versions of its log
abbrev pub counts_of : ℕ → ℕ → PassCounts
counts_of picked versions = record { picked = picked; deleted = 0; failed = 0; versions = versions }

-- one more pick is deleted: its log has a version less
abbrev pub one_deleted : PassCounts → PassCounts
one_deleted counts = record counts { deleted = next_count counts.deleted; versions = counts.versions - 1 }

-- the delete of one more pick faulted
abbrev pub one_failed : PassCounts → PassCounts
one_failed counts = record counts { failed = next_count counts.failed }
