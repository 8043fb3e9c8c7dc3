-- How a pass ended.
use Rattle.std.specs.Prelude.{ℕ, Bool, true, false, Result, Ok, Err, if◌then◌else◌}
use Rattle.slate_ids.specs.declared.error.SlateDBError.{SlateDBError}
use Rattle.slate_ids.specs.declared.error.SlateDBError.TheVariants.{StoreFault}
use Rattle.slate_ids.specs.declared.gc_message.GcMessage.{GcMessage}
use Rattle.slate_gc_passes.specs.declared.pass_counts.PassCounts.{PassCounts}

-- which pass, its counts or its refusal, and how many of its deletes didn't fault: some of them also where memory ran out
pub record Ended : Type 0 where
  pub pass : GcMessage
  pub result : Result PassCounts SlateDBError
  pub deleted : ℕ

-- a pass ended so
abbrev pub ended_with : GcMessage → Result PassCounts SlateDBError → ℕ → Ended
ended_with pass result deleted = record { pass = pass; result = result; deleted = deleted }

-- what the report says of it
abbrev pub Entry : Type 0
Entry = GcMessage × Result PassCounts SlateDBError

abbrev pub entry_of : Ended → Entry
entry_of ended = (ended.pass, ended.result)

abbrev pub is_fault : SlateDBError → Bool
is_fault StoreFault = true
is_fault _ = false

-- the faults that an entry of a report tells of: that which ended the pass, or those of its deletes
abbrev pub faults_told : Result PassCounts SlateDBError → ℕ
faults_told (Ok counts) = counts.failed
faults_told (Err e) = if is_fault e then 1 else 0
