-- The faults that a report tells of.
use Rattle.std.specs.Prelude.{ℕ, ◌+◌, ◌≤◌, min, List, [], ◌∷◌}
use Rattle.slate_gc.specs.Ended.{Entry, faults_told}
use Rattle.slate_ids.specs.Limits.{last_number}

-- a count in 64 bits rose by at least so many, or stands at its end
abbrev pub RoseBy : ℕ → ℕ → ℕ → Type 0
RoseBy n before now = min (before + n) last_number ≤ now

-- the faults of a report: of the passes that a fault ended, and of deletes
abbrev pub all_faults : List Entry → ℕ
all_faults [] = 0
all_faults (e ∷ report) = faults_told e.1 + all_faults report
