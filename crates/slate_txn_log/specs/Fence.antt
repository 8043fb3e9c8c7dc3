-- The fence: which versions refuse a holder of an epoch.
use Rattle.std.specs.Prelude.{ℕ, nat_lt, Option, Some, None, Result, Err, if◌then◌else◌}
use Rattle.slate_ids.specs.declared.error.SlateDBError.{SlateDBError}
use Rattle.slate_ids.specs.declared.error.SlateDBError.TheVariants.{Fenced}

-- a version with an epoch above the own one refuses, and no other does
abbrev pub fence : ℕ → ℕ → Option SlateDBError
fence own read = if nat_lt own read then Some (Fenced own read) else None

-- what begins unless a fence refuses it
abbrev pub unless : {X : Type 0} → Option SlateDBError → Result X SlateDBError → Result X SlateDBError
unless (Some e) start = Err e
unless None start = start
