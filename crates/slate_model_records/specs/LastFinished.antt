-- The last compaction that is over, by which a trim decides.
use Rattle.std.specs.Prelude.{ℕ, Bool, true, false, List, [], ◌∷◌, Option, Some, None, if◌then◌else◌}
use Rattle.slate_model_records.specs.declared.compaction.Compaction.{Compaction}
use Rattle.slate_model_records.specs.Compactions.{is_terminal}
use Rattle.slate_ids.specs.Ulids.{same_id}
use Rattle.slate_model_records.specs.Retaining.{has_id}

-- a later id, or else that of this compaction, where it is over
abbrev pub finished_or : Compaction → Option (ℕ × ℕ) → Option (ℕ × ℕ)
finished_or c (Some id) = Some id
finished_or c None = if is_terminal c.status then Some c.id else None

-- the id of the last compaction that is over
abbrev pub last_finished : List Compaction → Option (ℕ × ℕ)
last_finished [] = None
last_finished (c ∷ entries) = finished_or c (last_finished entries)

-- whether this is an id
abbrev pub is_one : Option (ℕ × ℕ) → ℕ × ℕ → Bool
is_one None id = false
is_one (Some last) id = same_id last id

-- whether a compaction stays, where this id is the last one that is over
abbrev pub is_kept_by : List (ℕ × ℕ) → Option (ℕ × ℕ) → Compaction → Bool
is_kept_by pending last c = if is_terminal c.status then (if is_one last c.id then true else has_id pending c.id) else true
