-- Which compactions of a record a trim keeps.
use Rattle.std.specs.Prelude.{ℕ, ◌&&◌, Bool, true, List, if◌then◌else◌}
use Rattle.std.specs.List.{filter, list_any}
use Rattle.slate_model_records.specs.declared.compaction.Compaction.{Compaction}
use Rattle.slate_model_records.specs.Compactions.{is_terminal}
use Rattle.slate_ids.specs.Ulids.{same_id, id_lt}

-- whether ids have this one
abbrev pub has_id : List (ℕ × ℕ) → ℕ × ℕ → Bool
has_id ids id = list_any (λ d. same_id d id) ids

-- whether a compaction of a greater id is over
abbrev pub is_passed : List Compaction → ℕ × ℕ → Bool
is_passed entries id = list_any (λ d. is_terminal d.status && id_lt id d.id) entries

-- whether a trim keeps a compaction: it isn't over, or is the last one that is, or is pending
abbrev pub is_kept : List (ℕ × ℕ) → List Compaction → Compaction → Bool
is_kept pending entries c = if is_terminal c.status then (if is_passed entries c.id then has_id pending c.id else true) else true

-- the compactions that a trim keeps
abbrev pub retained : List (ℕ × ℕ) → List Compaction → List Compaction
retained pending entries = filter (is_kept pending entries) entries
