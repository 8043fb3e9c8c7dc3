-- Records: the compactions of a database, ascending by id.
use Rattle.std.specs.Prelude.{ℕ, ◌&&◌, ◌++◌, Bool, true, List, [], ◌∷◌, Option, Some, None, if◌then◌else◌}
use Rattle.std.specs.List.{find, filter, list_all}
use Rattle.slate_ids.specs.Ulids.{same_id, id_lt}
use Rattle.slate_model_records.specs.declared.compaction.Compaction.{Compaction}

-- a record: the epoch of the last compactor that opened the database, and its compactions
pub record Record : Type 0 where
  pub compactor_epoch : ℕ
  pub entries : List Compaction

-- a version: its number, and its record
pub record Version : Type 0 where
  pub id : ℕ
  pub compactions : Record

-- whether each id is before all those after it
abbrev pub are_ascending : List Compaction → Bool
are_ascending [] = true
are_ascending (c ∷ entries) = list_all (λ d. id_lt c.id d.id) entries && are_ascending entries

-- the compaction of an id
abbrev pub entry_of : ℕ × ℕ → List Compaction → Option Compaction
entry_of id entries = find (λ c. same_id c.id id) entries

-- what a look-up finds once a compaction is put: under its own id the compaction, and under any other what it found before
abbrev pub found_after : Compaction → List Compaction → ℕ × ℕ → Option Compaction
found_after c entries id = if same_id c.id id then Some c else entry_of id entries

-- the id of the first compaction
abbrev pub first_id : List Compaction → Option (ℕ × ℕ)
first_id [] = None
first_id (c ∷ entries) = Some c.id

-- those of lesser ids, this compaction, and those of greater ids
abbrev pub inserted : Compaction → List Compaction → List Compaction
inserted c entries = filter (λ d. id_lt d.id c.id) entries ++ c ∷ filter (λ d. id_lt c.id d.id) entries
