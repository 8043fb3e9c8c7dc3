-- The tables that the views of a manifest are of, ascending by their ids.
use Rattle.std.specs.Prelude.{ℕ, ◌&&◌, Bool, true, List, [], ◌∷◌, Option, Some, None, if◌then◌else◌}
use Rattle.std.specs.List.{find, prefix_len}
use Rattle.slate_ids.specs.Ulids.{same_id, id_lt}
use Rattle.slate_model_tables.specs.declared.ss_table_id.SsTableId.{SsTableId}
use Rattle.slate_model_tables.specs.declared.ss_table_id.SsTableId.TheVariants.{Wal, Compacted}
use Rattle.slate_model_tables.specs.declared.ss_table_handle.SsTableHandle.{SsTableHandle}

-- the id of a compacted table; a file of the write-ahead log has none
abbrev pub table_id : SsTableId → ℕ × ℕ
table_id (Compacted id) = id
table_id (Wal n) = (0, 0)

-- whether a table stands before an id
abbrev pub is_before : ℕ × ℕ → SsTableHandle → Bool
is_before id h = id_lt (table_id h.id) id

-- whether each table stands before the next
abbrev pub stands_before : SsTableHandle → List SsTableHandle → Bool
stands_before h [] = true
stands_before h (k ∷ tables) = is_before (table_id k.id) h

-- whether the ids of tables ascend strictly
abbrev pub ascend : List SsTableHandle → Bool
ascend [] = true
ascend (h ∷ tables) = stands_before h tables && ascend tables

-- the table of an id
abbrev pub table_at : ℕ × ℕ → List SsTableHandle → Option SsTableHandle
table_at id tables = find (λ h. same_id (table_id h.id) id) tables

-- a table, where it is of this id
abbrev pub of_id : ℕ × ℕ → Option SsTableHandle → Option SsTableHandle
of_id id None = None
of_id id (Some h) = if same_id (table_id h.id) id then Some h else None

-- how many tables stand before an id
abbrev pub place_of : ℕ × ℕ → List SsTableHandle → ℕ
place_of id tables = prefix_len (is_before id) tables
