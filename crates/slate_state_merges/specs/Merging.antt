-- A tree that a writer flushes into and a compactor compacts, put together from what each of them has of it.
use Rattle.std.specs.Prelude.{◌≡◌, ℕ, ◌||◌, Bool, true, false, List, [], ◌∷◌, ◌++◌, Option, Some, None, if◌then◌else◌}
use Rattle.std.specs.List.{list_any}
use Rattle.slate_ids.specs.Ulids.{same_id}
use Rattle.slate_model_tables.specs.declared.ss_table_id.SsTableId.{SsTableId}
use Rattle.slate_model_tables.specs.declared.ss_table_id.SsTableId.TheVariants.{Wal, Compacted}
use Rattle.slate_model_tables.specs.Views.{View}
use Rattle.slate_model.specs.declared.lsm_tree_state.LsmTreeState.{LsmTreeState}

-- whether a marker is this id
abbrev pub marks : Option (ℕ × ℕ) → ℕ × ℕ → Bool
marks None id = false
marks (Some marker) id = same_id marker id

-- whether a marker is the id of this table; of a file of the write-ahead log none is
abbrev pub marks_table : Option (ℕ × ℕ) → SsTableId → Bool
marks_table marker (Wal number) = false
marks_table marker (Compacted id) = marks marker id

-- whether a view is at a compactor's marker: it is the view that was compacted last, or its table is the table that was
abbrev pub is_at_marker : LsmTreeState → View → Bool
is_at_marker compactor view = marks compactor.last_compacted_l0_sst_view_id view.id || marks_table compactor.last_compacted_l0_sst_id view.sst.id

-- the views before the first that is at a compactor's marker; all of them, where none is
abbrev pub front : LsmTreeState → List View → List View
front compactor [] = []
front compactor (view ∷ views) = if is_at_marker compactor view then [] else view ∷ front compactor views

-- a writer's tree merged with a compactor's: the front of the writer's L0, and the compactor's runs and markers
abbrev pub merged : LsmTreeState → LsmTreeState → LsmTreeState
merged writer compactor = record compactor { l0 = front compactor writer.l0 }

-- nothing, or views of which the first is at a compactor's marker
abbrev pub BeginsAtMarker : LsmTreeState → List View → Type 0
BeginsAtMarker compactor [] = Unit {0}
BeginsAtMarker compactor (view ∷ views) = is_at_marker compactor view ≡ true

-- these views are a writer's up to the first that is at a compactor's marker
pub record IsFront (compactor : LsmTreeState) (views : List View) (kept : List View) : Type 0 where
  pub dropped : List View
  pub whole : views ≡ kept ++ dropped
  pub unmarked : list_any (is_at_marker compactor) kept ≡ false
  pub marked : BeginsAtMarker compactor dropped
