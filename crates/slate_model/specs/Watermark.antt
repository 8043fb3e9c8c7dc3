-- The watermark: the greatest moment of a flushed table, and the floor that it raises.
use Rattle.std.specs.Prelude.{◌≡◌, ℕ, max, true, false, List, [], ◌∷◌, map, Option, Some, None, option_to_list, if◌then◌else◌}
use Rattle.std.specs.List.{list_any, flat_map, filter_map}
use Rattle.slate_ids.specs.Ulids.{id_lt, same_id}
use Rattle.slate_model_tables.specs.declared.ss_table_id.SsTableId.{SsTableId}
use Rattle.slate_model_tables.specs.declared.ss_table_id.SsTableId.TheVariants.{Wal, Compacted}
use Rattle.slate_model.specs.declared.lsm_tree_state.LsmTreeState.{LsmTreeState}
use Rattle.slate_model_tables.specs.Views.{View}
use Rattle.slate_model.specs.Cores.{Core}
use Rattle.slate_model.specs.Trees.{trees_of}

-- the id that has the moment of a table: a file of the write-ahead log has none
abbrev pub timed_id : SsTableId → Option (ℕ × ℕ)
timed_id (Wal number) = None
timed_id (Compacted id) = Some id

-- the ids of the tables of these views
abbrev pub timed_ids : List View → List (ℕ × ℕ)
timed_ids views = filter_map (λ v. timed_id v.sst.id) views

-- the ids of flushed tables, the newest first; where no such table is left, the last view that was compacted
abbrev pub flushed_ids : Option (ℕ × ℕ) → List View → List (ℕ × ℕ)
flushed_ids marker [] = option_to_list marker
flushed_ids marker (v ∷ views) = timed_ids (v ∷ views)

-- the ids of a tree's flushed tables
abbrev pub flushed_of_tree : LsmTreeState → List (ℕ × ℕ)
flushed_of_tree tree = flushed_ids tree.last_compacted_l0_sst_view_id tree.l0

-- the ids of all trees' flushed tables
abbrev pub flushed_of : Core → List (ℕ × ℕ)
flushed_of core = flat_map flushed_of_tree (trees_of core)

-- the greatest number; 0 of none
abbrev pub greatest : List ℕ → ℕ
greatest [] = 0
greatest (n ∷ numbers) = max n (greatest numbers)

-- the watermark of a manifest, in milliseconds
abbrev pub watermark : Core → ℕ
watermark core = greatest (map (λ id. id.0) (flushed_of core))

-- the floor of a new value, from the old one's
abbrev pub raised_floor : ℕ → Core → ℕ
raised_floor old core = max old (watermark core)

-- the later id of two; the first, where they are one
abbrev pub later : Option (ℕ × ℕ) → Option (ℕ × ℕ) → Option (ℕ × ℕ)
later None b = b
later (Some a) None = Some a
later (Some a) (Some b) = Some (if id_lt a b then b else a)

-- the greatest id, in the order of ids
abbrev pub latest : List (ℕ × ℕ) → Option (ℕ × ℕ)
latest [] = None
latest (id ∷ ids) = later (Some id) (latest ids)

-- an id that is one of these, and none of them is above it; none where there are none
abbrev pub IsGreatestOf : List (ℕ × ℕ) → Option (ℕ × ℕ) → Type 0
IsGreatestOf ids None = ids ≡ []
IsGreatestOf ids (Some id) = (list_any (same_id id) ids ≡ true) × (list_any (id_lt id) ids ≡ false)

-- the milliseconds of an id; 0 without one
abbrev pub moment_of : Option (ℕ × ℕ) → ℕ
moment_of None = 0
moment_of (Some id) = id.0
