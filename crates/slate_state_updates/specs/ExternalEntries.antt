-- Entries of other databases, from one version of a manifest to the next.
use Rattle.std.specs.Prelude.{ℕ, ◌&&◌, ◌||◌, Bool, true, false, not, List, [], ◌∷◌, filter, Option, Some, None, bytes_eq, if◌then◌else◌}
use Rattle.std.specs.List.{list_any, list_all, flat_map}
use Rattle.slate_model_tables.specs.declared.ss_table_id.SsTableId.{SsTableId}
use Rattle.slate_model.specs.declared.external_db.ExternalDb.{ExternalDb}
use Rattle.slate_model.specs.declared.manifest.Manifest.{Manifest}
use Rattle.slate_model.specs.Externals.{same_table}
use Rattle.slate_model.specs.Trees.{tables_of}
use Rattle.slate_state_updates.specs.TableSets.{is_among}

-- whether two pins are one: the same checkpoint of the other database, or none yet
abbrev pub same_pin : Option (List ℕ) → Option (List ℕ) → Bool
same_pin (Some a) (Some b) = bytes_eq a b
same_pin (Some a) None = false
same_pin None (Some b) = false
same_pin None None = true

-- whether two entries are of one path and pin; which checkpoint they were made from counts for nothing
abbrev pub same_entry : ExternalDb → ExternalDb → Bool
same_entry a b = bytes_eq a.path b.path && same_pin a.final_checkpoint_id b.final_checkpoint_id

-- whether the first tables stand among the second ones in their order
abbrev pub are_sublist : List SsTableId → List SsTableId → Bool
are_sublist [] ids = true
are_sublist (id ∷ kept) [] = false
are_sublist (id ∷ kept) (other ∷ ids) = if same_table id other then are_sublist kept ids else are_sublist (id ∷ kept) ids

-- whether an entry is an old one: of its path and pin, with some of its tables
abbrev pub is_kept : ExternalDb → ExternalDb → Bool
is_kept entry old = same_entry entry old && are_sublist entry.sst_ids old.sst_ids

-- whether each entry is one of the old ones; where some of those are of one path and pin, any of them will do
abbrev pub entries_known : List ExternalDb → List ExternalDb → Bool
entries_known old new = list_all (λ entry. list_any (is_kept entry) old) new

-- the tables that the entries of an old one's path and pin list
abbrev pub tables_with : ExternalDb → List ExternalDb → List SsTableId
tables_with old entries = flat_map (λ entry. entry.sst_ids) (filter (λ entry. same_entry entry old) entries)

-- whether each table of an old entry that a view uses is listed by an entry of its path and pin; where some are of one path and pin, any of them will do
abbrev pub used_stay : List SsTableId → List ExternalDb → ExternalDb → Bool
used_stay used entries old = list_all (λ id. not (is_among used id) || is_among (tables_with old entries) id) old.sst_ids

-- whether no entry is new, none gains a table, and none loses one that a view of the new manifest uses
abbrev pub entries_kept : Manifest → Manifest → Bool
entries_kept old new = entries_known old.external_dbs new.external_dbs && list_all (used_stay (tables_of new.core) new.external_dbs) old.external_dbs
