-- Tables by their ids, in lists and in ordered sets.
use Rattle.std.specs.Prelude.{◌≡◌, Bool, not, List, ◌∷◌}
use Rattle.std.specs.List.{list_any}
use Rattle.std.specs.BTreeSet.{BTreeSet, contains}
use Rattle.std.specs.declared.cmp.Ordering.{Ordering}
use Rattle.slate_model_tables.specs.declared.ss_table_id.SsTableId.{SsTableId}
use Rattle.slate_model_tables.specs.contracts.ss_table_id.SsTableIdOrd.TheImpl as table_ord
use Rattle.slate_model.specs.Externals.{same_table}

-- whether a table is one of these
abbrev pub is_among : List SsTableId → SsTableId → Bool
is_among ids id = list_any (same_table id) ids

-- the order of tables: files of the write-ahead log by number, then the others by id
abbrev pub table_cmp : SsTableId → SsTableId → Ordering
table_cmp = (table_ord.ghosts).cmp

-- whether a set has a table
abbrev pub has_table : BTreeSet SsTableId → SsTableId → Bool
has_table set id = contains table_cmp set id

-- the set has exactly these tables
abbrev pub IsTableSet : BTreeSet SsTableId → List SsTableId → Type 0
IsTableSet set ids = (id : SsTableId) → has_table set id ≡ is_among ids id

-- a table was noted in a set: it was new where the set had it not, and the set has it then besides all that it had
abbrev pub Notes : BTreeSet SsTableId → BTreeSet SsTableId → SsTableId → Bool → Type 0
Notes old new id added = (known : List SsTableId) → IsTableSet old known → (added ≡ not (is_among known id)) × IsTableSet new (id ∷ known)
