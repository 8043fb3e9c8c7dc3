-- Tables that a flush adds.
use Rattle.std.specs.Prelude.{[], ◌∷◌, Option, Some, codes}
use Rattle.serde_json.specs.Data.{Data}
use Rattle.serde_json.specs.Find.{as_str}
use Rattle.slate_script_json.specs.Fields.{◌>>=◌, only, required, defaulted}
use Rattle.slate_script_json.specs.WrittenIds.{id_in}
use Rattle.slate_script_events.specs.declared.flush_table.FlushTable.{FlushTable}

-- a table, its view, and the prefix of its tree: that of the root where there is none
unfoldable pub flush_table_in : Data → Option FlushTable
flush_table_in d = do
  _ ← only (codes "table" ∷ codes "view" ∷ codes "prefix" ∷ []) d
  table ← required id_in (codes "table") d
  view ← required id_in (codes "view") d
  prefix ← defaulted [] as_str (codes "prefix") d
  Some (record { table = table; view = view; prefix = prefix })
