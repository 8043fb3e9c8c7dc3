-- The fields of a database's first record in a script.
use Rattle.std.specs.Prelude.{ℕ, Bool, true, [], ◌∷◌, Option, Some, None, codes}
use Rattle.serde_json.specs.Data.{Data}
use Rattle.serde_json.specs.Find.{as_str}
use Rattle.slate_script_json.specs.Fields.{◌>>=◌, only, required, optional, defaulted, u64_in, u32_in, bool_in, list_in}
use Rattle.slate_script_json.specs.Words.{status_in}
use Rattle.slate_script_json.specs.WrittenIds.{id_in}
use Rattle.slate_script_databases.specs.declared.record_items.CompactionItem.{CompactionItem}
use Rattle.slate_script_databases.specs.declared.record_items.RecordItem.{RecordItem}

-- the run that a compaction writes; or none, where it drains; it says one of the two, and not that it doesn't drain
abbrev pub destination_of : Option ℕ → Option Bool → Option (Option ℕ)
destination_of (Some run) None = Some (Some run)
destination_of None (Some true) = Some None
destination_of _ _ = None

unfoldable pub destination_in : Data → Option (Option ℕ)
destination_in d = do
  destination ← optional u32_in (codes "destination") d
  drain ← optional bool_in (codes "drain") d
  destination_of destination drain

-- an item of `compactions`
unfoldable pub compaction_item_in : Data → Option CompactionItem
compaction_item_in d = do
  _ ← only (codes "id" ∷ codes "status" ∷ codes "segment" ∷ codes "views" ∷ codes "runs" ∷ codes "destination" ∷ codes "drain" ∷ codes "outputs" ∷ []) d
  id ← required id_in (codes "id") d
  status ← required status_in (codes "status") d
  segment ← defaulted [] as_str (codes "segment") d
  views ← required (list_in id_in) (codes "views") d
  runs ← required (list_in u32_in) (codes "runs") d
  destination ← destination_in d
  outputs ← required (list_in id_in) (codes "outputs") d
  Some (record { id = id; status = status; segment = segment; views = views; runs = runs; destination = destination; outputs = outputs })

-- the field `record`
unfoldable pub record_item_in : Data → Option RecordItem
record_item_in d = do
  _ ← only (codes "epoch" ∷ codes "compactions" ∷ []) d
  epoch ← required u64_in (codes "epoch") d
  compactions ← required (list_in compaction_item_in) (codes "compactions") d
  Some (record { epoch = epoch; compactions = compactions })
