-- The first record of a database, by what a script says of it.
use Rattle.std.specs.Prelude.{ℕ, List, [], ◌∷◌, ◌++◌, map, Option, Some, None, is_some, option_map, if◌then◌else◌}
use Rattle.std.specs.List.{flat_map}
use Rattle.slate_model_records.specs.Records.{Record, entry_of, inserted}
use Rattle.slate_model_records.specs.declared.compaction.Compaction.{Compaction}
use Rattle.slate_model_records.specs.declared.compaction_spec.CompactionSpec.{CompactionSpec}
use Rattle.slate_model_records.specs.declared.compaction_spec.CompactionSpec.TheVariants.{Tiered, DrainSegment}
use Rattle.slate_model_records.specs.declared.source_id.SourceId.{SourceId}
use Rattle.slate_model_records.specs.declared.source_id.SourceId.TheVariants.{SstView, SortedRun}
use Rattle.slate_script_databases.specs.Databases.{table_of}
use Rattle.slate_script_databases.specs.declared.record_items.CompactionItem.{CompactionItem}
use Rattle.slate_script_databases.specs.declared.record_items.RecordItem.{RecordItem}

-- what a compaction reads: its views, and then its runs
abbrev pub item_sources : CompactionItem → List SourceId
item_sources item = map SstView item.views ++ map SortedRun item.runs

-- it writes a run, or lets its sources go
abbrev pub aimed : Option ℕ → List ℕ → List SourceId → CompactionSpec
aimed None segment sources = DrainSegment segment sources
aimed (Some run) segment sources = Tiered segment sources run

-- the compaction of an item
abbrev pub compaction_of : CompactionItem → Compaction
compaction_of item = record {
  id = item.id;
  spec = aimed item.destination item.segment (item_sources item);
  status = item.status;
  worker = None;
  output_ssts = map table_of item.outputs;
  ctx = None;
}

-- a record with the compactions of these items more; none, where an id is there already
abbrev pub with_items : Record → List CompactionItem → Option Record
with_items r [] = Some r
with_items r (item ∷ items) = if is_some (entry_of item.id r.entries) then None else with_items (record r { entries = inserted (compaction_of item) r.entries }) items

-- the first record, where there is one: it has no id twice
abbrev pub first_record : Option RecordItem → Option (Option Record)
first_record None = Some None
first_record (Some item) = option_map Some (with_items (record { compactor_epoch = item.epoch; entries = [] }) item.compactions)

-- the tables that it names as outputs, as often as it does
abbrev pub named_outputs : Option RecordItem → List (ℕ × ℕ)
named_outputs None = []
named_outputs (Some item) = flat_map (λ (c : CompactionItem). c.outputs) item.compactions
