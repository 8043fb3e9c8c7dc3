-- As a run begins: nobody put the records that are there, and they obey the rule on outputs.
use Rattle.std.proofs.Common.{◌≡◌, ◌≢◌, ℕ, ◌+◌, Bool, true, false, List, [], ◌∷◌, Option, Some, None, is_some, ⊎_elim, refl, subst}
use Rattle.std.specs.Prelude.{◌||◌, not, bytes_eq, if◌then◌else◌}
use Rattle.std.specs.List.{list_any}
use Rattle.std.specs.Option.{option_or}
use Rattle.slate_ids.specs.declared.error.SlateDBError.{SlateDBError}
use Rattle.slate_ids.specs.declared.object_path.ObjectPath.{ObjectPath}
use Rattle.slate_model_records.specs.Records.{Record}
use Rattle.slate_model_records.specs.declared.compaction.Compaction.{Compaction}
use Rattle.slate_model_tables.specs.declared.ss_table_handle.SsTableHandle.{SsTableHandle}
use Rattle.slate_script_events.specs.declared.cluster_cause.ClusterCause.{ClusterCause}
use Rattle.slate_script_events.specs.declared.cluster_cause.ClusterCause.TheVariants as cause
use Rattle.slate_script_events.specs.declared.db_spec.DbSpec.{DbSpec}
use Rattle.slate_state_record_updates.specs.RecordRules.{first_refusal, outputs_refusal, table_refusal}
use Rattle.slate_cluster_protocol.specs.Chains.{Link, link_at}
use Rattle.slate_cluster_protocol.specs.Lawful.{IsAccepted}
use Rattle.slate_cluster_protocol.specs.Logs.{Author, opening_record, opening_records, record_chain}
use Rattle.slate_cluster_protocol.specs.Specs.{First, are_ids_fine, are_outputs_wrong, cause_beside, compactions_in, has_wrong_output, is_epoch_high, is_floor_low, is_output_absent, is_output_wrong, lacks_table, listed_or_none, names_other, objects_of, overlaps, tallies_from}
use Rattle.slate_cluster_chain_laws.specs.Locals.{ObeyOutputs}
use Rattle.slate_cluster_chain_laws.proofs.Links.{link_here, link_there, same_or_not}
use Rattle.slate_cluster_laws.proofs.Along.{opening_moment}
use Rattle.slate_cluster_compactor_laws.proofs.Wholes.{WholeHas}

-- ---- the outputs of accepted databases

if_none : {C : Type 0} (b : Bool) (x : C) (o : Option C) → (if b then Some x else o) ≡ None → (b ≡ false) × (o ≡ None)
if_none true x o h = absurd (cc h)
if_none false x o h = (refl, h)

neither_is : (a b : Bool) → (a || b) ≡ false → (a ≡ false) × (b ≡ false)
neither_is true b h = absurd (cc h)
neither_is false b h = (refl, h)

or_none : (a b : Option SlateDBError) → a ≡ None → b ≡ None → option_or a b ≡ None
or_none None b h k = k
or_none (Some e) b h k = absurd (cc h)

none_is : {X : Type 0} (o : Option X) → is_some o ≡ false → o ≡ None
none_is None h = refl
none_is (Some x) h = absurd (cc h)

module _ (objects : List (ObjectPath × First)) (spec : DbSpec) where
  tables_obey : (ms : ℕ) (outputs : List SsTableHandle) → list_any (is_output_wrong objects spec ms) outputs ≡ false → first_refusal (λ (sst : SsTableHandle). table_refusal ms sst.id) outputs ≡ None
  tables_obey ms [] h = refl
  tables_obey ms (sst ∷ outputs) h =
      let parts = neither_is (is_output_wrong objects spec ms sst) (list_any (is_output_wrong objects spec ms) outputs) h in
      let own = none_is (table_refusal ms sst.id) (neither_is (is_some (table_refusal ms sst.id)) (is_output_absent objects spec sst.id) parts.0).0 in
      or_none (table_refusal ms sst.id) (first_refusal (λ (x : SsTableHandle). table_refusal ms x.id) outputs) own (tables_obey ms outputs parts.1)

  entries_obey : (entries : List Compaction) → list_any (has_wrong_output objects spec) entries ≡ false → ObeyOutputs entries
  entries_obey [] h = refl
  entries_obey (c ∷ entries) h =
      let parts = neither_is (has_wrong_output objects spec c) (list_any (has_wrong_output objects spec) entries) h in
      or_none (outputs_refusal c) (first_refusal outputs_refusal entries) (tables_obey c.id.0 c.output_ssts parts.0) (entries_obey entries parts.1)

-- the rule, of each database's record
abbrev EachObeys : List DbSpec → Type 0
EachObeys [] = Unit {0}
EachObeys (spec ∷ specs) = ObeyOutputs (compactions_in spec.compactions) × EachObeys specs

each_obeys : (objects : List (ObjectPath × First)) (specs : List DbSpec) → list_any (are_outputs_wrong objects) specs ≡ false → EachObeys specs
each_obeys objects [] h = tt
each_obeys objects (spec ∷ specs) h =
    let parts = neither_is (are_outputs_wrong objects spec) (list_any (are_outputs_wrong objects) specs) h in
    (entries_obey objects spec (compactions_in spec.compactions) parts.0, each_obeys objects specs parts.1)

-- the causes that come after that of outputs
abbrev after_outputs : List (ObjectPath × First) → List DbSpec → Option ClusterCause
after_outputs objects specs = if list_any names_other specs then Some cause.Checkpoints else (if list_any (lacks_table objects) specs then Some cause.Tables else (if list_any is_floor_low specs then Some cause.Floor else None))

beside_obeys : (objects : List (ObjectPath × First)) (specs : List DbSpec) → cause_beside objects specs ≡ None → EachObeys specs
beside_obeys objects specs h =
    let outputs : Option ClusterCause = if list_any (are_outputs_wrong objects) specs then Some cause.Outputs else after_outputs objects specs in
    let epochs : Option ClusterCause = if list_any is_epoch_high specs then Some cause.Epoch else outputs in
    let segments = if_none (list_any overlaps specs) cause.Segments epochs h in
    let epoch = if_none (list_any is_epoch_high specs) cause.Epoch outputs segments.1 in
    each_obeys objects specs (if_none (list_any (are_outputs_wrong objects) specs) cause.Outputs (after_outputs objects specs) epoch.1).0

accepted_obey : (specs : List DbSpec) → IsAccepted specs → EachObeys specs
accepted_obey specs accepted =
    let objects = listed_or_none (objects_of specs) in
    let values : Option ClusterCause = if not (is_some (objects_of specs)) then Some cause.Value else cause_beside objects specs in
    let ids : Option ClusterCause = if not (are_ids_fine specs) then Some cause.Ids else values in
    let path = if_none (not (is_some (tallies_from [] specs))) cause.Path ids accepted.accepted in
    let fine = if_none (not (are_ids_fine specs)) cause.Ids values path.1 in
    beside_obeys objects specs (if_none (not (is_some (objects_of specs))) cause.Value (cause_beside objects specs) fine.1).1

-- ---- the records

-- a record that nobody put, and that obeys the rule
record IsOpening (l : Link Record Author) : Type 0 where
  by : l.by ≡ None
  outputs : ObeyOutputs l.value.entries

chain_opens : (o : Option Record) → ObeyOutputs (compactions_in o) → (number : ℕ) (l : Link Record Author) → link_at number (record_chain o) ≡ Some l → IsOpening l
chain_opens None h number l at = absurd (cc at)
chain_opens (Some r) h number l at =
    ⊎_elim
    (λ (e : (opening_record r).number ≡ number). let one : opening_record r ≡ l = cc (link_here number (opening_record r) [] e, at) in subst IsOpening one (record { by = refl; outputs = h }))
    (λ (ne : (opening_record r).number ≢ number). absurd (cc (link_there number (opening_record r) [] ne, at)))
    (same_or_not (opening_record r).number number)

records_open : (specs : List DbSpec) → EachObeys specs → (d : List ℕ) (number : ℕ) (l : Link Record Author) → link_at number (opening_records specs d) ≡ Some l → IsOpening l
records_open [] h d number l at = absurd (cc at)
records_open (spec ∷ specs) h d number l at = by (bytes_eq d spec.path) at (records_open specs h.1 d number l)
  where
    by : (b : Bool) → link_at number (if b then record_chain spec.compactions else opening_records specs d) ≡ Some l → (link_at number (opening_records specs d) ≡ Some l → IsOpening l) → IsOpening l
    by true at rest = chain_opens spec.compactions h.0 number l at
    by false at rest = rest at

pub opening_whole : (specs : List DbSpec) → IsAccepted specs → WholeHas (opening_moment specs)
opening_whole specs accepted =
    let obey = accepted_obey specs accepted in
    record {
      raisers = λ db has number l author epoch at by is. absurd (cc ((records_open specs obey db number l at).by, by));
      holders = λ db has number old new author epoch at_old at_new by is. absurd (cc ((records_open specs obey db (number + 1) new at_new).by, by));
      opens = λ db has l at by. (records_open specs obey db l.number l at).outputs;
    }
