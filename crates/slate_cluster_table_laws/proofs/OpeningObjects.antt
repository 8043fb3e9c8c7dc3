-- As a run begins: each watermark is at most its floor, and each output of a record stands.
use Rattle.std.proofs.Common.{◌≡◌, ℕ, ◌≤◌, nat_lt, Bool, true, false, not, List, [], ◌∷◌, Option, Some, None, is_some, ⊎_elim, inl, refl, sym, subst, arith}
use Rattle.std.proofs.lemmas.Bool.Decides.{nat_tests}
use Rattle.std.specs.Prelude.{◌||◌, bytes_eq, if◌then◌else◌}
use Rattle.std.specs.List.{list_any}
use Rattle.slate_ids.specs.declared.object_path.ObjectPath.{ObjectPath}
use Rattle.slate_ids.specs.declared.object_path.ObjectPath.TheVariants as paths
use Rattle.slate_model.specs.Externals.{is_owned, lists, same_table}
use Rattle.slate_model.specs.Trees.{tables_of}
use Rattle.slate_model.specs.Watermark.{watermark}
use Rattle.slate_model.specs.declared.external_db.ExternalDb.{ExternalDb}
use Rattle.slate_model.specs.declared.manifest.Manifest.{Manifest}
use Rattle.slate_state_updates.specs.TableSets.{is_among}
use Rattle.slate_cluster_chain_laws.proofs.TableSteps.{either, kept_of, same_tables}
use Rattle.slate_model_records.specs.Records.{Record}
use Rattle.slate_model_records.specs.declared.compaction.Compaction.{Compaction}
use Rattle.slate_model_tables.specs.declared.ss_table_handle.SsTableHandle.{SsTableHandle}
use Rattle.slate_model_tables.specs.declared.ss_table_id.SsTableId.{SsTableId}
use Rattle.slate_model_tables.specs.declared.ss_table_id.SsTableId.TheVariants.{Wal, Compacted}
use Rattle.slate_script_events.specs.declared.cluster_cause.ClusterCause.{ClusterCause}
use Rattle.slate_script_events.specs.declared.cluster_cause.ClusterCause.TheVariants as cause
use Rattle.slate_script_events.specs.declared.db_spec.DbSpec.{DbSpec}
use Rattle.slate_state_record_updates.specs.RecordRules.{table_refusal}
use Rattle.slate_cluster_protocol.specs.Lawful.{IsAccepted}
use Rattle.slate_cluster_protocol.specs.Logs.{opening_link, opening_manifests, opening_records, record_chain}
use Rattle.slate_cluster_protocol.specs.Specs.{First, home_of, is_absent, are_ids_fine, are_outputs_wrong, cause_beside, compactions_in, has_wrong_output, is_epoch_high, is_floor_low, is_output_absent, is_output_wrong, is_there, lacks_table, listed_or_none, names_other, no_objects, objects_of, opening_world, overlaps, store_from, tallies_from}
use Rattle.slate_cluster_protocol.specs.Reach.{HasOwn}
use Rattle.slate_cluster_laws.proofs.Stores.{decides}
use Rattle.slate_cluster_table_laws.specs.Links.{EachValue}
use Rattle.slate_cluster_table_laws.specs.Presence.{EachOutput, EachTable, IfTable, WasPut}
use Rattle.slate_cluster_table_laws.proofs.Marks.{IsMarked}
use Rattle.slate_cluster_table_laws.proofs.Stand.{there_stands}

-- ---- what the causes look at

if_none : {C : Type 0} (b : Bool) (x : C) (o : Option C) → (if b then Some x else o) ≡ None → (b ≡ false) × (o ≡ None)
if_none true x o h = absurd (cc h)
if_none false x o h = (refl, h)

neither_is : (a b : Bool) → (a || b) ≡ false → (a ≡ false) × (b ≡ false)
neither_is true b h = absurd (cc h)
neither_is false b h = (refl, h)

negated : (b : Bool) → not b ≡ false → b ≡ true
negated true h = refl
negated false h = absurd cc

-- none of these databases has a wrong output, lacks a table, or has a low floor
pub record AreFine (objects : List (ObjectPath × First)) (specs : List DbSpec) : Type 0 where
  pub outputs : list_any (are_outputs_wrong objects) specs ≡ false
  pub tables : list_any (lacks_table objects) specs ≡ false
  pub floors : list_any is_floor_low specs ≡ false

beside_fine : (objects : List (ObjectPath × First)) (specs : List DbSpec) → cause_beside objects specs ≡ None → AreFine objects specs
beside_fine objects specs h =
    let floors : Option ClusterCause = if list_any is_floor_low specs then Some cause.Floor else None in
    let tables : Option ClusterCause = if list_any (lacks_table objects) specs then Some cause.Tables else floors in
    let names : Option ClusterCause = if list_any names_other specs then Some cause.Checkpoints else tables in
    let outputs : Option ClusterCause = if list_any (are_outputs_wrong objects) specs then Some cause.Outputs else names in
    let epochs : Option ClusterCause = if list_any is_epoch_high specs then Some cause.Epoch else outputs in
    let first = if_none (list_any overlaps specs) cause.Segments epochs h in
    let second = if_none (list_any is_epoch_high specs) cause.Epoch outputs first.1 in
    let third = if_none (list_any (are_outputs_wrong objects) specs) cause.Outputs names second.1 in
    let fourth = if_none (list_any names_other specs) cause.Checkpoints tables third.1 in
    let fifth = if_none (list_any (lacks_table objects) specs) cause.Tables floors fourth.1 in
    let last = if_none (list_any is_floor_low specs) cause.Floor None fifth.1 in
    record { outputs = third.0; tables = fifth.0; floors = last.0 }

accepted_fine : (specs : List DbSpec) → IsAccepted specs → AreFine (listed_or_none (objects_of specs)) specs
accepted_fine specs accepted =
    let objects = listed_or_none (objects_of specs) in
    let values : Option ClusterCause = if not (is_some (objects_of specs)) then Some cause.Value else cause_beside objects specs in
    let ids : Option ClusterCause = if not (are_ids_fine specs) then Some cause.Ids else values in
    let path = if_none (not (is_some (tallies_from [] specs))) cause.Path ids accepted.accepted in
    let fine = if_none (not (are_ids_fine specs)) cause.Ids values path.1 in
    beside_fine objects specs (if_none (not (is_some (objects_of specs))) cause.Value (cause_beside objects specs) fine.1).1

-- ---- floors

not_below : (a b : ℕ) → nat_lt a b ≡ false → b ≤ a
not_below a b h = grind (arith, nat_tests)

manifests_marked : (specs : List DbSpec) → list_any is_floor_low specs ≡ false → (d : List ℕ) → EachValue IsMarked (opening_manifests specs d)
manifests_marked [] h d = tt
manifests_marked (spec ∷ specs) h d =
    let parts = neither_is (is_floor_low spec) (list_any is_floor_low specs) h in
    by parts.0 (bytes_eq d spec.path) (manifests_marked specs parts.1 d)
  where
    by : is_floor_low spec ≡ false → (b : Bool) → EachValue IsMarked (opening_manifests specs d) → EachValue IsMarked (if b then opening_link spec ∷ [] else opening_manifests specs d)
    by own true rest = (not_below spec.manifest.core.floor (watermark spec.manifest.core) own, tt)
    by own false rest = rest

pub opening_marked : (specs : List DbSpec) → IsAccepted specs → (d : List ℕ) → EachValue IsMarked (opening_manifests specs d)
opening_marked specs accepted d = manifests_marked specs (accepted_fine specs accepted).floors d

-- ---- outputs

module _ (objects : List (ObjectPath × First)) (removed : List ObjectPath) where
  abbrev There : List ℕ → ℕ × ℕ → Type 0
  There db id = WasPut removed (store_from no_objects objects) db id

  module _ (spec : DbSpec) where
    table_there : (id : SsTableId) → is_output_absent objects spec id ≡ false → IfTable (There spec.path) id
    table_there (Wal number) h = tt
    table_there (Compacted id) h = inl (there_stands (paths.Table spec.path id) objects no_objects (negated (is_there (paths.Table spec.path id) objects) h))

    tables_there : (ms : ℕ) (outputs : List SsTableHandle) → list_any (is_output_wrong objects spec ms) outputs ≡ false → EachTable (There spec.path) outputs
    tables_there ms [] h = tt
    tables_there ms (sst ∷ outputs) h =
        let parts = neither_is (is_output_wrong objects spec ms sst) (list_any (is_output_wrong objects spec ms) outputs) h in
        (table_there sst.id (neither_is (is_some (table_refusal ms sst.id)) (is_output_absent objects spec sst.id) parts.0).1, tables_there ms outputs parts.1)

    entries_there : (entries : List Compaction) → list_any (has_wrong_output objects spec) entries ≡ false → EachOutput (There spec.path) entries
    entries_there [] h = tt
    entries_there (c ∷ entries) h =
        let parts = neither_is (has_wrong_output objects spec c) (list_any (has_wrong_output objects spec) entries) h in
        (tables_there c.id.0 c.output_ssts parts.0, entries_there entries parts.1)

    chain_there : (o : Option Record) → EachOutput (There spec.path) (compactions_in o) → EachValue (λ r. EachOutput (There spec.path) r.entries) (record_chain o)
    chain_there None h = tt
    chain_there (Some r) h = (h, tt)

  records_there : (specs : List DbSpec) → list_any (are_outputs_wrong objects) specs ≡ false → (d : List ℕ) → EachValue (λ r. EachOutput (There d) r.entries) (opening_records specs d)
  records_there [] h d = tt
  records_there (spec ∷ specs) h d =
      let parts = neither_is (are_outputs_wrong objects spec) (list_any (are_outputs_wrong objects) specs) h in
      by (bytes_eq d spec.path) refl (chain_there spec spec.compactions (entries_there spec (compactions_in spec.compactions) parts.0)) (records_there specs parts.1 d)
    where
      by : (b : Bool) → bytes_eq d spec.path ≡ b → EachValue (λ r. EachOutput (There spec.path) r.entries) (record_chain spec.compactions) → EachValue (λ r. EachOutput (There d) r.entries) (opening_records specs d)
          → EachValue (λ r. EachOutput (There d) r.entries) (if b then record_chain spec.compactions else opening_records specs d)
      by true is own rest = let same : spec.path ≡ d = cc ((decides d spec.path).0 is) in subst (λ (x : List ℕ). EachValue (λ r. EachOutput (There x) r.entries) (record_chain spec.compactions)) same own
      by false is own rest = rest

pub opening_there : (specs : List DbSpec) → IsAccepted specs → (d : List ℕ) → EachValue (λ r. EachOutput (WasPut [] (opening_world specs).store d) r.entries) (opening_records specs d)
opening_there specs accepted d = records_there (listed_or_none (objects_of specs)) [] specs (accepted_fine specs accepted).outputs d

-- ---- tables of trees

-- what no entry lists stands at the database's own path
own_home : (own : List ℕ) (id : SsTableId) (entries : List ExternalDb) → list_any (lists id) entries ≡ false → home_of own id entries ≡ own
own_home own id [] h = refl
own_home own id (entry ∷ entries) h = let parts = neither_is (lists id entry) (list_any (lists id) entries) h in by (lists id entry) parts.0 (own_home own id entries parts.1)
  where
    by : (b : Bool) → b ≡ false → home_of own id entries ≡ own → (if b then entry.path else home_of own id entries) ≡ own
    by true is rest = absurd cc
    by false is rest = rest

unlisted : (b : Bool) → not b ≡ true → b ≡ false
unlisted false h = refl
unlisted true h = absurd cc

none_such : (f : SsTableId → Bool) (ids : List SsTableId) → list_any f ids ≡ false → (id : SsTableId) → is_among ids id ≡ true → f id ≡ false
none_such f [] h id among = absurd cc
none_such f (x ∷ ids) h id among =
    let parts = neither_is (f x) (list_any f ids) h in
    ⊎_elim
    (λ (e : same_table id x ≡ true). subst (λ (y : SsTableId). f y ≡ false) (sym (same_tables id x e)) parts.0)
    (λ (e : is_among ids id ≡ true). none_such f ids parts.1 id e)
    (either (same_table id x) (is_among ids id) among)

own_there : (objects : List (ObjectPath × First)) (removed : List ObjectPath) (spec : DbSpec) → lacks_table objects spec ≡ false → (id : ℕ × ℕ) → HasOwn spec.manifest id → There objects removed spec.path id
own_there objects removed spec h id own =
    let parts = kept_of (is_owned spec.manifest.external_dbs) (tables_of spec.manifest.core) (Compacted id) own in
    let home = own_home spec.path (Compacted id) spec.manifest.external_dbs (unlisted (list_any (lists (Compacted id)) spec.manifest.external_dbs) parts.1) in
    let there = negated (is_there (paths.Table (home_of spec.path (Compacted id) spec.manifest.external_dbs) id) objects) (none_such (is_absent objects spec) (tables_of spec.manifest.core) h (Compacted id) parts.0) in
    inl (there_stands (paths.Table spec.path id) objects no_objects (subst (λ (d : List ℕ). is_there (paths.Table d id) objects ≡ true) home there))

abbrev pub OwnAre : (ℕ × ℕ → Type 0) → Manifest → Type 0
OwnAre P m = (id : ℕ × ℕ) → HasOwn m id → P id

manifests_there : (objects : List (ObjectPath × First)) (removed : List ObjectPath) (specs : List DbSpec) → list_any (lacks_table objects) specs ≡ false → (d : List ℕ) → EachValue (OwnAre (There objects removed d)) (opening_manifests specs d)
manifests_there objects removed [] h d = tt
manifests_there objects removed (spec ∷ specs) h d =
    let parts = neither_is (lacks_table objects spec) (list_any (lacks_table objects) specs) h in
    by (bytes_eq d spec.path) refl (own_there objects removed spec parts.0) (manifests_there objects removed specs parts.1 d)
  where
    by : (b : Bool) → bytes_eq d spec.path ≡ b → OwnAre (There objects removed spec.path) spec.manifest → EachValue (OwnAre (There objects removed d)) (opening_manifests specs d)
        → EachValue (OwnAre (There objects removed d)) (if b then opening_link spec ∷ [] else opening_manifests specs d)
    by true is own rest = let same : spec.path ≡ d = cc ((decides d spec.path).0 is) in (subst (λ (x : List ℕ). OwnAre (There objects removed x) spec.manifest) same own, tt)
    by false is own rest = rest

pub opening_own : (specs : List DbSpec) → IsAccepted specs → (d : List ℕ) → EachValue (OwnAre (WasPut [] (opening_world specs).store d)) (opening_manifests specs d)
opening_own specs accepted d = manifests_there (listed_or_none (objects_of specs)) [] specs (accepted_fine specs accepted).tables d
