-- A spare table is in no later version of any log of its database.
use Rattle.std.proofs.Common.{◌≡◌, ◌≢◌, inl, inr, ⊎_elim, ℕ, ◌<◌, ◌≤◌, ◌++◌, true, List, [], ◌∷◌, Some, None, refl, sym, ap, ◌∙◌, subst, arith}
use Rattle.slate_ids.specs.Ids.{is_db_path}
use Rattle.slate_model.specs.declared.manifest.Manifest.{Manifest}
use Rattle.slate_model_records.specs.Records.{Record}
use Rattle.slate_model_records.specs.declared.compaction.Compaction.{Compaction}
use Rattle.slate_model_tables.specs.declared.ss_table_handle.SsTableHandle.{SsTableHandle}
use Rattle.slate_model_tables.specs.declared.ss_table_id.SsTableId.{SsTableId}
use Rattle.slate_model_tables.specs.declared.ss_table_id.SsTableId.TheVariants.{Wal, Compacted}
use Rattle.slate_script_events.specs.declared.db_spec.DbSpec.{DbSpec}
use Rattle.slate_script_events.specs.declared.event.Event.{Event}
use Rattle.slate_state_record_updates.specs.RecordRules.{first_refusal, least_ms, least_with, outputs_refusal, table_refusal}
use Rattle.slate_txn_log.specs.declared.log_kind.LogKind.TheVariants as logs
use Rattle.slate_cluster_protocol.specs.Chains.{Changed, IsChain, Link, link_at, top}
use Rattle.slate_cluster_protocol.specs.Chains.Changed.{Stays, Gets}
use Rattle.slate_cluster_protocol.specs.Lawful.{AreGood, IsAccepted, chains_at_end, world_at_end}
use Rattle.slate_cluster_protocol.specs.Logs.{Author, Chain, Chains, manifests, records}
use Rattle.slate_cluster_protocol.specs.Reach.{HasOwn}
use Rattle.slate_cluster_protocol.specs.Reach.IsNeeded.{Greatest}
use Rattle.slate_cluster_protocol.specs.Spares.{IsSpareTable, floor_top, least_top}
use Rattle.slate_cluster_protocol.specs.World.{HasDb, World}
use Rattle.slate_cluster_chain_laws.specs.Locals.{ObeyOutputs}
use Rattle.slate_cluster_chain_laws.proofs.Links.{at_most, link_here, link_there}
use Rattle.slate_cluster_chain_laws.proofs.Names.{some_number}
use Rattle.slate_cluster_chain_laws.proofs.RecordSteps.{OpensWell, outputs_stand}
use Rattle.slate_cluster_laws.proofs.AfterEvents.{after_inv}
use Rattle.slate_cluster_laws.proofs.Along.{its_chains, its_world, opening_moment}
use Rattle.slate_cluster_laws.proofs.Stores.{same_name}
use Rattle.slate_cluster_compactor_laws.proofs.EachMoment.{all_of_run}
use Rattle.slate_cluster_compactor_laws.proofs.Growing.{records_of_chain}
use Rattle.slate_cluster_table_laws.specs.Presence.{EachOutput, EachTable, IfTable}
use Rattle.slate_cluster_spare_laws.proofs.Later.{IsFrom, IsLater, step_later}
use Rattle.slate_cluster_spare_laws.proofs.Made.{Leaves}
use Rattle.slate_cluster_spare_laws.proofs.Onward.{run_keeps}
use Rattle.slate_cluster_spare_laws.proofs.Pending.{at_or_above, least_first, neither}
use Rattle.slate_cluster_spare_laws.proofs.Picks.{begins}

-- ---- outputs lie at or above the least compaction

module _ (ms : ℕ) (id : ℕ × ℕ) (below : id.0 < ms) where
  -- a table isn't this one
  abbrev pub IsAnother : ℕ × ℕ → Type 0
  IsAnother other = other ≡ id → ⊥

  table_other : (low : ℕ) → ms ≤ low → (table : SsTableId) → table_refusal low table ≡ None → IfTable IsAnother table
  table_other low le (Wal number) h = tt
  table_other low le (Compacted other) h = λ (same : other ≡ id). let up = at_or_above low other.0 h in let e : other.0 ≡ id.0 = ap (λ (x : ℕ × ℕ). x.0) same in absurd (omega (arith, le, up, e, below))

  tables_other : (low : ℕ) → ms ≤ low → (ssts : List SsTableHandle) → first_refusal (λ sst. table_refusal low sst.id) ssts ≡ None → EachTable IsAnother ssts
  tables_other low le [] h = tt
  tables_other low le (sst ∷ ssts) h =
      let parts = neither (table_refusal low sst.id) (first_refusal (λ x. table_refusal low x.id) ssts) h in
      (table_other low le sst.id parts.0, tables_other low le ssts parts.1)

  -- each compaction is from these milliseconds on
  abbrev AllOn : List Compaction → Type 0
  AllOn [] = Unit {0}
  AllOn (c ∷ entries) = (ms ≤ c.id.0) × AllOn entries

  outputs_other : (entries : List Compaction) → AllOn entries → ObeyOutputs entries → EachOutput IsAnother entries
  outputs_other [] on h = tt
  outputs_other (c ∷ entries) on h =
      let parts = neither (outputs_refusal c) (first_refusal outputs_refusal entries) h in
      (tables_other c.id.0 on.0 c.output_ssts parts.0, outputs_other entries on.1 parts.1)

  rest_on : (low : ℕ) (entries : List Compaction) → ms ≤ least_with low entries → AllOn entries
  rest_on low [] h = tt
  rest_on low (c ∷ entries) h = (omega (arith, h), rest_on low entries (omega (arith, h)))

  all_on : (entries : List Compaction) → ms ≤ least_ms entries → AllOn entries
  all_on [] h = tt
  all_on (c ∷ entries) h = (let first = least_first c.id.0 entries in omega (arith, h, first), rest_on c.id.0 entries h)

-- ---- a committed record stays

link_next : (P : Author → Type 0) (k : ℕ) (t : Link Record Author) (c c' : Chain logs.Compactions) → IsChain records c' → Changed P c c' → link_at k c ≡ Some t → link_at k c' ≡ Some t
link_next P k t c c' chain (Stays same) at = subst (λ (d : Chain logs.Compactions). link_at k d ≡ Some t) (sym same) at
link_next P k t [] c' chain (Gets l a by of same) at = absurd (cc (at))
link_next P k t (old ∷ rest) c' chain (Gets l a by of same) at =
    let own : IsChain records (l ∷ old ∷ rest) = subst (λ (d : Chain logs.Compactions). IsChain records d) same chain in
    let most : k ≤ old.number = at_most records k t (old ∷ rest) own.1 at in
    let number = own.0.number in
    subst (λ (d : Chain logs.Compactions). link_at k d ≡ Some t) (sym same) (link_there k l (old ∷ rest) (λ (e : l.number ≡ k). omega (arith, e, number, most)) ∙ at)

step_link : (d : List ℕ) (k : ℕ) (t : Link Record Author) (chains chains' : Chains) (db : List ℕ) (author : Author) → Leaves chains chains' db author → link_at k (chains logs.Compactions d) ≡ Some t → link_at k (chains' logs.Compactions d) ≡ Some t
step_link d k t chains chains' db author s at =
    ⊎_elim
    (λ (same : d ≡ db).
    subst (λ (x : List ℕ). link_at k (chains' logs.Compactions x) ≡ Some t) (sym same)
    (link_next (λ (a : Author). a ≡ author) k t (chains logs.Compactions db) (chains' logs.Compactions db) s.record_chain s.record_changed (subst (λ (x : List ℕ). link_at k (chains logs.Compactions x) ≡ Some t) same at)))
    (λ (ne : d ≢ db). subst (λ (c : Chain logs.Compactions). link_at k c ≡ Some t) (sym (s.away logs.Compactions d ne)) at)
    (same_name d db)

-- the greatest record of a chain, where its least isn't 0
record HasTop (c : Chain logs.Compactions) : Type 0 where
  pub link : Link Record Author
  pub at : link_at (top c) c ≡ Some link
  pub least : least_top c ≡ least_ms link.value.entries

has_top : (c : Chain logs.Compactions) (x : ℕ) → x < least_top c → HasTop c
has_top [] x h = absurd (omega (arith, h))
has_top (l ∷ c) x h = record { link = l; at = link_here l.number l c refl; least = refl }

some_entries : (x : ℕ) (entries : List Compaction) → x < least_ms entries → entries ≢ []
some_entries x [] h = λ e. omega (arith, h)
some_entries x (c ∷ entries) h = λ e. cc (e)

-- ---- along a run

module _ (specs : List DbSpec) (accepted : IsAccepted specs) (front back : List Event) (good : AreGood specs (front ++ back)) (db : List ℕ) (has : HasDb (world_at_end specs (front ++ back)) db) (id : ℕ × ℕ) (spare : IsSpareTable (chains_at_end specs front) db id) where
  abbrev before : Chains
  before = chains_at_end specs front

  abbrev after : Chains
  after = chains_at_end specs (front ++ back)

  -- no manifest from the greatest on has it
  no_manifest : (l : Link Manifest Author) → l.value.core.floor ≡ floor_top (before logs.Manifest db) → (HasOwn l.value id → ⊥) → IsFrom l.value (least_top (before logs.Compactions db)) id → ⊥
  no_manifest l floor none (inl own) = none own
  no_manifest l floor none (inr (inl late)) = let lt = spare.floor in absurd (omega (arith, late, lt, floor))
  no_manifest l floor none (inr (inr late)) = let lt = spare.least in absurd (omega (arith, late, lt))

  named : is_db_path db ≡ true
  named = (after_inv specs (front ++ back) accepted).named db has

  front_chain : IsChain manifests (before logs.Manifest db)
  front_chain = ((after_inv specs front accepted).logs logs.Manifest db named).chain

  some_top : (c : Chain logs.Manifest) → IsChain manifests c → id.0 < floor_top c → 0 < top c
  some_top [] chain h = absurd (omega (arith, h))
  some_top (l ∷ c) chain h = some_number manifests (l ∷ c) l.number l chain (link_here l.number l c refl)

  -- the greatest manifest hasn't it: it is needed
  top_lacks : (l : Link Manifest Author) → link_at l.number (before logs.Manifest db) ≡ Some l → l.number ≡ top (before logs.Manifest db) → 0 < top (before logs.Manifest db) → HasOwn l.value id → ⊥
  top_lacks l at is some own = spare.unneeded (record { number = l.number; link = l; needed = Greatest (omega (arith, some, is)) is; at = at; own = own })

  top_floor : (c : Chain logs.Manifest) (l : Link Manifest Author) → link_at l.number c ≡ Some l → l.number ≡ top c → l.value.core.floor ≡ floor_top c
  top_floor [] l at is = absurd (cc (at))
  top_floor (x ∷ c) l at is = let same : x ≡ l = cc (link_here l.number x c (sym is), at) in ap (λ (y : Link Manifest Author). y.value.core.floor) (sym same)

  pub manifests_lack : (n : ℕ) (l : Link Manifest Author) → top (before logs.Manifest db) ≤ n → link_at n (after logs.Manifest db) ≡ Some l → HasOwn l.value id → ⊥
  manifests_lack n l le at own =
      let some = some_top (before logs.Manifest db) front_chain spare.floor in
      let first = begins (before logs.Manifest db) (before logs.Compactions db) (least_top (before logs.Compactions db)) front_chain some (omega arith) in
      let its : link_at first.0.number (before logs.Manifest db) ≡ Some first.0 = first.1.1.at in
      let is = first.1.0 in
      let later : IsLater first.0 (least_top (before logs.Compactions db)) (after logs.Manifest db) (after logs.Compactions db) =
      run_keeps specs accepted (λ chains. IsLater first.0 (least_top (before logs.Compactions db)) (chains logs.Manifest db) (chains logs.Compactions db)) (step_later db first.0 (least_top (before logs.Compactions db))) back front good first.1.1 in
      no_manifest first.0 (top_floor (before logs.Manifest db) first.0 its is) (top_lacks first.0 its is some) (later.own n l at (omega (arith, le, is)) id own)

  -- ---- no record from the greatest on names it as an output

  its_opens : OpensWell (after logs.Compactions db)
  its_opens =
      let events = front ++ back in
      let first = opening_moment specs in
      subst (λ (x : Chains). OpensWell (x logs.Compactions db)) (its_chains events first)
      ((all_of_run specs events accepted).whole.opens db (subst (λ (v : World). HasDb v db) (sym (its_world events first)) has))

  pub records_lack : (n : ℕ) (l : Link Record Author) → top (before logs.Compactions db) ≤ n → link_at n (after logs.Compactions db) ≡ Some l → EachOutput (λ other. other ≡ id → ⊥) l.value.entries
  records_lack n l le at =
      let first = has_top (before logs.Compactions db) id.0 spare.least in
      let chain = ((after_inv specs (front ++ back) accepted).logs logs.Compactions db named).chain in
      let there : link_at (top (before logs.Compactions db)) (after logs.Compactions db) ≡ Some first.link =
      run_keeps specs accepted (λ chains. link_at (top (before logs.Compactions db)) (chains logs.Compactions db) ≡ Some first.link) (step_link db (top (before logs.Compactions db)) first.link) back front good first.at in
      let low : id.0 < least_ms first.link.value.entries = subst (λ (x : ℕ). id.0 < x) first.least spare.least in
      let keeps = (records_of_chain (after logs.Compactions db) chain).least (top (before logs.Compactions db)) n first.link l there at le (some_entries id.0 first.link.value.entries low) in
      let up = keeps.least in
      outputs_other (least_ms l.value.entries) id (omega (arith, low, up)) l.value.entries (all_on (least_ms l.value.entries) id (omega (arith, low, up)) l.value.entries (omega arith)) (outputs_stand (after logs.Compactions db) chain its_opens n l at)
