-- A table that nobody needs stays so: by what a step leaves of the two chains of a database.
use Rattle.std.proofs.Common.{◌≡◌, ◌≢◌, ℕ, ◌<◌, ◌≤◌, true, List, [], ◌∷◌, None, ⊎_elim, refl, sym, subst, arith}
use Rattle.std.specs.Prelude.{max}
use Rattle.slate_model.specs.Watermark.{watermark}
use Rattle.slate_model.specs.declared.manifest.Manifest.{Manifest}
use Rattle.slate_model_records.specs.declared.compaction.Compaction.{Compaction}
use Rattle.slate_model_tables.specs.declared.ss_table_id.SsTableId.TheVariants.{Compacted}
use Rattle.slate_state_record_updates.proofs.LeastIds.{keeps_least}
use Rattle.slate_state_record_updates.specs.RecordRules.{KeepsLeast, least_ms}
use Rattle.slate_state_updates.proofs.Lawful.{nothing_falls}
use Rattle.slate_state_updates.specs.RunTables.{outputs_of}
use Rattle.slate_state_updates.specs.TableSets.{is_among}
use Rattle.slate_txn_log.specs.declared.log_kind.LogKind.TheVariants as logs
use Rattle.slate_cluster_protocol.specs.Chains.{Changed, IsChain, Link}
use Rattle.slate_cluster_protocol.specs.Chains.Changed.{Stays, Gets}
use Rattle.slate_cluster_protocol.specs.Logs.{Author, Chain, Chains, change_by, manifests, records}
use Rattle.slate_cluster_protocol.specs.Reach.{NeedsTable}
use Rattle.slate_cluster_chain_laws.proofs.Links.{link_here}
use Rattle.slate_cluster_chain_laws.proofs.Names.{some_number}
use Rattle.slate_cluster_chain_laws.proofs.TableSteps.{comes_from, none_attaches}
use Rattle.slate_cluster_laws.proofs.Stores.{same_name}
use Rattle.slate_cluster_protocol.specs.Spares.{IsSpareTable, floor_top, least_top}
use Rattle.slate_cluster_spare_laws.proofs.SpareTables.{stays_unneeded}
use Rattle.slate_cluster_spare_laws.proofs.Made.{Leaves}

-- ---- records: the least doesn't fall

pub least_stays : (old new : List Compaction) → (old ≢ [] → KeepsLeast old new) → least_ms old ≤ least_ms new
least_stays [] new keep = omega arith
least_stays (c ∷ entries) new keep = (keep (λ e. absurd (cc e))).least

pub least_next : (P : Author → Type 0) (c c' : Chain logs.Compactions) → IsChain records c' → Changed P c c' → (x : ℕ) → x < least_top c → x < least_top c'
least_next P c c' chain (Stays same) x h = subst (λ (d : Chain logs.Compactions). x < least_top d) (sym same) h
least_next P [] c' chain (Gets l a by of same) x h = absurd (omega (arith, h))
least_next P (old ∷ rest) c' chain (Gets l a by of same) x h =
    let own : IsChain records (l ∷ old ∷ rest) = subst (λ (d : Chain logs.Compactions). IsChain records d) same chain in
    let up = least_stays old.value.entries l.value.entries (λ some. keeps_least old.value l.value (records.right own.0.author) own.0.lawful some) in
    subst (λ (d : Chain logs.Compactions). x < least_top d) (sym same) (omega (arith, h, up))

-- ---- manifests: the floor doesn't fall, and a new version has no spare table

early_of : (a b w : ℕ) → a < b → a < max b w
early_of a b w h = omega (arith, h)

module _ (author : Author) (id : ℕ × ℕ) (least : ℕ) (below : id.0 < least) where
  -- what of a chain is spare
  abbrev IsSpareIn : Chain logs.Manifest → Type 0
  IsSpareIn c = (id.0 < floor_top c) × (NeedsTable c id → ⊥)

  manifest_next : (c c' : Chain logs.Manifest) → IsChain manifests c' → Changed (λ (a : Author). a ≡ author) c c'
      → ((old : Link Manifest Author) (rest : Chain logs.Manifest) → c ≡ old ∷ rest → manifests.fence author old.value ≡ None → is_among (outputs_of (manifests.right author)) (Compacted id) ≡ true → least ≤ id.0)
      → IsSpareIn c → IsSpareIn c'
  manifest_next c c' chain (Stays same) made h = subst IsSpareIn (sym same) h
  manifest_next [] c' chain (Gets l a by of same) made h = let low = h.0 in absurd (omega (arith, low))
  manifest_next (old ∷ rest) c' chain (Gets l a by of same) made h =
      let own : IsChain manifests (l ∷ old ∷ rest) = subst (λ (d : Chain logs.Manifest). IsChain manifests d) same chain in
      let f = own.0 in
      let its : f.author ≡ author = cc (f.by, by, of) in
      let passed : manifests.fence author old.value ≡ None = subst (λ (x : Author). manifests.fence x old.value ≡ None) its f.passed in
      let up = (nothing_falls old.number old.value l.value (manifests.right f.author) f.lawful).floor in
      let low = h.0 in
      let some = some_number manifests (old ∷ rest) old.number old own.1 (link_here old.number old rest refl) in
      subst IsSpareIn (sym same) (
        omega (arith, low, up),
        stays_unneeded l old rest own some (λ t has. comes_from old.number old.value l.value (manifests.right f.author) f.lawful (none_attaches (change_by f.author.puts)) t has) id least
            (early_of id.0 old.value.core.floor (watermark old.value.core) low) below
            (λ among. made old rest refl passed (subst (λ (x : Author). is_among (outputs_of (manifests.right x)) (Compacted id) ≡ true) its among)) h.1,
      )

-- ---- a step

own_stays : (chains chains' : Chains) (db : List ℕ) (author : Author) → Leaves chains chains' db author → (id : ℕ × ℕ) → IsSpareTable chains db id → IsSpareTable chains' db id
own_stays chains chains' db author s id h =
    let r = manifest_next author id (least_top (chains logs.Compactions db)) h.least (chains logs.Manifest db) (chains' logs.Manifest db) s.manifest_chain s.manifest_changed (s.made id) (h.floor, h.unneeded) in
    record {
      floor = r.0;
      least = least_next (λ (a : Author). a ≡ author) (chains logs.Compactions db) (chains' logs.Compactions db) s.record_chain s.record_changed id.0 h.least;
      unneeded = r.1;
    }

pub step_stays : (d : List ℕ) (id : ℕ × ℕ) (chains chains' : Chains) (db : List ℕ) (author : Author) → Leaves chains chains' db author → IsSpareTable chains d id → IsSpareTable chains' d id
step_stays d id chains chains' db author s h =
    ⊎_elim
    (λ (same : d ≡ db). subst (λ (x : List ℕ). IsSpareTable chains' x id) (sym same) (own_stays chains chains' db author s id (subst (λ (x : List ℕ). IsSpareTable chains x id) same h)))
    (λ (ne : d ≢ db). record {
      floor = subst (λ (c : Chain logs.Manifest). id.0 < floor_top c) (sym (s.away logs.Manifest d ne)) h.floor;
      least = subst (λ (c : Chain logs.Compactions). id.0 < least_top c) (sym (s.away logs.Compactions d ne)) h.least;
      unneeded = subst (λ (c : Chain logs.Manifest). NeedsTable c id → ⊥) (sym (s.away logs.Manifest d ne)) h.unneeded;
    })
    (same_name d db)
