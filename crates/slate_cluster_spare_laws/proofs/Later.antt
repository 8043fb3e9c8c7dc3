-- The tables of versions that come after one: each is of that version, or from its floor on, or from a least that was read before it.
use Rattle.std.proofs.Common.{◌≡◌, ◌≢◌, ◌⊎◌, inl, inr, ℕ, ◌≤◌, true, List, [], ◌∷◌, Some, None, ⊎_elim, refl, sym, ◌∙◌, subst, arith}
use Rattle.std.specs.Prelude.{max}
use Rattle.slate_model.specs.Watermark.{watermark}
use Rattle.slate_model.specs.declared.manifest.Manifest.{Manifest}
use Rattle.slate_model_tables.specs.declared.ss_table_id.SsTableId.TheVariants.{Compacted}
use Rattle.slate_state_record_updates.proofs.LeastIds.{keeps_least}
use Rattle.slate_state_updates.proofs.Lawful.{nothing_falls}
use Rattle.slate_state_updates.specs.RunTables.{outputs_of}
use Rattle.slate_state_updates.specs.TableSets.{is_among}
use Rattle.slate_txn_log.specs.declared.log_kind.LogKind.TheVariants as logs
use Rattle.slate_txn_log.specs.declared.right.Right.{Right}
use Rattle.slate_cluster_protocol.specs.Chains.{Changed, IsChain, Link, link_at}
use Rattle.slate_cluster_protocol.specs.Chains.Changed.{Stays, Gets}
use Rattle.slate_cluster_protocol.specs.Logs.{Author, Chain, Chains, change_by, manifests, records}
use Rattle.slate_cluster_protocol.specs.Reach.{HasOwn}
use Rattle.slate_cluster_chain_laws.proofs.Links.{at_most, link_here, link_there, same_or_not}
use Rattle.slate_cluster_chain_laws.proofs.TableSteps.{comes_from, none_attaches}
use Rattle.slate_cluster_chain_laws.specs.TableSteps.{ComesFrom}
use Rattle.slate_cluster_chain_laws.specs.TableSteps.ComesFrom.{Stays as Own, Flushed, Made}
use Rattle.slate_cluster_laws.proofs.Stores.{same_name}
use Rattle.slate_cluster_protocol.specs.Spares.{floor_top, least_top}
use Rattle.slate_cluster_spare_laws.proofs.Made.{Leaves}
use Rattle.slate_cluster_spare_laws.proofs.Stays.{least_stays}

-- a table is of a manifest, or from its floor on, or from these milliseconds on
abbrev pub IsFrom : Manifest → ℕ → ℕ × ℕ → Type 0
IsFrom m least id = HasOwn m id ⊎ ((m.core.floor ≤ id.0) ⊎ (least ≤ id.0))

-- a committed manifest, and all that came after it
pub record IsLater (l : Link Manifest Author) (least : ℕ) (c : Chain logs.Manifest) (r : Chain logs.Compactions) : Type 0 where
  pub at : link_at l.number c ≡ Some l
  pub floor : l.value.core.floor ≤ floor_top c
  pub least_most : least ≤ least_top r
  pub own : (k : ℕ) (m : Link Manifest Author) → link_at k c ≡ Some m → l.number ≤ k → (id : ℕ × ℕ) → HasOwn m.value id → IsFrom l.value least id

-- ---- records

pub least_rises : (P : Author → Type 0) (c c' : Chain logs.Compactions) → IsChain records c' → Changed P c c' → (x : ℕ) → x ≤ least_top c → x ≤ least_top c'
least_rises P c c' chain (Stays same) x h = subst (λ (d : Chain logs.Compactions). x ≤ least_top d) (sym same) h
least_rises P [] c' chain (Gets l a by of same) x h = subst (λ (d : Chain logs.Compactions). x ≤ least_top d) (sym same) (omega (arith, h))
least_rises P (old ∷ rest) c' chain (Gets l a by of same) x h =
    let own : IsChain records (l ∷ old ∷ rest) = subst (λ (d : Chain logs.Compactions). IsChain records d) same chain in
    let up = least_stays old.value.entries l.value.entries (λ some. keeps_least old.value l.value (records.right own.0.author) own.0.lawful some) in
    subst (λ (d : Chain logs.Compactions). x ≤ least_top d) (sym same) (omega (arith, h, up))

-- ---- manifests

floor_below : (a b w x : ℕ) → a ≤ b → max b w ≤ x → a ≤ x
floor_below a b w x h k = omega (arith, h, k)

-- a table of the next version, by where it comes from
next_from : (l old : Link Manifest Author) (least most : ℕ) (right : Right) (id : ℕ × ℕ) → l.value.core.floor ≤ old.value.core.floor → least ≤ most
    → (HasOwn old.value id → IsFrom l.value least id) → (is_among (outputs_of right) (Compacted id) ≡ true → most ≤ id.0) → ComesFrom right old.value id → IsFrom l.value least id
next_from l old least most right id floor le own made (Own has) = own has
next_from l old least most right id floor le own made (Flushed late) = inr (inl (floor_below l.value.core.floor old.value.core.floor (watermark old.value.core) id.0 floor late))
next_from l old least most right id floor le own made (Made is) = let up = made is in inr (inr (omega (arith, le, up)))

module _ (l : Link Manifest Author) (least : ℕ) (author : Author) (r r' : Chain logs.Compactions) where
  later_next : (c c' : Chain logs.Manifest) → IsChain manifests c → IsChain manifests c' → Changed (λ (a : Author). a ≡ author) c c'
      → ((id : ℕ × ℕ) (old : Link Manifest Author) (rest : Chain logs.Manifest) → c ≡ old ∷ rest → manifests.fence author old.value ≡ None → is_among (outputs_of (manifests.right author)) (Compacted id) ≡ true → least_top r ≤ id.0)
      → least ≤ least_top r' → IsLater l least c r → IsLater l least c' r'
  later_next c c' before chain (Stays same) made up h = subst (λ (d : Chain logs.Manifest). IsLater l least d r') (sym same) (record { at = h.at; floor = h.floor; least_most = up; own = h.own })
  later_next [] c' before chain (Gets new a by of same) made up h = absurd (cc (h.at))
  later_next (old ∷ rest) c' before chain (Gets new a by of same) made up h =
      let own : IsChain manifests (new ∷ old ∷ rest) = subst (λ (d : Chain logs.Manifest). IsChain manifests d) same chain in
      let f = own.0 in
      let its : f.author ≡ author = cc (f.by, by, of) in
      let passed : manifests.fence author old.value ≡ None = subst (λ (x : Author). manifests.fence x old.value ≡ None) its f.passed in
      let rises = (nothing_falls old.number old.value new.value (manifests.right f.author) f.lawful).floor in
      let number = f.number in
      let low = h.floor in
      let most : l.number ≤ old.number = at_most manifests l.number l (old ∷ rest) before h.at in
      let brings = λ (id : ℕ × ℕ) (has : HasOwn new.value id).
      next_from l old least (least_top r) (manifests.right f.author) id low h.least_most (λ (has_old : HasOwn old.value id). h.own old.number old (link_here old.number old rest refl) most id has_old)
      (λ among. made id old rest refl passed (subst (λ (x : Author). is_among (outputs_of (manifests.right x)) (Compacted id) ≡ true) its among))
      (comes_from old.number old.value new.value (manifests.right f.author) f.lawful (none_attaches (change_by f.author.puts)) id has) in
      subst (λ (d : Chain logs.Manifest). IsLater l least d r') (sym same)
      (record {
        at = link_there l.number new (old ∷ rest) (λ (e : new.number ≡ l.number). omega (arith, e, number, most)) ∙ h.at;
        floor = omega (arith, low, rises);
        least_most = up;
        own = λ k m at le id has.
            ⊎_elim
            (λ (e : new.number ≡ k).
            let its_own : new ≡ m = cc (link_here k new (old ∷ rest) e, at) in
            brings id (subst (λ (x : Link Manifest Author). HasOwn x.value id) (sym its_own) has))
            (λ (ne : new.number ≢ k). h.own k m (sym (link_there k new (old ∷ rest) ne) ∙ at) le id has)
            (same_or_not new.number k);
      })

-- a step keeps it
pub step_later : (d : List ℕ) (l : Link Manifest Author) (least : ℕ) (chains chains' : Chains) (db : List ℕ) (author : Author) → Leaves chains chains' db author
    → IsLater l least (chains logs.Manifest d) (chains logs.Compactions d) → IsLater l least (chains' logs.Manifest d) (chains' logs.Compactions d)
step_later d l least chains chains' db author s h =
    ⊎_elim
    (λ (same : d ≡ db).
    let here = subst (λ (x : List ℕ). IsLater l least (chains logs.Manifest x) (chains logs.Compactions x)) same h in
    subst (λ (x : List ℕ). IsLater l least (chains' logs.Manifest x) (chains' logs.Compactions x)) (sym same)
    (later_next l least author (chains logs.Compactions db) (chains' logs.Compactions db) (chains logs.Manifest db) (chains' logs.Manifest db) s.before s.manifest_chain s.manifest_changed s.made
    (least_rises (λ (a : Author). a ≡ author) (chains logs.Compactions db) (chains' logs.Compactions db) s.record_chain s.record_changed least here.least_most) here))
    (λ (ne : d ≢ db).
    subst (λ (c : Chain logs.Manifest). IsLater l least c (chains' logs.Compactions d)) (sym (s.away logs.Manifest d ne))
    (subst (λ (c : Chain logs.Compactions). IsLater l least (chains logs.Manifest d) c) (sym (s.away logs.Compactions d ne)) h))
    (same_name d db)

-- so the least of the greatest record
pub step_least : (d : List ℕ) (least : ℕ) (chains chains' : Chains) (db : List ℕ) (author : Author) → Leaves chains chains' db author → least ≤ least_top (chains logs.Compactions d) → least ≤ least_top (chains' logs.Compactions d)
step_least d least chains chains' db author s h =
    ⊎_elim
    (λ (same : d ≡ db).
    subst (λ (x : List ℕ). least ≤ least_top (chains' logs.Compactions x)) (sym same)
    (least_rises (λ (a : Author). a ≡ author) (chains logs.Compactions db) (chains' logs.Compactions db) s.record_chain s.record_changed least (subst (λ (x : List ℕ). least ≤ least_top (chains logs.Compactions x)) same h)))
    (λ (ne : d ≢ db). subst (λ (c : Chain logs.Compactions). least ≤ least_top c) (sym (s.away logs.Compactions d ne)) h)
    (same_name d db)
