-- What holds as a run begins.
use Rattle.std.proofs.Common.{◌≡◌, ◌≢◌, ℕ, ◌<◌, ◌≤◌, ◌^◌, Bool, true, false, List, [], ◌∷◌, Option, Some, None, is_some, Result, Ok, Err, ⊎_elim, refl, sym, ap, ◌∙◌, subst, arith}
use Rattle.std.proofs.lemmas.Bool.Decides.{nat_tests}
use Rattle.std.specs.Prelude.{bytes_eq, if◌then◌else◌, not, ◌||◌, ◌==◌}
use Rattle.std.specs.List.{list_any}
use Rattle.slate_ids.specs.Ids.{is_db_path}
use Rattle.slate_ids.specs.declared.error.SlateDBError.{SlateDBError}
use Rattle.slate_ids.specs.declared.object_path.ObjectPath.{ObjectPath}
use Rattle.slate_ids.specs.declared.object_path.ObjectPath.TheVariants as paths
use Rattle.slate_ids.proofs.PathsApart.{same_path}
use Rattle.slate_txn_log.specs.Boundary.{boundary_got}
use Rattle.slate_txn_log.specs.LogPaths.{version_path, boundary_path}
use Rattle.slate_txn_log.specs.declared.log_kind.LogKind.{LogKind}
use Rattle.slate_txn_log.specs.declared.log_kind.LogKind.TheVariants as logs
use Rattle.slate_state_updates.specs.Checkpoints.{is_named}
use Rattle.slate_layout.specs.Codec.{encoded}
use Rattle.slate_layout.specs.laws.Codecs.{codec_round_trip}
use Rattle.slate_layout_manifests.specs.Decoding.{decoded_manifest}
use Rattle.slate_layout_encodable.proofs.NormalLaws.{normal_only}
use Rattle.slate_layout_encodable.specs.Normal.{normal_manifest, is_normal}
use Rattle.slate_model.specs.declared.checkpoint.Checkpoint.{Checkpoint}
use Rattle.slate_model.specs.declared.manifest.Manifest.{Manifest}
use Rattle.slate_layout_records.specs.RecordBytes.{decoded_record}
use Rattle.slate_model_records.specs.Records.{Record}
use Rattle.slate_script_events.specs.declared.cluster_cause.ClusterCause.{ClusterCause}
use Rattle.slate_script_events.specs.declared.cluster_cause.ClusterCause.TheVariants as cause
use Rattle.slate_model.specs.Selection.{are_apart}
use Rattle.slate_script_events.specs.declared.db_spec.DbSpec.{DbSpec}
use Rattle.slate_store.specs.Store.{Store, object_at}
use Rattle.slate_store.specs.declared.object.StoredObject.{StoredObject}
use Rattle.slate_cluster_protocol.specs.Chains.{Link, Log, IsFirst, top, bytes_of, link_bytes, AgreesAt}
use Rattle.slate_cluster_protocol.specs.Chains.IsFirst.{Opens}
use Rattle.slate_cluster_protocol.specs.Lawful.{IsAccepted}
use Rattle.slate_cluster_protocol.specs.Logs.{Chain, manifests, records, log_of, opening_link, opening_manifests, opening_record, record_chain, opening_records, opening_chains}
use Rattle.slate_cluster_protocol.specs.Reach.{IsNeeded}
use Rattle.slate_cluster_protocol.specs.Reach.IsNeeded.{Greatest, Named}
use Rattle.slate_cluster_protocol.specs.Specs.{First, first_record_number, first_tally, tallies_from, are_ids_fine, bytes_where, first_bytes, record_bytes, objects_of, overlaps, is_epoch_high, are_outputs_wrong, names_other, cause_beside, cause_of_specs, listed_or_none, no_objects, store_from, opening_world}
use Rattle.slate_cluster_protocol.specs.World.{World, tally_of, number_in, HasDb}
use Rattle.slate_cluster_protocol.specs.declared.tally.Tally.{Tally}
use Rattle.slate_cluster_laws.proofs.Beginnings.{spec_of, AllNamed, Firsts, tally_for, tallies_found, first_for, firsts_found, firsts_else, last_at, IsFound, spec_found, bytes_found, store_found, firsts_fine, store_tidy}
use Rattle.slate_cluster_laws.proofs.Facts.{IsCommitted, IsSound}
use Rattle.slate_cluster_chain_laws.proofs.Links.{same_or_not, link_here, link_there}
use Rattle.slate_cluster_laws.proofs.OpeningRecords.{records_else, records_fine, first_record, record_for, records_found, record_has_bytes, record_read}
use Rattle.slate_cluster_laws.proofs.OpeningTables.{IsMade, made_of, IsNoTable, tables_else, tables_fine}
use Rattle.slate_cluster_laws.proofs.Runs.{Inv}
use Rattle.slate_cluster_laws.proofs.Stores.{IsTidy}

-- what accepted databases are made of
record Parts (specs : List DbSpec) : Type 0 where
  pub tallies : List (List ℕ × Tally)
  pub tallied : tallies_from [] specs ≡ Some tallies
  pub objects : Firsts
  pub is : objects_of specs ≡ Some objects
  pub made : IsMade specs objects
  pub own : list_any names_other specs ≡ false
  pub apart : list_any overlaps specs ≡ false

-- a cause that isn't told doesn't apply, nor does any after it
past_cause : (b : Bool) (x : ClusterCause) (rest : Option ClusterCause) → (if b then Some x else rest) ≡ None → (b ≡ false) × (rest ≡ None)
past_cause true x rest h = absurd cc
past_cause false x rest h = (refl, h)

-- where no cause is left, prefixes don't nest and the checkpoints name first versions
none_left : (specs : List DbSpec) (objects : Firsts) → cause_beside objects specs ≡ None → (list_any overlaps specs ≡ false) × (list_any names_other specs ≡ false)
none_left specs objects h =
    let segments = past_cause (list_any overlaps specs) cause.Segments _ h in
    let epochs = past_cause (list_any is_epoch_high specs) cause.Epoch _ segments.1 in
    let outputs = past_cause (list_any (are_outputs_wrong objects) specs) cause.Outputs _ epochs.1 in
    let names = past_cause (list_any names_other specs) cause.Checkpoints _ outputs.1 in
    (segments.0, names.0)

parts_of : (specs : List DbSpec) → cause_of_specs specs ≡ None → Parts specs
parts_of specs h = by_tallies (tallies_from [] specs) (are_ids_fine specs) (objects_of specs) refl refl h
  where
    by_tallies : (t : Option (List (List ℕ × Tally))) (ids : Bool) (o : Option Firsts) → tallies_from [] specs ≡ t → objects_of specs ≡ o
        → (if not (is_some t) then Some cause.Path else (if not ids then Some cause.Ids else (if not (is_some o) then Some cause.Value else cause_beside (listed_or_none o) specs))) ≡ None
        → Parts specs
    by_tallies (Some t) true (Some o) is_t is_o h = let left = none_left specs o h in record { tallies = t; tallied = is_t; objects = o; is = is_o; made = made_of specs o is_o; own = left.1; apart = left.0 }
    by_tallies None ids o is_t is_o h = absurd cc
    by_tallies (Some t) false o is_t is_o h = absurd cc
    by_tallies (Some t) true None is_t is_o h = absurd cc

-- both of two are false
neither : (a b : Bool) → (a || b) ≡ false → (a ≡ false) × (b ≡ false)
neither true b h = absurd cc
neither false b h = (refl, h)

-- the prefixes of an accepted database don't nest
own_apart : (d : List ℕ) (spec : DbSpec) (specs : List DbSpec) → list_any overlaps specs ≡ false → spec_of d specs ≡ Some spec → are_apart spec.manifest.core.segments ≡ true
own_apart d spec [] h at = absurd cc
own_apart d spec (first ∷ specs) h at = test (bytes_eq d first.path) at (neither (overlaps first) (list_any overlaps specs) h) (own_apart d spec specs)
  where
    not_over : (b : Bool) → not b ≡ false → b ≡ true
    not_over true h = refl
    not_over false h = absurd cc

    test : (b : Bool) → (if b then Some first else spec_of d specs) ≡ Some spec → (overlaps first ≡ false) × (list_any overlaps specs ≡ false)
        → (list_any overlaps specs ≡ false → spec_of d specs ≡ Some spec → are_apart spec.manifest.core.segments ≡ true) → are_apart spec.manifest.core.segments ≡ true
    test true at h rest = let same : first ≡ spec = cc in subst (λ (s : DbSpec). are_apart s.manifest.core.segments ≡ true) same (not_over (are_apart first.manifest.core.segments) h.0)
    test false at h rest = rest h.1 at

-- the checkpoints of an accepted database name its first version
own_names : (d : List ℕ) (spec : DbSpec) (specs : List DbSpec) → list_any names_other specs ≡ false → spec_of d specs ≡ Some spec → names_other spec ≡ false
own_names d spec [] h at = absurd cc
own_names d spec (first ∷ specs) h at = test (bytes_eq d first.path) at (neither (names_other first) (list_any names_other specs) h) (own_names d spec specs)
  where
    test : (b : Bool) → (if b then Some first else spec_of d specs) ≡ Some spec → (names_other first ≡ false) × (list_any names_other specs ≡ false)
        → (list_any names_other specs ≡ false → spec_of d specs ≡ Some spec → names_other spec ≡ false) → names_other spec ≡ false
    test true at both rest = let same : first ≡ spec = cc in subst (λ (x : DbSpec). names_other x ≡ false) same both.0
    test false at both rest = rest both.1 at

names_first : (k : ℕ) (cs : List Checkpoint) → list_any (λ c. not (c.manifest_id == 1)) cs ≡ false → is_named k cs ≡ true → k ≡ 1
names_first k [] h named = absurd cc
names_first k (c ∷ cs) h named = test (c.manifest_id == k) refl named (neither (not (c.manifest_id == 1)) _ h) (names_first k cs)
  where
    same : (a b : ℕ) → (a == b) ≡ true → a ≡ b
    same a b e = grind (arith, nat_tests)

    is_one : (b : Bool) → (c.manifest_id == 1) ≡ b → not b ≡ false → c.manifest_id ≡ 1
    is_one true e h = same c.manifest_id 1 e
    is_one false e h = absurd cc

    test : (b : Bool) → (c.manifest_id == k) ≡ b → (b || is_named k cs) ≡ true → (not (c.manifest_id == 1) ≡ false) × (list_any (λ c. not (c.manifest_id == 1)) cs ≡ false)
        → (list_any (λ c. not (c.manifest_id == 1)) cs ≡ false → is_named k cs ≡ true → k ≡ 1) → k ≡ 1
    test true e h both rest = sym (same c.manifest_id k e) ∙ is_one (c.manifest_id == 1) refl both.0
    test false e h both rest = rest both.1 h

-- the bytes of a first manifest are read back
first_read : (m : Manifest) (bytes : List ℕ) → first_bytes m ≡ Some bytes → decoded_manifest bytes ≡ Ok m
first_read m bytes h = by_bytes (encoded m) refl (is_normal m) refl h
  where
    by_bytes : (r : Result (List ℕ) SlateDBError) → encoded m ≡ r → (b : Bool) → is_normal m ≡ b → bytes_where b r ≡ Some bytes → decoded_manifest bytes ≡ Ok m
    by_bytes (Ok l) is true normal_m h =
        let same : l ≡ bytes = cc in
        codec_round_trip m bytes (is ∙ ap (λ (x : List ℕ). Ok x) same) ∙ ap (λ (x : Manifest). Ok x) (normal_only m normal_m)
    by_bytes (Ok l) is false normal_m h = absurd cc
    by_bytes (Err e) is b normal_m h = absurd cc

-- bytes of a first manifest are those that it is encoded to, and it is its own normal form
pub record HasFirst (specs : List DbSpec) (d : List ℕ) : Type 0 where
  pub spec : DbSpec
  pub is : opening_manifests specs d ≡ opening_link spec ∷ []
  pub encodes : encoded spec.manifest ≡ Ok (listed_or_none (first_bytes spec.manifest))
  pub normal : normal_manifest spec.manifest ≡ spec.manifest
  pub apart : are_apart spec.manifest.core.segments ≡ true

first_encodes : (m : Manifest) (bytes : List ℕ) → first_bytes m ≡ Some bytes → (encoded m ≡ Ok (listed_or_none (first_bytes m))) × (normal_manifest m ≡ m)
first_encodes m bytes h = by_bytes (encoded m) refl (is_normal m) refl h
  where
    by_bytes : (r : Result (List ℕ) SlateDBError) → encoded m ≡ r → (b : Bool) → is_normal m ≡ b → bytes_where b r ≡ Some bytes → (encoded m ≡ Ok (listed_or_none (first_bytes m))) × (normal_manifest m ≡ m)
    by_bytes (Ok l) is true normal_m h =
        let same : l ≡ bytes = cc in
        (is ∙ (ap (λ (x : List ℕ). Ok x) same ∙ sym (ap (λ (o : Option (List ℕ)). Ok (listed_or_none o)) (ap (bytes_where (is_normal m)) is ∙ (ap (λ (b : Bool). bytes_where b (Ok l)) normal_m ∙ h)))), normal_only m normal_m)
    by_bytes (Ok l) is false normal_m h = absurd cc
    by_bytes (Err e) is b normal_m h = absurd cc

abbrev chain_for : Option DbSpec → Chain logs.Manifest
chain_for None = []
chain_for (Some spec) = opening_link spec ∷ []

chains_are : (d : List ℕ) (specs : List DbSpec) → opening_manifests specs d ≡ chain_for (spec_of d specs)
chains_are d [] = refl
chains_are d (spec ∷ specs) = test (bytes_eq d spec.path) (chains_are d specs)
  where
    test : (b : Bool) → opening_manifests specs d ≡ chain_for (spec_of d specs) → (if b then opening_link spec ∷ [] else opening_manifests specs d) ≡ chain_for (if b then Some spec else spec_of d specs)
    test true h = refl
    test false h = h

-- the chain of the first record of a database
abbrev records_for : Option DbSpec → Chain logs.Compactions
records_for None = []
records_for (Some spec) = record_chain spec.compactions

records_are : (d : List ℕ) (specs : List DbSpec) → opening_records specs d ≡ records_for (spec_of d specs)
records_are d [] = refl
records_are d (spec ∷ specs) = test (bytes_eq d spec.path) (records_are d specs)
  where
    test : (b : Bool) → opening_records specs d ≡ records_for (spec_of d specs) → (if b then record_chain spec.compactions else opening_records specs d) ≡ records_for (if b then Some spec else spec_of d specs)
    test true h = refl
    test false h = h

no_bytes_there : (o : Option StoredObject) → bytes_of o ≡ None → o ≡ None
no_bytes_there None h = refl
no_bytes_there (Some object) h = absurd cc

-- ---- a log as a run begins: without a boundary, and with its first version or none

module _ {V A : Type 0} (log : Log V A) (d : List ℕ) (s : Store) (no_bound : object_at (boundary_path log.kind d) s ≡ None) where
  untagged : (o : StoredObject) → object_at (boundary_path log.kind d) s ≡ Some o → o.e_tag ≤ s.last_tag
  untagged o at = absurd (cc (no_bound, at))

  -- an empty chain needs nothing
  none_needed : (n : ℕ) → IsNeeded log [] n → ⊥
  none_needed n (Greatest pos e) = omega arith
  none_needed n (Named named) = cc

  none_sound : ((n : ℕ) → n < 2 ^ 64 → object_at (version_path log.kind d n) s ≡ None) → IsSound log d s []
  none_sound empty = record {
    chain = tt;
    small = omega arith;
    bound = 0;
    read = ap boundary_got no_bound;
    below = λ lt. absurd (omega arith);
    above = λ n pos small. ap bytes_of (empty n small);
    needed = λ n h. absurd (none_needed n h);
    tagged = untagged;
  }

  module _ (l : Link V A) (one : l.number ≡ 1) (there : bytes_of (object_at (version_path log.kind d 1) s) ≡ Some l.bytes) where
    one_stands : ((n : ℕ) → n < 2 ^ 64 → n ≢ 1 → object_at (version_path log.kind d n) s ≡ None) → (n : ℕ) → 0 < n → n < 2 ^ 64 → AgreesAt log d s (l ∷ []) n
    one_stands others n pos small =
        ⊎_elim
        (λ (e : 1 ≡ n). subst (λ j. AgreesAt log d s (l ∷ []) j) e (there ∙ sym (ap link_bytes (link_here 1 l [] one))))
        (λ (ne : 1 ≢ n). ap bytes_of (others n small (λ (e : n ≡ 1). ne (sym e))) ∙ sym (ap link_bytes (link_there n l [] (λ (e : l.number ≡ n). ne (sym one ∙ e)))))
        (same_or_not 1 n)

    one_committed : (n : ℕ) → n ≡ 1 → IsCommitted log d s (l ∷ []) n
    one_committed n e = subst (λ j. IsCommitted log d s (l ∷ []) j) (sym e) (record { link = l; at = link_here 1 l [] one; stands = there })

    one_needed : ((n : ℕ) → log.names l.value n ≡ true → n ≡ 1) → (n : ℕ) → IsNeeded log (l ∷ []) n → IsCommitted log d s (l ∷ []) n
    one_needed own n (Greatest pos e) = one_committed n (e ∙ one)
    one_needed own n (Named named) = one_committed n (own n named)

    one_sound : IsFirst log l → ((n : ℕ) → n < 2 ^ 64 → n ≢ 1 → object_at (version_path log.kind d n) s ≡ None) → ((n : ℕ) → log.names l.value n ≡ true → n ≡ 1) → IsSound log d s (l ∷ [])
    one_sound first others own = record {
      chain = first;
      small = subst (λ (n : ℕ). n < 2 ^ 64) (sym one) (omega arith);
      bound = 0;
      read = ap boundary_got no_bound;
      below = λ lt. absurd (omega arith);
      above = one_stands others;
      needed = one_needed own;
      tagged = untagged;
    }

module _ (specs : List DbSpec) (accepted : IsAccepted specs) where
  abbrev w : World
  w = opening_world specs

  parts : Parts specs
  parts = parts_of specs accepted.accepted

  names : AllNamed specs
  names = accepted.named

  tallies_are : w.tallies ≡ parts.tallies
  tallies_are = ap listed_or_none parts.tallied

  store_is : w.store ≡ store_from no_objects parts.objects
  store_is = ap (λ (o : Option Firsts). store_from no_objects (listed_or_none o)) parts.is

  tally_is : (d : List ℕ) → tally_of d w.tallies ≡ tally_for (spec_of d specs) None
  tally_is d = ap (tally_of d) tallies_are ∙ tallies_found d [] specs parts.tallies parts.tallied

  bytes_at : (p : ObjectPath) → bytes_of (object_at p w.store) ≡ bytes_found (last_at p parts.objects) None
  bytes_at p = ap (λ (s : Store). bytes_of (object_at p s)) store_is ∙ store_found p no_objects parts.objects

  -- where no table stands, the first manifests and records alone are found
  beside_tables : (p : ObjectPath) → IsNoTable p → last_at p parts.objects ≡ last_at p parts.made.records
  beside_tables p other = tables_else p other parts.made.records specs parts.objects names parts.made.added

  -- where no first record stands either, the first manifests alone
  beside_records : (p : ObjectPath) → IsNoTable p → ((db : List ℕ) → p ≢ paths.Record db 1) → last_at p parts.objects ≡ last_at p parts.made.firsts
  beside_records p other away = beside_tables p other ∙ records_else p other.fine away parts.made.firsts specs parts.made.records names parts.made.recorded

  -- where no first manifest stands, there was none before the records
  no_manifest : (p : ObjectPath) → IsNoTable p → ((db : List ℕ) → p ≢ paths.Manifest db 1) → last_at p parts.made.firsts ≡ None
  no_manifest p other away = firsts_else p (λ spec named same. away spec.path (same_path p (paths.Manifest spec.path 1) other.fine (named, omega arith) same)) [] specs parts.made.firsts names parts.made.written

  -- and where none of them stands, nothing is
  nothing_at : (p : ObjectPath) → IsNoTable p → ((db : List ℕ) → p ≢ paths.Record db 1) → ((db : List ℕ) → p ≢ paths.Manifest db 1) → object_at p w.store ≡ None
  nothing_at p other no_record away = no_bytes_there (object_at p w.store) (bytes_at p ∙ ap (λ (o : Option First). bytes_found o None) (beside_records p other no_record ∙ no_manifest p other away))

  -- what is known of a database of the cluster
  record Known (d : List ℕ) : Type 0 where
    pub spec : DbSpec
    pub at : spec_of d specs ≡ Some spec
    pub found : IsFound d spec

  known_by : (d : List ℕ) (spec : DbSpec) → spec_of d specs ≡ Some spec → Known d
  known_by d spec is = record { spec = spec; at = is; found = spec_found d [] specs parts.made.firsts spec names parts.made.written is }

  known : (d : List ℕ) → HasDb w d → Known d
  known d h = by_spec (spec_of d specs) refl
    where
      by_spec : (o : Option DbSpec) → spec_of d specs ≡ o → Known d
      by_spec None is = absurd (cc (h, ap is_some (tally_is d), ap (λ (o : Option DbSpec). is_some (tally_for o None)) is))
      by_spec (Some spec) is = known_by d spec is

  -- a database has a name
  named : (d : List ℕ) → HasDb w d → is_db_path d ≡ true
  named d h = (known d h).found.named

  -- its first manifest
  module _ (d : List ℕ) (it : Known d) where
    abbrev chain : Chain logs.Manifest
    chain = opening_link it.spec ∷ []

    chain_is : opening_manifests specs d ≡ chain
    chain_is = chains_are d specs ∙ ap chain_for it.at

    records_chain_is : opening_records specs d ≡ record_chain it.spec.compactions
    records_chain_is = records_are d specs ∙ ap records_for it.at

  pub has_first : (d : List ℕ) → HasDb w d → HasFirst specs d
  has_first d has =
      let it = known d has in
      let e = first_encodes it.spec.manifest it.found.bytes it.found.is in
      record { spec = it.spec; is = chain_is d it; encodes = e.0; normal = e.1; apart = own_apart d it.spec specs parts.apart it.at }

  -- ---- at any name

  module _ (d : List ℕ) (path : is_db_path d ≡ true) where
    -- a path of this name that is no table's
    own_path : (k : LogKind) (n : ℕ) → n < 2 ^ 64 → IsNoTable (version_path k d n)
    own_path logs.Manifest n small = record { fine = (path, small); away = λ db id e. absurd cc }
    own_path logs.Compactions n small = record { fine = (path, small); away = λ db id e. absurd cc }

    no_boundary : (k : LogKind) → object_at (boundary_path k d) w.store ≡ None
    no_boundary logs.Manifest = nothing_at (paths.ManifestBoundary d) (record { fine = path; away = λ db id e. absurd cc }) (λ db e. absurd cc) (λ db e. absurd cc)
    no_boundary logs.Compactions = nothing_at (paths.RecordBoundary d) (record { fine = path; away = λ db id e. absurd cc }) (λ db e. absurd cc) (λ db e. absurd cc)

    -- nothing stands at another number than the first
    no_other : (k : LogKind) (n : ℕ) → n < 2 ^ 64 → n ≢ 1 → object_at (version_path k d n) w.store ≡ None
    no_other logs.Manifest n small ne = nothing_at (paths.Manifest d n) (own_path logs.Manifest n small) (λ db e. absurd cc) (λ db e. ne cc)
    no_other logs.Compactions n small ne = nothing_at (paths.Record d n) (own_path logs.Compactions n small) (λ db e. ne cc) (λ db e. absurd cc)

    -- nor at the first, where it has no bytes
    nothing : (k : LogKind) → bytes_of (object_at (version_path k d 1) w.store) ≡ None → (n : ℕ) → n < 2 ^ 64 → object_at (version_path k d n) w.store ≡ None
    nothing k none n small =
        ⊎_elim
        (λ (e : 1 ≡ n). subst (λ j. object_at (version_path k d j) w.store ≡ None) e (no_bytes_there (object_at (version_path k d 1) w.store) none))
        (λ (ne : 1 ≢ n). no_other k n small (λ (e : n ≡ 1). ne (sym e)))
        (same_or_not 1 n)

    -- ---- the log of manifests

    first_there : bytes_of (object_at (paths.Manifest d 1) w.store) ≡ bytes_found (first_for (spec_of d specs) None) None
    first_there =
        bytes_at (paths.Manifest d 1)
        ∙ ap (λ (o : Option First). bytes_found o None)
        (beside_records (paths.Manifest d 1) (own_path logs.Manifest 1 (omega arith)) (λ db e. absurd cc) ∙ firsts_found d path [] [] specs parts.tallies parts.made.firsts names parts.tallied parts.made.written (λ h. refl))

    -- the first manifest names no other version
    own_alone : (it : Known d) (n : ℕ) → manifests.names it.spec.manifest n ≡ true → n ≡ 1
    own_alone it n named = names_first n it.spec.manifest.core.checkpoints (own_names d it.spec specs parts.own it.at) named

    manifests_sound : (it : Known d) → IsSound manifests d w.store (chain d it)
    manifests_sound it =
        one_sound manifests d w.store (no_boundary logs.Manifest) (opening_link it.spec) refl (first_there ∙ ap (λ (o : Option DbSpec). bytes_found (first_for o None) None) it.at)
        (Opens refl refl (ap (λ (o : Option (List ℕ)). decoded_manifest (listed_or_none o)) it.found.is ∙ first_read it.spec.manifest it.found.bytes it.found.is) (own_alone it))
        (no_other logs.Manifest)
        (own_alone it)

    -- ---- the log of records

    -- the bytes of the first record, where there is one
    abbrev bytes_for : Option Record → Option (List ℕ)
    bytes_for None = None
    bytes_for (Some r) = Some (listed_or_none (record_bytes r))

    bytes_told : (spec : DbSpec) (o : Option Record) → bytes_found (first_record spec o) None ≡ bytes_for o
    bytes_told spec None = refl
    bytes_told spec (Some r) = refl

    record_there : bytes_of (object_at (paths.Record d 1) w.store) ≡ bytes_found (record_for (spec_of d specs)) None
    record_there =
        let absent = no_manifest (paths.Record d 1) (own_path logs.Compactions 1 (omega arith)) (λ db e. absurd cc) in
        let found = records_found d path [] parts.made.firsts specs parts.tallies parts.made.records names parts.tallied parts.made.recorded absent in
        bytes_at (paths.Record d 1) ∙ ap (λ (o : Option First). bytes_found o None) (beside_tables (paths.Record d 1) (own_path logs.Compactions 1 (omega arith)) ∙ found)

    record_is : (it : Known d) → bytes_of (object_at (paths.Record d 1) w.store) ≡ bytes_for it.spec.compactions
    record_is it = record_there ∙ (ap (λ (o : Option DbSpec). bytes_found (record_for o) None) it.at ∙ bytes_told it.spec it.spec.compactions)

    records_sound : (it : Known d) (o : Option Record) → it.spec.compactions ≡ o → IsSound records d w.store (record_chain o)
    records_sound it None is = none_sound records d w.store (no_boundary logs.Compactions) (nothing logs.Compactions (record_is it ∙ ap bytes_for is))
    records_sound it (Some r) is =
        let has = record_has_bytes d parts.made.firsts specs parts.made.records it.spec r parts.made.recorded it.at is in
        one_sound records d w.store (no_boundary logs.Compactions) (opening_record r) refl (record_is it ∙ ap bytes_for is)
        (Opens refl refl (ap (λ (o : Option (List ℕ)). decoded_record (listed_or_none o)) has.is ∙ record_read r has.bytes has.is) (λ n named. absurd cc))
        (no_other logs.Compactions)
        (λ n named. absurd cc)

    -- ---- of a database, and of a name that the cluster lacks

    found_sound : (k : LogKind) → Known d → IsSound (log_of k) d w.store (opening_chains specs k d)
    found_sound logs.Manifest it = subst (λ (c : Chain logs.Manifest). IsSound manifests d w.store c) (sym (chain_is d it)) (manifests_sound it)
    found_sound logs.Compactions it = subst (λ (c : Chain logs.Compactions). IsSound records d w.store c) (sym (records_chain_is d it)) (records_sound it it.spec.compactions refl)

    lacking_sound : (k : LogKind) → spec_of d specs ≡ None → IsSound (log_of k) d w.store (opening_chains specs k d)
    lacking_sound logs.Manifest at =
        subst (λ (c : Chain logs.Manifest). IsSound manifests d w.store c) (sym (chains_are d specs ∙ ap chain_for at))
        (none_sound manifests d w.store (no_boundary logs.Manifest) (nothing logs.Manifest (first_there ∙ ap (λ (o : Option DbSpec). bytes_found (first_for o None) None) at)))
    lacking_sound logs.Compactions at =
        subst (λ (c : Chain logs.Compactions). IsSound records d w.store c) (sym (records_are d specs ∙ ap records_for at))
        (none_sound records d w.store (no_boundary logs.Compactions) (nothing logs.Compactions (record_there ∙ ap (λ (o : Option DbSpec). bytes_found (record_for o) None) at)))

    sound : (k : LogKind) → IsSound (log_of k) d w.store (opening_chains specs k d)
    sound k = by_spec (spec_of d specs) refl
      where
        by_spec : (o : Option DbSpec) → spec_of d specs ≡ o → IsSound (log_of k) d w.store (opening_chains specs k d)
        by_spec None at = lacking_sound k at
        by_spec (Some spec) at = found_sound k (known_by d spec at)

  -- the greatest committed numbers
  tally_top : (d : List ℕ) → HasDb w d → (k : LogKind) (t : Tally) → tally_of d w.tallies ≡ Some t → number_in k t ≡ top (opening_chains specs k d)
  tally_top d has k t h = by_log k
    where
      it : Known d
      it = known d has

      same : first_tally it.spec ≡ t
      same = cc (tally_is d ∙ ap (λ (o : Option DbSpec). tally_for o None) it.at, h)

      record_top : (o : Option Record) → first_record_number o ≡ top (record_chain o)
      record_top None = refl
      record_top (Some r) = refl

      by_log : (k : LogKind) → number_in k t ≡ top (opening_chains specs k d)
      by_log logs.Manifest = sym (ap (λ (x : Tally). x.manifest) same) ∙ sym (ap top (chain_is d it))
      by_log logs.Compactions = sym (ap (λ (x : Tally). x.compactions) same) ∙ (record_top it.spec.compactions ∙ sym (ap top (records_chain_is d it)))

  -- nothing stands at the number 0
  pub no_zero : (k : LogKind) (d : List ℕ) → HasDb w d → object_at (version_path k d 0) w.store ≡ None
  no_zero k d has = no_other d (named d has) k 0 (omega arith) (omega arith)

  pub opening_inv : Inv w (opening_chains specs)
  opening_inv = record {
    tidy = subst (λ (s : Store). IsTidy s.objects) (sym store_is) (store_tidy no_objects parts.objects (tables_fine parts.made.records specs parts.objects names parts.made.added
        (records_fine parts.made.firsts specs parts.made.records names parts.made.recorded (firsts_fine [] specs parts.made.firsts names parts.made.written tt))) tt);
    named = named;
    logs = λ k d path. sound d path k;
    told = λ k d t h. tally_top d (ap is_some h) k t h;
    parties = λ n p h. absurd cc;
  }
