-- What the rule of a pass over tables picks of what was read is spare.
use Rattle.std.proofs.Common.{◌≡◌, ◌≢◌, ◌⊎◌, inl, inr, ℕ, ℤ, pos, ◌-ℤ◌, ◌+◌, ◌<◌, ◌≤◌, ◌++◌, Bool, int_lt, nat_lt, true, false, List, [], ◌∷◌, Option, Some, None, is_some, ⊎_elim, refl, sym, ap, ◌∙◌, subst, arith}
use Rattle.std.proofs.lemmas.Bool.Decides.{nat_tests}
use Rattle.std.specs.Prelude.{not, ◌&&◌, if◌then◌else◌}
use Rattle.std.specs.BTreeMap.{is_at}
use Rattle.std.specs.Ordering.{nat_cmp}
use Rattle.slate_gc_picks.specs.TablePicks.{is_early, is_unused, used_tables}
use Rattle.slate_ids.specs.declared.object_path.ObjectPath.TheVariants as paths
use Rattle.slate_model.specs.Externals.{is_owned}
use Rattle.slate_model.specs.Trees.{tables_of}
use Rattle.slate_model.specs.Watermark.{watermark}
use Rattle.slate_model.specs.declared.manifest.Manifest.{Manifest}
use Rattle.slate_model_tables.specs.declared.ss_table_id.SsTableId.TheVariants.{Compacted}
use Rattle.slate_script_events.specs.declared.db_spec.DbSpec.{DbSpec}
use Rattle.slate_script_events.specs.declared.event.Event.{Event}
use Rattle.slate_state_record_updates.specs.RecordRules.{least_ms}
use Rattle.slate_state_updates.specs.Checkpoints.{is_named}
use Rattle.slate_state_updates.specs.TableSets.{is_among}
use Rattle.slate_txn_log.specs.declared.log_kind.LogKind.TheVariants as logs
use Rattle.slate_cluster_protocol.specs.Chains.{IsChain, Link, link_at, top}
use Rattle.slate_cluster_protocol.specs.Lawful.{AreGood, IsAccepted, chains_at_end, world_at_end}
use Rattle.slate_cluster_protocol.specs.Logs.{Author, Chain, Chains, manifests, records}
use Rattle.slate_cluster_protocol.specs.Reach.{IsNeeded, names_top, HasOwn, NeedsTable}
use Rattle.slate_cluster_protocol.specs.Reach.IsNeeded.{Greatest, Named}
use Rattle.slate_cluster_protocol.specs.Referenced.{IsReferenced, version_at}
use Rattle.slate_cluster_protocol.specs.World.{HasDb}
use Rattle.slate_cluster_chain_laws.proofs.Links.{at_most, le_or_lt, link_here, link_there, same_or_not}
use Rattle.slate_cluster_chain_laws.proofs.Rising.{name_known}
use Rattle.slate_cluster_chain_laws.proofs.TableSteps.{among_back, among_front, both_of, kept_of}
use Rattle.slate_cluster_protocol.specs.Rising.{NameKnown}
use Rattle.slate_ids.specs.Ids.{is_db_path}
use Rattle.slate_cluster_protocol.specs.Lawful.{course_after}
use Rattle.slate_cluster_protocol.specs.Runs.{Ran, opening}
use Rattle.slate_cluster_laws.proofs.AfterEvents.{after_inv}
use Rattle.slate_cluster_laws.proofs.GoingOn.{run_split}
use Rattle.slate_cluster_laws.proofs.Removals.{good_run}
use Rattle.slate_cluster_compactor_laws.proofs.Growing.{records_of_chain}
use Rattle.slate_cluster_table_laws.proofs.EachLink.{each_at}
use Rattle.slate_cluster_table_laws.proofs.Marks.{IsMarked}
use Rattle.slate_cluster_table_laws.proofs.Moments.{marked_of_run}
use Rattle.slate_cluster_protocol.specs.Spares.{IsSpareTable, floor_top, least_top}
use Rattle.slate_cluster_spare_laws.specs.TableReads.{HasRead, IsLeastRead}
use Rattle.slate_cluster_spare_laws.specs.TableReads.IsLeastRead.{OfNone, OfRecord}
use Rattle.slate_cluster_spare_laws.proofs.Later.{IsFrom, IsLater, step_later, step_least}
use Rattle.slate_cluster_spare_laws.proofs.Onward.{run_keeps}

-- ---- what a pick is

clash : (b : Bool) → not b ≡ true → b ≡ true → ⊥
clash true h k = cc h
clash false h k = cc k

below : (a b : ℕ) → nat_lt a b ≡ true → a < b
below a b h = grind (arith, nat_tests)

-- it is early, and none of the versions has it
pub record IsPick (least mark : ℕ) (versions : List (ℕ × Manifest)) (id : ℕ × ℕ) : Type 0 where
  pub before : id.0 < least
  pub early : id.0 < mark
  pub unused : is_among (used_tables versions) (Compacted id) ≡ true → ⊥

pub picked : (min_age : ℕ) (now : ℤ) (least mark : ℕ) (versions : List (ℕ × Manifest)) (db : List ℕ) (id : ℕ × ℕ) → is_unused min_age now least mark (used_tables versions) (paths.Table db id) ≡ true → IsPick least mark versions id
picked min_age now least mark versions db id h =
    let parts = both_of (is_early min_age now least mark id.0) (not (is_among (used_tables versions) (Compacted id))) h in
    let early = both_of (int_lt (pos id.0) (now -ℤ pos min_age)) (nat_lt id.0 least && nat_lt id.0 mark) parts.0 in
    let two = both_of (nat_lt id.0 least) (nat_lt id.0 mark) early.1 in
    record { before = below id.0 least two.0; early = below id.0 mark two.1; unused = λ used. clash (is_among (used_tables versions) (Compacted id)) parts.1 used }

-- what a version that was got has is used
used_at : (k : ℕ) (versions : List (ℕ × Manifest)) (m : Manifest) (id : ℕ × ℕ) → version_at k versions ≡ Some m → HasOwn m id → is_among (used_tables versions) (Compacted id) ≡ true
used_at k [] m id at has = absurd (cc at)
used_at k (v ∷ versions) m id at has = by (is_at (nat_cmp k) v.0) at (λ rest. used_at k versions m id rest has)
  where
    by : (b : Bool) → (if b then Some v.1 else version_at k versions) ≡ Some m → (version_at k versions ≡ Some m → is_among (used_tables versions) (Compacted id) ≡ true) → is_among (used_tables (v ∷ versions)) (Compacted id) ≡ true
    by true is rest =
        let same : v.1 ≡ m = cc is in
        among_front (tables_of v.1.core) (used_tables versions) (Compacted id)
        (subst (λ (x : Manifest). is_among (tables_of x.core) (Compacted id) ≡ true) (sym same) (kept_of (is_owned m.external_dbs) (tables_of m.core) (Compacted id) has).0)
    by false is rest = among_back (tables_of v.1.core) (used_tables versions) (Compacted id) (rest is)

-- ---- a number that the greatest version names was named before, down to its own

names_down : (c : Chain logs.Manifest) (n k : ℕ) (l : Link Manifest Author) → IsChain manifests c → NameKnown c → link_at n c ≡ Some l → k < n → names_top manifests c k ≡ true → is_named k l.value.core.checkpoints ≡ true
names_down [] n k l chain known at lt named = absurd (cc at)
names_down (x ∷ []) n k l chain known at lt named =
    ⊎_elim
    (λ (e : x.number ≡ n). let same : x ≡ l = cc (link_here n x [] e, at) in subst (λ (y : Link Manifest Author). is_named k y.value.core.checkpoints ≡ true) same named)
    (λ (ne : x.number ≢ n). absurd (cc (link_there n x [] ne, at)))
    (same_or_not x.number n)
names_down (x ∷ old ∷ c) n k l chain known at lt named = by (same_or_not x.number n) (λ there before. names_down (old ∷ c) n k l chain.1 known.1 there lt before)
  where
    by : (x.number ≡ n) ⊎ (x.number ≢ n) → (link_at n (old ∷ c) ≡ Some l → names_top manifests (old ∷ c) k ≡ true → is_named k l.value.core.checkpoints ≡ true) → is_named k l.value.core.checkpoints ≡ true
    by (inl e) rest = let same : x ≡ l = cc (link_here n x (old ∷ c) e, at) in subst (λ (y : Link Manifest Author). is_named k y.value.core.checkpoints ≡ true) same named
    by (inr ne) rest =
        let there : link_at n (old ∷ c) ≡ Some l = sym (link_there n x (old ∷ c) ne) ∙ at in
        let most = at_most manifests n l (old ∷ c) chain.1 there in
        ⊎_elim
        (λ (e : k ≡ old.number + 1). absurd (omega (arith, e, most, lt)))
        (λ (before : is_named k old.value.core.checkpoints ≡ true). rest there before)
        (known.0 k named)

-- ---- at the moment of the last read

module _ (c : Chain logs.Manifest) (r : Chain logs.Compactions) (chain : IsChain manifests c) (n least : ℕ) (versions : List (ℕ × Manifest)) (got : IsReferenced c n [] versions) (l : Link Manifest Author) (number : l.number ≡ n)
    (later : IsLater l least c r) (marked : IsMarked l.value) (id : ℕ × ℕ) (pick : IsPick least (watermark got.value.core) versions id) where
  its_value : l.value ≡ got.value
  its_value =
      let there : link_at n c ≡ Some l = subst (λ (k : ℕ). link_at k c ≡ Some l) number later.at in
      let at = got.version.at in
      let same : got.version.link ≡ l = cc (at, there) in
      ap (λ (x : Link Manifest Author). x.value) (sym same) ∙ got.version.value

  early : id.0 < l.value.core.floor
  early =
      let mark = subst (λ (m : Manifest). id.0 < watermark m.core) (sym its_value) pick.early in
      let le = marked in
      omega (arith, mark, le)

  -- a version from that one on hasn't it
  none_later : IsFrom l.value least id → ⊥
  none_later (inl own) = pick.unused (used_at n versions got.value id got.own (subst (λ (m : Manifest). HasOwn m id) its_value own))
  none_later (inr (inl late)) = let lt = early in absurd (omega (arith, late, lt))
  none_later (inr (inr late)) = let lt = pick.before in absurd (omega (arith, late, lt))

  -- nor has a needed one before it, which was got
  found : (k : ℕ) (m : Link Manifest Author) → link_at k c ≡ Some m → IsNeeded manifests c k → HasOwn m.value id → (o : Option Manifest) → version_at k versions ≡ o → is_some o ≡ true → ⊥
  found k m at needed has None is some = cc some
  found k m at needed has (Some v) is some =
      let version = (got.read k v is).1 needed in
      let there = version.at in
      let same : version.link ≡ m = cc (there, at) in
      let value : m.value ≡ v = ap (λ (x : Link Manifest Author). x.value) (sym same) ∙ version.value in
      pick.unused (used_at k versions v id is (subst (λ (x : Manifest). HasOwn x id) value has))

  none_named : (k : ℕ) → (is_some (version_at k versions) ≡ true) ⊎ (false ≡ true) → is_some (version_at k versions) ≡ true
  none_named k (inl some) = some
  none_named k (inr no_more) = absurd (cc no_more)

  none_before : (needs : NeedsTable c id) → needs.number < l.number → IsNeeded manifests c needs.number → ⊥
  none_before needs lt (Greatest positive e) =
      let most = at_most manifests l.number l c chain later.at in
      absurd (omega (arith, lt, e, most))
  none_before needs lt (Named named) =
      let known = names_down c l.number needs.number l chain (name_known c chain) later.at lt named in
      let in_value = subst (λ (m : Manifest). is_named needs.number m.core.checkpoints ≡ true) its_value known in
      found needs.number needs.link needs.at needs.needed needs.own (version_at needs.number versions) refl (none_named needs.number (got.named needs.number in_value))

  unneeded : NeedsTable c id → ⊥
  unneeded needs =
      ⊎_elim
      (λ (le : l.number ≤ needs.number). none_later (later.own needs.number needs.link needs.at le id needs.own))
      (λ (lt : needs.number < l.number). none_before needs lt needs.needed)
      (le_or_lt l.number needs.number)

  pub spare : (chains : Chains) (db : List ℕ) → chains logs.Manifest db ≡ c → chains logs.Compactions db ≡ r → IsSpareTable chains db id
  spare chains db is_c is_r =
      let up = later.floor in
      let lt = early in
      let most = later.least_most in
      let low = pick.before in
      record {
        floor = subst (λ (x : Chain logs.Manifest). id.0 < floor_top x) (sym is_c) (omega (arith, lt, up));
        least = subst (λ (x : Chain logs.Compactions). id.0 < least_top x) (sym is_r) (omega (arith, low, most));
        unneeded = subst (λ (x : Chain logs.Manifest). NeedsTable x id → ⊥) (sym is_c) unneeded;
      }

-- ---- along a run

-- the least that was read is at most that of the greatest record
pub read_most : (c : Chain logs.Compactions) → IsChain records c → (least : ℕ) → IsLeastRead c least → least ≤ least_top c
read_most c chain least (OfNone is) = omega (arith, is)
read_most [] chain least (OfRecord n l at is) = absurd (cc at)
read_most (x ∷ c) chain least (OfRecord n l at is) = by l.value.entries refl
  where
    by : (entries : List _) → l.value.entries ≡ entries → least ≤ least_ms x.value.entries
    by [] e = let none : least ≡ 0 = is ∙ ap least_ms e in omega (arith, none)
    by (y ∷ entries) e =
        let le = at_most records n l (x ∷ c) chain at in
        let keeps = (records_of_chain (x ∷ c) chain).least n x.number l x at (link_here x.number x c refl) le (λ (none : l.value.entries ≡ []). cc (e, none)) in
        let up = keeps.least in
        omega (arith, is, up)

-- as the manifests were listed no later one was there
pub begins : (c : Chain logs.Manifest) (r : Chain logs.Compactions) (least : ℕ) → IsChain manifests c → 0 < top c → least ≤ least_top r → (l : Link Manifest Author) × ((l.number ≡ top c) × IsLater l least c r)
begins [] r least chain some low = absurd (omega (arith, some))
begins (x ∷ c) r least chain some low = (
  x,
  (
    refl,
    record {
      at = link_here x.number x c refl;
      floor = omega arith;
      least_most = low;
      own = λ k m at le id own.
          let most = at_most manifests k m (x ∷ c) chain at in
          let same : x.number ≡ k = omega (arith, le, most) in
          let its : x ≡ m = cc (link_here k x c same, at) in
          inl (subst (λ (y : Link Manifest Author). HasOwn y.value id) (sym its) own);
    },
  ),
)

pub front_good : (specs : List DbSpec) (xs ys : List Event) → AreGood specs (xs ++ ys) → AreGood specs xs
front_good specs xs ys good = ap (λ (r : Ran). r.bad) (run_split xs ys 0 (opening specs) (course_after specs (xs ++ ys)) (good_run specs (xs ++ ys) good)).first

module _ (specs : List DbSpec) (accepted : IsAccepted specs) (front middle back : List Event) (good : AreGood specs ((front ++ middle) ++ back)) (db : List ℕ) (has : HasDb (world_at_end specs ((front ++ middle) ++ back)) db) where
  abbrev at_list : List Event
  at_list = front ++ middle

  abbrev at_end : List Event
  at_end = (front ++ middle) ++ back

  named : is_db_path db ≡ true
  named = (after_inv specs at_end accepted).named db has

  module _ (least n : ℕ) (versions : List (ℕ × Manifest)) (reads : HasRead (chains_at_end specs front) (chains_at_end specs at_list) (chains_at_end specs at_end) db least n versions) where
    low : least ≤ least_top (chains_at_end specs at_list logs.Compactions db)
    low =
        run_keeps specs accepted (λ chains. least ≤ least_top (chains logs.Compactions db)) (step_least db least) middle front (front_good specs at_list back good)
        (read_most (chains_at_end specs front logs.Compactions db) ((after_inv specs front accepted).logs logs.Compactions db named).chain least reads.least_read)

    listed : (l : Link Manifest Author) × ((l.number ≡ top (chains_at_end specs at_list logs.Manifest db)) × IsLater l least (chains_at_end specs at_list logs.Manifest db) (chains_at_end specs at_list logs.Compactions db))
    listed =
        let some = reads.got.some in
        let is = reads.greatest in
        begins (chains_at_end specs at_list logs.Manifest db) (chains_at_end specs at_list logs.Compactions db) least ((after_inv specs at_list accepted).logs logs.Manifest db named).chain (omega (arith, some, is)) low

    later : IsLater listed.0 least (chains_at_end specs at_end logs.Manifest db) (chains_at_end specs at_end logs.Compactions db)
    later = run_keeps specs accepted (λ chains. IsLater listed.0 least (chains logs.Manifest db) (chains logs.Compactions db)) (step_later db listed.0 least) back at_list good listed.1.1

    pub picks_spare : (min_age : ℕ) (now : ℤ) (id : ℕ × ℕ) → is_unused min_age now least (watermark reads.got.value.core) (used_tables versions) (paths.Table db id) ≡ true → IsSpareTable (chains_at_end specs at_end) db id
    picks_spare min_age now id is =
        spare (chains_at_end specs at_end logs.Manifest db) (chains_at_end specs at_end logs.Compactions db) ((after_inv specs at_end accepted).logs logs.Manifest db named).chain n least versions reads.got listed.0 (listed.1.0 ∙ sym reads.greatest) later
        (each_at IsMarked (chains_at_end specs at_end logs.Manifest db) (marked_of_run specs at_end accepted db has) listed.0.number listed.0 later.at) id
        (picked min_age now least (watermark reads.got.value.core) versions db id is) (chains_at_end specs at_end) db refl refl
