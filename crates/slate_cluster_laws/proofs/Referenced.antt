-- What was read of the versions that the checkpoints of a manifest name: how it begins, what each get adds, and that it stays while the log grows.
use Rattle.std.proofs.Common.{◌≡◌, ◌≢◌, ℕ, ℤ, ◌<◌, ◌≤◌, ◌==◌, Bool, true, false, List, [], ◌∷◌, ◌++◌, Option, Some, None, is_some, Result, Ok, Err, ◌⊎◌, inl, inr, ⊎_elim, refl, sym, ap, ◌∙◌, subst, cond, arith}
use Rattle.std.proofs.lemmas.Bool.Decides.{nat_tests}
use Rattle.std.specs.Prelude.{◌||◌, if◌then◌else◌}
use Rattle.std.specs.BTreeMap.{is_at, insert_entry}
use Rattle.std.specs.Ordering.{nat_cmp}
use Rattle.slate_ids.specs.declared.error.SlateDBError.{SlateDBError}
use Rattle.slate_layout_manifests.specs.Decoding.{decoded_manifest}
use Rattle.slate_model.specs.declared.checkpoint.Checkpoint.{Checkpoint}
use Rattle.slate_model.specs.declared.manifest.Manifest.{Manifest}
use Rattle.slate_state_referenced.specs.Named.{has_number, named_from, named_numbers, with_name}
use Rattle.slate_state_referenced.specs.Referenced.{ReferencedGoes, Versions, referenced_asks, referenced_goes, rest_goes, number_goes}
use Rattle.slate_state_referenced.specs.declared.referenced_phase.ReferencedPhase.{ReferencedPhase}
use Rattle.slate_state_referenced.specs.declared.referenced_phase.ReferencedPhase.TheVariants.{Getting, Over}
use Rattle.slate_state_updates.specs.Checkpoints.{is_named}
use Rattle.slate_store.specs.Machines.{Stay, End}
use Rattle.slate_store.specs.Store.{Store, Outcome, object_at, effect}
use Rattle.slate_store.specs.declared.mark.Mark.{Mark}
use Rattle.slate_store.specs.declared.mark.Mark.TheVariants.{Good, Fail, Lost}
use Rattle.slate_store.specs.declared.object.StoredObject.{StoredObject}
use Rattle.slate_txn_log.specs.LogPaths.{version_path}
use Rattle.slate_txn_log.specs.TryRead.{some_value, value_got}
use Rattle.slate_txn_log.specs.declared.log_kind.LogKind.TheVariants as logs
use Rattle.slate_cluster_protocol.specs.Chains.{Link, Log, link_at, top, bytes_of}
use Rattle.slate_cluster_protocol.specs.Holding.{IsVersion}
use Rattle.slate_cluster_protocol.specs.Logs.{Chain, manifests}
use Rattle.slate_cluster_protocol.specs.Reach.{names_top, IsNeeded}
use Rattle.slate_cluster_protocol.specs.Reach.IsNeeded.{Greatest, Named}
use Rattle.slate_cluster_protocol.specs.Referenced.{IsReferenced, version_at}
use Rattle.slate_cluster_chain_laws.proofs.Links.{at_most, decodes, le_or_lt, same_or_not}
use Rattle.slate_cluster_chain_laws.proofs.Manifests.{manifests_log}
use Rattle.slate_cluster_chain_laws.proofs.Names.{names_below, some_number}
use Rattle.slate_cluster_chain_laws.proofs.Spares.{not_needed}
use Rattle.slate_cluster_laws.proofs.Rows.{same_number}
use Rattle.slate_cluster_laws.proofs.Facts.{IsSound, IsValue, Grows}
use Rattle.slate_cluster_laws.proofs.Maps.{number_order, insert_here, insert_else}

-- ---- while the log grows

-- a number at or below the greatest that is needed afterwards was needed before
pub needed_before : {V A : Type 0} (log : Log V A) (db : List ℕ) (s : Store) (c : List (Link V A)) (s' : Store) (c' : List (Link V A)) → Grows log db s c s' c' → (k : ℕ) → 0 < top c → k ≤ top c → IsNeeded log c' k → IsNeeded log c k
needed_before log db s c s' c' g k some le needed = test (names_top log c k) refl
  where
    greatest : (k ≡ top c) → IsNeeded log c k
    greatest e = Greatest (omega arith) e

    test : (b : Bool) → names_top log c k ≡ b → IsNeeded log c k
    test true is = Named is
    test false is =
        ⊎_elim
        (λ (up : top c ≤ k). greatest (omega arith))
        (λ (lt : k < top c). absurd (not_needed log c' k (g.spares k (record { below = lt; unnamed = is })) needed))
        (le_or_lt (top c) k)

module _ (db : List ℕ) (s : Store) (c : Chain logs.Manifest) (s' : Store) (c' : Chain logs.Manifest) (g : Grows manifests db s c s' c') where
  kept_version : (n : ℕ) (v : Manifest) → IsVersion c n v → IsVersion c' n v
  kept_version n v h = record { link = h.link; at = g.kept n h.link h.at; value = h.value }

  pub kept_referenced : (n : ℕ) (left : List ℕ) (found : Versions) → IsReferenced c n left found → IsReferenced c' n left found
  kept_referenced n left found h =
      let up = g.rises in
      let most = h.most in
      let some = h.some in
      record {
        some = some;
        most = omega arith;
        value = h.value;
        version = kept_version n h.value h.version;
        own = h.own;
        named = h.named;
        before = h.before;
        read = λ k v at.
            let r = h.read k v at in
            let le = r.0 in
            (le, λ needed. kept_version k v (r.1 (needed_before manifests db s c s' c' g k (omega arith) (omega arith) needed)));
      }

-- ---- the numbers that checkpoints name

or_either : (a b : Bool) → (a || b) ≡ true → (a ≡ true) ⊎ (b ≡ true)
or_either true b h = inl refl
or_either false b h = inr h

or_left : (a b : Bool) → a ≡ true → (a || b) ≡ true
or_left true b h = refl
or_left false b h = absurd cc

or_right : (a b : Bool) → b ≡ true → (a || b) ≡ true
or_right true b h = refl
or_right false b h = h

neither : (a b : Bool) → (a || b) ≡ false → a ≡ false
neither true b h = absurd cc
neither false b h = refl

number_itself : (a b : ℕ) → a ≡ b → (a == b) ≡ true
number_itself a b h = grind (arith, nat_tests)

other_number : (a b : ℕ) → (a == b) ≡ false → a ≢ b
other_number a b h = grind (arith, nat_tests)

at_end : (k m : ℕ) (ks : List ℕ) → has_number k (ks ++ m ∷ []) ≡ true → (has_number k ks ≡ true) ⊎ (m ≡ k)
at_end k m [] h = ⊎_elim (λ (e : (m == k) ≡ true). inr (same_number m k e)) (λ (none : false ≡ true). absurd cc) (or_either (m == k) false h)
at_end k m (j ∷ ks) h =
    ⊎_elim
    (λ (here : (j == k) ≡ true). inl (or_left (j == k) (has_number k ks) here))
    (λ (rest : has_number k (ks ++ m ∷ []) ≡ true). ⊎_elim (λ (there : has_number k ks ≡ true). inl (or_right (j == k) (has_number k ks) there)) (λ (e : m ≡ k). inr e) (at_end k m ks rest))
    (or_either (j == k) (has_number k (ks ++ m ∷ [])) h)

still_there : (k m : ℕ) (ks : List ℕ) → (has_number k ks ≡ true) ⊎ (m ≡ k) → has_number k (ks ++ m ∷ []) ≡ true
still_there k m [] h = ⊎_elim (λ (none : false ≡ true). absurd cc) (λ (e : m ≡ k). or_left (m == k) false (number_itself m k e)) h
still_there k m (j ∷ ks) h =
    ⊎_elim
    (λ (there : has_number k (j ∷ ks) ≡ true).
    ⊎_elim
    (λ (here : (j == k) ≡ true). or_left (j == k) (has_number k (ks ++ m ∷ [])) here)
    (λ (rest : has_number k ks ≡ true). or_right (j == k) (has_number k (ks ++ m ∷ [])) (still_there k m ks (inl rest)))
    (or_either (j == k) (has_number k ks) there))
    (λ (e : m ≡ k). or_right (j == k) (has_number k (ks ++ m ∷ [])) (still_there k m ks (inr e)))
    h

-- a number is named, or was there before
module _ (own k : ℕ) where
  with_there : (m : ℕ) (ks : List ℕ) → k ≢ own → (has_number k ks ≡ true) ⊎ (m ≡ k) → has_number k (with_name own ks m) ≡ true
  with_there m ks other h = test ((m == own) || has_number m ks) refl
    where
      old : ((m == own) || has_number m ks) ≡ true → has_number k ks ≡ true
      old is =
          ⊎_elim
          (λ (there : has_number k ks ≡ true). there)
          (λ (e : m ≡ k).
          ⊎_elim
          (λ (mine : (m == own) ≡ true). absurd (other (sym e ∙ same_number m own mine)))
          (λ (there : has_number m ks ≡ true). subst (λ j. has_number j ks ≡ true) e there)
          (or_either (m == own) (has_number m ks) is))
          h

      test : (b : Bool) → ((m == own) || has_number m ks) ≡ b → has_number k (if b then ks else ks ++ m ∷ []) ≡ true
      test true is = old is
      test false is = still_there k m ks h

  with_back : (m : ℕ) (ks : List ℕ) → has_number k (with_name own ks m) ≡ true → (has_number k ks ≡ true) ⊎ ((k ≢ own) × (m ≡ k))
  with_back m ks h = test ((m == own) || has_number m ks) refl h
    where
      test : (b : Bool) → ((m == own) || has_number m ks) ≡ b → has_number k (if b then ks else ks ++ m ∷ []) ≡ true → (has_number k ks ≡ true) ⊎ ((k ≢ own) × (m ≡ k))
      test true is h = inl h
      test false is h =
          ⊎_elim
          (λ (there : has_number k ks ≡ true). inl there)
          (λ (e : m ≡ k). inr (λ (mine : k ≡ own). other_number m own (neither (m == own) (has_number m ks) is) (e ∙ mine), e))
          (at_end k m ks h)

  all_there : (ks : List ℕ) (cs : List Checkpoint) → k ≢ own → (has_number k ks ≡ true) ⊎ (is_named k cs ≡ true) → has_number k (named_from own ks cs) ≡ true
  all_there ks [] other h = ⊎_elim (λ (there : has_number k ks ≡ true). there) (λ (none : false ≡ true). absurd cc) h
  all_there ks (c ∷ cs) other h = all_there (with_name own ks c.manifest_id) cs other (⊎_elim
      (λ (there : has_number k ks ≡ true). inl (with_there c.manifest_id ks other (inl there)))
      (λ (named : is_named k (c ∷ cs) ≡ true).
      ⊎_elim
      (λ (here : (c.manifest_id == k) ≡ true). inl (with_there c.manifest_id ks other (inr (same_number c.manifest_id k here))))
      (λ (rest : is_named k cs ≡ true). inr rest)
      (or_either (c.manifest_id == k) (is_named k cs) named))
      h)

  all_back : (ks : List ℕ) (cs : List Checkpoint) → has_number k (named_from own ks cs) ≡ true → (has_number k ks ≡ true) ⊎ ((k ≢ own) × (is_named k cs ≡ true))
  all_back ks [] h = inl h
  all_back ks (c ∷ cs) h =
      ⊎_elim
      (λ (there : has_number k (with_name own ks c.manifest_id) ≡ true).
      ⊎_elim
      (λ (before : has_number k ks ≡ true). inl before)
      (λ (now : (k ≢ own) × (c.manifest_id ≡ k)). inr (now.0, or_left (c.manifest_id == k) (is_named k cs) (number_itself c.manifest_id k now.1)))
      (with_back c.manifest_id ks there))
      (λ (later : (k ≢ own) × (is_named k cs ≡ true)). inr (later.0, or_right (c.manifest_id == k) (is_named k cs) later.1))
      (all_back (with_name own ks c.manifest_id) cs h)

-- ---- the versions, as they are got

-- what is known while they are got
abbrev pub FetchKnows : Chain logs.Manifest → ℕ → ReferencedPhase → Type 0
FetchKnows c n (Getting left found) = IsReferenced c n left found
FetchKnows c n Over = ⊥

pub kept_fetch : (db : List ℕ) (s : Store) (c : Chain logs.Manifest) (s' : Store) (c' : Chain logs.Manifest) → Grows manifests db s c s' c' → (n : ℕ) (phase : ReferencedPhase) → FetchKnows c n phase → FetchKnows c' n phase
kept_fetch db s c s' c' g n (Getting left found) h = kept_referenced db s c s' c' g n left found h
kept_fetch db s c s' c' g n Over h = h

-- what a get brings
abbrev pub FetchBrings : Chain logs.Manifest → ℕ → ReferencedGoes → Type 0
FetchBrings c n (Stay phase) = FetchKnows c n phase
FetchBrings c n (End phase (Ok found)) = IsReferenced c n [] found
FetchBrings c n (End phase (Err e)) = Unit {0}

-- a map of one entry
one_at : (n k : ℕ) (m v : Manifest) → version_at k ((n, m) ∷ []) ≡ Some v → (k ≡ n) × (m ≡ v)
one_at n k m v h = test (is_at (nat_cmp k) n) refl h
  where
    test : (b : Bool) → is_at (nat_cmp k) n ≡ b → cond b (Some m) None ≡ Some v → (k ≡ n) × (m ≡ v)
    test true is h = (number_order.one k n is, cc h)
    test false is h = absurd cc

module _ (db : List ℕ) (s : Store) (c : Chain logs.Manifest) (i : IsSound manifests db s c) where
  -- the reading of the names of a committed version begins
  pub referenced_begins : (n : ℕ) (m : Manifest) → IsValue c n m → IsReferenced c n (named_numbers n m.core.checkpoints) ((n, m) ∷ [])
  referenced_begins n m v =
      let own : version_at n ((n, m) ∷ []) ≡ Some m = ap (λ (b : Bool). cond b (Some m) None) (number_order.itself n) in
      record {
        some = some_number manifests c n v.link i.chain v.at;
        most = at_most manifests n v.link c i.chain v.at;
        value = m;
        version = record { link = v.link; at = v.at; value = v.value };
        own = own;
        named = λ k named.
            ⊎_elim
            (λ (e : k ≡ n). inl (subst (λ j. is_some (version_at j ((n, m) ∷ [])) ≡ true) (sym e) (ap is_some own)))
            (λ (other : k ≢ n). inr (all_there n k [] m.core.checkpoints other (inr named)))
            (same_or_not k n);
        before = λ k there. by_name k (all_back n k [] m.core.checkpoints there);
        read = λ k w at.
            let is = one_at n k m w at in
            let e = is.0 in
            (omega arith, λ needed. record { link = v.link; at = subst (λ j. link_at j c ≡ Some v.link) (sym e) v.at; value = v.value ∙ is.1 });
      }
    where
      by_name : (k : ℕ) → (has_number k [] ≡ true) ⊎ ((k ≢ n) × (is_named k m.core.checkpoints ≡ true)) → k < n
      by_name k (inl none) = absurd cc
      by_name k (inr named) =
          let le = names_below manifests manifests_log c n k v.link i.chain v.at (ap (λ (x : Manifest). is_named k x.core.checkpoints) v.value ∙ named.1) in
          let ne = named.0 in
          ⊎_elim (λ (up : n ≤ k). absurd (ne (omega arith))) (λ (lt : k < n). lt) (le_or_lt n k)

  -- what was got at a number that is needed is the committed version
  got_version : (k : ℕ) (object : StoredObject) (v : Manifest) → object_at (version_path logs.Manifest db k) s ≡ Some object → decoded_manifest object.bytes ≡ Ok v → IsNeeded manifests c k → IsVersion c k v
  got_version k object v at is needed =
      let it = i.needed k needed in
      let bytes : object.bytes ≡ it.link.bytes = cc (ap bytes_of at, it.stands) in
      let twice : Ok it.link.value ≡ Ok v = sym (decodes manifests manifests_log k it.link c i.chain it.at) ∙ (ap decoded_manifest (sym bytes) ∙ is) in
      record { link = it.link; at = it.at; value = cc (twice) }

  module _ (n k : ℕ) (left : List ℕ) (found : Versions) (h : IsReferenced c n (k ∷ left) found) (object : StoredObject) (v : Manifest) (at : object_at (version_path logs.Manifest db k) s ≡ Some object) (is : decoded_manifest object.bytes ≡ Ok v) where
    abbrev more : Versions
    more = insert_entry nat_cmp found k v

    here : version_at k more ≡ Some v
    here = insert_here nat_cmp number_order k v found

    there : (j : ℕ) → j ≢ k → version_at j more ≡ version_at j found
    there j ne = insert_else nat_cmp number_order k j v found ne

    first_before : k < n
    first_before = h.before k (or_left (k == k) (has_number k left) (number_itself k k refl))

    -- a get of the first number that is left
    got_referenced : IsReferenced c n left more
    got_referenced = record {
      some = h.some;
      most = h.most;
      value = h.value;
      version = h.version;
      own = there n (λ (e : n ≡ k). let lt = first_before in absurd (omega arith)) ∙ h.own;
      named = λ j named. ⊎_elim (λ (e : j ≡ k). inl (subst (λ x. is_some (version_at x more) ≡ true) (sym e) (ap is_some here))) (λ (ne : j ≢ k). by_old j ne (h.named j named)) (same_or_not j k);
      before = λ j later. h.before j (or_right (k == j) (has_number j left) later);
      read = λ j w got. ⊎_elim (λ (e : j ≡ k). by_new j w e got) (λ (ne : j ≢ k). h.read j w (sym (there j ne) ∙ got)) (same_or_not j k);
    }
      where
        by_old : (j : ℕ) → j ≢ k → (is_some (version_at j found) ≡ true) ⊎ (has_number j (k ∷ left) ≡ true) → (is_some (version_at j more) ≡ true) ⊎ (has_number j left ≡ true)
        by_old j ne (inl had) = inl (ap is_some (there j ne) ∙ had)
        by_old j ne (inr later) =
            ⊎_elim
            (λ (e : (k == j) ≡ true). absurd (ne (sym (same_number k j e))))
            (λ (rest : has_number j left ≡ true). inr rest)
            (or_either (k == j) (has_number j left) later)

        by_new : (j : ℕ) (w : Manifest) → j ≡ k → version_at j more ≡ Some w → (j ≤ n) × (IsNeeded manifests c j → IsVersion c j w)
        by_new j w e got =
            let same : v ≡ w = cc (here, ap (λ x. version_at x more) e, got) in
            let lt = first_before in
            (omega arith, λ needed. subst (λ x. IsVersion c x w) (sym e) (subst (λ (x : Manifest). IsVersion c k x) same (got_version k object v at is (subst (λ x. IsNeeded manifests c x) e needed))))

  rest_brings : (n : ℕ) (left : List ℕ) (found : Versions) → IsReferenced c n left found → FetchBrings c n (rest_goes left found)
  rest_brings n [] found h = h
  rest_brings n (k ∷ left) found h = h

  decoded_brings : (n k : ℕ) (left : List ℕ) (found : Versions) → IsReferenced c n (k ∷ left) found → (object : StoredObject) → object_at (version_path logs.Manifest db k) s ≡ Some object
      → (r : Result Manifest SlateDBError) → decoded_manifest object.bytes ≡ r → FetchBrings c n (number_goes k left found (some_value r))
  decoded_brings n k left found h object at (Ok v) is = rest_brings n left (insert_entry nat_cmp found k v) (got_referenced n k left found h object v at is)
  decoded_brings n k left found h object at (Err e) is = tt

  got_brings : (n k : ℕ) (left : List ℕ) (found : Versions) → IsReferenced c n (k ∷ left) found → (o : Option StoredObject) → object_at (version_path logs.Manifest db k) s ≡ o → FetchBrings c n (number_goes k left found (value_got decoded_manifest o))
  got_brings n k left found h None at = tt
  got_brings n k left found h (Some object) at = decoded_brings n k left found h object at (decoded_manifest object.bytes) refl

  -- what a get leaves and brings
  pub record AfterFetch (n : ℕ) (phase : ReferencedPhase) (o : Outcome) : Type 0 where
    pub same : o.store ≡ s
    pub brings : FetchBrings c n (referenced_goes decoded_manifest phase o.answer)

  pub fetch_step : (n : ℕ) (phase : ReferencedPhase) (mark : Mark) (moment : ℤ) → FetchKnows c n phase → AfterFetch n phase (effect mark (referenced_asks db phase) moment s)
  fetch_step n (Getting [] found) Good moment h = record { same = refl; brings = tt }
  fetch_step n (Getting [] found) Fail moment h = record { same = refl; brings = tt }
  fetch_step n (Getting [] found) Lost moment h = record { same = refl; brings = tt }
  fetch_step n (Getting (k ∷ left) found) Good moment h = record { same = refl; brings = got_brings n k left found h (object_at (version_path logs.Manifest db k) s) refl }
  fetch_step n (Getting (k ∷ left) found) Fail moment h = record { same = refl; brings = tt }
  fetch_step n (Getting (k ∷ left) found) Lost moment h = record { same = refl; brings = tt }
  fetch_step n Over mark moment h = absurd h
