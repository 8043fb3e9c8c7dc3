-- One step of each phrase, on any log and under any mark: what its store call leaves, and what its answer brings.
use Rattle.std.proofs.Common.{◌≡◌, ℕ, ℤ, ◌+◌, ◌<◌, ◌^◌, nat_le, nat_lt, Bool, true, false, List, Option, Some, None, IfSome, Result, Ok, Err, refl, sym, ap, ◌∙◌, subst, arith}
use Rattle.std.proofs.lemmas.Bool.Decides.{nat_tests}
use Rattle.std.specs.Prelude.{if◌then◌else◌}
use Rattle.slate_ids.specs.Ids.{is_db_path}
use Rattle.slate_ids.specs.declared.object_path.ObjectPath.{ObjectPath}
use Rattle.slate_ids.specs.declared.error.SlateDBError.{SlateDBError}
use Rattle.slate_ids.specs.declared.error.SlateDBError.TheVariants.{TransactionalObjectVersionExists}
use Rattle.slate_store.specs.Machines.{Stay, End}
use Rattle.slate_store.specs.Store.{Store, Outcome, object_at, stored, put_new, listed, under, taken, effect}
use Rattle.slate_store.specs.declared.mark.Mark.{Mark}
use Rattle.slate_store.specs.declared.mark.Mark.TheVariants.{Good, Fail, Lost}
use Rattle.slate_store.specs.declared.object.StoredObject.{StoredObject}
use Rattle.slate_store.specs.declared.store_answer.StoreAnswer.{StoreAnswer}
use Rattle.slate_store.specs.declared.store_answer.StoreAnswer.TheVariants.{Fault}
use Rattle.slate_store.specs.declared.store_call.StoreCall.TheVariants.{PutNew}
use Rattle.slate_txn_log.specs.Boundary.{greatest}
use Rattle.slate_txn_log.specs.LogPaths.{version_path, folder}
use Rattle.slate_txn_log.specs.ReadPhase.{read_asks, read_goes, listed_goes, got_goes, decoded_goes, boundary_goes}
use Rattle.slate_txn_log.specs.CommitPhase.{commit_asks, commit_goes, bounded_goes}
use Rattle.slate_txn_log.specs.declared.commit_phase.CommitPhase.TheVariants as committing
use Rattle.slate_txn_log.specs.declared.read_phase.ReadPhase.{ReadPhase}
use Rattle.slate_txn_log.specs.declared.read_phase.ReadPhase.TheVariants as reading
use Rattle.slate_cluster_protocol.specs.Chains.{Link, Log, link_at, with_link, bytes_of, link_bytes, bound_in}
use Rattle.slate_cluster_protocol.specs.World.{wrote}
use Rattle.slate_cluster_laws.specs.LogsAtEnd.{HasWritten}
use Rattle.slate_cluster_laws.proofs.Stores.{IsTidy}
use Rattle.slate_cluster_laws.proofs.Lists.{listed_small}
use Rattle.slate_cluster_chain_laws.proofs.Links.{decodes}
use Rattle.slate_cluster_chain_laws.proofs.LogRules.{IsLog}
use Rattle.slate_cluster_laws.proofs.Facts.{IsSound, IsValue, Holds, HoldsBy, IsNext, ReadKnows, ReadBrings, CommitBrings}
use Rattle.slate_cluster_laws.proofs.Puts.{Leaves, leaves_not, put_leaves, put_written}

-- the chain after a put, where it wrote
abbrev pub chain_if : {V A : Type 0} → Bool → Link V A → List (Link V A) → List (Link V A)
chain_if true l c = with_link l c
chain_if false l c = c

pub above_test : (n b : ℕ) → nat_le n b ≡ false → b < n
above_test n b h = grind (arith, nat_tests)

wrote_not : (n : ℕ) → nat_lt n n ≡ false
wrote_not n = grind (arith, nat_tests)

wrote_one : (n : ℕ) → nat_lt n (n + 1) ≡ true
wrote_one n = grind (arith, nat_tests)

module _ {V A : Type 0} (log : Log V A) (laws : IsLog log) (db : List ℕ) (s : Store) (c : List (Link V A)) (i : IsSound log db s c) where
  -- what stands above the boundary has the committed value
  pub got_holds : (n : ℕ) (object : StoredObject) (v : V) → n < 2 ^ 64 → object_at (version_path log.kind db n) s ≡ Some object → log.decoded object.bytes ≡ Ok v → Holds log db s c n v
  got_holds n object v small at is = record { same = λ b read lt. found b read lt (link_at n c) refl }
    where
      found : (b : ℕ) → bound_in log db s ≡ Some b → b < n → (o : Option (Link V A)) → link_at n c ≡ o → IsValue c n v
      found b read lt o e =
          let same : b ≡ i.bound = cc (i.read, read) in
          let stands = i.above n (subst (λ x. x < n) same lt) small in
          by_link o e (sym (ap bytes_of at) ∙ (stands ∙ ap link_bytes e))
        where
          by_link : (o : Option (Link V A)) → link_at n c ≡ o → Some object.bytes ≡ link_bytes o → IsValue c n v
          by_link None e h = absurd cc
          by_link (Some l) e h =
              let same : object.bytes ≡ l.bytes = cc in
              let twice : Ok l.value ≡ Ok v = sym (decodes log laws n l c i.chain e) ∙ (ap log.decoded (sym same) ∙ is) in
              record { link = l; at = e; value = cc }

  -- ---- reads

  listed_brings : (n : Option ℕ) → IfSome n (λ k. k < 2 ^ 64) → ReadBrings log db s c (listed_goes n)
  listed_brings None h = tt
  listed_brings (Some n) h = h

  decoded_brings : (n : ℕ) (object : StoredObject) (r : Result V SlateDBError) → n < 2 ^ 64 → object_at (version_path log.kind db n) s ≡ Some object → log.decoded object.bytes ≡ r → ReadBrings log db s c (decoded_goes n r)
  decoded_brings n object (Ok v) small at is = got_holds n object v small at is
  decoded_brings n object (Err e) small at is = tt

  got_brings : (n : ℕ) (o : Option StoredObject) → n < 2 ^ 64 → object_at (version_path log.kind db n) s ≡ o → ReadBrings log db s c (got_goes log.decoded n o)
  got_brings n None small at = tt
  got_brings n (Some object) small at = decoded_brings n object (log.decoded object.bytes) small at refl

  read_test : (n : ℕ) (v : V) (b : ℕ) (t : Bool) → nat_le n b ≡ t → bound_in log db s ≡ Some b → Holds log db s c n v
      → ReadBrings log db s c (if t then Stay reading.Listing else End reading.Over (Ok (Some (n, v))))
  read_test n v b true is read h = tt
  read_test n v b false is read h = h.same b read (above_test n b is)

  bound_brings : (n : ℕ) (v : V) (b : Option ℕ) → bound_in log db s ≡ b → Holds log db s c n v → ReadBrings log db s c (boundary_goes n v b)
  bound_brings n v None read h = tt
  bound_brings n v (Some b) read h = read_test n v b (nat_le n b) refl read h

  -- what a step of a read leaves and brings
  pub record AfterRead (phase : ReadPhase V) (o : Outcome) : Type 0 where
    pub same : o.store ≡ s
    pub brings : ReadBrings log db s c (read_goes log.kind log.decoded phase o.answer)

  fault_read : (phase : ReadPhase V) → ReadBrings log db s c (read_goes log.kind log.decoded phase Fault)
  fault_read reading.Listing = tt
  fault_read (reading.Getting n) = tt
  fault_read (reading.Bounding n v) = tt
  fault_read reading.Over = tt

  pub read_step : (tidy : IsTidy s.objects) (phase : ReadPhase V) (mark : Mark) (moment : ℤ) → ReadKnows log db s c phase → AfterRead phase (effect mark (read_asks db log.kind phase) moment s)
  read_step tidy reading.Listing Good moment h = record { same = refl; brings = listed_brings (greatest log.kind (listed (folder log.kind db) s)) (listed_small log.kind (folder log.kind db) s tidy) }
  read_step tidy reading.Listing Fail moment h = record { same = refl; brings = tt }
  read_step tidy reading.Listing Lost moment h = record { same = refl; brings = tt }
  read_step tidy (reading.Getting n) Good moment h = record { same = refl; brings = got_brings n (object_at (version_path log.kind db n) s) h refl }
  read_step tidy (reading.Getting n) Fail moment h = record { same = refl; brings = tt }
  read_step tidy (reading.Getting n) Lost moment h = record { same = refl; brings = tt }
  read_step tidy (reading.Bounding n v) Good moment h = record { same = refl; brings = bound_brings n v (bound_in log db s) refl h }
  read_step tidy (reading.Bounding n v) Fail moment h = record { same = refl; brings = tt }
  read_step tidy (reading.Bounding n v) Lost moment h = record { same = refl; brings = tt }
  read_step tidy reading.Over mark moment h = absurd h

  -- ---- commits

  module _ (author : A) where
    commit_test : (n : ℕ) (v : V) (b : ℕ) (t : Bool) → nat_le n b ≡ t → bound_in log db s ≡ Some b → HoldsBy log db s c author n v
        → CommitBrings log db s c author (if t then End committing.Over (Err (TransactionalObjectVersionExists n (Some b))) else End committing.Over (Ok (n, v)))
    commit_test n v b true is read h = tt
    commit_test n v b false is read h = h.same b read (above_test n b is)

    bounded_brings : (n : ℕ) (v : V) (b : Option ℕ) → bound_in log db s ≡ b → HoldsBy log db s c author n v → CommitBrings log db s c author (bounded_goes n v b)
    bounded_brings n v None read h = tt
    bounded_brings n v (Some b) read h = commit_test n v b (nat_le n b) refl read h

    -- what the read of the boundary after a put brings
    pub record AfterBound (n : ℕ) (v : V) (o : Outcome) : Type 0 where
      pub same : o.store ≡ s
      pub brings : CommitBrings log db s c author (commit_goes (committing.Bounding n v) o.answer)

    pub bound_step : (n : ℕ) (v : V) (mark : Mark) (moment : ℤ) → HoldsBy log db s c author n v → AfterBound n v (effect mark (commit_asks db log.kind (committing.Bounding n v)) moment s)
    bound_step n v Good moment h = record { same = refl; brings = bounded_brings n v (bound_in log db s) refl h }
    bound_step n v Fail moment h = record { same = refl; brings = tt }
    bound_step n v Lost moment h = record { same = refl; brings = tt }

    module _ (named : is_db_path db ≡ true) (n : ℕ) (bytes : List ℕ) (v : V) (moment : ℤ) (h : IsNext log c author n bytes v) where
      abbrev put : Link V A
      put = record { number = n; bytes = bytes; value = log.normal v; by = Some author }

      -- what the put leaves and brings
      pub record AfterPutting (o : Outcome) : Type 0 where
        pub leaves : Leaves log db author s c o.store (chain_if (wrote s o.store) put c)
        pub brings : CommitBrings log db o.store (chain_if (wrote s o.store) put c) author (commit_goes (committing.Putting n bytes v) o.answer)

      abbrev LeavesIf : StoreAnswer → Store → Bool → Type 0
      LeavesIf answer s' b = Leaves log db author s c s' (chain_if b put c) × CommitBrings log db s' (chain_if b put c) author (commit_goes (committing.Putting n bytes v) answer)

      after_of : (o : Outcome) (b : Bool) → wrote s o.store ≡ b → LeavesIf o.answer o.store b → AfterPutting o
      after_of o b e l =
          let r = subst (LeavesIf o.answer o.store) (sym e) l in
          record { leaves = r.0; brings = r.1 }

      abbrev path : ObjectPath
      path = version_path log.kind db n

      abbrev outcome : Option StoredObject → Mark → Outcome
      outcome o mark = under mark (put_new o path bytes moment s) s

      not_put : (answer : StoreAnswer) → CommitBrings log db s c author (commit_goes (committing.Putting n bytes v) answer) → AfterPutting (record { store = s; answer = answer })
      not_put answer b = after_of (record { store = s; answer = answer }) false (wrote_not s.last_tag) (leaves_not log db author s c i, b)

      is_put : (answer : StoreAnswer) → object_at path s ≡ None
          → (HoldsBy log db (stored path bytes moment s) (with_link put c) author n v → CommitBrings log db (stored path bytes moment s) (with_link put c) author (commit_goes (committing.Putting n bytes v) answer))
          → AfterPutting (record { store = stored path bytes moment s; answer = answer })
      is_put answer absent b =
          let p = put_leaves log db named laws author s c n bytes v moment i h absent in
          after_of (record { store = stored path bytes moment s; answer = answer }) true (wrote_one s.last_tag) (p.leaves, b p.holds)

      by_object : (o : Option StoredObject) (mark : Mark) → object_at path s ≡ o → AfterPutting (outcome o mark)
      by_object (Some object) Good at = not_put _ tt
      by_object (Some object) Fail at = not_put _ tt
      by_object (Some object) Lost at = not_put _ tt
      by_object None Good at = is_put _ at (λ holds. holds)
      by_object None Fail at = not_put _ tt
      by_object None Lost at = is_put _ at (λ holds. tt)

      pub put_step : (mark : Mark) → AfterPutting (effect mark (commit_asks db log.kind (committing.Putting n bytes v)) moment s)
      put_step mark = by_object (object_at path s) (taken mark (PutNew path bytes) s) refl

      -- a put that wrote found no object at its path
      found_none : (o : Option StoredObject) (mark : Mark) → object_at path s ≡ o → wrote s (outcome o mark).store ≡ true → object_at path s ≡ None
      found_none (Some object) Good at did = absurd (cc (did, wrote_not s.last_tag))
      found_none (Some object) Fail at did = absurd (cc (did, wrote_not s.last_tag))
      found_none (Some object) Lost at did = absurd (cc (did, wrote_not s.last_tag))
      found_none None mark at did = at

      pub put_wrote : (mark : Mark) → wrote s (effect mark (commit_asks db log.kind (committing.Putting n bytes v)) moment s).store ≡ true → HasWritten log db s put c (with_link put c)
      put_wrote mark did = put_written log db named laws author s c n bytes v moment i h (found_none (object_at path s) (taken mark (PutNew path bytes) s) refl did)
