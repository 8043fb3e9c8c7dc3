-- One step of an advance, on any log and under any mark: the boundary is moved up and stays below the greatest.
use Rattle.std.proofs.Common.{◌≡◌, ℕ, ℤ, ◌<◌, ◌≤◌, ◌==◌, nat_le, Bool, true, false, List, Option, Some, None, Ok, refl, ap, ◌∙◌, arith}
use Rattle.std.proofs.lemmas.Bool.Decides.{nat_tests}
use Rattle.std.specs.Prelude.{if◌then◌else◌, decimal}
use Rattle.slate_ids.specs.Ids.{is_db_path}
use Rattle.slate_ids.specs.declared.object_path.ObjectPath.{ObjectPath}
use Rattle.slate_store.specs.Machines.{Stay, End}
use Rattle.slate_store.specs.Store.{Store, Outcome, object_at, has_tag, put_new, replace, under, taken, effect}
use Rattle.slate_store.specs.declared.mark.Mark.{Mark}
use Rattle.slate_store.specs.declared.mark.Mark.TheVariants.{Good, Fail, Lost}
use Rattle.slate_store.specs.declared.object.StoredObject.{StoredObject}
use Rattle.slate_store.specs.declared.store_answer.StoreAnswer.{StoreAnswer}
use Rattle.slate_store.specs.declared.store_call.StoreCall.TheVariants.{PutNew, Replace}
use Rattle.slate_txn_log.specs.AdvancePhase.{advance_asks, advance_goes, read_goes_to, bound_goes}
use Rattle.slate_txn_log.specs.Boundary.{boundary_of, boundary_got}
use Rattle.slate_txn_log.specs.LogPaths.{boundary_path}
use Rattle.slate_txn_log.specs.declared.advance_phase.AdvancePhase.{AdvancePhase}
use Rattle.slate_txn_log.specs.declared.advance_phase.AdvancePhase.TheVariants.{Bounding, Creating, Replacing, Over}
use Rattle.slate_cluster_protocol.specs.Chains.{Link, Log, top}
use Rattle.slate_cluster_laws.proofs.Facts.{IsSound, IsAtMost, AdvanceKnows, AdvanceBrings, target}
use Rattle.slate_cluster_laws.proofs.Puts.{Leaves, leaves_not}
use Rattle.slate_cluster_laws.proofs.Moves.{move_leaves, move_reaches}

pub at_least : (n b : ℕ) → nat_le n b ≡ true → n ≤ b
at_least n b h = grind (arith, nat_tests)

no_more : (n b : ℕ) → nat_le n b ≡ false → b ≤ n
no_more n b h = grind (arith, nat_tests)

is_zero : (n : ℕ) → (n == 0) ≡ true → n ≡ 0
is_zero n h = grind (arith, nat_tests)

same_tag : (a b : ℕ) → (a == b) ≡ true → a ≡ b
same_tag a b h = grind (arith, nat_tests)

module _ {V A : Type 0} (log : Log V A) (db : List ℕ) (named : is_db_path db ≡ true) (author : A) (s : Store) (c : List (Link V A)) (i : IsSound log db s c) where
  abbrev path : ObjectPath
  path = boundary_path log.kind db

  -- what a step of an advance leaves and brings
  pub record AfterAdvance (phase : AdvancePhase) (o : Outcome) : Type 0 where
    pub leaves : Leaves log db author s c o.store c
    pub brings : AdvanceBrings log db o.store c (target phase) (advance_goes phase o.answer)

  unmoved : (phase : AdvancePhase) (answer : StoreAnswer) → AdvanceBrings log db s c (target phase) (advance_goes phase answer) → AfterAdvance phase (record { store = s; answer = answer })
  unmoved phase answer b = record { leaves = leaves_not log db author s c i; brings = b }

  -- ---- the boundary is read

  zero_brings : (n : ℕ) (t : Bool) → (n == 0) ≡ t → n < top c → AdvanceBrings log db s c n (if t then End Over (Ok tt) else Stay (Creating n))
  zero_brings n true is h = record { reached = λ b read. let zero = is_zero n is in omega arith }
  zero_brings n false is h = (refl, h)

  test_brings : (n b : ℕ) (o : StoredObject) (t : Bool) → nat_le n b ≡ t → object_at path s ≡ Some o → boundary_of o.bytes ≡ Some b → n < top c → AdvanceBrings log db s c n (if t then End Over (Ok tt) else Stay (Replacing n o.e_tag))
  test_brings n b o true is at read h = record {
    reached = λ k here. let same : b ≡ k = cc (ap boundary_got at, read, here) in let le = at_least n b is in omega arith;
  }
  test_brings n b o false is at read h = (
    refl,
    (
      h,
      record {
        given = i.tagged o at;
        most = λ p found same. (b, ap (λ (x : StoredObject). boundary_of x.bytes) (one p found) ∙ read, no_more n b is);
      },
    ),
  )
    where
      one : (p : StoredObject) → object_at path s ≡ Some p → p ≡ o
      one p found = cc (at, found)

  got_brings : (n : ℕ) (o : StoredObject) (b : Option ℕ) → object_at path s ≡ Some o → boundary_of o.bytes ≡ b → n < top c → AdvanceBrings log db s c n (read_goes_to n o.e_tag b)
  got_brings n o None at read h = tt
  got_brings n o (Some b) at read h = test_brings n b o (nat_le n b) refl at read h

  bound_brings : (n : ℕ) (o : Option StoredObject) → object_at path s ≡ o → n < top c → AdvanceBrings log db s c n (bound_goes n o)
  bound_brings n None at h = zero_brings n (n == 0) refl h
  bound_brings n (Some o) at h = got_brings n o (boundary_of o.bytes) at refl h

  -- ---- the boundary is made, where there is none

  absent_up : (n : ℕ) → object_at path s ≡ None → i.bound ≤ n
  absent_up n at = let zero : i.bound ≡ 0 = cc (i.read, ap boundary_got at) in omega arith

  created : (n : ℕ) (moment : ℤ) (o : Option StoredObject) (mark : Mark) → object_at path s ≡ o → n < top c → AfterAdvance (Creating n) (under mark (put_new o path (decimal n) moment s) s)
  created n moment (Some o) Good at h = unmoved (Creating n) _ (refl, h)
  created n moment (Some o) Fail at h = unmoved (Creating n) _ tt
  created n moment (Some o) Lost at h = unmoved (Creating n) _ tt
  created n moment None Good at h = record { leaves = move_leaves log db named author s c i n moment (absent_up n at) h; brings = move_reaches log db named author s c i n moment (absent_up n at) h }
  created n moment None Fail at h = unmoved (Creating n) _ tt
  created n moment None Lost at h = record { leaves = move_leaves log db named author s c i n moment (absent_up n at) h; brings = tt }

  -- ---- the boundary that was read is replaced

  tag_up : (n tag : ℕ) (o : Option StoredObject) → object_at path s ≡ o → has_tag tag o ≡ true → IsAtMost log db s tag n → i.bound ≤ n
  tag_up n tag None at has h = absurd cc
  tag_up n tag (Some o) at has h =
      let most = h.most o at (same_tag o.e_tag tag has) in
      let same : i.bound ≡ most.0 = cc (i.read, ap boundary_got at, most.1) in
      let le = most.2 in
      omega arith

  replaced : (n tag : ℕ) (moment : ℤ) (t : Bool) (mark : Mark) → has_tag tag (object_at path s) ≡ t → (n < top c) × IsAtMost log db s tag n → AfterAdvance (Replacing n tag) (under mark (replace t path (decimal n) moment s) s)
  replaced n tag moment false Good has h = unmoved (Replacing n tag) _ (refl, h.0)
  replaced n tag moment false Fail has h = unmoved (Replacing n tag) _ tt
  replaced n tag moment false Lost has h = unmoved (Replacing n tag) _ tt
  replaced n tag moment true Good has h = let up = tag_up n tag (object_at path s) refl has h.1 in record { leaves = move_leaves log db named author s c i n moment up h.0; brings = move_reaches log db named author s c i n moment up h.0 }
  replaced n tag moment true Fail has h = unmoved (Replacing n tag) _ tt
  replaced n tag moment true Lost has h = let up = tag_up n tag (object_at path s) refl has h.1 in record { leaves = move_leaves log db named author s c i n moment up h.0; brings = tt }

  pub advance_step : (phase : AdvancePhase) (mark : Mark) (moment : ℤ) → AdvanceKnows log db s c phase → AfterAdvance phase (effect mark (advance_asks db log.kind phase) moment s)
  advance_step (Bounding n) Good moment h = unmoved (Bounding n) _ (bound_brings n (object_at path s) refl h)
  advance_step (Bounding n) Fail moment h = unmoved (Bounding n) _ tt
  advance_step (Bounding n) Lost moment h = unmoved (Bounding n) _ tt
  advance_step (Creating n) mark moment h = created n moment (object_at path s) (taken mark (PutNew path (decimal n)) s) refl h
  advance_step (Replacing n tag) mark moment h = replaced n tag moment (has_tag tag (object_at path s)) (taken mark (Replace path tag (decimal n)) s) refl h
  advance_step Over mark moment h = absurd h
