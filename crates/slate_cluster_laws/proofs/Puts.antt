-- What a put leaves of a log.
use Rattle.std.proofs.Common.{◌≡◌, ◌≢◌, ℕ, ℤ, ◌+◌, ◌<◌, ◌≤◌, ◌^◌, zero, suc, nat_lt, Bool, true, false, List, [], ◌∷◌, Option, Some, None, Ok, ◌⊎◌, inl, inr, ⊎_elim, refl, sym, ap, ◌∙◌, subst, arith}
use Rattle.std.proofs.lemmas.Bool.Decides.{nat_tests}
use Rattle.slate_ids.specs.Ids.{is_db_path}
use Rattle.slate_ids.specs.declared.object_path.ObjectPath.{ObjectPath}
use Rattle.slate_store.specs.Store.{Store, object_at, stored, under, whole}
use Rattle.slate_store.specs.declared.mark.Mark.{Mark}
use Rattle.slate_store.specs.declared.mark.Mark.TheVariants.{Good, Fail, Lost}
use Rattle.slate_store.specs.declared.store_call.StoreCall.TheVariants.{Put}
use Rattle.slate_store.specs.declared.object.StoredObject.{StoredObject}
use Rattle.slate_txn_log.specs.Boundary.{boundary_got}
use Rattle.slate_txn_log.specs.LogPaths.{version_path, boundary_path}
use Rattle.slate_cluster_protocol.specs.Chains.{Link, Log, link_at, top, if_new, with_link, IsChain, Follows, bytes_of, link_bytes, bound_in, AgreesAt, Changed}
use Rattle.slate_cluster_protocol.specs.Chains.Changed.{Stays, Gets}
use Rattle.slate_cluster_protocol.specs.Chains.IsFirst.{Begins}
use Rattle.slate_store.proofs.LookUps.{at_put, at_else}
use Rattle.slate_cluster_chain_laws.proofs.Links.{link_here, link_there, same_or_not, first_number, some_below, next_is_top, at_most}
use Rattle.slate_cluster_protocol.specs.Reach.{names_top, IsNeeded, IsSpare}
use Rattle.slate_cluster_protocol.specs.Reach.IsNeeded.{Greatest, Named}
use Rattle.slate_cluster_laws.specs.LogsAtEnd.{HasWritten}
use Rattle.slate_cluster_laws.specs.LogsAtEnd.HasWritten.{Joins, ComesLate}
use Rattle.slate_cluster_laws.proofs.Paths.{IsElsewhere, versions_apart, boundary_apart}
use Rattle.slate_cluster_chain_laws.proofs.Spares.{stays_unnamed}
use Rattle.slate_cluster_chain_laws.proofs.LogRules.IsMade.{OfVersion, OfNone}
use Rattle.slate_cluster_chain_laws.proofs.LogRules.{IsLog, IsMade}
use Rattle.slate_cluster_laws.proofs.Facts.{IsCommitted, IsSound, HoldsBy, IsNext, Grows}

-- what one effect leaves of a log, by an author
pub record Leaves {V A : Type 0} (log : Log V A) (db : List ℕ) (author : A) (s : Store) (c : List (Link V A)) (s' : Store) (c' : List (Link V A)) : Type 0 where
  pub sound : IsSound log db s' c'
  pub grows : Grows log db s c s' c'
  pub changed : Changed (λ a. a ≡ author) c c'

-- a committed number is one of 64 bits
pub committed_small : {V A : Type 0} (log : Log V A) (db : List ℕ) (s : Store) (c : List (Link V A)) → IsSound log db s c → (k : ℕ) → IsCommitted log db s c k → k < 2 ^ 64
committed_small log db s c i k h = let le = at_most log k h.link c i.chain h.at in let small = i.small in omega arith

is_less : (a b : ℕ) → nat_lt a b ≡ true → a < b
is_less a b h = grind (arith, nat_tests)

not_less : (a b : ℕ) → nat_lt a b ≡ false → b ≤ a
not_less a b h = grind (arith, nat_tests)

-- the number after the greatest is above the boundary
above_all : (b t n : ℕ) → (0 < b → b < t) → n ≡ t + 1 → b < n
above_all zero t n below e = omega arith
above_all (suc b) t n below e = let lt = below (omega arith) in omega arith

module _ {V A : Type 0} (log : Log V A) (db : List ℕ) where
  pub grows_not : (s : Store) (c : List (Link V A)) → Grows log db s c s c
  grows_not s c = record { bound = λ b read. (b, read, omega arith); later = omega arith; tags = λ o at le. at; rises = omega arith; spares = λ k h. h; kept = λ k l h. h }

  pub leaves_not : (author : A) (s : Store) (c : List (Link V A)) → IsSound log db s c → Leaves log db author s c s c
  leaves_not author s c i = record { sound = i; grows = grows_not s c; changed = Stays refl }

  -- a put elsewhere leaves the log as it is
  module _ (s : Store) (c : List (Link V A)) (p : ObjectPath) (bytes : List ℕ) (moment : ℤ) (away : IsElsewhere log.kind db p) where
    same_object : object_at (boundary_path log.kind db) (stored p bytes moment s) ≡ object_at (boundary_path log.kind db) s
    same_object = at_else p (boundary_path log.kind db) bytes moment s away.boundary

    same_bound : bound_in log db (stored p bytes moment s) ≡ bound_in log db s
    same_bound = ap boundary_got same_object

    pub elsewhere_grows : Grows log db s c (stored p bytes moment s) c
    elsewhere_grows = record { bound = λ b read. (b, sym same_bound ∙ read, omega arith); later = omega arith; tags = λ o at le. sym same_object ∙ at; rises = omega arith; spares = λ k h. h; kept = λ k l h. h }

    still_stands : (k : ℕ) → IsCommitted log db s c k → k < 2 ^ 64 → IsCommitted log db (stored p bytes moment s) c k
    still_stands k h small = record { link = h.link; at = h.at; stands = ap bytes_of (at_else p (version_path log.kind db k) bytes moment s (away.version k small)) ∙ h.stands }

    pub elsewhere_sound : IsSound log db s c → IsSound log db (stored p bytes moment s) c
    elsewhere_sound i = record {
      chain = i.chain;
      small = i.small;
      bound = i.bound;
      read = same_bound ∙ i.read;
      below = i.below;
      above = λ k lt small. ap bytes_of (at_else p (version_path log.kind db k) bytes moment s (away.version k small)) ∙ i.above k lt small;
      needed = λ k h. still_stands k (i.needed k h) (committed_small log db s c i k (i.needed k h));
      tagged = λ o at. let le = i.tagged o (sym same_object ∙ at) in omega arith;
    }

  -- so does the put of an object elsewhere, whatever the mark
  pub elsewhere_leaves : (author : A) (s : Store) (c : List (Link V A)) (p : ObjectPath) (bytes : List ℕ) (moment : ℤ) → IsElsewhere log.kind db p → IsSound log db s c → (mark : Mark)
      → Leaves log db author s c (under mark (whole (Put p bytes) moment s) s).store c
  elsewhere_leaves author s c p bytes moment away i Good = record { sound = elsewhere_sound s c p bytes moment away i; grows = elsewhere_grows s c p bytes moment away; changed = Stays refl }
  elsewhere_leaves author s c p bytes moment away i Fail = leaves_not author s c i
  elsewhere_leaves author s c p bytes moment away i Lost = record { sound = elsewhere_sound s c p bytes moment away i; grows = elsewhere_grows s c p bytes moment away; changed = Stays refl }

  -- the put of the next version
  module _ (named : is_db_path db ≡ true) (laws : IsLog log) (author : A) (s : Store) (c : List (Link V A)) (n : ℕ) (bytes : List ℕ) (v : V) (moment : ℤ)
      (i : IsSound log db s c) (h : IsNext log c author n bytes v) (absent : object_at (version_path log.kind db n) s ≡ None) where
    abbrev new : Link V A
    new = record { number = n; bytes = bytes; value = log.normal v; by = Some author }

    abbrev after : Store
    after = stored (version_path log.kind db n) bytes moment s

    put_object : object_at (boundary_path log.kind db) after ≡ object_at (boundary_path log.kind db) s
    put_object = at_else (version_path log.kind db n) (boundary_path log.kind db) bytes moment s (boundary_apart db named log.kind n h.small)

    put_bound : bound_in log db after ≡ bound_in log db s
    put_bound = ap boundary_got put_object

    put_tagged : (o : StoredObject) → object_at (boundary_path log.kind db) after ≡ Some o → o.e_tag ≤ after.last_tag
    put_tagged o at = let le = i.tagged o (sym put_object ∙ at) in omega arith

    put_here : bytes_of (object_at (version_path log.kind db n) after) ≡ Some bytes
    put_here = ap bytes_of (at_put (version_path log.kind db n) bytes moment s)

    put_there : (k : ℕ) → k < 2 ^ 64 → k ≢ n → object_at (version_path log.kind db k) after ≡ object_at (version_path log.kind db k) s
    put_there k small ne = at_else (version_path log.kind db n) (version_path log.kind db k) bytes moment s (versions_apart db named log.kind k n small h.small ne)

    -- what holds of the number of a put that isn't committed yet
    pub record IsFresh : Type 0 where
      pub free : link_at n c ≡ None
      pub number : n ≡ top c + 1
      pub chain : IsChain log (new ∷ c)
      pub names : (k : ℕ) → log.names (log.normal v) k ≡ true → (k ≡ n) ⊎ (names_top log c k ≡ true)
      pub unnamed : (k : ℕ) → IsSpare log c k → log.names (log.normal v) k ≡ false

    -- its number is not committed yet, and it was made of the version before
    module _ (fresh : link_at n c ≡ None) (old : Link V A) (at : link_at old.number c ≡ Some old) (number : n ≡ old.number + 1)
        (makes : log.makes author old.number old.value ≡ Ok (Some v)) (lawful : log.refusal old.number old.value v (log.right author) ≡ None) (passed : log.fence author old.value ≡ None) where
      fresh_next : link_at (old.number + 1) c ≡ None
      fresh_next = subst (λ k. link_at k c ≡ None) number fresh

      at_top : old.number ≡ top c
      at_top = next_is_top log old.number old c i.chain at fresh_next

      follows : Follows log old new
      follows = record {
        author = author;
        by = refl;
        number = number;
        made = v;
        makes = makes;
        bytes = h.encodes;
        value = refl;
        lawful = laws.plain old.number old.value v (log.right author) lawful;
        passed = passed;
      }

      longer : (d : List (Link V A)) → IsChain log d → link_at old.number d ≡ Some old → old.number ≡ top d → IsChain log (new ∷ d)
      longer [] chain found e = absurd cc
      longer (l ∷ d) chain found e =
          let same : old ≡ l = cc (link_here old.number l d (sym e), found) in
          (subst (λ (o : Link V A). Follows log o new) same follows, chain)

      -- the value before is the greatest one
      old_top : (d : List (Link V A)) → link_at old.number d ≡ Some old → old.number ≡ top d → (k : ℕ) → names_top log d k ≡ log.names old.value k
      old_top [] found e k = absurd cc
      old_top (l ∷ d) found e k = let same : old ≡ l = cc (link_here old.number l d (sym e), found) in ap (λ (x : Link V A). log.names x.value k) (sym same)

      normal_lawful : log.refusal old.number old.value (log.normal v) (log.right author) ≡ None
      normal_lawful = laws.plain old.number old.value v (log.right author) lawful

      put_names : (k : ℕ) → log.names (log.normal v) k ≡ true → (k ≡ n) ⊎ (names_top log c k ≡ true)
      put_names k named =
          ⊎_elim
          (λ (e : k ≡ old.number + 1). inl (e ∙ sym number))
          (λ (o : log.names old.value k ≡ true). inr (old_top c at at_top k ∙ o))
          (laws.known old.number old.value (log.normal v) (log.right author) k normal_lawful named)

      put_unnamed : (k : ℕ) → IsSpare log c k → log.names (log.normal v) k ≡ false
      put_unnamed k w =
          let lt = w.below in
          let e = at_top in
          stays_unnamed log laws old.number old.value (log.normal v) k (log.right author) normal_lawful (λ (same : k ≡ old.number + 1). omega arith) (sym (old_top c at at_top k) ∙ w.unnamed)

      pub after_old : IsFresh
      after_old = let e = at_top in record { free = fresh; number = number ∙ ap (λ k. k + 1) e; chain = longer c i.chain at e; names = put_names; unnamed = put_unnamed }

    -- it was made where there was no version
    module _ (fresh : link_at n c ≡ None) (number : n ≡ 1) (makes : log.first author ≡ Ok (Some v)) where
      none_there : (d : List (Link V A)) → IsChain log d → link_at 1 d ≡ None → d ≡ []
      none_there [] chain none = refl
      none_there (first ∷ []) chain none = absurd (cc (link_here 1 first [] (first_number log first chain), none))
      none_there (l ∷ m ∷ d) chain none = let up = chain.0.number in absurd (some_below log 1 (l ∷ m ∷ d) chain (omega arith) (omega arith) none)

      empty : c ≡ []
      empty = none_there c i.chain (subst (λ k. link_at k c ≡ None) number fresh)

      alone : (d : List (Link V A)) → d ≡ [] → IsChain log (new ∷ d)
      alone [] e = Begins author v number refl makes h.encodes refl
      alone (l ∷ d) e = absurd cc

      pub after_none : IsFresh
      after_none = record {
        free = fresh;
        number = number ∙ sym (ap (λ d. top d + 1) empty);
        chain = alone c empty;
        names = λ k named. inl (laws.first author v k makes named ∙ sym number);
        unnamed = λ k w. let lt : k < 0 = subst (λ d. k < top d) empty w.below in absurd (omega arith);
      }

    -- either way
    module _ (f : IsFresh) where
      put_stands : (k : ℕ) → i.bound < k → k < 2 ^ 64 → AgreesAt log db after (new ∷ c) k
      put_stands k lt small =
          ⊎_elim
          (λ (e : k ≡ n). subst (λ j. AgreesAt log db after (new ∷ c) j) (sym e) (put_here ∙ sym (ap link_bytes (link_here n new c refl))))
          (λ (ne : k ≢ n). ap bytes_of (put_there k small ne) ∙ (i.above k lt small ∙ sym (ap link_bytes (link_there k new c (λ (e : n ≡ k). ne (sym e))))))
          (same_or_not k n)

      new_committed : (k : ℕ) → k ≡ n → IsCommitted log db after (new ∷ c) k
      new_committed k e = subst (λ j. IsCommitted log db after (new ∷ c) j) (sym e) (record { link = new; at = link_here n new c refl; stands = put_here })

      old_committed : (k : ℕ) → IsCommitted log db s c k → IsCommitted log db after (new ∷ c) k
      old_committed k w =
          let free = f.free in
          let ne : k ≢ n = λ (e : k ≡ n). cc (ap (λ j. link_at j c) e, w.at, free) in
          record {
            link = w.link;
            at = link_there k new c (λ (e : n ≡ k). ne (sym e)) ∙ w.at;
            stands = ap bytes_of (put_there k (committed_small log db s c i k w) ne) ∙ w.stands;
          }

      put_needed : (k : ℕ) → IsNeeded log (new ∷ c) k → IsCommitted log db after (new ∷ c) k
      put_needed k (Greatest pos e) = new_committed k e
      put_needed k (Named named) = ⊎_elim (λ (e : k ≡ n). new_committed k e) (λ (o : names_top log c k ≡ true). old_committed k (i.needed k (Named o))) (f.names k named)

      put_spares : (k : ℕ) → IsSpare log c k → IsSpare log (new ∷ c) k
      put_spares k w =
          let up = f.number in
          let lt = w.below in
          record { below = omega arith; unnamed = f.unnamed k w }

      pub put_new : Leaves log db author s c after (new ∷ c)
      put_new =
          let up = f.number in
          let lt = i.below in
          let free = f.free in
          record {
            sound = record {
              chain = f.chain;
              small = h.small;
              bound = i.bound;
              read = put_bound ∙ i.read;
              below = λ pos. let low = lt pos in omega arith;
              above = put_stands;
              needed = put_needed;
              tagged = put_tagged;
            };
            grows = record {
              bound = λ b read. (b, sym put_bound ∙ read, omega arith);
              later = omega arith;
              tags = λ o at le. sym put_object ∙ at;
              rises = omega arith;
              spares = put_spares;
              kept = λ k l at. link_there k new c (λ (e' : n ≡ k). absurd (cc (free, at, e'))) ∙ at;
            };
            changed = Gets new author refl refl refl;
          }

    -- its number was committed, and collected since: a late put, which commits nothing
    module _ (taken : Link V A) (late : link_at n c ≡ Some taken) where
      late_stands : (k : ℕ) → i.bound < k → k < 2 ^ 64 → AgreesAt log db after c k
      late_stands k lt small =
          ⊎_elim
          (λ (e : k ≡ n). absurd (nothing (subst (λ j. AgreesAt log db s c j) e (i.above k lt small))))
          (λ (ne : k ≢ n). ap bytes_of (put_there k small ne) ∙ i.above k lt small)
          (same_or_not k n)
        where
          nothing : AgreesAt log db s c n → ⊥
          nothing stands = cc (ap bytes_of absent, ap link_bytes late, stands)

      -- a version that stands is none whose object was absent
      late_committed : (k : ℕ) → IsCommitted log db s c k → IsCommitted log db after c k
      late_committed k w =
          let ne : k ≢ n = λ (e : k ≡ n). cc (ap (λ j. bytes_of (object_at (version_path log.kind db j) s)) e, w.stands, ap bytes_of absent) in
          record { link = w.link; at = w.at; stands = ap bytes_of (put_there k (committed_small log db s c i k w) ne) ∙ w.stands }

      put_late : Leaves log db author s c after c
      put_late = record {
        sound = record {
          chain = i.chain;
          small = i.small;
          bound = i.bound;
          read = put_bound ∙ i.read;
          below = i.below;
          above = late_stands;
          needed = λ k w. late_committed k (i.needed k w);
          tagged = put_tagged;
        };
        grows = record { bound = λ b read. (b, sym put_bound ∙ read, omega arith); later = omega arith; tags = λ o at le. sym put_object ∙ at; rises = omega arith; spares = λ k w. w; kept = λ k l at. at };
        changed = Stays refl;
      }

      -- so it is the author's where the boundary has not passed it
      late_holds : HoldsBy log db after c author n v
      late_holds = record {
        same = λ b read lt.
            let same_b : b ≡ i.bound = cc (put_bound, i.read, read) in
            let below : i.bound < n = subst (λ x. x < n) same_b lt in
            absurd (cc (ap bytes_of absent, ap link_bytes late, i.above n below h.small));
      }

    fresh_number : link_at n c ≡ None → IsMade log c author n v → IsFresh
    fresh_number e (OfVersion old at number makes lawful passed) = after_old e old at number makes lawful passed
    fresh_number e (OfNone number makes) = after_none e number makes

    new_holds : HoldsBy log db after (new ∷ c) author n v
    new_holds = record { same = λ b read lt. record { link = new; at = link_here n new c refl; bytes = h.encodes; value = refl; by = refl } }

    -- either way
    pub record AfterPut (c' : List (Link V A)) : Type 0 where
      pub leaves : Leaves log db author s c after c'
      pub holds : HoldsBy log db after c' author n v

    after_put : (o : Option (Link V A)) → link_at n c ≡ o → AfterPut (if_new o new c)
    after_put None e = record { leaves = put_new (fresh_number e h.made); holds = new_holds }
    after_put (Some l) e = record { leaves = put_late l e; holds = late_holds l e }

    pub put_leaves : AfterPut (with_link new c)
    put_leaves = after_put (link_at n c) refl

    -- a number that is taken while its object is absent is at or below the boundary
    taken_bounded : (l : Link V A) → link_at n c ≡ Some l → n ≤ i.bound
    taken_bounded l e = test (nat_lt i.bound n) refl
      where
        test : (b : Bool) → nat_lt i.bound n ≡ b → n ≤ i.bound
        test true is = absurd (cc (ap bytes_of absent, ap link_bytes e, i.above n (is_less i.bound n is) h.small))
        test false is = not_less i.bound n is

    put_does : (o : Option (Link V A)) → link_at n c ≡ o → HasWritten log db s new c (if_new o new c)
    put_does None e = let f = fresh_number e h.made in Joins i.bound i.read (above_all i.bound (top c) n i.below f.number) f.number refl
    put_does (Some l) e = ComesLate i.bound i.read (taken_bounded l e) refl

    -- what it does to the chain
    pub put_written : HasWritten log db s new c (with_link new c)
    put_written = put_does (link_at n c) refl
