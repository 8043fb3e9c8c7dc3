-- A read of the versions that checkpoints name over a store that serves it.
use Rattle.std.proofs.Common.{◌≡◌, ℕ, ◌⊎◌, inl, inr, pos, Bool, true, false, List, [], ◌∷◌, Option, Some, None, Result, Ok, Err, refl, sym, ap, ◌∙◌, subst, arith}
use Rattle.std.specs.Prelude.{◌&&◌, ◌||◌, ◌==◌, not}
use Rattle.std.specs.BTreeMap.{insert_entry}
use Rattle.std.specs.Ordering.{nat_cmp}
use Rattle.slate_ids.specs.Answers.{ran_out}
use Rattle.slate_ids.specs.declared.error.SlateDBError.{SlateDBError}
use Rattle.slate_ids.specs.declared.error.SlateDBError.TheVariants.{ManifestMissing}
use Rattle.slate_store.specs.StoreCalls.{Told}
use Rattle.slate_store.specs.Machines.{Stay, End}
use Rattle.slate_store.specs.CallRuns.{one_if}
use Rattle.slate_store.specs.Store.{Store, object_at}
use Rattle.slate_store.specs.declared.object.StoredObject.{StoredObject}
use Rattle.slate_store.specs.declared.store_answer.StoreAnswer.TheVariants.{Got}
use Rattle.slate_txn_log.specs.Commit.{never}
use Rattle.slate_txn_log.specs.LogPaths.{version_path}
use Rattle.slate_txn_log.specs.TryRead.{some_value, value_got}
use Rattle.slate_txn_log.specs.declared.log_kind.LogKind.TheVariants as logs
use Rattle.slate_model.specs.declared.manifest.Manifest.{Manifest}
use Rattle.slate_state_updates.specs.Checkpoints.{is_named}
use Rattle.slate_txn_laws.specs.Outside.{NotOutside, NeverOutside}
use Rattle.slate_txn_laws.specs.Ready.{bytes_of}
use Rattle.slate_txn_laws.specs.Serving.{Serves}
use Rattle.slate_txn_laws.proofs.Inside.{out_inside, same_error}
use Rattle.slate_txn_laws.proofs.Turns.{Rest, step, ended, before}
use Rattle.slate_state_referenced.specs.Named.{named_numbers}
use Rattle.slate_state_referenced.specs.Referenced.{Versions, ReferencedGoes, Referenced, ReadsAll, number_goes, rest_goes, referenced_asks, referenced_goes}
use Rattle.slate_state_referenced.specs.declared.referenced_phase.ReferencedPhase.{ReferencedPhase}
use Rattle.slate_state_referenced.specs.declared.referenced_phase.ReferencedPhase.TheVariants.{Getting, Over}
use Rattle.slate_state_complete.specs.ReadingNamed.{at_number, IsNamedBy, IsStored, ReferencedAnswers}
use Rattle.slate_state_complete.specs.ReadingNamed.ReferencedAnswers.{AreRead, IsMissing, Undecoded}
use Rattle.slate_state_complete.proofs.NamedLists.{same_told, other_told, same_number, not_same, has_number, named_tell, found_put, found_else}

true_or : (a b : Bool) → a ≡ true → (a || b) ≡ true
true_or a b h = ap (λ (x : Bool). x || b) h

or_true : (a b : Bool) → b ≡ true → (a || b) ≡ true
or_true true b h = refl
or_true false b h = h

or_rest : (a b : Bool) → a ≡ false → (a || b) ≡ true → b ≡ true
or_rest a b off h = sym (ap (λ (x : Bool). x || b) off) ∙ h

both_left : (a b : Bool) → (a && b) ≡ true → a ≡ true
both_left true b h = refl
both_left false b h = absurd cc

both_right : (a b : Bool) → (a && b) ≡ true → b ≡ true
both_right true b h = h
both_right false b h = absurd cc

not_told : (b : Bool) → not b ≡ true → b ≡ false
not_told true h = absurd cc
not_told false h = refl

calm : (left : List ℕ) (found : Versions) → one_if never (rest_goes left found) ≡ 0
calm [] found = refl
calm (j ∷ left) found = refl

module _ (db : List ℕ) (decoded : List ℕ → Result Manifest SlateDBError) (n : ℕ) (m : Manifest) (s : Store) where
  -- the version is found as it stands
  abbrev Has : ℕ → Versions → Type 0
  Has k found = (stored : Manifest) × IsStored db decoded s k stored × (at_number k found ≡ Some stored)

  -- what was found so far, with these numbers left
  record So (left : List ℕ) (found : Versions) : Type 0 where
    pub own : at_number n found ≡ Some m
    pub others : (k : ℕ) → has_number k left ≡ true → IsNamedBy n m k
    pub named : (k : ℕ) → IsNamedBy n m k → (has_number k left ≡ true) ⊎ Has k found
    pub alone : (k : ℕ) (x : Manifest) → at_number k found ≡ Some x → (k ≡ n) ⊎ IsNamedBy n m k

  none_left : (k : ℕ) (found : Versions) → (has_number k [] ≡ true) ⊎ Has k found → Has k found
  none_left k found (inl h) = absurd cc
  none_left k found (inr has) = has

  -- one more was got
  module _ (j : ℕ) (left : List ℕ) (found : Versions) (so : So (j ∷ left) found) (stored : Manifest) (is : IsStored db decoded s j stored) where
    abbrev more : Versions
    more = insert_entry nat_cmp found j stored

    own_one : IsNamedBy n m j
    own_one = so.others j (true_or (j == j) (has_number j left) (same_number j))

    still : (k : ℕ) → (j == k) ≡ false → at_number k more ≡ at_number k found
    still k ne = found_else j stored k (λ same. other_told j k ne (sym same)) found

    has_more : (k : ℕ) → (b : Bool) → (j == k) ≡ b → (has_number k (j ∷ left) ≡ true) ⊎ Has k found → (has_number k left ≡ true) ⊎ Has k more
    has_more k true at h = inr (subst (λ (i : ℕ). Has i more) (same_told j k at) (stored, is, found_put j stored found))
    has_more k false at (inl h) = inl (or_rest (j == k) (has_number k left) at h)
    has_more k false at (inr has) = inr (has.0, has.1, still k at ∙ has.2)

    alone_more : (k : ℕ) (x : Manifest) → (b : Bool) → (j == k) ≡ b → at_number k more ≡ Some x → (k ≡ n) ⊎ IsNamedBy n m k
    alone_more k x true at has = inr (subst (λ (i : ℕ). IsNamedBy n m i) (same_told j k at) own_one)
    alone_more k x false at has = so.alone k x (sym (still k at) ∙ has)

    one_more : So left more
    one_more = record {
      own = found_else j stored n (λ same. own_one.other (sym same)) found ∙ so.own;
      others = λ k h. so.others k (or_true (j == k) (has_number k left) h);
      named = λ k by. has_more k (j == k) refl (so.named k by);
      alone = λ k x has. alone_more k x (j == k) refl has;
    }

  -- the start
  start_so : So (named_numbers n m.core.checkpoints) ((n, m) ∷ [])
  start_so = record {
    own = found_put n m [];
    others = λ k h. by_both k (sym (named_tell n k [] m.core.checkpoints) ∙ h);
    named = λ k by. inl (named_tell n k [] m.core.checkpoints ∙ (ap (λ (b : Bool). b && not (k == n)) by.named ∙ ap not (not_same k n by.other)));
    alone = λ k x has. inl (by_number k x (k == n) refl has);
  } where
    by_both : (k : ℕ) → (is_named k m.core.checkpoints && not (k == n)) ≡ true → IsNamedBy n m k
    by_both k h = record { named = both_left _ _ h; other = other_told k n (not_told (k == n) (both_right (is_named k m.core.checkpoints) _ h)) }

    by_number : (k : ℕ) (x : Manifest) → (b : Bool) → (k == n) ≡ b → at_number k ((n, m) ∷ []) ≡ Some x → k ≡ n
    by_number k x true at has = same_told k n at
    by_number k x false at has = absurd (let off = found_else n m k (other_told k n at) [] in let none : None ≡ Some x = sym off ∙ has in cc)

  -- ---- the walk

  module _ (new : Told) (to : ReferencedPhase) (result : Result Versions SlateDBError) where
    abbrev Left : ReferencedGoes → Type 0
    Left from = Rest never (referenced_asks db) (referenced_goes decoded) (pos 0) 1 s from new to result

    abbrev Answers : Type 0
    Answers = ReferencedAnswers db decoded s n m result × (new.contents ≡ Some s)

    module _ (j : ℕ) (left : List ℕ) (found : Versions) (so : So (j ∷ left) found) (go_on : (more : Versions) → So left more → Left (rest_goes left more) → Answers) (rest : Left (Stay (Getting (j ∷ left) found))) where
      own_number : IsNamedBy n m j
      own_number = so.others j (true_or (j == j) (has_number j left) (same_number j))

      leads_to : (o : Option StoredObject) → object_at (version_path logs.Manifest db j) s ≡ o → referenced_goes decoded (Getting (j ∷ left) found) (Got (object_at (version_path logs.Manifest db j) s)) ≡ number_goes j left found (value_got decoded o)
      leads_to o at = ap (λ (o : Option StoredObject). number_goes j left found (value_got decoded o)) at

      read : (object : StoredObject) → object_at (version_path logs.Manifest db j) s ≡ Some object → (reply : Result Manifest SlateDBError) → decoded object.bytes ≡ reply → Answers
      read object at (Err e) refuses =
          let end = ended never (referenced_asks db) (referenced_goes decoded) (pos 0) 1 s Over (Err e) new to result (step never (referenced_asks db) (referenced_goes decoded) (pos 0) 1 1 s (Getting (j ∷ left) found) (End Over (Err e)) new to result rest (leads_to (Some object) at ∙ ap (λ (r : Result Manifest SlateDBError). number_goes j left found (some_value r)) refuses) (omega arith) (omega arith)) in
          (Undecoded j object.bytes e own_number (ap bytes_of at) refuses end.answer, end.contents)
      read object at (Ok stored) good =
          let quiet = calm left (insert_entry nat_cmp found j stored) in
          go_on (insert_entry nat_cmp found j stored) (one_more j left found so stored (record { bytes = object.bytes; stands = ap bytes_of at; reads = good }))
          (step never (referenced_asks db) (referenced_goes decoded) (pos 0) 1 1 s (Getting (j ∷ left) found) (rest_goes left (insert_entry nat_cmp found j stored)) new to result rest (leads_to (Some object) at ∙ ap (λ (r : Result Manifest SlateDBError). number_goes j left found (some_value r)) good) (omega arith) (omega (arith, quiet)))

      got : (o : Option StoredObject) → object_at (version_path logs.Manifest db j) s ≡ o → Answers
      got None at =
          let end = ended never (referenced_asks db) (referenced_goes decoded) (pos 0) 1 s Over (Err (ManifestMissing j)) new to result (step never (referenced_asks db) (referenced_goes decoded) (pos 0) 1 1 s (Getting (j ∷ left) found) (End Over (Err (ManifestMissing j))) new to result rest (leads_to None at) (omega arith) (omega arith)) in
          (IsMissing j own_number (ap bytes_of at) end.answer, end.contents)
      got (Some object) at = read object at (decoded object.bytes) refl

    walk : (left : List ℕ) (found : Versions) → So left found → Left (rest_goes left found) → Answers
    walk [] found so rest =
        let end = ended never (referenced_asks db) (referenced_goes decoded) (pos 0) 1 s Over (Ok found) new to result rest in
        (AreRead found (record { own = so.own; named = λ k by. none_left k found (so.named k by); alone = so.alone }) end.answer, end.contents)
    walk (j ∷ left) found so rest = got j left found so (walk left) rest (object_at (version_path logs.Manifest db j) s) refl

  -- a reading that gets what is left
  reads_all : (old new : Told) (result : Result Versions SlateDBError) (left : List ℕ) (found : Versions) → So left found → Serves old new s → ReadsAll db decoded old new (Getting left found) result
      → (ReferencedAnswers db decoded s n m result × (new.contents ≡ Some s)) ⊎ (ran_out result ≡ true)
  reads_all old new result [] found so serves ran =
      inl (AreRead found (record { own = so.own; named = λ k by. none_left k found (so.named k by); alone = so.alone }) ran.1, ap (λ (t : Told). t.contents) ran.0 ∙ serves.contents)
  reads_all old new result (j ∷ left) found so serves (inl ran) =
      inl (walk new ran.0 result (j ∷ left) found so (before never (referenced_asks db) (referenced_goes decoded) (pos 0) 1 s old new (Getting (j ∷ left) found) ran.0 result ran.1 serves.contents serves.calm))
  reads_all old new result (j ∷ left) found so serves (inr out) = inr out.0

pub referenced_ends : (db : List ℕ) (decoded : List ℕ → Result Manifest SlateDBError) (n : ℕ) (m : Manifest) (old new : Told) (s : Store) (result : Result Versions SlateDBError)
    → Referenced db decoded n m old new result → Serves old new s
    → (ReferencedAnswers db decoded s n m result × (new.contents ≡ Some s)) ⊎ (ran_out result ≡ true)
referenced_ends db decoded n m old new s result (inl ran) serves = reads_all db decoded n m s old new result (named_numbers n m.core.checkpoints) ((n, m) ∷ []) (start_so db decoded n m s) serves ran
referenced_ends db decoded n m old new s result (inr out) serves = inr out.0

-- ---- no answer comes from outside

module _ (db : List ℕ) (decoded : List ℕ → Result Manifest SlateDBError) (n : ℕ) (m : Manifest) (new : Told) (s : Store) (result : Result Versions SlateDBError) (inside : NeverOutside decoded) where
  answer_inside : ReferencedAnswers db decoded s n m result → NotOutside result
  answer_inside (AreRead found are is) e same = absurd cc
  answer_inside (IsMissing k by none is) e same = same_error result _ e is same refl
  answer_inside (Undecoded k bytes a by stands refuses is) e same = same_error result a e is same (inside bytes a refuses)

  pub referenced_inside : (ReferencedAnswers db decoded s n m result × (new.contents ≡ Some s)) ⊎ (ran_out result ≡ true) → NotOutside result
  referenced_inside (inl ends) e same = answer_inside ends.0 e same
  referenced_inside (inr out) e same = out_inside result out e same
