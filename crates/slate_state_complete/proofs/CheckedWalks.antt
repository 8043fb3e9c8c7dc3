-- A checked deletion over a store that serves it.
use Rattle.std.proofs.Common.{◌≡◌, ℕ, ◌<◌, ◌≤◌, ◌^◌, pos, Bool, true, false, nat_le, if◌then◌else◌, List, Option, Some, None, IfSome, Result, Ok, Err, refl, ap, ◌∙◌, subst, arith}
use Rattle.std.specs.Prelude.{◌&&◌}
use Rattle.std.proofs.lemmas.Bool.Decides.{nat_tests}
use Rattle.slate_ids.specs.Ids.{is_db_path}
use Rattle.slate_ids.specs.declared.error.SlateDBError.{SlateDBError}
use Rattle.slate_ids.specs.declared.error.SlateDBError.TheVariants.{Corrupt, InvalidDeletion, LatestTransactionalObjectVersionMissing}
use Rattle.slate_ids.specs.declared.error.FormatName.TheVariants.{Boundary as BoundaryFormat}
use Rattle.slate_store.specs.StoreCalls.{Told}
use Rattle.slate_store.specs.Machines.{Stay, End}
use Rattle.slate_store.specs.Store.{Store, object_at, listed, removed}
use Rattle.slate_store.specs.declared.object.StoredObject.{StoredObject}
use Rattle.slate_store.specs.declared.store_answer.StoreAnswer.TheVariants.{Found, Got}
use Rattle.slate_txn_log.specs.Advance.{boundary_at}
use Rattle.slate_txn_log.specs.Boundary.{boundary_got}
use Rattle.slate_txn_log.specs.LogPaths.{folder, version_path, boundary_path}
use Rattle.slate_txn_log.specs.ReadPhase.{above_goes, boundary_goes, decoded_goes, got_goes, listed_goes}
use Rattle.slate_txn_log.specs.declared.log_kind.LogKind.{LogKind}
use Rattle.slate_txn_log.specs.declared.read_phase.ReadPhase.TheVariants as reads
use Rattle.slate_txn_log.specs.declared.sequenced.Sequenced.{Sequenced}
use Rattle.slate_txn_laws.specs.Outside.{NotOutside, NeverOutside}
use Rattle.slate_txn_laws.specs.Ready.{top_of, bytes_of, IsBelow, IsLatest, IsReady, LeavesReady}
use Rattle.slate_txn_laws.specs.Serving.{Serves}
use Rattle.slate_txn_laws.proofs.Inside.{same_error}
use Rattle.slate_txn_laws.proofs.Leavings.{deleted_ready}
use Rattle.slate_txn_laws.proofs.Tops.{top_object}
use Rattle.slate_txn_laws.proofs.Turns.{Rest, step, ended, before}
use Rattle.slate_txn_delete.specs.CheckedDelete.{CheckedGoes, CheckedRan, allowed_goes, checked_asks, checked_goes, checked_starts, judged, may_delete}
use Rattle.slate_txn_delete.specs.declared.checked_delete_phase.CheckedDeletePhase.{CheckedDeletePhase}
use Rattle.slate_txn_delete.specs.declared.checked_delete_phase.CheckedDeletePhase.TheVariants.{Reading, Deleting, Over}
use Rattle.slate_state_complete.specs.CheckedDeleting.{CheckedAnswers, IsJudged}
use Rattle.slate_state_complete.specs.CheckedDeleting.CheckedAnswers.{IsDeleted, IsKept, NoVersion, Undecoded, NoBoundary}

below_not : (n b : ℕ) → b < n → nat_le n b ≡ false
below_not n b h = grind (arith, nat_tests, h)

-- ---- what the test says

both_right : (a b : Bool) → (a && b) ≡ true → b ≡ true
both_right true b h = h
both_right false b h = absurd cc

le_told : (n b : ℕ) → nat_le n b ≡ true → n ≤ b
le_told n b h = grind (arith, nat_tests, h)

allowed_le : {T : Type 0} (names : T → ℕ → Bool) (n : ℕ) (version : ℕ × T) (boundary : ℕ) → may_delete names n version boundary ≡ true → n ≤ boundary
allowed_le names n version boundary h = le_told n boundary (both_right _ _ h)

-- ---- where the answers lead

module _ {T : Type 0} (decoded : List ℕ → Result T SlateDBError) (names : T → ℕ → Bool) (db : List ℕ) (log : LogKind) (n : ℕ) (s : Store) (new : Told) (to : CheckedDeletePhase T) (result : Result (Unit {0}) SlateDBError) (left : ℕ) (some : 0 < left) (ready : IsReady db log s) where
  abbrev Left : Store → CheckedGoes T → Type 0
  Left t from = Rest checked_starts (checked_asks db log) (checked_goes log decoded names) (pos 0) left t from new to result

  -- its answer; and the log stays ready
  abbrev Replies : Type 0
  Replies = CheckedAnswers decoded names db log s new n result × (is_db_path db ≡ true → 0 < n → n < 2 ^ 64 → LeavesReady db log new)

  abbrev without : Store
  without = removed (version_path log db n) s

  -- how it ended, with contents as before
  record Ended (r : Result (Unit {0}) SlateDBError) : Type 0 where
    pub answer : result ≡ r
    pub contents : new.contents ≡ Some s
    pub leaves : is_db_path db ≡ true → 0 < n → n < 2 ^ 64 → LeavesReady db log new

  finish : (r : Result (Unit {0}) SlateDBError) → Left s (End Over r) → Ended r
  finish r rest =
      let e = ended checked_starts (checked_asks db log) (checked_goes log decoded names) (pos 0) left s Over r new to result rest in
      record { answer = e.answer; contents = e.contents; leaves = λ named more small. record { left = s; contents = e.contents; ready = ready } }

  deleting : (top : ℕ) (value : T) (boundary : ℕ) → IsJudged decoded db log s top value boundary → may_delete names n (top, value) boundary ≡ true → Left s (Stay (Deleting n)) → Replies
  deleting top value boundary judges allowed rest =
      let e = ended checked_starts (checked_asks db log) (checked_goes log decoded names) (pos 0) left without Over (Ok tt) new to result (step checked_starts (checked_asks db log) (checked_goes log decoded names) (pos 0) left left s (Deleting n) (End Over (Ok tt)) new to result rest refl some (omega arith)) in
      (IsDeleted top value boundary judges allowed e.contents e.answer, λ named more small. record { left = without; contents = e.contents; ready = deleted_ready db log named n small s ready boundary judges.at more (allowed_le names n (top, value) boundary allowed) })

  module _ (top : ℕ) (bytes : List ℕ) (value : T) (latest : IsLatest db log s top bytes) (good : decoded bytes ≡ Ok value) (rest : Left s (Stay (Reading n (reads.Bounding top value)))) where
    leads_to : (boundary : Option ℕ) → boundary_at db log s ≡ boundary → checked_goes log decoded names (Reading n (reads.Bounding top value)) (Got (object_at (boundary_path log db) s)) ≡ judged names n boundary (boundary_goes top value boundary)
    leads_to boundary at = ap (λ (b : Option ℕ). judged names n b (boundary_goes top value b)) at

    above : (b : ℕ) → boundary_at db log s ≡ Some b → judged names n (Some b) (above_goes top value b) ≡ allowed_goes names n (top, value) (Some b)
    above b at =
        let below : IsBelow b (Some top) = subst (IsBelow b) latest.top (subst (λ (o : Option ℕ). IfSome o (λ b. IsBelow b (top_of db log s))) at ready.below) in
        ap (λ (t : Bool). judged names n (Some b) (if t then Stay reads.Listing else End reads.Over (Ok (Some (top, value))))) (below_not top b below)

    judging : (b : ℕ) → boundary_at db log s ≡ Some b → (t : Bool) → may_delete names n (top, value) b ≡ t → Replies
    judging b at true is =
        deleting top value b (record { bytes = bytes; latest = latest; reads = good; at = at }) is
        (step checked_starts (checked_asks db log) (checked_goes log decoded names) (pos 0) left left s (Reading n (reads.Bounding top value)) (Stay (Deleting n)) new to result rest (leads_to (Some b) at ∙ (above b at ∙ ap (λ (t : Bool). if t then Stay (Deleting n) else End Over (Err (InvalidDeletion n))) is)) some (omega arith))
    judging b at false is =
        let e = finish (Err (InvalidDeletion n)) (step checked_starts (checked_asks db log) (checked_goes log decoded names) (pos 0) left left s (Reading n (reads.Bounding top value)) (End Over (Err (InvalidDeletion n))) new to result rest (leads_to (Some b) at ∙ (above b at ∙ ap (λ (t : Bool). if t then Stay (Deleting n) else End Over (Err (InvalidDeletion n))) is)) some (omega arith)) in
        (IsKept top value b (record { bytes = bytes; latest = latest; reads = good; at = at }) is e.contents e.answer, e.leaves)

    bounding : (boundary : Option ℕ) → boundary_at db log s ≡ boundary → Replies
    bounding None at =
        let e = finish (Err (Corrupt BoundaryFormat)) (step checked_starts (checked_asks db log) (checked_goes log decoded names) (pos 0) left left s (Reading n (reads.Bounding top value)) (End Over (Err (Corrupt BoundaryFormat))) new to result rest (leads_to None at) some (omega arith)) in
        (NoBoundary top bytes value latest good at e.contents e.answer, e.leaves)
    bounding (Some b) at = judging b at (may_delete names n (top, value) b) refl

  gets : (top : ℕ) (object : StoredObject) (reply : Result T SlateDBError) → object_at (version_path log db top) s ≡ Some object → decoded object.bytes ≡ reply
      → checked_goes log decoded names (Reading n (reads.Getting top)) (Got (object_at (version_path log db top) s)) ≡ judged names n (boundary_got (Some object)) (decoded_goes top reply)
  gets top object reply at reads = ap (λ (o : Option StoredObject). judged names n (boundary_got o) (got_goes decoded top o)) at ∙ ap (λ (r : Result T SlateDBError). judged names n (boundary_got (Some object)) (decoded_goes top r)) reads

  getting : (top : ℕ) (object : StoredObject) → top_of db log s ≡ Some top → object_at (version_path log db top) s ≡ Some object → Left s (Stay (Reading n (reads.Getting top))) → (reply : Result T SlateDBError) → decoded object.bytes ≡ reply → Replies
  getting top object first at rest (Err e) refuses =
      let end = finish (Err e) (step checked_starts (checked_asks db log) (checked_goes log decoded names) (pos 0) left left s (Reading n (reads.Getting top)) (End Over (Err e)) new to result rest (gets top object (Err e) at refuses) some (omega arith)) in
      (Undecoded top object.bytes e (record { top = first; stands = ap bytes_of at }) refuses end.contents end.answer, end.leaves)
  getting top object first at rest (Ok value) good =
      bounding top object.bytes value (record { top = first; stands = ap bytes_of at }) good
      (step checked_starts (checked_asks db log) (checked_goes log decoded names) (pos 0) left left s (Reading n (reads.Getting top)) (Stay (Reading n (reads.Bounding top value))) new to result rest (gets top object (Ok value) at good) some (omega arith))
      (boundary_at db log s) refl

  lists : (top : Option ℕ) → top_of db log s ≡ top → checked_goes log decoded names (Reading n reads.Listing) (Found (listed (folder log db) s)) ≡ judged names n None (listed_goes top)
  lists top at = ap (λ (o : Option ℕ). judged names n None (listed_goes o)) at

  listing : Left s (Stay (Reading n reads.Listing)) → (top : Option ℕ) → top_of db log s ≡ top → Replies
  listing rest None at =
      let end = finish (Err LatestTransactionalObjectVersionMissing) (step checked_starts (checked_asks db log) (checked_goes log decoded names) (pos 0) left left s (Reading n reads.Listing) (End Over (Err LatestTransactionalObjectVersionMissing)) new to result rest (lists None at) some (omega arith)) in
      (NoVersion at end.contents end.answer, end.leaves)
  listing rest (Some top) at =
      let has = top_object log db s top ready.fine at in
      getting top has.object at has.at
      (step checked_starts (checked_asks db log) (checked_goes log decoded names) (pos 0) left left s (Reading n reads.Listing) (Stay (Reading n (reads.Getting top))) new to result rest (lists (Some top) at) some (omega arith))
      (decoded has.object.bytes) refl

pub checked_ends : {T C : Type 0} (decoded : C → List ℕ → Result T SlateDBError) (names : T → ℕ → Bool) (sequenced : Sequenced T C) (n tries : ℕ) (old new : Told) (s : Store) (result : Result (Unit {0}) SlateDBError)
    → CheckedRan decoded names sequenced n tries old new result → 0 < tries → Serves old new s → IsReady sequenced.db sequenced.log s
    → CheckedAnswers (decoded sequenced.codec) names sequenced.db sequenced.log s new n result × (is_db_path sequenced.db ≡ true → 0 < n → n < 2 ^ 64 → LeavesReady sequenced.db sequenced.log new)
checked_ends decoded names sequenced n tries old new s result ran some serves ready =
    listing (decoded sequenced.codec) names sequenced.db sequenced.log n s new ran.0 result tries some ready
    (before checked_starts (checked_asks sequenced.db sequenced.log) (checked_goes sequenced.log (decoded sequenced.codec) names) (pos 0) tries s old new (Reading n reads.Listing) ran.0 result ran.1 serves.contents serves.calm)
    (top_of sequenced.db sequenced.log s) refl

-- ---- no answer comes from outside

pub checked_inside : {T : Type 0} (decoded : List ℕ → Result T SlateDBError) (names : T → ℕ → Bool) (db : List ℕ) (log : LogKind) (s : Store) (new : Told) (n : ℕ) (result : Result (Unit {0}) SlateDBError)
    → NeverOutside decoded → CheckedAnswers decoded names db log s new n result → NotOutside result
checked_inside decoded names db log s new n result inside (IsDeleted top value boundary judges allowed contents is) e same = absurd cc
checked_inside decoded names db log s new n result inside (IsKept top value boundary judges allowed contents is) e same = same_error result _ e is same refl
checked_inside decoded names db log s new n result inside (NoVersion none contents is) e same = same_error result _ e is same refl
checked_inside decoded names db log s new n result inside (Undecoded top bytes a latest refuses contents is) e same = same_error result a e is same (inside bytes a refuses)
checked_inside decoded names db log s new n result inside (NoBoundary top bytes value latest good none contents is) e same = same_error result _ e is same refl
