-- An advance, and a deletion, over a store that serves it.
use Rattle.std.proofs.Common.{◌≡◌, ℕ, ℤ, ◌==◌, ◌<◌, ◌≤◌, ◌^◌, pos, max, Bool, true, false, nat_le, if◌then◌else◌, List, Option, Some, None, Result, Ok, Err, refl, ap, ◌∙◌, subst, arith}
use Rattle.std.specs.Prelude.{decimal}
use Rattle.std.proofs.lemmas.Bool.Decides.{nat_tests}
use Rattle.slate_ids.specs.Ids.{is_db_path}
use Rattle.slate_ids.specs.declared.error.SlateDBError.{SlateDBError}
use Rattle.slate_ids.specs.declared.error.SlateDBError.TheVariants.{Corrupt, InvalidDeletion}
use Rattle.slate_ids.specs.declared.error.FormatName.TheVariants.{Boundary as BoundaryFormat}
use Rattle.slate_ids.specs.declared.object_path.ObjectPath.{ObjectPath}
use Rattle.slate_ids.proofs.DecimalTexts.{decimal_back}
use Rattle.slate_store.specs.StoreCalls.{Told}
use Rattle.slate_store.specs.Folders.{is_in}
use Rattle.slate_store.specs.Machines.{Stay, End}
use Rattle.slate_store.specs.Store.{Store, object_at, put_new, replace, has_tag, stored, removed}
use Rattle.slate_store.specs.declared.object.StoredObject.{StoredObject}
use Rattle.slate_store.specs.declared.store_answer.StoreAnswer.TheVariants.{Got}
use Rattle.slate_txn_log.specs.Advance.{Advanced, boundary_at}
use Rattle.slate_txn_log.specs.AdvancePhase.{AdvanceGoes, advance_asks, advance_goes, is_bounding, bound_goes, read_goes_to}
use Rattle.slate_txn_log.specs.Boundary.{boundary_of, boundary_got}
use Rattle.slate_txn_log.specs.Commit.{never}
use Rattle.slate_txn_log.specs.Delete.{DeleteRan}
use Rattle.slate_txn_log.specs.DeletePhase.{DeleteGoes, delete_asks, delete_goes, checked_goes}
use Rattle.slate_txn_log.specs.LogPaths.{boundary_path, version_path, folder}
use Rattle.slate_txn_log.specs.declared.advance_phase.AdvancePhase.{AdvancePhase}
use Rattle.slate_txn_log.specs.declared.advance_phase.AdvancePhase.TheVariants.{Bounding, Creating, Replacing, Over}
use Rattle.slate_txn_log.specs.declared.delete_phase.DeletePhase.{DeletePhase}
use Rattle.slate_txn_log.specs.declared.delete_phase.DeletePhase.TheVariants as phases
use Rattle.slate_txn_log.specs.declared.log_kind.LogKind.{LogKind}
use Rattle.slate_txn_log.specs.declared.log_kind.LogKind.TheVariants.{Manifest, Compactions}
use Rattle.slate_txn_log.specs.declared.sequenced.Sequenced.{Sequenced}
use Rattle.slate_txn_laws.specs.Advancing.{AdvanceAnswers}
use Rattle.slate_txn_laws.specs.Advancing.AdvanceAnswers.{IsAdvanced, NoBoundary}
use Rattle.slate_txn_laws.specs.Deleting.{DeleteAnswers}
use Rattle.slate_txn_laws.specs.Deleting.DeleteAnswers.{IsDeleted, IsAbove, NoBoundary as Unbounded}
use Rattle.slate_txn_laws.specs.Ready.{top_of, IsBelow, IsReady, LeavesReady}
use Rattle.slate_txn_laws.specs.Serving.{Serves}
use Rattle.slate_txn_laws.proofs.Asides.{put_tops}
use Rattle.slate_store.proofs.LookUps.{at_put, put_object}
use Rattle.slate_txn_laws.proofs.Entries.{boundary_fine, fine_after}
use Rattle.slate_txn_laws.proofs.Leavings.{advanced_ready, deleted_ready, ready_of}
use Rattle.slate_txn_laws.proofs.Turns.{Rest, step, ended, before}

-- ---- the versions after a put of the boundary

not_listed : (log : LogKind) (db : List ℕ) → is_in (folder log db) (boundary_path log db) ≡ false
not_listed Manifest db = refl
not_listed Compactions db = refl

pub boundary_top : (db : List ℕ) (log : LogKind) (bytes : List ℕ) (moment : ℤ) (s : Store) → top_of db log (stored (boundary_path log db) bytes moment s) ≡ top_of db log s
boundary_top db log bytes moment s = put_tops log db (boundary_path log db) (not_listed log db) (put_object s bytes moment) s.objects None

-- a boundary below the greatest number leaves the log ready
pub bounded_ready : (db : List ℕ) (log : LogKind) (n : ℕ) (moment : ℤ) (s : Store) → is_db_path db ≡ true → n < 2 ^ 64 → IsReady db log s → IsBelow n (top_of db log s) → IsReady db log (stored (boundary_path log db) (decimal n) moment s)
bounded_ready db log n moment s named small ready below =
    ready_of db log (stored (boundary_path log db) (decimal n) moment s) n (top_of db log s) (fine_after (boundary_path log db) (decimal n) moment s (boundary_fine db named log) ready.fine)
    (ap boundary_got (at_put (boundary_path log db) (decimal n) moment s) ∙ decimal_back n small) (boundary_top db log (decimal n) moment s) below

zero_told : (n : ℕ) → (n == 0) ≡ true → n ≡ 0
zero_told n h = grind (arith, nat_tests, h)

le_told : (n b : ℕ) → nat_le n b ≡ true → n ≤ b
le_told n b h = grind (arith, nat_tests, h)

lt_told : (n b : ℕ) → nat_le n b ≡ false → b < n
lt_told n b h = grind (arith, nat_tests, h)

same_tag : (tag : ℕ) → (tag == tag) ≡ true
same_tag tag = grind (arith, nat_tests)

module _ (db : List ℕ) (log : LogKind) (moment : ℤ) (n left : ℕ) (some : 0 < left) (small : n < 2 ^ 64) (s : Store) (new : Told) (to : AdvancePhase) (result : Result (Unit {0}) SlateDBError) where
  abbrev path : ObjectPath
  path = boundary_path log db

  abbrev Left : Store → AdvanceGoes → Type 0
  Left s from = Rest is_bounding (advance_asks db log) advance_goes moment left s from new to result

  abbrev put : Store
  put = stored path (decimal n) moment s

  -- its answer; and below the greatest number the log stays ready
  abbrev Answers : Type 0
  Answers = AdvanceAnswers db log s new n result × (is_db_path db ≡ true → IsReady db log s → IsBelow n (top_of db log s) → LeavesReady db log new)

  -- the boundary was put
  put_ends : (b : ℕ) → boundary_at db log s ≡ Some b → b < n → Left put (End Over (Ok tt)) → Answers
  put_ends b at lt rest =
      let e = ended is_bounding (advance_asks db log) advance_goes moment left put Over (Ok tt) new to result rest in
      let reads : boundary_at db log put ≡ Some (max n b) = ap boundary_got (at_put path (decimal n) moment s) ∙ (decimal_back n small ∙ ap Some (omega (arith, lt))) in
      let kept = boundary_top db log (decimal n) moment s in
      (IsAdvanced b put at e.contents reads kept e.answer, λ named ready below. record { left = put; contents = e.contents; ready = advanced_ready db log s n b (decimal n) moment named ready at below reads kept })

  -- nothing was to be put
  kept_ends : (b : ℕ) → boundary_at db log s ≡ Some b → n ≤ b → Left s (End Over (Ok tt)) → Answers
  kept_ends b at le rest =
      let e = ended is_bounding (advance_asks db log) advance_goes moment left s Over (Ok tt) new to result rest in
      (IsAdvanced b s at e.contents (at ∙ ap Some (omega (arith, le))) refl e.answer, λ named ready below. record { left = s; contents = e.contents; ready = ready })

  bad_ends : boundary_at db log s ≡ None → Left s (End Over (Err (Corrupt BoundaryFormat))) → Answers
  bad_ends at rest =
      let e = ended is_bounding (advance_asks db log) advance_goes moment left s Over (Err (Corrupt BoundaryFormat)) new to result rest in
      (NoBoundary at e.answer, λ named ready below. record { left = s; contents = e.contents; ready = ready })

  creating : object_at path s ≡ None → (n == 0) ≡ false → Left s (Stay (Creating n)) → Answers
  creating at more rest =
      put_ends 0 (ap boundary_got at) (grind (arith, nat_tests, more))
      (subst (λ (t : Store). Left t (End Over (Ok tt))) (ap (λ o. (put_new o path (decimal n) moment s).store) at)
      (step is_bounding (advance_asks db log) advance_goes moment left left s (Creating n) (End Over (Ok tt)) new to result rest (ap (λ o. advance_goes (Creating n) (put_new o path (decimal n) moment s).answer) at) some (omega arith)))

  replacing : (x : StoredObject) (b : ℕ) → object_at path s ≡ Some x → boundary_of x.bytes ≡ Some b → b < n → Left s (Stay (Replacing n x.e_tag)) → Answers
  replacing x b at reads lt rest =
      let tagged : has_tag x.e_tag (object_at path s) ≡ true = ap (has_tag x.e_tag) at ∙ same_tag x.e_tag in
      put_ends b (ap boundary_got at ∙ reads) lt
      (subst (λ (t : Store). Left t (End Over (Ok tt))) (ap (λ (h : Bool). (replace h path (decimal n) moment s).store) tagged)
      (step is_bounding (advance_asks db log) advance_goes moment left left s (Replacing n x.e_tag) (End Over (Ok tt)) new to result rest (ap (λ (h : Bool). advance_goes (Replacing n x.e_tag) (replace h path (decimal n) moment s).answer) tagged) some (omega arith)))

  -- where the get of the boundary leads
  module _ (rest : Left s (Stay (Bounding n))) where
    by_zero : object_at path s ≡ None → (b : Bool) → (n == 0) ≡ b → Answers
    by_zero at true is =
        kept_ends 0 (ap boundary_got at) (let zero_is = zero_told n is in omega (arith, zero_is))
        (step is_bounding (advance_asks db log) advance_goes moment left left s (Bounding n) (End Over (Ok tt)) new to result rest (ap (bound_goes n) at ∙ ap (λ (b : Bool). if b then End Over (Ok tt) else Stay (Creating n)) is) some (omega arith))
    by_zero at false is =
        creating at is
        (step is_bounding (advance_asks db log) advance_goes moment left left s (Bounding n) (Stay (Creating n)) new to result rest (ap (bound_goes n) at ∙ ap (λ (b : Bool). if b then End Over (Ok tt) else Stay (Creating n)) is) some (omega arith))

    by_test : (x : StoredObject) (b : ℕ) → object_at path s ≡ Some x → boundary_of x.bytes ≡ Some b → (t : Bool) → nat_le n b ≡ t → Answers
    by_test x b at reads true is =
        kept_ends b (ap boundary_got at ∙ reads) (le_told n b is)
        (step is_bounding (advance_asks db log) advance_goes moment left left s (Bounding n) (End Over (Ok tt)) new to result rest (ap (bound_goes n) at ∙ (ap (read_goes_to n x.e_tag) reads ∙ ap (λ (b : Bool). if b then End Over (Ok tt) else Stay (Replacing n x.e_tag)) is)) some (omega arith))
    by_test x b at reads false is =
        replacing x b at reads (lt_told n b is)
        (step is_bounding (advance_asks db log) advance_goes moment left left s (Bounding n) (Stay (Replacing n x.e_tag)) new to result rest (ap (bound_goes n) at ∙ (ap (read_goes_to n x.e_tag) reads ∙ ap (λ (b : Bool). if b then End Over (Ok tt) else Stay (Replacing n x.e_tag)) is)) some (omega arith))

    by_bytes : (x : StoredObject) → object_at path s ≡ Some x → (boundary : Option ℕ) → boundary_of x.bytes ≡ boundary → Answers
    by_bytes x at None reads =
        bad_ends (ap boundary_got at ∙ reads)
        (step is_bounding (advance_asks db log) advance_goes moment left left s (Bounding n) (End Over (Err (Corrupt BoundaryFormat))) new to result rest (ap (bound_goes n) at ∙ ap (read_goes_to n x.e_tag) reads) some (omega arith))
    by_bytes x at (Some b) reads = by_test x b at reads (nat_le n b) refl

    bounding : (o : Option StoredObject) → object_at path s ≡ o → Answers
    bounding None at = by_zero at (n == 0) refl
    bounding (Some x) at = by_bytes x at (boundary_of x.bytes) refl

pub advance_ends : {T C : Type 0} (sequenced : Sequenced T C) (n : ℕ) (moment : ℤ) (tries : ℕ) (old new : Told) (s : Store) (result : Result (Unit {0}) SlateDBError)
    → Advanced sequenced n moment tries old new result → 0 < tries → n < 2 ^ 64 → Serves old new s
    → AdvanceAnswers sequenced.db sequenced.log s new n result × (is_db_path sequenced.db ≡ true → IsReady sequenced.db sequenced.log s → IsBelow n (top_of sequenced.db sequenced.log s) → LeavesReady sequenced.db sequenced.log new)
advance_ends sequenced n moment tries old new s result ran some small serves =
    bounding sequenced.db sequenced.log moment n tries some small s new ran.0 result
    (before is_bounding (advance_asks sequenced.db sequenced.log) advance_goes moment tries s old new (Bounding n) ran.0 result ran.1 serves.contents serves.calm)
    (object_at (boundary_path sequenced.log sequenced.db) s) refl

-- ---- a deletion

module _ (db : List ℕ) (log : LogKind) (n : ℕ) (s : Store) (new : Told) (to : DeletePhase) (result : Result (Unit {0}) SlateDBError) where
  abbrev Remaining : Store → DeleteGoes → Type 0
  Remaining s from = Rest never (delete_asks db log) delete_goes (pos 0) 1 s from new to result

  -- its answer; and the log stays ready
  abbrev Replies : Type 0
  Replies = DeleteAnswers db log s new n result × (is_db_path db ≡ true → 0 < n → n < 2 ^ 64 → IsReady db log s → LeavesReady db log new)

  abbrev without : Store
  without = removed (version_path log db n) s

  module _ (rest : Remaining s (Stay (phases.Bounding n))) where
    leads_to : (boundary : Option ℕ) → boundary_at db log s ≡ boundary → delete_goes (phases.Bounding n) (Got (object_at (boundary_path log db) s)) ≡ checked_goes n boundary
    leads_to boundary at = ap (checked_goes n) at

    checked : (b : ℕ) → boundary_at db log s ≡ Some b → (t : Bool) → nat_le n b ≡ t → Replies
    checked b at true is =
        let deleting = step never (delete_asks db log) delete_goes (pos 0) 1 1 s (phases.Bounding n) (Stay (phases.Deleting n)) new to result rest (leads_to (Some b) at ∙ ap (λ (t : Bool). if t then Stay (phases.Deleting n) else End phases.Over (Err (InvalidDeletion n))) is) (omega arith) (omega arith) in
        let e = ended never (delete_asks db log) delete_goes (pos 0) 1 without phases.Over (Ok tt) new to result (step never (delete_asks db log) delete_goes (pos 0) 1 1 s (phases.Deleting n) (End phases.Over (Ok tt)) new to result deleting refl (omega arith) (omega arith)) in
        (IsDeleted b at (le_told n b is) e.contents e.answer, λ named pos small ready. record { left = without; contents = e.contents; ready = deleted_ready db log named n small s ready b at pos (le_told n b is) })
    checked b at false is =
        let e = ended never (delete_asks db log) delete_goes (pos 0) 1 s phases.Over (Err (InvalidDeletion n)) new to result (step never (delete_asks db log) delete_goes (pos 0) 1 1 s (phases.Bounding n) (End phases.Over (Err (InvalidDeletion n))) new to result rest (leads_to (Some b) at ∙ ap (λ (t : Bool). if t then Stay (phases.Deleting n) else End phases.Over (Err (InvalidDeletion n))) is) (omega arith) (omega arith)) in
        (IsAbove b at (lt_told n b is) e.contents e.answer, λ named pos small ready. record { left = s; contents = e.contents; ready = ready })

    got : (boundary : Option ℕ) → boundary_at db log s ≡ boundary → Replies
    got None at =
        let e = ended never (delete_asks db log) delete_goes (pos 0) 1 s phases.Over (Err (Corrupt BoundaryFormat)) new to result (step never (delete_asks db log) delete_goes (pos 0) 1 1 s (phases.Bounding n) (End phases.Over (Err (Corrupt BoundaryFormat))) new to result rest (leads_to None at) (omega arith) (omega arith)) in
        (Unbounded at e.answer, λ named pos small ready. record { left = s; contents = e.contents; ready = ready })
    got (Some b) at = checked b at (nat_le n b) refl

pub delete_ends : {T C : Type 0} (sequenced : Sequenced T C) (n : ℕ) (old new : Told) (s : Store) (result : Result (Unit {0}) SlateDBError)
    → DeleteRan sequenced n old new result → Serves old new s
    → DeleteAnswers sequenced.db sequenced.log s new n result × (is_db_path sequenced.db ≡ true → 0 < n → n < 2 ^ 64 → IsReady sequenced.db sequenced.log s → LeavesReady sequenced.db sequenced.log new)
delete_ends sequenced n old new s result ran serves =
    got sequenced.db sequenced.log n s new ran.0 result
    (before never (delete_asks sequenced.db sequenced.log) delete_goes (pos 0) 1 s old new (phases.Bounding n) ran.0 result ran.1 serves.contents serves.calm)
    (boundary_at sequenced.db sequenced.log s) refl
