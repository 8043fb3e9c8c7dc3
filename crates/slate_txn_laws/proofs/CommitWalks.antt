-- A commit over a store that serves it, also within another machine.
use Rattle.std.proofs.Common.{◌≡◌, ℕ, ℤ, ◌+◌, ◌<◌, ◌≤◌, ◌^◌, Bool, true, false, nat_le, if◌then◌else◌, List, Option, Some, None, Result, Ok, Err, refl, sym, ap, ◌∙◌, subst, arith}
use Rattle.std.proofs.lemmas.Bool.Decides.{nat_tests}
use Rattle.slate_ids.specs.Ids.{is_db_path}
use Rattle.slate_ids.specs.declared.error.SlateDBError.{SlateDBError}
use Rattle.slate_ids.specs.declared.error.SlateDBError.TheVariants.{Corrupt, TransactionalObjectVersionExists}
use Rattle.slate_ids.specs.declared.error.FormatName.TheVariants.{Boundary as BoundaryFormat}
use Rattle.slate_store.specs.StoreCalls.{Told}
use Rattle.slate_store.specs.Machines.{Goes, Stay, End}
use Rattle.slate_store.specs.CallRuns.{one_if}
use Rattle.slate_store.specs.Store.{Store, object_at, put_new}
use Rattle.slate_store.specs.declared.object.StoredObject.{StoredObject}
use Rattle.slate_store.specs.declared.store_answer.StoreAnswer.{StoreAnswer}
use Rattle.slate_store.specs.declared.store_answer.StoreAnswer.TheVariants.{Got}
use Rattle.slate_store.specs.declared.store_call.StoreCall.{StoreCall}
use Rattle.slate_txn_log.specs.Advance.{boundary_at}
use Rattle.slate_txn_log.specs.Commit.{never, Committed}
use Rattle.slate_txn_log.specs.CommitPhase.{CommitGoes, commit_asks, commit_goes, bounded_goes}
use Rattle.slate_txn_log.specs.LogPaths.{version_path, boundary_path}
use Rattle.slate_txn_log.specs.declared.commit_phase.CommitPhase.{CommitPhase}
use Rattle.slate_txn_log.specs.declared.commit_phase.CommitPhase.TheVariants.{Putting, Bounding, Over}
use Rattle.slate_txn_log.specs.declared.log_kind.LogKind.{LogKind}
use Rattle.slate_txn_laws.specs.Committing.{Stands, CommitAnswers}
use Rattle.slate_txn_laws.specs.Committing.CommitAnswers.{IsCommitted, IsBehind, NoBoundary}
use Rattle.slate_txn_laws.specs.Ready.{top_of, IsReady, LeavesReady}
use Rattle.slate_txn_laws.specs.Serving.{Serves}
use Rattle.slate_txn_laws.proofs.Places.{SameLatest, passed, ready_at, same_kept, put, reached_by, put_boundary, put_stands, put_ready, bad_ready, put_kept}
use Rattle.slate_txn_laws.proofs.Turns.{RestBy, Within, one_way, step_in, stay_in, ended, before}

le_told : (n b : ℕ) → nat_le n b ≡ true → n ≤ b
le_told n b h = grind (arith, nat_tests, h)

lt_told : (n b : ℕ) → nat_le n b ≡ false → b < n
lt_told n b h = grind (arith, nat_tests, h)

-- how a commit ends: the version stands, or there is one at or above its number and the latest is as before, or the boundary is not a number
pub data CommitEnds {T : Type 0} (db : List ℕ) (log : LogKind) (s t : Store) (n : ℕ) (bytes : List ℕ) (value : T) (reply : Result (ℕ × T) SlateDBError) : Type 0 where
  Done : Stands db log s t n bytes → reply ≡ Ok (n, value) → CommitEnds db log s t n bytes value reply
  Late : (top : ℕ) (boundary : Option ℕ) → top_of db log s ≡ Some top → n ≤ top → SameLatest db log s t top → reply ≡ Err (TransactionalObjectVersionExists n boundary) → CommitEnds db log s t n bytes value reply
  Bad : boundary_at db log s ≡ None → reply ≡ Err (Corrupt BoundaryFormat) → CommitEnds db log s t n bytes value reply

module _ {T : Type 0} (db : List ℕ) (log : LogKind) {Q S : Type 0} (starts : Q → Bool) (asks : Q → StoreCall) (may : Q → StoreAnswer → Goes Q S → Type 0) (enter : CommitPhase T → Q) (on : CommitGoes T → Goes Q S → Type 0)
    (within : Within never (commit_asks db log) commit_goes starts asks may enter on) (moment : ℤ) (s : Store) (named : is_db_path db ≡ true) (ready : IsReady db log s)
    (n : ℕ) (bytes : List ℕ) (value : T) (pos : 0 < n) (small : n < 2 ^ 64) (left : ℕ) (some : 0 < left) (new : Told) (to : Q) (result : Result S SlateDBError) where
  abbrev Left : ℕ → Store → Goes Q S → Type 0
  Left left s from = RestBy starts asks may moment left s from new to result

  -- the commit ends with its answer, and the machine around it goes on by that
  pub record CommitWalk : Type 0 where
    pub after : Store
    pub reply : Result (ℕ × T) SlateDBError
    pub ends : CommitEnds db log s after n bytes value reply
    pub ready_then : IsReady db log after
    pub there : Goes Q S
    pub moved : on (End Over reply) there
    pub go : (rest : ℕ) → rest + one_if starts there ≡ left → Left rest after there

  abbrev after_put : Store
  after_put = put db log s named ready n bytes moment small

  module _ (free : object_at (version_path log db n) s ≡ None) (from : Left left after_put (Stay (enter (Bounding n value)))) where
    bounds : (boundary : Option ℕ) → boundary_at db log s ≡ boundary → commit_goes (Bounding n value) (Got (object_at (boundary_path log db) after_put)) ≡ bounded_goes n value boundary
    bounds boundary at = ap (bounded_goes n value) (put_boundary db log s named ready n bytes moment small free ∙ at)

    by_test : (b : ℕ) → boundary_at db log s ≡ Some b → (test : Bool) → nat_le n b ≡ test → CommitWalk
    by_test b at true is =
        let le = le_told n b is in
        let past = passed (top_of db log s) n b pos le (ready_at db log s named ready b at) in
        let kept = put_kept db log s named ready n bytes moment small free b past.number at past.is le past.below in
        let o = step_in never (commit_asks db log) commit_goes starts asks may enter on within moment left after_put (Bounding n value) new to result from some (End Over (Err (TransactionalObjectVersionExists n (Some b))))
        (bounds (Some b) at ∙ ap (λ (t : Bool). if t then End Over (Err (TransactionalObjectVersionExists n (Some b))) else End Over (Ok (n, value))) is) in
        record {
          after = after_put;
          reply = Err (TransactionalObjectVersionExists n (Some b));
          ends = Late past.number (Some b) past.is (let lt = past.below in omega (arith, le, lt)) kept refl;
          ready_then = kept.ready;
          there = o.there;
          moved = o.moved;
          go = o.go;
        }
    by_test b at false is =
        let o = step_in never (commit_asks db log) commit_goes starts asks may enter on within moment left after_put (Bounding n value) new to result from some (End Over (Ok (n, value)))
        (bounds (Some b) at ∙ ap (λ (t : Bool). if t then End Over (Err (TransactionalObjectVersionExists n (Some b))) else End Over (Ok (n, value))) is) in
        record {
          after = after_put;
          reply = Ok (n, value);
          ends = Done (put_stands db log s named ready n bytes moment small free b at (lt_told n b is)) refl;
          ready_then = put_ready db log s named ready n bytes moment small free b at (lt_told n b is);
          there = o.there;
          moved = o.moved;
          go = o.go;
        }

    bounding : (boundary : Option ℕ) → boundary_at db log s ≡ boundary → CommitWalk
    bounding None at =
        let o = step_in never (commit_asks db log) commit_goes starts asks may enter on within moment left after_put (Bounding n value) new to result from some (End Over (Err (Corrupt BoundaryFormat))) (bounds None at) in
        record {
          after = after_put;
          reply = Err (Corrupt BoundaryFormat);
          ends = Bad at refl;
          ready_then = bad_ready db log s named ready n bytes moment small free at;
          there = o.there;
          moved = o.moved;
          go = o.go;
        }
    bounding (Some b) at = by_test b at (nat_le n b) refl

  -- the put at what stands there
  puts : (o : Option StoredObject) → object_at (version_path log db n) s ≡ o → commit_goes (Putting n bytes value) (put_new (object_at (version_path log db n) s) (version_path log db n) bytes moment s).answer ≡ commit_goes (Putting n bytes value) (put_new o (version_path log db n) bytes moment s).answer
  puts o at = ap (λ o. commit_goes (Putting n bytes value) (put_new o (version_path log db n) bytes moment s).answer) at

  leaves : (o : Option StoredObject) → object_at (version_path log db n) s ≡ o → (put_new (object_at (version_path log db n) s) (version_path log db n) bytes moment s).store ≡ (put_new o (version_path log db n) bytes moment s).store
  leaves o at = ap (λ o. (put_new o (version_path log db n) bytes moment s).store) at

  pub putting : Left left s (Stay (enter (Putting n bytes value))) → (o : Option StoredObject) → object_at (version_path log db n) s ≡ o → CommitWalk
  putting from (Some x) at =
      let at_top = reached_by db log s named ready n bytes moment small x at in
      let o = step_in never (commit_asks db log) commit_goes starts asks may enter on within moment left s (Putting n bytes value) new to result from some (End Over (Err (TransactionalObjectVersionExists n None))) (puts (Some x) at) in
      record {
        after = s;
        reply = Err (TransactionalObjectVersionExists n None);
        ends = Late at_top.number None at_top.is at_top.reached (same_kept db log s named ready at_top.number at_top.is) refl;
        ready_then = ready;
        there = o.there;
        moved = o.moved;
        go = λ rest used. subst (λ (t : Store). Left rest t o.there) (leaves (Some x) at) (o.go rest used);
      }
  putting from None at =
      bounding at
      (subst (λ (t : Store). Left left t (Stay (enter (Bounding n value)))) (leaves None at)
      (stay_in never (commit_asks db log) commit_goes starts asks may enter on within moment left s (Putting n bytes value) new to result from some (Bounding n value) (puts None at) refl))
      (boundary_at db log s) refl

-- ---- the plain commit

module _ {T : Type 0} (db : List ℕ) (log : LogKind) (n : ℕ) (bytes : List ℕ) (value : T) where
  own_asks : CommitPhase T → StoreCall
  own_asks = commit_asks db log

  alone : Within never (commit_asks {T = T} db log) commit_goes never (commit_asks {T = T} db log) (one_way commit_goes) (λ p. p) (λ g out. g ≡ out)
  alone = record { same_call = λ p. refl; goes_by = λ p a out e. e; stays = λ p out e. e; same_start = λ p. refl }

  answers : (s t : Store) (new : Told) (reply result : Result (ℕ × T) SlateDBError) → CommitEnds db log s t n bytes value reply → result ≡ reply → new.contents ≡ Some t → CommitAnswers db log s new n bytes value result
  answers s t new reply result (Done stands is) same told = IsCommitted t told stands (same ∙ is)
  answers s t new reply result (Late top boundary at le kept is) same told = IsBehind top boundary at le (same ∙ is)
  answers s t new reply result (Bad at is) same told = NoBoundary at (same ∙ is)

  pub commit_ends : (moment : ℤ) (old new : Told) (s : Store) (result : Result (ℕ × T) SlateDBError)
      → Committed db log moment old new (Putting n bytes value) result → is_db_path db ≡ true → 0 < n → n < 2 ^ 64 → Serves old new s → IsReady db log s
      → CommitAnswers db log s new n bytes value result × LeavesReady db log new
  commit_ends moment old new s result ran named pos small serves ready =
      let walk = putting db log never (commit_asks db log) (one_way commit_goes) (λ p. p) (λ g out. g ≡ out) alone moment s named ready n bytes value pos small 1 (omega arith) new ran.0 result
      (before never (commit_asks db log) commit_goes moment 1 s old new (Putting n bytes value) ran.0 result ran.1 serves.contents serves.calm)
      (object_at (version_path log db n) s) refl in
      let rest : (rest : ℕ) → rest + one_if {P = CommitPhase T} {R = ℕ × T} never (End Over walk.reply) ≡ 1 → RestBy never (commit_asks db log) (one_way commit_goes) moment rest walk.after (End Over walk.reply) new ran.0 result =
      subst (λ (g : CommitGoes T). (rest : ℕ) → rest + one_if never g ≡ 1 → RestBy never (commit_asks db log) (one_way commit_goes) moment rest walk.after g new ran.0 result) (sym walk.moved) walk.go in
      let end = ended never (commit_asks db log) commit_goes moment 1 walk.after Over walk.reply new ran.0 result (rest 1 (omega arith)) in
      (answers s walk.after new walk.reply result walk.ends end.answer end.contents, record { left = walk.after; contents = end.contents; ready = walk.ready_then })
