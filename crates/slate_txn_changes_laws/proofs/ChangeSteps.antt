-- The steps of a change of a log's latest version, where the log is ready, by the whole effect of each call.
use Rattle.std.proofs.Common.{◌≡◌, ◌⊎◌, ℕ, ◌+◌, ℤ, ◌<◌, ◌^◌, Bool, true, false, if◌then◌else◌, List, Option, Some, None, Result, Ok, Err, inl, inr, refl, sym, ap, ◌∙◌, subst, arith}
use Rattle.slate_ids.specs.Ids.{is_db_path}
use Rattle.slate_ids.specs.declared.error.SlateDBError.{SlateDBError}
use Rattle.slate_ids.specs.declared.error.SlateDBError.TheVariants.{TransactionalObjectVersionExists}
use Rattle.slate_store.specs.Machines.{Stay, End}
use Rattle.slate_store.specs.Store.{Store, object_at, put_new, stored, whole}
use Rattle.slate_store.specs.StoreCalls.{moment_of}
use Rattle.slate_store.specs.declared.object.StoredObject.{StoredObject}
use Rattle.slate_txn_changes.specs.LogWorks.{WorkGoes, change_goes, commit_on, read_on, work_asks, work_goes, work_starts}
use Rattle.slate_txn_changes.specs.declared.log_work.LogEnd.{LogEnd}
use Rattle.slate_txn_changes.specs.declared.log_work.LogEnd.TheVariants.{Committed}
use Rattle.slate_txn_changes.specs.declared.log_work.LogWork.{LogWork}
use Rattle.slate_txn_changes.specs.declared.log_work.LogWork.TheVariants.{Reading, Committing}
use Rattle.slate_txn_changes_laws.proofs.PutSteps.{below_over, free, CanPut}
use Rattle.slate_txn_changes_laws.proofs.ReadSteps.{below_not, Bounded, ReadAt, ReadLeads, read_keeps, read_leads}
use Rattle.slate_txn_changes_laws.specs.ChangeEnds.{ChangeAnswers, Commit, IsChanged, IsRead}
use Rattle.slate_txn_changes_laws.specs.ChangeEnds.ChangeAnswers.{Changes, MakesNone, NoVersion, Refuses, Undecoded, NoBoundary}
use Rattle.slate_txn_changes_laws.specs.Works.{MayPut, IsInside, PlainWork}
use Rattle.slate_txn_laws.proofs.Places.{put_boundary, put_ready, put_stands, ready_at}
use Rattle.slate_txn_laws.proofs.Tops.{top_object}
use Rattle.slate_txn_laws.specs.Committing.{IsOver}
use Rattle.slate_txn_laws.specs.Reading.{ReadAnswers}
use Rattle.slate_txn_laws.specs.Reading.ReadAnswers.{NoVersion as WasNone, Latest as WasRead, Undecoded as WasUndecoded, NoBoundary as WasUnbounded}
use Rattle.slate_txn_laws.specs.Ready.{top_of, IsLatest, IsReady}
use Rattle.slate_txn_log.specs.Advance.{boundary_at}
use Rattle.slate_txn_log.specs.CommitPhase.{bounded_goes, commit_asks, commit_goes}
use Rattle.slate_txn_log.specs.LogPaths.{version_path}
use Rattle.slate_txn_log.specs.ReadPhase.{Reply, read_asks, read_goes}
use Rattle.slate_txn_log.specs.declared.commit_phase.CommitPhase.{CommitPhase}
use Rattle.slate_txn_log.specs.declared.commit_phase.CommitPhase.TheVariants.{Putting, Bounding, Over}
use Rattle.slate_txn_log.specs.declared.log_kind.LogKind.{LogKind}
use Rattle.slate_txn_log.specs.declared.read_phase.ReadPhase.{ReadPhase}

module _ {V : Type 0} (decoded : List ℕ → Result V SlateDBError) (commit : Commit V) (plain : PlainWork decoded commit) (db : List ℕ) (log : LogKind) (named : is_db_path db ≡ true) (moment : ℤ) (s : Store) (ready : IsReady db log s) where
  -- what the change makes of the latest version is to be put: bytes of a value at the next number
  pub record Makes (k : ℕ) (bytes : List ℕ) (wanted : V) : Type 0 where
    pub number : ℕ
    pub value : V
    pub was : IsRead decoded db log s number value
    pub made : commit moment number value ≡ Ok (Some (Putting (number + 1) bytes wanted))
    pub next : k ≡ number + 1
    pub small : k < 2 ^ 64
    pub boundary : ℕ
    pub bounded : boundary_at db log s ≡ Some boundary

  -- what is known at each phase of the commit
  abbrev pub CommitAt : Store → CommitPhase V → Type 0
  CommitAt t (Putting k bytes wanted) = (t ≡ s) × Makes k bytes wanted
  CommitAt t (Bounding k wanted) = (bytes : List ℕ) × Makes k bytes wanted × (t ≡ stored (version_path log db k) bytes moment s)
  CommitAt t Over = ⊥

  -- and of the whole
  abbrev pub WorkAt : Store → LogWork V → Type 0
  WorkAt t (Reading phase) = (t ≡ s) × ReadAt decoded db log s phase
  WorkAt t (Committing made phase) = CommitAt t phase

  -- how it ends: with its answer, for no reason from outside, and the log is ready
  pub record WorkEndsSo (t : Store) (r : Result (LogEnd V) SlateDBError) : Type 0 where
    pub calm : IsInside r
    pub answers : ChangeAnswers decoded commit db log moment s t r
    pub ready_then : IsReady db log t

  -- it goes on without listing again, or ends so
  abbrev pub WorkLeads : Store → WorkGoes V → Type 0
  WorkLeads t (Stay work) = (work_starts work ≡ false) × WorkAt t work
  WorkLeads t (End work r) = WorkEndsSo t r

  -- ---- the commit

  can : (k : ℕ) (bytes : List ℕ) (wanted : V) → Makes k bytes wanted → CanPut db log named moment s ready k
  can k bytes wanted h =
      let next = h.next in
      let over : IsOver k (top_of db log s) = subst (λ (o : Option ℕ). IsOver k o) (sym h.was.latest.top) (omega (arith, next)) in
      record { small = h.small; first = omega (arith, next); over = over }

  abbrev put_at : ℕ → List ℕ → Store
  put_at k bytes = stored (version_path log db k) bytes moment s

  unused : (k : ℕ) (bytes : List ℕ) (wanted : V) → Makes k bytes wanted → object_at (version_path log db k) s ≡ None
  unused k bytes wanted h = free db log named moment s ready k (can k bytes wanted h)

  above : (k : ℕ) (bytes : List ℕ) (wanted : V) → (h : Makes k bytes wanted) → h.boundary < k
  above k bytes wanted h =
      let c = can k bytes wanted h in
      below_over k h.boundary (top_of db log s) c.first c.over (ready_at db log s named ready h.boundary h.bounded)

  puts : (made : ℤ) (k : ℕ) (bytes : List ℕ) (wanted : V) → Makes k bytes wanted
      → WorkLeads (whole (commit_asks db log (Putting k bytes wanted)) moment s).store (commit_on made (commit_goes (Putting k bytes wanted) (whole (commit_asks db log (Putting k bytes wanted)) moment s).answer))
  puts made k bytes wanted h =
      subst (λ (o : Option StoredObject). WorkLeads (put_new o (version_path log db k) bytes moment s).store (commit_on made (commit_goes (Putting k bytes wanted) (put_new o (version_path log db k) bytes moment s).answer)))
      (sym (unused k bytes wanted h)) (refl, (bytes, h, refl))

  done : (made : ℤ) (k : ℕ) (bytes : List ℕ) (wanted : V) → (h : Makes k bytes wanted) → WorkEndsSo (put_at k bytes) (Ok (Committed k wanted))
  done made k bytes wanted h =
      let none = unused k bytes wanted h in
      let lt = above k bytes wanted h in
      let stands = put_stands db log s named ready k bytes moment h.small none h.boundary h.bounded lt in
      let latest : IsLatest db log (put_at k bytes) k bytes = record { top = stands.latest (inr (can k bytes wanted h).over); stands = stands.stands } in
      let changed : IsChanged decoded commit db log moment s (put_at k bytes) k bytes wanted = record { number = h.number; value = h.value; was = h.was; made = h.made; next = h.next; stands = refl; latest = latest } in
      record {
        calm = tt;
        answers = Changes k bytes wanted changed refl;
        ready_then = put_ready db log s named ready k bytes moment h.small none h.boundary h.bounded lt;
      }

  bounds : (made : ℤ) (k : ℕ) (bytes : List ℕ) (wanted : V) → Makes k bytes wanted
      → WorkLeads (put_at k bytes) (commit_on made (bounded_goes k wanted (boundary_at db log (put_at k bytes))))
  bounds made k bytes wanted h =
      let same = put_boundary db log s named ready k bytes moment h.small (unused k bytes wanted h) ∙ h.bounded in
      subst (λ (o : Option ℕ). WorkLeads (put_at k bytes) (commit_on made (bounded_goes k wanted o))) (sym same)
      (subst (λ (b : Bool). WorkLeads (put_at k bytes) (commit_on made (if b then End Over (Err (TransactionalObjectVersionExists k (Some h.boundary))) else End Over (Ok (k, wanted)))))
      (sym (below_not k h.boundary (above k bytes wanted h))) (done made k bytes wanted h))

  commits : (made : ℤ) (t : Store) (phase : CommitPhase V) → CommitAt t phase
      → WorkLeads (whole (commit_asks db log phase) (moment_of (commit_asks db log phase) moment) t).store
      (commit_on made (commit_goes phase (whole (commit_asks db log phase) (moment_of (commit_asks db log phase) moment) t).answer))
  commits made t (Putting k bytes wanted) h =
      subst (λ (t : Store). WorkLeads (whole (commit_asks db log (Putting k bytes wanted)) moment t).store (commit_on made (commit_goes (Putting k bytes wanted) (whole (commit_asks db log (Putting k bytes wanted)) moment t).answer)))
      (sym h.0) (puts made k bytes wanted h.1)
  commits made t (Bounding k wanted) h =
      subst (λ (t : Store). WorkLeads t (commit_on made (bounded_goes k wanted (boundary_at db log t)))) (sym h.2) (bounds made k h.0 wanted h.1)
  commits made t Over h = absurd h

  -- ---- the read

  small_of : (n : ℕ) (value : V) → IsRead decoded db log s n value → n < 2 ^ 64
  small_of n value is = (top_object log db s n ready.fine is.latest.top).small

  starts : (n : ℕ) (value : V) (b : ℕ) → IsRead decoded db log s n value → boundary_at db log s ≡ Some b → (start : Result (Option (CommitPhase V)) SlateDBError) → commit moment n value ≡ start → WorkLeads s (change_goes moment n value start)
  starts n value b is at (Ok (Some phase)) made =
      let next = subst (MayPut n) made (plain.makes moment n value (small_of n value is)) in
      subst (λ (p : CommitPhase V). WorkLeads s (Stay (Committing moment p))) (sym next.puts) (
        refl,
        (
          refl,
          record {
            number = n;
            value = value;
            was = is;
            made = made ∙ ap (λ (p : CommitPhase V). Ok (Some p)) next.puts;
            next = refl;
            small = next.fits;
            boundary = b;
            bounded = at;
          },
        ),
      )
  starts n value b is at (Ok None) made = record { calm = tt; answers = MakesNone n value refl is made refl; ready_then = ready }
  starts n value b is at (Err e) made = record {
    calm = subst (MayPut n) made (plain.makes moment n value (small_of n value is));
    answers = Refuses n value e refl is made refl;
    ready_then = ready;
  }

  of_answer : (r : Result (Option (ℕ × V)) SlateDBError) (phase : ReadPhase V) → ReadAnswers decoded db log s r → Bounded decoded db log s r → WorkLeads s (read_on commit moment (End phase r))
  of_answer r phase (WasNone top is) bounded =
      subst (λ (r : Result (Option (ℕ × V)) SlateDBError). WorkLeads s (read_on commit moment (End phase r))) (sym is)
      (record { calm = tt; answers = NoVersion refl top refl; ready_then = ready })
  of_answer r phase (WasRead n bytes value latest read is) bounded =
      let b = subst (Bounded decoded db log s) is bounded in
      subst (λ (r : Result (Option (ℕ × V)) SlateDBError). WorkLeads s (read_on commit moment (End phase r))) (sym is)
      (starts n value b.0 (record { bytes = bytes; latest = latest; read = read }) b.1 (commit moment n value) refl)
  of_answer r phase (WasUndecoded n bytes e latest refuses is) bounded =
      subst (λ (r : Result (Option (ℕ × V)) SlateDBError). WorkLeads s (read_on commit moment (End phase r))) (sym is)
      (record { calm = subst IsInside refuses (plain.reads bytes); answers = Undecoded n bytes e refl latest refuses refl; ready_then = ready })
  of_answer r phase (WasUnbounded n bytes value latest read none is) bounded =
      subst (λ (r : Result (Option (ℕ × V)) SlateDBError). WorkLeads s (read_on commit moment (End phase r))) (sym is)
      (record { calm = refl; answers = NoBoundary refl none refl; ready_then = ready })

  of_read : (g : Reply V) → ReadLeads decoded db log s g → WorkLeads s (read_on commit moment g)
  of_read (Stay phase) h = (h.0, (refl, h.1))
  of_read (End phase r) h = of_answer r phase h.0 h.1

  reads_on : (phase : ReadPhase V) → ReadAt decoded db log s phase
      → WorkLeads (whole (read_asks db log phase) (moment_of (read_asks db log phase) moment) s).store
      (read_on commit moment (read_goes log decoded phase (whole (read_asks db log phase) (moment_of (read_asks db log phase) moment) s).answer))
  reads_on phase h =
      let at = moment_of (read_asks db log phase) moment in
      subst (λ (t : Store). WorkLeads t (read_on commit moment (read_goes log decoded phase (whole (read_asks db log phase) at s).answer))) (sym (read_keeps decoded db log s at phase))
      (of_read (read_goes log decoded phase (whole (read_asks db log phase) at s).answer) (read_leads decoded db log s ready at phase h))

  -- ---- the whole

  pub work_leads : (t : Store) (work : LogWork V) → WorkAt t work
      → WorkLeads (whole (work_asks db log work) (moment_of (work_asks db log work) moment) t).store
      (work_goes log decoded commit moment work (whole (work_asks db log work) (moment_of (work_asks db log work) moment) t).answer)
  work_leads t (Reading phase) h =
      subst (λ (t : Store). WorkLeads (whole (read_asks db log phase) (moment_of (read_asks db log phase) moment) t).store
      (read_on commit moment (read_goes log decoded phase (whole (read_asks db log phase) (moment_of (read_asks db log phase) moment) t).answer))) (sym h.0) (reads_on phase h.1)
  work_leads t (Committing made phase) h = commits made t phase h

  -- at each phase the log is ready, and the contents are as before but for the put of a version
  pub record Stands (t : Store) : Type 0 where
    pub ready_still : IsReady db log t
    pub changed : (t ≡ s) ⊎ ((k : ℕ) × (bytes : List ℕ) × (k < 2 ^ 64) × (t ≡ stored (version_path log db k) bytes moment s))

  as_before : (t : Store) → t ≡ s → Stands t
  as_before t same = record { ready_still = subst (λ (t : Store). IsReady db log t) (sym same) ready; changed = inl same }

  with_put : (t : Store) (k : ℕ) (bytes : List ℕ) (wanted : V) → (h : Makes k bytes wanted) → t ≡ put_at k bytes → Stands t
  with_put t k bytes wanted h same = record {
    ready_still = subst (λ (t : Store). IsReady db log t) (sym same)
        (put_ready db log s named ready k bytes moment h.small (unused k bytes wanted h) h.boundary h.bounded (above k bytes wanted h));
    changed = inr (k, bytes, h.small, same);
  }

  pub work_stands : (t : Store) (work : LogWork V) → WorkAt t work → Stands t
  work_stands t (Reading phase) h = as_before t h.0
  work_stands t (Committing made (Putting k bytes wanted)) h = as_before t h.0
  work_stands t (Committing made (Bounding k wanted)) h = with_put t k h.0 wanted h.1 h.2
  work_stands t (Committing made Over) h = absurd h
