-- The steps of a change under way on one of two logs that are ready: both stay ready, and no reason from outside ends it.
use Rattle.std.proofs.Common.{◌≡◌, ℕ, ◌+◌, ℤ, ◌<◌, ◌^◌, true, false, List, Option, Some, None, Result, Ok, Err, refl, sym, subst, arith}
use Rattle.slate_ids.specs.Ids.{is_db_path}
use Rattle.slate_ids.specs.declared.error.SlateDBError.{SlateDBError}
use Rattle.slate_store.specs.Machines.{Stay, End}
use Rattle.slate_store.specs.Store.{Store, whole}
use Rattle.slate_store.specs.StoreCalls.{moment_of}
use Rattle.slate_txn_changes.specs.LogWorks.{WorkGoes, change_goes, commit_on, read_on, work_asks, work_goes, work_starts}
use Rattle.slate_txn_changes.specs.declared.log_work.LogEnd.{LogEnd}
use Rattle.slate_txn_changes.specs.declared.log_work.LogEnd.TheVariants.{Absent, Unchanged, Committed}
use Rattle.slate_txn_changes.specs.declared.log_work.LogWork.{LogWork}
use Rattle.slate_txn_changes.specs.declared.log_work.LogWork.TheVariants.{Reading, Committing}
use Rattle.slate_txn_changes_laws.proofs.BackPuts.{MayPutBack, PutsBack, ReadsBack}
use Rattle.slate_txn_changes_laws.proofs.PutSteps.{CanPut, PutAt, PutLeads, Puts, put_leads}
use Rattle.slate_txn_changes_laws.proofs.ReadSteps.{ReadAt, ReadLeads, read_keeps, read_leads}
use Rattle.slate_txn_changes_laws.specs.ChangeEnds.{Commit, IsRead, WhyRefused}
use Rattle.slate_txn_changes_laws.specs.ChangeEnds.WhyRefused.{OfBoundary, OfBytes, OfChange}
use Rattle.slate_txn_changes_laws.specs.Works.{IsInside, IsNext, MayPut, PlainWork}
use Rattle.slate_txn_laws.proofs.Asides.{stored_ready}
use Rattle.slate_txn_laws.proofs.OtherCalls.{version_aside}
use Rattle.slate_txn_laws.proofs.Tops.{top_object}
use Rattle.slate_txn_laws.specs.Committing.{IsOver}
use Rattle.slate_txn_laws.specs.Outside.{is_outside}
use Rattle.slate_txn_laws.specs.Reading.{ReadAnswers}
use Rattle.slate_txn_laws.specs.Reading.ReadAnswers.{NoVersion as WasNone, Latest as WasRead, Undecoded as WasUndecoded, NoBoundary as WasUnbounded}
use Rattle.slate_txn_laws.specs.Ready.{top_of, IsReady}
use Rattle.slate_txn_log.specs.CommitPhase.{CommitGoes}
use Rattle.slate_txn_log.specs.LogPaths.{version_path}
use Rattle.slate_txn_log.specs.ReadPhase.{Reply, read_asks, read_goes}
use Rattle.slate_txn_log.specs.declared.commit_phase.CommitPhase.{CommitPhase}
use Rattle.slate_txn_log.specs.declared.commit_phase.CommitPhase.TheVariants.{Putting}
use Rattle.slate_txn_log.specs.declared.log_kind.LogKind.{LogKind}
use Rattle.slate_txn_log.specs.declared.read_phase.ReadPhase.{ReadPhase}

next_over : (n : ℕ) (top : Option ℕ) → top ≡ Some n → IsOver (n + 1) top
next_over n top is = subst (IsOver (n + 1)) (sym is) (omega arith)

-- what is put is read back as another value of it
module _ {V : Type 0} (decoded : List ℕ → Result V SlateDBError) (back : V → V) (db : List ℕ) (log other : LogKind) (apart : log ≡ other → ⊥) (named : is_db_path db ≡ true) (moment : ℤ) where
  -- both logs are ready
  pub record Both (t : Store) : Type 0 where
    pub own : IsReady db log t
    pub aside : IsReady db other t

  -- bytes are those of a value
  abbrev IsBack : List ℕ → V → Type 0
  IsBack = ReadsBack decoded back

  -- a commit is under way, that began with these contents
  pub record Under (t : Store) (phase : CommitPhase V) : Type 0 where
    pub before : Store
    pub both : Both before
    pub at : PutAt IsBack db log named moment before both.own t phase

  -- what is known at each phase
  abbrev pub WorkHolds : Store → LogWork V → Type 0
  WorkHolds t (Reading phase) = Both t × ReadAt decoded db log t phase
  WorkHolds t (Committing made phase) = Under t phase

  -- and at its end: which version is the latest, and what is read of it; or why it is refused
  abbrev pub Gives : Commit V → Store → Result (LogEnd V) SlateDBError → Type 0
  Gives commit t (Ok Absent) = Both t × (top_of db log t ≡ None)
  Gives commit t (Ok (Unchanged n value)) = Both t × IsRead decoded db log t n value × (commit moment n value ≡ Ok None)
  Gives commit t (Ok (Committed n value)) = Both t × IsRead decoded db log t n (back value)
  Gives commit t (Err e) = Both t × (is_outside e ≡ false) × WhyRefused decoded commit db log moment t e

  abbrev pub WorkTo : Commit V → Store → WorkGoes V → Type 0
  WorkTo commit t (Stay work) = (work_starts work ≡ false) × WorkHolds t work
  WorkTo commit t (End work r) = Gives commit t r

  -- a commit begins at the next number
  pub begins : (t : Store) (n : ℕ) (phase : CommitPhase V) → Both t → top_of db log t ≡ Some n → IsNext n phase → PutsBack decoded back phase → Under t phase
  begins t n phase both top next puts =
      let can : CanPut db log named moment t both.own (n + 1) = record { small = next.fits; first = omega arith; over = next_over n (top_of db log t) top } in
      subst (λ (p : CommitPhase V). Under t p) (sym next.puts) (record { before = t; both = both; at = (refl, can, subst (PutsBack decoded back) next.puts puts) })

  -- and so the first
  pub begins_first : (t : Store) (bytes : List ℕ) (value : V) → Both t → top_of db log t ≡ None → ReadsBack decoded back bytes value → Under t (Putting 1 bytes value)
  begins_first t bytes value both top reads =
      let over : IsOver 1 (top_of db log t) = subst (IsOver 1) (sym top) tt in
      let can : CanPut db log named moment t both.own 1 = record { small = omega arith; first = omega arith; over = over } in
      record { before = t; both = both; at = (refl, can, reads) }

  pub small_of : (t : Store) (n : ℕ) → Both t → top_of db log t ≡ Some n → n < 2 ^ 64
  small_of t n both top = (top_object log db t n both.own.fine top).small

  both_after : (s t : Store) (both : Both s) → Puts db log named moment s both.own t → Both t
  both_after s t both left = record {
    own = left.ready_then;
    aside = subst (λ (t : Store). IsReady db other t) (sym left.stands)
        (stored_ready db other named (version_path log db left.number) (version_aside db other db log left.number named left.small (λ one same. apart (sym same))) left.bytes moment s both.aside);
  }

  module _ (commit : Commit V) (plain : PlainWork decoded commit) (puts : (now : ℤ) (n : ℕ) (value : V) → MayPutBack decoded back (commit now n value)) where
    of_commit : (made : ℤ) (s t : Store) (both : Both s) (g : CommitGoes V) → PutLeads IsBack db log named moment s both.own t g → WorkTo commit t (commit_on made g)
    of_commit made s t both (Stay phase) h = (refl, record { before = s; both = both; at = h })
    of_commit made s t both (End phase (Ok version)) h = (both_after s t both h.0, record { bytes = h.1.bytes; latest = h.1.latest; read = h.1.keeps })
    of_commit made s t both (End phase (Err e)) h = (both_after s t both h.0, subst (λ (e : SlateDBError). is_outside e ≡ false) (sym h.1) refl, OfBoundary h.2 h.1)

    starts : (t : Store) (n : ℕ) (value : V) → Both t → IsRead decoded db log t n value → (start : Result (Option (CommitPhase V)) SlateDBError) → commit moment n value ≡ start → MayPut n start → MayPutBack decoded back start → WorkTo commit t (change_goes moment n value start)
    starts t n value both is (Ok (Some phase)) made may told = (refl, begins t n phase both is.latest.top may told)
    starts t n value both is (Ok None) made may told = (both, is, made)
    starts t n value both is (Err e) made may told = (both, may, OfChange n value is made)

    of_answer : (t : Store) (phase : ReadPhase V) (r : Result (Option (ℕ × V)) SlateDBError) → Both t → ReadAnswers decoded db log t r → WorkTo commit t (read_on commit moment (End phase r))
    of_answer t phase r both (WasNone top is) = subst (λ (r : Result (Option (ℕ × V)) SlateDBError). WorkTo commit t (read_on commit moment (End phase r))) (sym is) (both, top)
    of_answer t phase r both (WasRead n bytes value latest read is) =
        subst (λ (r : Result (Option (ℕ × V)) SlateDBError). WorkTo commit t (read_on commit moment (End phase r))) (sym is)
        (starts t n value both (record { bytes = bytes; latest = latest; read = read }) (commit moment n value) refl (plain.makes moment n value (small_of t n both latest.top)) (puts moment n value))
    of_answer t phase r both (WasUndecoded n bytes e latest refuses is) =
        subst (λ (r : Result (Option (ℕ × V)) SlateDBError). WorkTo commit t (read_on commit moment (End phase r))) (sym is) (both, subst IsInside refuses (plain.reads bytes), OfBytes n bytes latest refuses)
    of_answer t phase r both (WasUnbounded n bytes value latest read none is) =
        subst (λ (r : Result (Option (ℕ × V)) SlateDBError). WorkTo commit t (read_on commit moment (End phase r))) (sym is) (both, refl, OfBoundary none refl)

    of_read : (t : Store) (g : Reply V) → Both t → ReadLeads decoded db log t g → WorkTo commit t (read_on commit moment g)
    of_read t (Stay phase) both h = (h.0, (both, h.1))
    of_read t (End phase r) both h = of_answer t phase r both h.0

    abbrev Stepped : Store → LogWork V → Type 0
    Stepped t work = WorkTo commit (whole (work_asks db log work) (moment_of (work_asks db log work) moment) t).store
        (work_goes log decoded commit moment work (whole (work_asks db log work) (moment_of (work_asks db log work) moment) t).answer)

    pub work_to : (t : Store) (work : LogWork V) → WorkHolds t work → Stepped t work
    work_to t (Reading phase) h =
        let m = moment_of (read_asks db log phase) moment in
        let g = read_goes log decoded phase (whole (read_asks db log phase) m t).answer in
        subst (λ (u : Store). WorkTo commit u (read_on commit moment g)) (sym (read_keeps decoded db log t m phase))
        (of_read t g h.0 (read_leads decoded db log t h.0.own m phase h.1))
    work_to t (Committing made phase) h = of_commit made h.before _ h.both _ (put_leads IsBack db log named moment h.before h.both.own t phase h.at)
