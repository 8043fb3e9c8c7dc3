-- The steps of a commit of a number above all versions of a log that is ready, by the whole effect of each call.
use Rattle.std.proofs.Common.{◌≡◌, ℕ, ℤ, ◌<◌, ◌^◌, Bool, true, if◌then◌else◌, List, [], Option, Some, None, Result, Ok, Err, inr, refl, sym, subst, ◌∙◌, arith}
use Rattle.slate_ids.specs.Ids.{is_db_path}
use Rattle.slate_ids.specs.declared.error.SlateDBError.{SlateDBError}
use Rattle.slate_ids.specs.declared.error.SlateDBError.TheVariants.{Corrupt, TransactionalObjectVersionExists}
use Rattle.slate_ids.specs.declared.error.FormatName.TheVariants.{Boundary as BoundaryFormat}
use Rattle.slate_store.specs.Machines.{Stay, End}
use Rattle.slate_store.specs.Store.{Store, object_at, put_new, stored, whole}
use Rattle.slate_store.specs.StoreCalls.{moment_of}
use Rattle.slate_store.specs.declared.object.StoredObject.{StoredObject}
use Rattle.slate_txn_changes_laws.proofs.ReadSteps.{below_not}
use Rattle.slate_txn_laws.proofs.Places.{bad_ready, put_boundary, put_ready, put_stands, reached_by, ready_at}
use Rattle.slate_txn_laws.specs.Committing.{IsOver}
use Rattle.slate_txn_laws.specs.Ready.{top_of, IsBelow, IsLatest, IsReady}
use Rattle.slate_txn_log.specs.Advance.{boundary_at}
use Rattle.slate_txn_log.specs.CommitPhase.{CommitGoes, bounded_goes, commit_asks, commit_goes}
use Rattle.slate_txn_log.specs.LogPaths.{version_path}
use Rattle.slate_txn_log.specs.declared.commit_phase.CommitPhase.{CommitPhase}
use Rattle.slate_txn_log.specs.declared.commit_phase.CommitPhase.TheVariants.{Putting, Bounding, Over}
use Rattle.slate_txn_log.specs.declared.log_kind.LogKind.{LogKind}

pub below_over : (k b : ℕ) (top : Option ℕ) → 0 < k → IsOver k top → IsBelow b top → b < k
below_over k b None some over below = omega (arith, some, below)
below_over k b (Some n) some over below = omega (arith, over, below)

module _ (db : List ℕ) (log : LogKind) (named : is_db_path db ≡ true) (moment : ℤ) (s : Store) (ready : IsReady db log s) where
  -- a number above all versions
  pub record CanPut (k : ℕ) : Type 0 where
    pub small : k < 2 ^ 64
    pub first : 0 < k
    pub over : IsOver k (top_of db log s)

  abbrev pub put_at : ℕ → List ℕ → Store
  put_at k bytes = stored (version_path log db k) bytes moment s

  -- what is left: the version was put, and the log is ready
  pub record Puts (t : Store) : Type 0 where
    pub number : ℕ
    pub small : number < 2 ^ 64
    pub bytes : List ℕ
    pub stands : t ≡ put_at number bytes
    pub ready_then : IsReady db log t

  over_not : (k : ℕ) → CanPut k → (o : Option StoredObject) → object_at (version_path log db k) s ≡ o → o ≡ None
  over_not k can None at = refl
  over_not k can (Some x) at =
      let r = reached_by db log s named ready k [] moment can.small x at in
      let lt : r.number < k = subst (IsOver k) r.is can.over in
      let le = r.reached in
      absurd (omega (arith, lt, le))

  pub free : (k : ℕ) → CanPut k → object_at (version_path log db k) s ≡ None
  free k can = over_not k can (object_at (version_path log db k) s) refl

-- ---- the steps

-- of bytes and value of the version that is put something is known
module _ {V : Type 0} (Keeps : List ℕ → V → Type 0) (db : List ℕ) (log : LogKind) (named : is_db_path db ≡ true) (moment : ℤ) (s : Store) (ready : IsReady db log s) where
  -- what is known at each phase
  abbrev pub PutAt : Store → CommitPhase V → Type 0
  PutAt t (Putting k bytes wanted) = (t ≡ s) × CanPut db log named moment s ready k × Keeps bytes wanted
  PutAt t (Bounding k wanted) = (bytes : List ℕ) × CanPut db log named moment s ready k × (t ≡ put_at db log named moment s ready k bytes) × Keeps bytes wanted
  PutAt t Over = ⊥

  -- the latest version, and of its bytes and its value the same
  pub record IsPut (t : Store) (version : ℕ × V) : Type 0 where
    pub bytes : List ℕ
    pub latest : IsLatest db log t version.0 bytes
    pub keeps : Keeps bytes version.1

  -- the version is the latest; or the boundary is not a number
  abbrev pub PutSo : Store → Result (ℕ × V) SlateDBError → Type 0
  PutSo t (Ok version) = Puts db log named moment s ready t × IsPut t version
  PutSo t (Err e) = Puts db log named moment s ready t × (e ≡ Corrupt BoundaryFormat) × (boundary_at db log t ≡ None)

  abbrev pub PutLeads : Store → CommitGoes V → Type 0
  PutLeads t (Stay q) = PutAt t q
  PutLeads t (End q r) = PutSo t r

  puts : (k : ℕ) (bytes : List ℕ) (wanted : V) → CanPut db log named moment s ready k → Keeps bytes wanted
      → PutLeads (whole (commit_asks db log (Putting k bytes wanted)) moment s).store (commit_goes (Putting k bytes wanted) (whole (commit_asks db log (Putting k bytes wanted)) moment s).answer)
  puts k bytes wanted can keeps =
      subst (λ (o : Option StoredObject). PutLeads (put_new o (version_path log db k) bytes moment s).store (commit_goes (Putting k bytes wanted) (put_new o (version_path log db k) bytes moment s).answer))
      (sym (free db log named moment s ready k can)) (bytes, can, refl, keeps)

  by_boundary : (k : ℕ) (bytes : List ℕ) (wanted : V) → CanPut db log named moment s ready k → Keeps bytes wanted → (boundary : Option ℕ) → boundary_at db log s ≡ boundary → PutLeads (put_at db log named moment s ready k bytes) (bounded_goes k wanted boundary)
  by_boundary k bytes wanted can keeps None at =
      (record { number = k; small = can.small; bytes = bytes; stands = refl; ready_then = bad_ready db log s named ready k bytes moment can.small (free db log named moment s ready k can) at }, refl, put_boundary db log s named ready k bytes moment can.small (free db log named moment s ready k can) ∙ at)
  by_boundary k bytes wanted can keeps (Some b) at =
      let lt = below_over k b (top_of db log s) can.first can.over (ready_at db log s named ready b at) in
      let stands = put_stands db log s named ready k bytes moment can.small (free db log named moment s ready k can) b at lt in
      subst (λ (x : Bool). PutLeads (put_at db log named moment s ready k bytes) (if x then End Over (Err (TransactionalObjectVersionExists k (Some b))) else End Over (Ok (k, wanted)))) (sym (below_not k b lt))
      (record { number = k; small = can.small; bytes = bytes; stands = refl; ready_then = put_ready db log s named ready k bytes moment can.small (free db log named moment s ready k can) b at lt }, record { bytes = bytes; latest = record { top = stands.latest (inr can.over); stands = stands.stands }; keeps = keeps })

  bounds : (k : ℕ) (bytes : List ℕ) (wanted : V) → CanPut db log named moment s ready k → Keeps bytes wanted → PutLeads (put_at db log named moment s ready k bytes) (bounded_goes k wanted (boundary_at db log (put_at db log named moment s ready k bytes)))
  bounds k bytes wanted can keeps =
      subst (λ (o : Option ℕ). PutLeads (put_at db log named moment s ready k bytes) (bounded_goes k wanted o)) (sym (put_boundary db log s named ready k bytes moment can.small (free db log named moment s ready k can)))
      (by_boundary k bytes wanted can keeps (boundary_at db log s) refl)

  abbrev Stepped : Store → CommitPhase V → Type 0
  Stepped t phase = PutLeads (whole (commit_asks db log phase) (moment_of (commit_asks db log phase) moment) t).store (commit_goes phase (whole (commit_asks db log phase) (moment_of (commit_asks db log phase) moment) t).answer)

  pub put_leads : (t : Store) (phase : CommitPhase V) → PutAt t phase → Stepped t phase
  put_leads t (Putting k bytes wanted) h = subst (λ (t : Store). Stepped t (Putting k bytes wanted)) (sym h.0) (puts k bytes wanted h.1 h.2)
  put_leads t (Bounding k wanted) h = subst (λ (t : Store). Stepped t (Bounding k wanted)) (sym h.2) (bounds k h.0 wanted h.1 h.3)
  put_leads t Over h = absurd h
