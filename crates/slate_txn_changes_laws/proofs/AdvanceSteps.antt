-- The steps of an advance of a boundary, by the whole effect of each call.
use Rattle.std.proofs.Common.{◌≡◌, ◌⊎◌, ℕ, ℤ, ◌==◌, Bool, true, false, nat_le, if◌then◌else◌, Option, Some, None, Ok, Err, List, inl, inr, refl, sym, ap, ◌∙◌, subst}
use Rattle.std.specs.Prelude.{decimal}
use Rattle.std.proofs.lemmas.Bool.Decides.{nat_tests}
use Rattle.std.proofs.Common.{arith}
use Rattle.slate_ids.specs.declared.error.SlateDBError.TheVariants.{Corrupt}
use Rattle.slate_ids.specs.declared.error.FormatName.TheVariants.{Boundary as BoundaryFormat}
use Rattle.slate_store.specs.Machines.{Stay, End}
use Rattle.slate_store.specs.Store.{Store, has_tag, object_at, put_new, replace, whole}
use Rattle.slate_store.specs.StoreCalls.{moment_of}
use Rattle.slate_store.specs.declared.object.StoredObject.{StoredObject}
use Rattle.slate_txn_log.specs.Advance.{boundary_at}
use Rattle.slate_txn_log.specs.AdvancePhase.{AdvanceGoes, advance_asks, advance_goes, bound_goes, is_bounding, read_goes_to}
use Rattle.slate_txn_log.specs.Boundary.{boundary_got, boundary_of}
use Rattle.slate_txn_log.specs.LogPaths.{boundary_path}
use Rattle.slate_txn_log.specs.declared.advance_phase.AdvancePhase.{AdvancePhase}
use Rattle.slate_txn_log.specs.declared.advance_phase.AdvancePhase.TheVariants.{Bounding, Creating, Replacing, Over}
use Rattle.slate_txn_log.specs.declared.log_kind.LogKind.{LogKind}

own_tag : (tag : ℕ) → (tag == tag) ≡ true
own_tag tag = grind (arith, nat_tests)

module _ (db : List ℕ) (log : LogKind) where
  -- what is known at each phase
  abbrev pub AdvanceAt : Store → AdvancePhase → Type 0
  AdvanceAt t (Bounding n) = Unit {0}
  AdvanceAt t (Creating n) = object_at (boundary_path log db) t ≡ None
  AdvanceAt t (Replacing n tag) = has_tag tag (object_at (boundary_path log db) t) ≡ true
  AdvanceAt t Over = ⊥

  -- it goes on without getting the boundary again, or ends well, or the boundary is not a number
  abbrev pub AdvanceLeads : Store → AdvanceGoes → Type 0
  AdvanceLeads t (Stay q) = (is_bounding q ≡ false) × AdvanceAt t q
  AdvanceLeads t (End q r) = (r ≡ Ok tt) ⊎ ((boundary_at db log t ≡ None) × (r ≡ Err (Corrupt BoundaryFormat)))

  creates : (t : Store) (n : ℕ) → object_at (boundary_path log db) t ≡ None → (b : Bool) → AdvanceLeads t (if b then End Over (Ok tt) else Stay (Creating n))
  creates t n at true = inl refl
  creates t n at false = (refl, at)

  replaces : (t : Store) (n tag : ℕ) → has_tag tag (object_at (boundary_path log db) t) ≡ true → (b : Bool) → AdvanceLeads t (if b then End Over (Ok tt) else Stay (Replacing n tag))
  replaces t n tag at true = inl refl
  replaces t n tag at false = (refl, at)

  reads : (t : Store) (n tag : ℕ) → has_tag tag (object_at (boundary_path log db) t) ≡ true → (boundary : Option ℕ) → boundary_at db log t ≡ boundary → AdvanceLeads t (read_goes_to n tag boundary)
  reads t n tag at None none = inr (none, refl)
  reads t n tag at (Some b) same = replaces t n tag at (nat_le n b)

  bounds : (t : Store) (n : ℕ) (o : Option StoredObject) → object_at (boundary_path log db) t ≡ o → AdvanceLeads t (bound_goes n o)
  bounds t n None at = creates t n at (n == 0)
  bounds t n (Some x) at = reads t n x.e_tag (ap (has_tag x.e_tag) at ∙ own_tag x.e_tag) (boundary_of x.bytes) (ap boundary_got at)

  pub advance_leads : (moment : ℤ) (t : Store) (phase : AdvancePhase) → AdvanceAt t phase
      → AdvanceLeads (whole (advance_asks db log phase) (moment_of (advance_asks db log phase) moment) t).store
      (advance_goes phase (whole (advance_asks db log phase) (moment_of (advance_asks db log phase) moment) t).answer)
  advance_leads moment t (Bounding n) h = bounds t n (object_at (boundary_path log db) t) refl
  advance_leads moment t (Creating n) h =
      subst (λ (o : Option StoredObject). AdvanceLeads (put_new o (boundary_path log db) (decimal n) moment t).store (advance_goes (Creating n) (put_new o (boundary_path log db) (decimal n) moment t).answer)) (sym h) (inl refl)
  advance_leads moment t (Replacing n tag) h =
      subst (λ (b : Bool). AdvanceLeads (replace b (boundary_path log db) (decimal n) moment t).store (advance_goes (Replacing n tag) (replace b (boundary_path log db) (decimal n) moment t).answer)) (sym h) (inl refl)
  advance_leads moment t Over h = absurd h
