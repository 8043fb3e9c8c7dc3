-- The steps of a read of a log that is ready, by the whole effect of each call.
use Rattle.std.proofs.Common.{◌≡◌, ℕ, ℤ, ◌<◌, Bool, false, nat_le, if◌then◌else◌, List, Option, Some, None, IfSome, Result, Ok, Err, refl, sym, ap, subst, arith}
use Rattle.std.proofs.lemmas.Bool.Decides.{nat_tests}
use Rattle.slate_ids.specs.declared.error.SlateDBError.{SlateDBError}
use Rattle.slate_store.specs.Machines.{Stay, End}
use Rattle.slate_store.specs.Store.{Store, object_at, whole}
use Rattle.slate_store.specs.declared.object.StoredObject.{StoredObject}
use Rattle.slate_txn_changes_laws.specs.ChangeEnds.{IsRead}
use Rattle.slate_txn_log.specs.Advance.{boundary_at}
use Rattle.slate_txn_log.specs.LogPaths.{version_path}
use Rattle.slate_txn_log.specs.ReadPhase.{Reply, read_asks, read_goes, is_listing, listed_goes, got_goes, decoded_goes, boundary_goes, above_goes}
use Rattle.slate_txn_log.specs.declared.log_kind.LogKind.{LogKind}
use Rattle.slate_txn_log.specs.declared.read_phase.ReadPhase.{ReadPhase}
use Rattle.slate_txn_log.specs.declared.read_phase.ReadPhase.TheVariants.{Listing, Getting, Bounding, Over}
use Rattle.slate_txn_laws.specs.Reading.{ReadAnswers}
use Rattle.slate_txn_laws.specs.Reading.ReadAnswers.{NoVersion, Latest, Undecoded, NoBoundary}
use Rattle.slate_txn_laws.specs.Ready.{top_of, bytes_of, IsBelow, IsReady}
use Rattle.slate_txn_laws.proofs.Tops.{top_object}

pub below_not : (n b : ℕ) → b < n → nat_le n b ≡ false
below_not n b h = grind (arith, nat_tests, h)

-- a boundary that can be read is below the greatest number
pub boundary_below : (db : List ℕ) (log : LogKind) (s : Store) (n b : ℕ) → IsReady db log s → top_of db log s ≡ Some n → boundary_at db log s ≡ Some b → b < n
boundary_below db log s n b ready top at = subst (IsBelow b) top (subst (λ (o : Option ℕ). IfSome o (λ b. IsBelow b (top_of db log s))) at ready.below)

module _ {T : Type 0} (decoded : List ℕ → Result T SlateDBError) (db : List ℕ) (log : LogKind) (s : Store) where
  -- what is known at each phase
  abbrev pub ReadAt : ReadPhase T → Type 0
  ReadAt Listing = Unit {0}
  ReadAt (Getting n) = top_of db log s ≡ Some n
  ReadAt (Bounding n value) = IsRead decoded db log s n value
  ReadAt Over = ⊥

  -- a version that is given was bounded: a boundary that can be read
  abbrev pub Bounded : Result (Option (ℕ × T)) SlateDBError → Type 0
  Bounded (Ok (Some version)) = (boundary : ℕ) × (boundary_at db log s ≡ Some boundary)
  Bounded _ = Unit {0}

  -- a read goes on without listing again, or ends with its answer
  abbrev pub ReadLeads : Reply T → Type 0
  ReadLeads (Stay q) = (is_listing q ≡ false) × ReadAt q
  ReadLeads (End q r) = ReadAnswers decoded db log s r × Bounded r

  -- its calls leave the contents
  pub read_keeps : (moment : ℤ) (phase : ReadPhase T) → (whole (read_asks db log phase) moment s).store ≡ s
  read_keeps moment Listing = refl
  read_keeps moment (Getting n) = refl
  read_keeps moment (Bounding n value) = refl
  read_keeps moment Over = refl

  module _ (ready : IsReady db log s) (moment : ℤ) where
    lists : (top : Option ℕ) → top_of db log s ≡ top → ReadLeads (listed_goes top)
    lists None at = (NoVersion at refl, tt)
    lists (Some n) at = (refl, at)

    decodes : (n : ℕ) (object : StoredObject) → top_of db log s ≡ Some n → object_at (version_path log db n) s ≡ Some object → (reply : Result T SlateDBError) → decoded object.bytes ≡ reply → ReadLeads (decoded_goes n reply)
    decodes n object top at (Ok value) reads = (refl, record { bytes = object.bytes; latest = record { top = top; stands = ap bytes_of at }; read = reads })
    decodes n object top at (Err e) refuses = (Undecoded n object.bytes e (record { top = top; stands = ap bytes_of at }) refuses refl, tt)

    gets : (n : ℕ) → top_of db log s ≡ Some n → ReadLeads (got_goes decoded n (object_at (version_path log db n) s))
    gets n top =
        let has = top_object log db s n ready.fine top in
        subst (λ (o : Option StoredObject). ReadLeads (got_goes decoded n o)) (sym has.at) (decodes n has.object top has.at (decoded has.object.bytes) refl)

    above : (n : ℕ) (value : T) (b : ℕ) → IsRead decoded db log s n value → boundary_at db log s ≡ Some b → ReadLeads (above_goes n value b)
    above n value b is at =
        subst (λ (t : Bool). ReadLeads (if t then Stay Listing else End Over (Ok (Some (n, value))))) (sym (below_not n b (boundary_below db log s n b ready is.latest.top at)))
        (Latest n is.bytes value is.latest is.read refl, (b, at))

    bounds : (n : ℕ) (value : T) → IsRead decoded db log s n value → (boundary : Option ℕ) → boundary_at db log s ≡ boundary → ReadLeads (boundary_goes n value boundary)
    bounds n value is None at = (NoBoundary n is.bytes value is.latest is.read at refl, tt)
    bounds n value is (Some b) at = above n value b is at

    pub read_leads : (phase : ReadPhase T) → ReadAt phase → ReadLeads (read_goes log decoded phase (whole (read_asks db log phase) moment s).answer)
    read_leads Listing h = lists (top_of db log s) refl
    read_leads (Getting n) h = gets n h
    read_leads (Bounding n value) h = bounds n value h (boundary_at db log s) refl
    read_leads Over h = absurd h
