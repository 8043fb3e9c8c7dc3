-- What a change puts is read back of its bytes.
use Rattle.std.specs.Prelude.{◌≡◌, ◌+◌, ◌==◌, ℕ, ℤ, Bool, true, false, List, Option, Some, None, Result, Ok, Err, if◌then◌else◌, refl}
use Rattle.slate_ids.specs.Limits.{last_number}
use Rattle.slate_ids.specs.declared.error.SlateDBError.{SlateDBError}
use Rattle.slate_ids.specs.declared.error.SlateDBError.TheVariants.{Exhausted}
use Rattle.slate_txn_changes.specs.Changes.{change_commit}
use Rattle.slate_txn_log.specs.Change.{some_commit, wanted}
use Rattle.slate_txn_log.specs.CommitPhase.{checked_commit, encoded_commit, prepared}
use Rattle.slate_txn_log.specs.Fence.{unless}
use Rattle.slate_txn_log.specs.declared.commit_phase.CommitPhase.{CommitPhase}
use Rattle.slate_txn_log.specs.declared.commit_phase.CommitPhase.TheVariants.{Putting, Bounding, Over}
use Rattle.slate_txn_log.specs.declared.right.Right.{Right}

module _ {V : Type 0} (decoded : List ℕ → Result V SlateDBError) (back : V → V) where
  -- the bytes are read as what is read back of a value
  abbrev pub ReadsBack : List ℕ → V → Type 0
  ReadsBack bytes value = decoded bytes ≡ Ok (back value)

  -- so are those of a put
  abbrev pub PutsBack : CommitPhase V → Type 0
  PutsBack (Putting k bytes value) = ReadsBack bytes value
  PutsBack (Bounding k value) = Unit {0}
  PutsBack Over = Unit {0}

  -- of a commit that may be none
  abbrev pub MayPutBack : Result (Option (CommitPhase V)) SlateDBError → Type 0
  MayPutBack (Ok (Some phase)) = PutsBack phase
  MayPutBack (Ok None) = Unit {0}
  MayPutBack (Err e) = Unit {0}

  module _ (encoded : V → Result (List ℕ) SlateDBError) (trip : (value : V) (bytes : List ℕ) → encoded value ≡ Ok bytes → ReadsBack bytes value) where
    abbrev GoesBack : Result (CommitPhase V) SlateDBError → Type 0
    GoesBack (Ok phase) = PutsBack phase
    GoesBack (Err e) = Unit {0}

    of_bytes : (k : ℕ) (value : V) (bytes : Result (List ℕ) SlateDBError) → encoded value ≡ bytes → GoesBack (encoded_commit k value bytes)
    of_bytes k value (Ok bytes) is = trip value bytes is
    of_bytes k value (Err e) is = tt

    of_rules : (k : ℕ) (value : V) (o : Option SlateDBError) → GoesBack (checked_commit o k value (encoded value))
    of_rules k value (Some e) = tt
    of_rules k value None = of_bytes k value (encoded value) refl

    of_number : (n : ℕ) (value : V) (o : Option SlateDBError) (b : Bool) → GoesBack (if b then Err (Exhausted n) else checked_commit o (n + 1) value (encoded value))
    of_number n value o true = tt
    of_number n value o false = of_rules (n + 1) value o

    of_some : (r : Result (CommitPhase V) SlateDBError) → GoesBack r → MayPutBack (some_commit r)
    of_some (Ok phase) h = h
    of_some (Err e) h = h

    module _ (made : ℤ → ℕ → V → Result (Option V) SlateDBError) (right : Right) (fence : V → Option SlateDBError) (refusal : ℕ → V → V → Right → Option SlateDBError) where
      of_made : (n : ℕ) (v : V) (r : Result (Option V) SlateDBError) → MayPutBack (wanted (λ new. prepared refusal encoded n v new right) r)
      of_made n v (Err e) = tt
      of_made n v (Ok None) = tt
      of_made n v (Ok (Some new)) = of_some _ (of_number n new (refusal n v new right) (n == last_number))

      of_fence : (o : Option SlateDBError) (r : Result (Option (CommitPhase V)) SlateDBError) → MayPutBack r → MayPutBack (unless o r)
      of_fence (Some e) r h = tt
      of_fence None r h = h

      pub puts_back : (now : ℤ) (n : ℕ) (v : V) → MayPutBack (change_commit made right fence refusal encoded now n v)
      puts_back now n v = of_fence (fence v) _ (of_made n v (made now n v))
