-- Changes whose parts refuse for no reason from outside.
use Rattle.std.specs.Prelude.{◌≡◌, ◌+◌, ◌<◌, ◌^◌, ◌==◌, ℕ, ℤ, Bool, true, false, List, Option, Some, None, Result, Ok, Err, if◌then◌else◌, refl}
use Rattle.std.proofs.Common.{arith}
use Rattle.std.proofs.lemmas.Bool.Decides.{nat_tests}
use Rattle.slate_txn_laws.specs.Outside.{is_outside}
use Rattle.slate_ids.specs.Limits.{last_number}
use Rattle.slate_ids.specs.declared.error.SlateDBError.{SlateDBError}
use Rattle.slate_ids.specs.declared.error.SlateDBError.TheVariants.{Exhausted}
use Rattle.slate_txn_changes.specs.Changes.{change_commit}
use Rattle.slate_txn_changes_laws.specs.Works.{IsNext, MayPut, IsInside, PlainWork}
use Rattle.slate_txn_laws.proofs.PlainInside.{plain_inside}
use Rattle.slate_txn_laws.specs.Plain.{refuses_plainly, Plainly}
use Rattle.slate_txn_log.specs.Change.{some_commit, wanted}
use Rattle.slate_txn_log.specs.CommitPhase.{checked_commit, encoded_commit, prepared}
use Rattle.slate_txn_log.specs.Fence.{unless}
use Rattle.slate_txn_log.specs.declared.commit_phase.CommitPhase.{CommitPhase}
use Rattle.slate_txn_log.specs.declared.right.Right.{Right}

-- an answer that is refused for the value comes from inside
pub plain_calm : {X : Type 0} (r : Result X SlateDBError) → Plainly r → IsInside r
plain_calm (Ok x) h = tt
plain_calm (Err e) h = plain_inside e h

fits : (n : ℕ) → n < 2 ^ 64 → (n == last_number) ≡ false → n + 1 < 2 ^ 64
fits n small h = grind (arith, nat_tests, small, h)

-- no refusal, or one that comes from inside
abbrev pub RefusesCalmly : Option SlateDBError → Type 0
RefusesCalmly None = Unit {0}
RefusesCalmly (Some e) = is_outside e ≡ false

module _ {V : Type 0} (decoded : List ℕ → Result V SlateDBError) (made : ℤ → ℕ → V → Result (Option V) SlateDBError) (right : Right) (fence : V → Option SlateDBError) (refusal : ℕ → V → V → Right → Option SlateDBError) (encoded : V → Result (List ℕ) SlateDBError) where
  -- what a commit is that goes: the put at the next number
  abbrev Goes : ℕ → Result (CommitPhase V) SlateDBError → Type 0
  Goes n (Ok phase) = IsNext n phase
  Goes n (Err e) = is_outside e ≡ false

  of_bytes : (n : ℕ) (new : V) (bytes : Result (List ℕ) SlateDBError) → n + 1 < 2 ^ 64 → Plainly bytes → Goes n (encoded_commit (n + 1) new bytes)
  of_bytes n new (Ok bytes) small h = record { bytes = bytes; value = new; puts = refl; fits = small }
  of_bytes n new (Err e) small h = plain_inside e h

  of_rules : (n : ℕ) (new : V) (o : Option SlateDBError) (bytes : Result (List ℕ) SlateDBError) → n + 1 < 2 ^ 64 → refuses_plainly o ≡ true → Plainly bytes → Goes n (checked_commit o (n + 1) new bytes)
  of_rules n new (Some e) bytes small rules h = plain_inside e rules
  of_rules n new None bytes small rules h = of_bytes n new bytes small h

  of_number : (n : ℕ) (new : V) (o : Option SlateDBError) (bytes : Result (List ℕ) SlateDBError) (b : Bool) → (n == last_number) ≡ b → n < 2 ^ 64 → refuses_plainly o ≡ true → Plainly bytes
      → Goes n (if b then Err (Exhausted n) else checked_commit o (n + 1) new bytes)
  of_number n new o bytes true at small rules h = refl
  of_number n new o bytes false at small rules h = of_rules n new o bytes (fits n small at) rules h

  of_some : (n : ℕ) (r : Result (CommitPhase V) SlateDBError) → Goes n r → MayPut n (some_commit r)
  of_some n (Ok phase) h = h
  of_some n (Err e) h = h

  module _ (rules : (n : ℕ) (old new : V) → refuses_plainly (refusal n old new right) ≡ true) (encodes : (v : V) → Plainly (encoded v)) where
    of_made : (n : ℕ) (v : V) → n < 2 ^ 64 → (r : Result (Option V) SlateDBError) → IsInside r → MayPut n (wanted (λ new. prepared refusal encoded n v new right) r)
    of_made n v small (Err e) h = h
    of_made n v small (Ok None) h = tt
    of_made n v small (Ok (Some new)) h = of_some n _ (of_number n new (refusal n v new right) (encoded new) (n == last_number) refl small (rules n v new) (encodes new))

    of_fence : (n : ℕ) (o : Option SlateDBError) (r : Result (Option (CommitPhase V)) SlateDBError) → RefusesCalmly o → MayPut n r → MayPut n (unless o r)
    of_fence n (Some e) r calm h = calm
    of_fence n None r calm h = h

    -- such a change, with such a fence, rules and codec
    may_go : ((now : ℤ) (n : ℕ) (v : V) → IsInside (made now n v)) → ((v : V) → RefusesCalmly (fence v)) → (now : ℤ) (n : ℕ) (v : V) → n < 2 ^ 64 → MayPut n (change_commit made right fence refusal encoded now n v)
    may_go makes fences now n v small = of_fence n (fence v) _ (fences v) (of_made n v small (made now n v) (makes now n v))

    pub plain_work : ((bytes : List ℕ) → IsInside (decoded bytes)) → ((now : ℤ) (n : ℕ) (v : V) → IsInside (made now n v)) → ((v : V) → RefusesCalmly (fence v)) → PlainWork decoded (change_commit made right fence refusal encoded)
    plain_work reads makes fences = record { reads = reads; makes = may_go makes fences }
