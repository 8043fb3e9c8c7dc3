-- A codec and rules that refuse a value for what it is never refuse as others or the store do.
use Rattle.std.specs.Prelude.{◌≡◌, nat_lt, ℕ, Bool, true, false, List, Option, Some, None, Result, Ok, Err, if◌then◌else◌, refl}
use Rattle.std.proofs.Common.{subst}
use Rattle.slate_ids.specs.declared.error.SlateDBError.{SlateDBError}
use Rattle.slate_ids.specs.declared.error.SlateDBError.TheVariants.{Contended, Fenced, StoreFault, TransactionalObjectVersionExists}
use Rattle.slate_txn_log.specs.Change.{next_epoch}
use Rattle.slate_txn_log.specs.Fence.{unless}
use Rattle.slate_txn_log.specs.declared.right.Right.{Right}
use Rattle.slate_txn_laws.specs.Plain.{is_plain, refuses_plainly, Plainly, PlainLog}
use Rattle.slate_txn_laws.proofs.PlainCommits.{raise_so}
use Rattle.slate_txn.specs.Apply.{ways_of}
use Rattle.slate_txn.specs.FencedApplying.{fenced_made}
use Rattle.slate_txn_laws.specs.Changing.{may_of}
use Rattle.slate_txn_laws.specs.Outside.{is_outside, NotOutside, NeverOutside, RulesInside, WaysInside}

-- a refusal of the value isn't from outside
pub plain_inside : (e : SlateDBError) → is_plain e ≡ true → is_outside e ≡ false
plain_inside Contended h = absurd cc
plain_inside StoreFault h = absurd cc
plain_inside (TransactionalObjectVersionExists number boundary) h = absurd cc
plain_inside _ h = refl

pub told : {X : Type 0} (r : Result X SlateDBError) → Plainly r → NotOutside r
told (Ok x) h e same = absurd cc
told (Err a) h e same = let is : a ≡ e = cc in subst (λ (e : SlateDBError). is_outside e ≡ false) is (plain_inside a h)

pub decodes_inside : {T C R : Type 0} (decoded : C → List ℕ → Result T SlateDBError) (encoded : C → T → Result (List ℕ) SlateDBError) (refusal : R → ℕ → T → T → Right → Option SlateDBError) → PlainLog decoded encoded refusal → (codec : C) → NeverOutside (decoded codec)
decodes_inside decoded encoded refusal log codec bytes = told _ (log.decodes codec bytes)

pub encodes_inside : {T C R : Type 0} (decoded : C → List ℕ → Result T SlateDBError) (encoded : C → T → Result (List ℕ) SlateDBError) (refusal : R → ℕ → T → T → Right → Option SlateDBError) → PlainLog decoded encoded refusal → (codec : C) → NeverOutside (encoded codec)
encodes_inside decoded encoded refusal log codec value = told _ (log.encodes codec value)

pub rules_inside : {T C R : Type 0} (decoded : C → List ℕ → Result T SlateDBError) (encoded : C → T → Result (List ℕ) SlateDBError) (refusal : R → ℕ → T → T → Right → Option SlateDBError) → PlainLog decoded encoded refusal → RulesInside refusal
rules_inside decoded encoded refusal log rules id old new right e at = plain_inside e (subst (λ (r : Option SlateDBError). refuses_plainly r ≡ true) at (log.refuses rules id old new right))

-- a holder that commits what a function makes
pub ways_inside : {T C R : Type 0} (decoded : C → List ℕ → Result T SlateDBError) (encoded : C → T → Result (List ℕ) SlateDBError) (refusal : R → ℕ → T → T → Right → Option SlateDBError) → PlainLog decoded encoded refusal
    → (changed : ℕ → T → Result (Option T) SlateDBError) (right : Right) → ((n : ℕ) (value : T) → NotOutside (changed n value)) → WaysInside (may_of (ways_of decoded encoded refusal changed right))
ways_inside {T = T} decoded encoded refusal log changed right inside = record {
  decodes = decodes_inside decoded encoded refusal log;
  encodes = encodes_inside decoded encoded refusal log;
  allows = rules_inside decoded encoded refusal log;
  changes = λ id value reply is. subst (λ (r : Result (Option T) SlateDBError). NotOutside r) is (inside id value);
}

fenced_inside : {X : Type 0} (own read : ℕ) → NotOutside {X = X} (Err (Fenced own read))
fenced_inside own read e same = let is : Fenced own read ≡ e = cc in subst (λ (e : SlateDBError). is_outside e ≡ false) is refl

fence_inside : {X : Type 0} (b : Bool) (own read : ℕ) (r : Result X SlateDBError) → NotOutside r → NotOutside (unless (if b then Some (Fenced own read) else None) r)
fence_inside true own read r h = fenced_inside own read
fence_inside false own read r h = h

-- unless a fence refuses it
pub fences_inside : {T C R E : Type 0} (decoded : C → List ℕ → Result T SlateDBError) (encoded : C → T → Result (List ℕ) SlateDBError) (refusal : R → ℕ → T → T → Right → Option SlateDBError) → PlainLog decoded encoded refusal
    → (epoch : E → T → ℕ) (epochs : E) (own : ℕ) (changed : ℕ → T → Result (Option T) SlateDBError) (right : Right) → ((n : ℕ) (value : T) → NotOutside (changed n value))
    → WaysInside (may_of (ways_of decoded encoded refusal (fenced_made epoch epochs own changed) right))
fences_inside decoded encoded refusal log epoch epochs own changed right inside = ways_inside decoded encoded refusal log (fenced_made epoch epochs own changed) right (λ n value. fence_inside (nat_lt own (epoch epochs value)) own (epoch epochs value) (changed n value) (inside n value))

-- the raise of an epoch
pub raises_inside : {T C R : Type 0} (decoded : C → List ℕ → Result T SlateDBError) (encoded : C → T → Result (List ℕ) SlateDBError) (refusal : R → ℕ → T → T → Right → Option SlateDBError) → PlainLog decoded encoded refusal
    → (epoch : T → ℕ) (with_epoch : T → ℕ → T) (right : Right) → WaysInside (may_of (ways_of decoded encoded refusal (next_epoch epoch with_epoch) right))
raises_inside decoded encoded refusal log epoch with_epoch right = ways_inside decoded encoded refusal log (next_epoch epoch with_epoch) right (λ n value. told _ (raise_so epoch with_epoch n value))
