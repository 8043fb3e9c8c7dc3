-- Refusals that come from outside a call.
use Rattle.std.specs.Prelude.{◌≡◌, ℕ, Bool, true, false, Option, Some, Result, Err}
use Rattle.slate_ids.specs.declared.error.SlateDBError.{SlateDBError}
use Rattle.slate_ids.specs.declared.error.SlateDBError.TheVariants.{Contended, StoreFault, TransactionalObjectVersionExists}
use Rattle.slate_txn_log.specs.declared.right.Right.{Right}
use Rattle.slate_txn.specs.Apply.{ways_of}
use Rattle.slate_txn.specs.ApplyMoves.{MayWays}
use Rattle.slate_txn.specs.FencedApplying.{fenced_made}
use Rattle.slate_txn_laws.specs.Changing.{may_of}
use Rattle.slate_txn_laws.specs.Codecs.{Decoding, Encoding, Refusing}

-- a refusal that others or the store cause: the tries are used up, a number is taken, the store faulted
abbrev pub is_outside : SlateDBError → Bool
is_outside Contended = true
is_outside StoreFault = true
is_outside (TransactionalObjectVersionExists number boundary) = true
is_outside _ = false

-- the result is no such refusal
abbrev pub NotOutside : {X : Type 0} → Result X SlateDBError → Type 0
NotOutside result = (e : SlateDBError) → result ≡ Err e → is_outside e ≡ false

-- a function answers no such refusal
abbrev pub NeverOutside : {X Y : Type 0} → (X → Result Y SlateDBError) → Type 0
NeverOutside f = (x : _) → NotOutside (f x)

-- nor does a codec, in this direction
abbrev pub CodecInside : {C X Y : Type 0} → (C → X → Result Y SlateDBError) → Type 0
CodecInside {C} direction = (codec : C) → NeverOutside (direction codec)

-- nor does a function of a version
abbrev pub MakesInside : {T : Type 0} → (ℕ → T → Result (Option T) SlateDBError) → Type 0
MakesInside {T} made = (n : ℕ) (value : T) → NotOutside (made n value)

-- rules refuse with no such refusal
abbrev pub RulesInside : {T R : Type 0} → (R → ℕ → T → T → Right → Option SlateDBError) → Type 0
RulesInside refusal = (rules : _) (id : ℕ) (old new : _) (right : Right) (e : SlateDBError) → refusal rules id old new right ≡ Some e → is_outside e ≡ false

-- nor do the codec, the rules and the change
pub record WaysInside {T C R : Type 0} (ways : MayWays T C R) : Type 0 where
  pub decodes : (codec : C) → NeverOutside (ways.decoded codec)
  pub encodes : (codec : C) → NeverOutside (ways.encoded codec)
  pub allows : RulesInside ways.refusal
  pub changes : (id : ℕ) (value : T) (reply : Result (Option T) SlateDBError) → ways.may id value reply → NotOutside reply

-- unless a function does, a holder that commits what it makes answers no such refusal
abbrev pub ChangesInside : {T C R : Type 0} → Decoding C T → Encoding C T → Refusing R T → (ℕ → T → Result (Option T) SlateDBError) → Right → Type 0
ChangesInside decoded encoded refusal made right = MakesInside made → WaysInside (may_of (ways_of decoded encoded refusal made right))

-- nor where the fence of a version is asked before
abbrev pub FencedInside : {T C R E : Type 0} → Decoding C T → Encoding C T → Refusing R T → (E → T → ℕ) → E → ℕ → (ℕ → T → Result (Option T) SlateDBError) → Right → Type 0
FencedInside decoded encoded refusal epoch epochs own made right = MakesInside made → WaysInside (may_of (ways_of decoded encoded refusal (fenced_made epoch epochs own made) right))
