-- What becomes of a change before any call.
use Rattle.std.proofs.Common.{◌≡◌, ℕ, ◌+◌, ◌==◌, ◌<◌, ◌^◌, Bool, true, false, if◌then◌else◌, List, Option, Some, None, Result, Ok, Err, refl, ap, subst, arith}
use Rattle.std.proofs.lemmas.Bool.Decides.{nat_tests}
use Rattle.slate_ids.specs.Limits.{last_number}
use Rattle.slate_ids.specs.declared.error.SlateDBError.{SlateDBError}
use Rattle.slate_ids.specs.declared.error.SlateDBError.TheVariants.{Exhausted}
use Rattle.slate_txn_log.specs.Change.{some_commit, wanted}
use Rattle.slate_txn_log.specs.CommitPhase.{prepared, checked_commit, encoded_commit}
use Rattle.slate_txn_log.specs.declared.commit_phase.CommitPhase.{CommitPhase}
use Rattle.slate_txn_log.specs.declared.commit_phase.CommitPhase.TheVariants.{Putting}
use Rattle.slate_txn_log.specs.declared.right.Right.{Right}
use Rattle.slate_txn.specs.Apply.{Ways, renews}
use Rattle.slate_txn.specs.ApplyMoves.{MayWays, RenewsBy}
use Rattle.slate_txn.specs.Holder.{Holder}
use Rattle.slate_txn_laws.specs.Changing.{may_of, IsChange, IsRefusal}
use Rattle.slate_txn_laws.specs.Changing.IsRefusal.{ByChange, ByNumber, ByRules, ByCodec}

is_last : (n : ℕ) → (n == last_number) ≡ true → n ≡ last_number
is_last n h = grind (arith, nat_tests, h)

pub next_fits : (n : ℕ) → n < 2 ^ 64 → (n == last_number) ≡ false → n + 1 < 2 ^ 64
next_fits n small h = grind (arith, nat_tests, small, h)

-- how a commit of a value is prepared
pub data Prepares {T : Type 0} (refusal : ℕ → T → T → Right → Option SlateDBError) (encoded : T → Result (List ℕ) SlateDBError) (id : ℕ) (old value : T) (right : Right) (reply : Result (CommitPhase T) SlateDBError) : Type 0 where
  AtLast : id ≡ last_number → reply ≡ Err (Exhausted id) → Prepares refusal encoded id old value right reply
  NotAllowed : (e : SlateDBError) → refusal id old value right ≡ Some e → reply ≡ Err e → Prepares refusal encoded id old value right reply
  NotEncoded : (e : SlateDBError) → encoded value ≡ Err e → reply ≡ Err e → Prepares refusal encoded id old value right reply
  Puts : (bytes : List ℕ) → (id == last_number) ≡ false → refusal id old value right ≡ None → encoded value ≡ Ok bytes → reply ≡ Ok (Putting (id + 1) bytes value) → Prepares refusal encoded id old value right reply

module _ {T : Type 0} (refusal : ℕ → T → T → Right → Option SlateDBError) (encoded : T → Result (List ℕ) SlateDBError) (id : ℕ) (old value : T) (right : Right) where
  encodes : (bytes : Result (List ℕ) SlateDBError) → encoded value ≡ bytes → (id == last_number) ≡ false → refusal id old value right ≡ None → Prepares refusal encoded id old value right (encoded_commit (id + 1) value bytes)
  encodes (Ok bytes) at more allowed = Puts bytes more allowed at refl
  encodes (Err e) at more allowed = NotEncoded e at refl

  checks : (o : Option SlateDBError) → refusal id old value right ≡ o → (id == last_number) ≡ false → Prepares refusal encoded id old value right (checked_commit o (id + 1) value (encoded value))
  checks (Some e) at more = NotAllowed e at refl
  checks None at more = encodes (encoded value) refl more at

  by_number : (b : Bool) → (id == last_number) ≡ b → Prepares refusal encoded id old value right (if b then Err (Exhausted id) else checked_commit (refusal id old value right) (id + 1) value (encoded value))
  by_number true at = AtLast (is_last id at) refl
  by_number false at = checks (refusal id old value right) refl at

  pub prepares : Prepares refusal encoded id old value right (prepared refusal encoded id old value right)
  prepares = by_number (id == last_number) refl

-- how the commit of what a change may answer is prepared
pub data Renews {T C R : Type 0} (ways : MayWays T C R) (holder : Holder T C R) (id : ℕ) (value : T) (start : Result (Option (CommitPhase T)) SlateDBError) : Type 0 where
  Fails : (e : SlateDBError) → IsRefusal ways holder id value e → start ≡ Err e → Renews ways holder id value start
  Leaves : ways.may id value (Ok None) → start ≡ Ok None → Renews ways holder id value start
  Commits : (new : T) (bytes : List ℕ) → IsChange ways holder id value new bytes → (id == last_number) ≡ false → start ≡ Ok (Some (Putting (id + 1) bytes new)) → Renews ways holder id value start

module _ {T C R : Type 0} (ways : MayWays T C R) (holder : Holder T C R) (id : ℕ) (value : T) where
  abbrev prepare : T → Result (CommitPhase T) SlateDBError
  prepare new = prepared (ways.refusal holder.rules) (ways.encoded holder.sequenced.codec) id value new ways.right

  of_new : (new : T) → ways.may id value (Ok (Some new)) → (reply : Result (CommitPhase T) SlateDBError) → Prepares (ways.refusal holder.rules) (ways.encoded holder.sequenced.codec) id value new ways.right reply → Renews ways holder id value (some_commit reply)
  of_new new made reply (AtLast last is) = Fails (Exhausted id) (ByNumber last refl) (ap some_commit is)
  of_new new made reply (NotAllowed e at is) = Fails e (ByRules new made at) (ap some_commit is)
  of_new new made reply (NotEncoded e at is) = Fails e (ByCodec new made at) (ap some_commit is)
  of_new new made reply (Puts bytes more allowed at is) = Commits new bytes (record { changed = made; allowed = allowed; encoded = at }) more (ap some_commit is)

  of_reply : (reply : Result (Option T) SlateDBError) → ways.may id value reply → Renews ways holder id value (wanted prepare reply)
  of_reply (Err e) at = Fails e (ByChange at) refl
  of_reply (Ok None) at = Leaves at refl
  of_reply (Ok (Some new)) at = of_new new at (prepare new) (prepares (ways.refusal holder.rules) (ways.encoded holder.sequenced.codec) id value new ways.right)

  pub renewal_by : (start : Result (Option (CommitPhase T)) SlateDBError) → RenewsBy ways holder id value start → Renews ways holder id value start
  renewal_by start by = subst (λ (r : Result (Option (CommitPhase T)) SlateDBError). Renews ways holder id value r) by.commits (of_reply by.reply by.given)

-- the same where the change is computed
pub renewal : {T C R : Type 0} (ways : Ways T C R) (holder : Holder T C R) (id : ℕ) (value : T) (start : Result (Option (CommitPhase T)) SlateDBError) → renews ways holder id value ≡ start → Renews (may_of ways) holder id value start
renewal ways holder id value start same = subst (λ (r : Result (Option (CommitPhase _)) SlateDBError). Renews (may_of ways) holder id value r) same (of_reply (may_of ways) holder id value (ways.changed id value) refl)
