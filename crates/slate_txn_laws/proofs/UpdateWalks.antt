-- An update over a store that serves it.
use Rattle.std.proofs.Common.{◌≡◌, ◌≢◌, ℕ, ℤ, ◌+◌, ◌==◌, ◌<◌, ◌^◌, ◌⊎◌, inl, inr, Bool, true, false, if◌then◌else◌, List, Option, None, Result, Ok, Err, refl, sym, ap, ◌∙◌, subst, arith}
use Rattle.std.proofs.lemmas.Bool.Decides.{nat_tests}
use Rattle.slate_ids.specs.Answers.{ran_out}
use Rattle.slate_ids.specs.Ids.{is_db_path}
use Rattle.slate_ids.specs.declared.error.SlateDBError.{SlateDBError}
use Rattle.slate_ids.specs.declared.error.SlateDBError.TheVariants.{TransactionalObjectVersionExists}
use Rattle.slate_store.specs.StoreCalls.{Told}
use Rattle.slate_store.specs.Store.{Store}
use Rattle.slate_txn_log.specs.CommitPhase.{prepared}
use Rattle.slate_txn_log.specs.declared.commit_phase.CommitPhase.{CommitPhase}
use Rattle.slate_txn_log.specs.declared.right.Right.{Right}
use Rattle.slate_txn.specs.Holder.{Holder}
use Rattle.slate_txn.specs.Updating.{done_of, Updated, Updates}
use Rattle.slate_txn.specs.declared.stored.DirtyObject.{DirtyObject}
use Rattle.slate_txn_laws.specs.Committing.{CommitAnswers}
use Rattle.slate_txn_laws.specs.Committing.CommitAnswers.{IsCommitted, IsBehind as CommitBehind, NoBoundary as CommitUnbounded}
use Rattle.slate_txn_laws.specs.Ready.{IsReady, LeavesReady}
use Rattle.slate_txn_laws.specs.Serving.{Serves}
use Rattle.slate_txn_laws.specs.Updating.{UpdateAnswers}
use Rattle.slate_txn_laws.specs.Updating.UpdateAnswers.{IsUpdated, IsOther, IsBehind, ByNumber, ByRules, ByCodec, NoBoundary}
use Rattle.slate_txn_laws.proofs.CommitWalks.{commit_ends}
use Rattle.slate_txn_laws.proofs.Renewals.{Prepares, prepares, next_fits}
use Rattle.slate_txn_laws.proofs.Renewals.Prepares.{AtLast, NotAllowed, NotEncoded, Puts}

same_told : (n k : ℕ) → (n == k) ≡ true → n ≡ k
same_told n k h = grind (arith, nat_tests, h)

other_told : (n k : ℕ) → (n == k) ≡ false → n ≢ k
other_told n k h e = grind (arith, nat_tests, h, e)

module _ {T C R : Type 0} (refusal : R → ℕ → T → T → Right → Option SlateDBError) (encoded : C → T → Result (List ℕ) SlateDBError) (moment : ℤ) (old new : Told) (s : Store) (holder : Holder T C R) (dirty : DirtyObject T) (right : Right) (result : Result (Unit {0}) SlateDBError)
    (named : is_db_path holder.sequenced.db ≡ true) (small : holder.id < 2 ^ 64) (serves : Serves old new s) (ready : IsReady holder.sequenced.db holder.sequenced.log s) where
  abbrev Answers : Type 0
  Answers = UpdateAnswers refusal encoded s new holder dirty right result × LeavesReady holder.sequenced.db holder.sequenced.log new

  unchanged : new ≡ old → LeavesReady holder.sequenced.db holder.sequenced.log new
  unchanged same = record { left = s; contents = ap (λ (t : Told). t.contents) same ∙ serves.contents; ready = ready }

  committed : (bytes : List ℕ) (reply : Result (ℕ × T) SlateDBError) → dirty.id ≡ holder.id → refusal holder.rules holder.id holder.object dirty.value right ≡ None → encoded holder.sequenced.codec dirty.value ≡ Ok bytes
      → CommitAnswers holder.sequenced.db holder.sequenced.log s new (holder.id + 1) bytes dirty.value reply → done_of reply ≡ result → UpdateAnswers refusal encoded s new holder dirty right result
  committed bytes reply same allowed at (IsCommitted t told stands is) answers = IsUpdated bytes t same allowed at told stands (sym answers ∙ ap done_of is)
  committed bytes reply same allowed at (CommitBehind top boundary is_top le is) answers = IsBehind top boundary is_top (omega (arith, le)) (sym answers ∙ ap done_of is)
  committed bytes reply same allowed at (CommitUnbounded none is) answers = NoBoundary none (sym answers ∙ ap done_of is)

  begun : dirty.id ≡ holder.id → (start : Result (CommitPhase T) SlateDBError) → Prepares (refusal holder.rules) (encoded holder.sequenced.codec) holder.id holder.object dirty.value right start → Updated holder moment old new start result → Answers
  begun same start (AtLast last is) updated = let u = subst (λ (r : Result (CommitPhase T) SlateDBError). Updated holder moment old new r result) is updated in (ByNumber last u.0, unchanged u.1)
  begun same start (NotAllowed e at is) updated = let u = subst (λ (r : Result (CommitPhase T) SlateDBError). Updated holder moment old new r result) is updated in (ByRules e at u.0, unchanged u.1)
  begun same start (NotEncoded e at is) updated = let u = subst (λ (r : Result (CommitPhase T) SlateDBError). Updated holder moment old new r result) is updated in (ByCodec e at u.0, unchanged u.1)
  begun same start (Puts bytes more allowed at is) updated =
      let u = subst (λ (r : Result (CommitPhase T) SlateDBError). Updated holder moment old new r result) is updated in
      let c = commit_ends holder.sequenced.db holder.sequenced.log (holder.id + 1) bytes dirty.value moment old new s u.0 u.1 named (omega arith) (next_fits holder.id small more) serves ready in
      (committed bytes u.0 same allowed at c.0 u.2, c.1)

  by_number : (b : Bool) → (dirty.id == holder.id) ≡ b → Updated holder moment old new (if b then prepared (refusal holder.rules) (encoded holder.sequenced.codec) holder.id holder.object dirty.value right else Err (TransactionalObjectVersionExists dirty.id None)) result → Answers
  by_number true at updated = begun (same_told dirty.id holder.id at) (prepared (refusal holder.rules) (encoded holder.sequenced.codec) holder.id holder.object dirty.value right) (prepares (refusal holder.rules) (encoded holder.sequenced.codec) holder.id holder.object dirty.value right) updated
  by_number false at updated = (IsOther (other_told dirty.id holder.id at) updated.0, unchanged updated.1)

  by_memory : Updates refusal encoded moment old new holder dirty right result → Answers ⊎ (ran_out result ≡ true)
  by_memory (inl updated) = inl (by_number (dirty.id == holder.id) refl updated)
  by_memory (inr out) = inr out.0

pub update_ends : {T C R : Type 0} (refusal : R → ℕ → T → T → Right → Option SlateDBError) (encoded : C → T → Result (List ℕ) SlateDBError) (moment : ℤ) (old new : Told) (s : Store) (holder : Holder T C R) (dirty : DirtyObject T) (right : Right) (result : Result (Unit {0}) SlateDBError)
    → Updates refusal encoded moment old new holder dirty right result → is_db_path holder.sequenced.db ≡ true → holder.id < 2 ^ 64 → Serves old new s → IsReady holder.sequenced.db holder.sequenced.log s
    → (UpdateAnswers refusal encoded s new holder dirty right result × LeavesReady holder.sequenced.db holder.sequenced.log new) ⊎ (ran_out result ≡ true)
update_ends refusal encoded moment old new s holder dirty right result updates named small serves ready = by_memory refusal encoded moment old new s holder dirty right result named small serves ready updates
