-- Loads, refreshes and fences over a store that serves them.
use Rattle.std.proofs.Common.{◌≡◌, ℕ, ℤ, ◌<◌, ◌^◌, ◌⊎◌, inl, inr, true, List, Option, Result, Ok, Err, sym, subst}
use Rattle.slate_ids.specs.Answers.{OrMemory, ran_out}
use Rattle.slate_ids.specs.Ids.{is_db_path}
use Rattle.slate_ids.specs.declared.error.SlateDBError.{SlateDBError}
use Rattle.slate_store.specs.StoreCalls.{Told}
use Rattle.slate_store.specs.Store.{Store}
use Rattle.slate_txn_log.specs.ReadLatest.{Read, ReadBegan}
use Rattle.slate_txn_log.specs.declared.sequenced.Sequenced.{Sequenced}
use Rattle.slate_txn.specs.Apply.{Ways}
use Rattle.slate_txn.specs.Fence.{FencedBy, fenced_of}
use Rattle.slate_txn.specs.FencedHolder.{FencedHolder}
use Rattle.slate_txn.specs.Holder.{Holder}
use Rattle.slate_txn.specs.Refreshing.{Refreshes, held_after, refreshed}
use Rattle.slate_txn_laws.specs.Applying.{ApplyAnswers}
use Rattle.slate_txn_laws.specs.Changing.{may_of}
use Rattle.slate_txn_laws.specs.Reading.{ReadAnswers, AnswersBy}
use Rattle.slate_txn_laws.specs.Ready.{IsReady, LeavesReady}
use Rattle.slate_txn_laws.specs.Serving.{Serves}
use Rattle.slate_txn_laws.proofs.ApplyWalks.{apply_ends}
use Rattle.slate_txn_laws.proofs.LatestReads.{read_ends}

module _ {T C X : Type 0} (decoded : C → List ℕ → Result T SlateDBError) (sequenced : Sequenced T C) (answer : Result (Option (ℕ × T)) SlateDBError → Result X SlateDBError) (tries : ℕ) (old new : Told) (s : Store) (result : Result X SlateDBError) (some : 0 < tries) (serves : Serves old new s) (ready : IsReady sequenced.db sequenced.log s) where
  abbrev Ran : Type 0
  Ran = (reply : Result (Option (ℕ × T)) SlateDBError) × Read decoded sequenced tries old new reply × (answer reply ≡ result)

  by_read : OrMemory result (ReadBegan decoded sequenced tries old new) Ran → AnswersBy (decoded sequenced.codec) sequenced.db sequenced.log s answer result ⊎ (ran_out result ≡ true)
  by_read (inl ran) = inl (ran.0, (read_ends decoded sequenced tries old new s ran.0 ran.1 some serves ready).0, ran.2)
  by_read (inr out) = inr out.0

pub load_ends : {T C X : Type 0} (decoded : C → List ℕ → Result T SlateDBError) (sequenced : Sequenced T C) (answer : Result (Option (ℕ × T)) SlateDBError → Result X SlateDBError) (tries : ℕ) (old new : Told) (s : Store) (result : Result X SlateDBError)
    → OrMemory result (ReadBegan decoded sequenced tries old new) ((reply : Result (Option (ℕ × T)) SlateDBError) × Read decoded sequenced tries old new reply × (answer reply ≡ result))
    → 0 < tries → Serves old new s → IsReady sequenced.db sequenced.log s
    → AnswersBy (decoded sequenced.codec) sequenced.db sequenced.log s answer result ⊎ (ran_out result ≡ true)
load_ends decoded sequenced answer tries old new s result ran some serves ready = by_read decoded sequenced answer tries old new s result some serves ready ran

module _ {T C R : Type 0} (decoded : C → List ℕ → Result T SlateDBError) (tries : ℕ) (old new : Told) (s : Store) (from to : Holder T C R) (result : Result (Unit {0}) SlateDBError) (some : 0 < tries) (serves : Serves old new s) (ready : IsReady from.sequenced.db from.sequenced.log s) where
  abbrev Answers : Type 0
  Answers = (reply : Result (Option (ℕ × T)) SlateDBError) × ReadAnswers (decoded from.sequenced.codec) from.sequenced.db from.sequenced.log s reply × (to ≡ held_after from reply) × (refreshed reply ≡ result)

  by_refresh : Refreshes decoded tries old new from to result → Answers ⊎ (ran_out result ≡ true)
  by_refresh (inl r) = inl (r.reply, (read_ends decoded from.sequenced tries old new s r.reply r.read some serves ready).0, r.held, sym r.answers)
  by_refresh (inr out) = inr out.0

pub refresh_ends : {T C R : Type 0} (decoded : C → List ℕ → Result T SlateDBError) (tries : ℕ) (old new : Told) (s : Store) (from to : Holder T C R) (result : Result (Unit {0}) SlateDBError)
    → Refreshes decoded tries old new from to result → 0 < tries → Serves old new s → IsReady from.sequenced.db from.sequenced.log s
    → ((reply : Result (Option (ℕ × T)) SlateDBError) × ReadAnswers (decoded from.sequenced.codec) from.sequenced.db from.sequenced.log s reply × (to ≡ held_after from reply) × (refreshed reply ≡ result)) ⊎ (ran_out result ≡ true)
refresh_ends decoded tries old new s from to result r some serves ready = by_refresh decoded tries old new s from to result some serves ready r

module _ {T C R E : Type 0} (epoch : E → T → ℕ) (ways : Ways T C R) (new : Told) (s : Store) (holder to : Holder T C R) (epochs : E) (result : Result (FencedHolder T C R E) SlateDBError) where
  memory : (reply : Result (Unit {0}) SlateDBError) → fenced_of epoch epochs to reply ≡ result → ran_out reply ≡ true → ran_out result ≡ true
  memory (Ok u) same out = absurd cc
  memory (Err e) same out = subst (λ (r : Result (FencedHolder T C R E) SlateDBError). ran_out r ≡ true) same out

  by_apply : (reply : Result (Unit {0}) SlateDBError) → fenced_of epoch epochs to reply ≡ result → (ApplyAnswers (may_of ways) s new holder to reply × LeavesReady holder.sequenced.db holder.sequenced.log new) ⊎ (ran_out reply ≡ true)
      → ((to : Holder T C R) × (reply : Result (Unit {0}) SlateDBError) × ApplyAnswers (may_of ways) s new holder to reply × (fenced_of epoch epochs to reply ≡ result) × LeavesReady holder.sequenced.db holder.sequenced.log new) ⊎ (ran_out result ≡ true)
  by_apply reply same (inl answers) = inl (to, reply, answers.0, same, answers.1)
  by_apply reply same (inr out) = inr (memory reply same out)

pub fence_ends : {T C R E : Type 0} (epoch : E → T → ℕ) (ways : Ways T C R) (moment : ℤ) (tries : ℕ) (old new : Told) (s : Store) (holder : Holder T C R) (epochs : E) (result : Result (FencedHolder T C R E) SlateDBError)
    → FencedBy epoch ways moment tries old new holder epochs result → 1 < tries → is_db_path holder.sequenced.db ≡ true → holder.id < 2 ^ 64 → Serves old new s → IsReady holder.sequenced.db holder.sequenced.log s
    → ((to : Holder T C R) × (reply : Result (Unit {0}) SlateDBError) × ApplyAnswers (may_of ways) s new holder to reply × (fenced_of epoch epochs to reply ≡ result) × LeavesReady holder.sequenced.db holder.sequenced.log new) ⊎ (ran_out result ≡ true)
fence_ends epoch ways moment tries old new s holder epochs result by two named small serves ready =
    by_apply epoch ways new s holder by.to epochs result by.reply by.same (apply_ends ways moment tries old new s holder by.to by.reply by.applies two named small serves ready)
