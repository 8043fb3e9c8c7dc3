-- The creation of a log over a store that serves it.
use Rattle.std.proofs.Common.{◌≡◌, ℕ, ℤ, ◌⊎◌, inl, inr, true, List, None, Result, Ok, Err, refl, sym, ap, ◌∙◌, arith}
use Rattle.slate_ids.specs.Answers.{ran_out}
use Rattle.slate_ids.specs.Ids.{is_db_path}
use Rattle.slate_ids.specs.declared.error.SlateDBError.{SlateDBError}
use Rattle.slate_store.specs.StoreCalls.{Told}
use Rattle.slate_store.specs.Store.{Store}
use Rattle.slate_txn_log.specs.CommitPhase.{encoded_commit}
use Rattle.slate_txn_log.specs.declared.sequenced.Sequenced.{Sequenced}
use Rattle.slate_txn.specs.Creating.{created, Creates}
use Rattle.slate_txn.specs.Holder.{Holder}
use Rattle.slate_txn.specs.Starts.{StartRan}
use Rattle.slate_txn_laws.specs.Committing.{CommitAnswers}
use Rattle.slate_txn_laws.specs.Committing.CommitAnswers.{IsCommitted, IsBehind, NoBoundary as NotCommitted}
use Rattle.slate_txn_laws.specs.Creating.{CreateAnswers}
use Rattle.slate_txn_laws.specs.Creating.CreateAnswers.{IsCreated, HasVersion, ByCodec, NoBoundary}
use Rattle.slate_txn_laws.specs.Outside.{NeverOutside, NotOutside}
use Rattle.slate_txn_laws.specs.Ready.{top_of, IsReady, LeavesReady}
use Rattle.slate_txn_laws.specs.Serving.{Serves}
use Rattle.slate_txn_laws.proofs.CommitWalks.{commit_ends}
use Rattle.slate_txn_laws.proofs.Inside.{same_error, out_inside}

module _ {T C R : Type 0} (encoded : C → T → Result (List ℕ) SlateDBError) (moment : ℤ) (old new : Told) (s : Store) (sequenced : Sequenced T C) (rules : R) (value : T) (result : Result (Holder T C R) SlateDBError) where
  abbrev Ended : Type 0
  Ended = CreateAnswers encoded s new sequenced rules value result × LeavesReady sequenced.db sequenced.log new

  committed : (bytes : List ℕ) (reply : Result (ℕ × T) SlateDBError) → encoded sequenced.codec value ≡ Ok bytes → CommitAnswers sequenced.db sequenced.log s new 1 bytes value reply → created sequenced rules reply ≡ result → CreateAnswers encoded s new sequenced rules value result
  committed bytes reply at (IsCommitted t told stands is) answers = IsCreated bytes t at told stands (sym answers ∙ ap (created sequenced rules) is)
  committed bytes reply at (IsBehind top boundary is_top le is) answers = HasVersion top boundary is_top (sym answers ∙ ap (created sequenced rules) is)
  committed bytes reply at (NotCommitted none is) answers = NoBoundary none (sym answers ∙ ap (created sequenced rules) is)

  module _ (named : is_db_path sequenced.db ≡ true) (serves : Serves old new s) (ready : IsReady sequenced.db sequenced.log s) where
    begun : (bytes : Result (List ℕ) SlateDBError) → encoded sequenced.codec value ≡ bytes → StartRan sequenced.db sequenced.log (created sequenced rules) moment old new (encoded_commit 1 value bytes) result → Ended
    begun (Err e) at ran = (ByCodec e at ran.0, record { left = s; contents = ap (λ (t : Told). t.contents) ran.1 ∙ serves.contents; ready = ready })
    begun (Ok bytes) at ran =
        let c = commit_ends sequenced.db sequenced.log 1 bytes value moment old new s ran.0 ran.1 named (omega arith) (omega arith) serves ready in
        (committed bytes ran.0 at c.0 ran.2, c.1)

    by_memory : Creates encoded moment old new sequenced rules value result → Ended ⊎ (ran_out result ≡ true)
    by_memory (inl ran) = inl (begun (encoded sequenced.codec value) refl ran)
    by_memory (inr out) = inr out.0

  module _ (empty : top_of sequenced.db sequenced.log s ≡ None) (encodes : (codec : C) → NeverOutside (encoded codec)) where
    answer_inside : CreateAnswers encoded s new sequenced rules value result → NotOutside result
    answer_inside (IsCreated bytes t at told stands is) e same = absurd cc
    answer_inside (HasVersion top boundary at is) e same = absurd (cc (at, empty))
    answer_inside (ByCodec a at is) e same = same_error result a e is same (encodes sequenced.codec value a at)
    answer_inside (NoBoundary none is) e same = same_error result _ e is same refl

    create_inside : Ended ⊎ (ran_out result ≡ true) → NotOutside result
    create_inside (inl ended) e same = answer_inside ended.0 e same
    create_inside (inr out) e same = out_inside result out e same

pub create_ends : {T C R : Type 0} (encoded : C → T → Result (List ℕ) SlateDBError) (moment : ℤ) (old new : Told) (s : Store) (sequenced : Sequenced T C) (rules : R) (value : T) (result : Result (Holder T C R) SlateDBError)
    → Creates encoded moment old new sequenced rules value result → is_db_path sequenced.db ≡ true → Serves old new s → IsReady sequenced.db sequenced.log s
    → (CreateAnswers encoded s new sequenced rules value result × LeavesReady sequenced.db sequenced.log new) ⊎ (ran_out result ≡ true)
create_ends encoded moment old new s sequenced rules value result creates named serves ready = by_memory encoded moment old new s sequenced rules value result named serves ready creates

pub create_stays_inside : {T C R : Type 0} (encoded : C → T → Result (List ℕ) SlateDBError) (moment : ℤ) (old new : Told) (s : Store) (sequenced : Sequenced T C) (rules : R) (value : T) (result : Result (Holder T C R) SlateDBError)
    → Creates encoded moment old new sequenced rules value result → is_db_path sequenced.db ≡ true → Serves old new s → IsReady sequenced.db sequenced.log s
    → top_of sequenced.db sequenced.log s ≡ None → ((codec : C) → NeverOutside (encoded codec)) → NotOutside result
create_stays_inside encoded moment old new s sequenced rules value result creates named serves ready empty encodes =
    create_inside encoded moment old new s sequenced rules value result empty encodes (create_ends encoded moment old new s sequenced rules value result creates named serves ready)
