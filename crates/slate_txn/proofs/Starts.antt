-- From a commit to a call that begins with it.
use Rattle.std.specs.Prelude.{◌≡◌, ℕ, ℤ, List, true, false, Result, Ok}
use Rattle.std.proofs.Common.{inl, inr, sym, subst, ap, ◌∙◌}
use Rattle.slate_ids.specs.Answers.{Gives, OrMemory, ran_out}
use Rattle.slate_ids.specs.declared.error.SlateDBError.{SlateDBError}
use Rattle.slate_store.specs.StoreCalls.{Told}
use Rattle.slate_txn_log.specs.Commit.{Committed, CommitBegan}
use Rattle.slate_txn_log.specs.declared.commit_phase.CommitPhase.{CommitPhase}
use Rattle.slate_txn_log.specs.declared.log_kind.LogKind.{LogKind}
use Rattle.slate_txn.specs.Starts.{Starts, StartRan}

-- a commit that began and ran is a whole one
pub started_ran : {T X : Type 0} (db : List ℕ) (log : LogKind) (answer : Result (ℕ × T) SlateDBError → Result X SlateDBError) (moment : ℤ) (old new : Told) (commit : CommitPhase T) (start : Result (CommitPhase T) SlateDBError) (reply : Result (ℕ × T) SlateDBError) (result : Result X SlateDBError)
    → ran_out (answer reply) ≡ ran_out reply → Gives (Ok commit) start → result ≡ answer reply → OrMemory reply (CommitBegan db log moment old new commit) (Committed db log moment old new commit reply)
    → Starts db log answer moment old new start result
started_ran db log answer moment old new commit start reply result out (inr gone) same ran = absurd (let both : false ≡ true = gone in cc)
started_ran db log answer moment old new commit start reply result out (inl e) same (inl done) =
    inl (subst (λ (s : Result (CommitPhase _) SlateDBError). StartRan db log answer moment old new s result) (sym e) (reply, done, sym same))
started_ran db log answer moment old new commit start reply result out (inl e) same (inr m) = inr (ap ran_out same ∙ out ∙ m.0, inr (commit, e, m.1))
