-- What stands of a first version, once its log is that of a database.
use Rattle.std.specs.Prelude.{ℕ, ℤ, List, Result, Ok, Err, IfErr, IsErr, OnErr, OnOk}
use Rattle.std.proofs.Common.{◌≡◌, ◌⊎◌, inl, inr, subst}
use Rattle.slate_ids.specs.declared.error.SlateDBError.{SlateDBError}
use Rattle.slate_store.specs.StoreCalls.{Told}
use Rattle.slate_txn.specs.Creating.{first_commit}
use Rattle.slate_txn.specs.Standing.{CommitStands, SameContents}
use Rattle.slate_txn_log.specs.CommitPhase.{encoded_commit}
use Rattle.slate_txn_log.specs.declared.log_kind.LogKind.{LogKind}
use Rattle.slate_txn_log.specs.declared.sequenced.Sequenced.{Sequenced}
use Rattle.slate_state_holders.specs.Holders.{FirstStands, HasNoBytes}

-- where it has no bytes, what is so after a refusal before any call is so
of_none : {T P : Type 0} (value : T) (bytes : Result (List ℕ) SlateDBError) → IsErr bytes → IfErr (encoded_commit 1 value bytes) (λ e. P) → P
of_none value (Ok bytes) none h = absurd cc
of_none value (Err e) none h = h

pub none_before : {T C P : Type 0} (encoded : C → T → Result (List ℕ) SlateDBError) (codec : C) (first : T) → IfErr (first_commit (encoded codec) first) (λ e. P) → HasNoBytes encoded first → P
none_before encoded codec first h none = of_none first (encoded codec first) (none codec) h

module _ {T C : Type 0} (encoded : C → T → Result (List ℕ) SlateDBError) (log : Sequenced T C) (kind : LogKind) (db : List ℕ) (first : T) (moment : ℤ) (old new : Told) (at : log.db ≡ db) (of : log.log ≡ kind) where
  -- the put in the database's own words
  put_stands : CommitStands log.db log.log moment old new (first_commit (encoded log.codec) first) → FirstStands encoded kind db first moment old new
  put_stands h = (
    log.codec,
    subst (λ (k : LogKind). CommitStands db k moment old new (first_commit (encoded log.codec) first)) of
        (subst (λ (d : List ℕ). CommitStands d log.log moment old new (first_commit (encoded log.codec) first)) at h),
  )

  pub put_after : {R E : Type 0} (r : Result R E) → OnOk r (CommitStands log.db log.log moment old new (first_commit (encoded log.codec) first)) → OnOk r (FirstStands encoded kind db first moment old new)
  put_after (Ok x) h = put_stands h
  put_after (Err e) h = tt

  pub stands_after : {R E : Type 0} (r : Result R E) → OnErr r (SameContents old new ⊎ CommitStands log.db log.log moment old new (first_commit (encoded log.codec) first))
      → OnErr r (SameContents old new ⊎ FirstStands encoded kind db first moment old new)
  stands_after (Ok x) h = tt
  stands_after (Err e) (inl same) = inl same
  stands_after (Err e) (inr h) = inr (put_stands h)
