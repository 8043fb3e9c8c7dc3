-- Fences of a holder of a log of a database.
use Rattle.std.proofs.Common.{◌≡◌, ℕ, ℤ, ◌<◌, ◌^◌, true, Result, Ok, Err, refl, subst}
use Rattle.slate_txn_laws.proofs.Inside.{same_error}
use Rattle.slate_txn_laws.specs.Changing.{may_of}
use Rattle.slate_txn_laws.specs.Outside.{NotOutside, WaysInside}
use Rattle.slate_txn_laws.specs.Ready.{IsReady}
use Rattle.slate_txn_laws.specs.Serving.{Serves}
use Rattle.slate_state_complete.proofs.Commits.{commit_inside}
use Rattle.slate_ids.specs.Ids.{is_db_path}
use Rattle.slate_ids.specs.declared.error.SlateDBError.{SlateDBError}
use Rattle.slate_store.specs.StoreCalls.{Told}
use Rattle.slate_store.specs.Store.{Store}
use Rattle.slate_txn.specs.Apply.{Ways}
use Rattle.slate_txn.specs.Fence.{FencedBy, fenced_of}
use Rattle.slate_txn.specs.FencedHolder.{FencedHolder}
use Rattle.slate_txn.specs.Holder.{Holder}

module _ {T C R E : Type 0} (epoch : E → T → ℕ) where
  fence_keeps : (kind : E) (to : Holder T C R) (reply : Result (Unit {0}) SlateDBError) → NotOutside reply → NotOutside (fenced_of epoch kind to reply)
  fence_keeps kind to (Ok u) inside e same = absurd cc
  fence_keeps kind to (Err a) inside e same = same_error {X = FencedHolder T C R E} (Err a) a e refl same (inside a refl)

  -- a fence whose commit is never refused from outside isn't
  pub fence_inside : (ways : Ways T C R) → WaysInside (may_of ways) → (kind : E) (moment : ℤ) (tries : ℕ) (old new : Told) (s : Store) (holder : Holder T C R) (result : Result (FencedHolder T C R E) SlateDBError) → FencedBy epoch ways moment tries old new holder kind result
      → 1 < tries → is_db_path holder.sequenced.db ≡ true → holder.id < 2 ^ 64 → Serves old new s → IsReady holder.sequenced.db holder.sequenced.log s → NotOutside result
  fence_inside ways inside kind moment tries old new s holder result ran two named small serves ready =
      subst (λ (r : Result (FencedHolder T C R E) SlateDBError). NotOutside r) ran.same (fence_keeps kind ran.to ran.reply (commit_inside ways inside moment tries old new s holder ran.to ran.reply ran.applies two named small serves ready))
