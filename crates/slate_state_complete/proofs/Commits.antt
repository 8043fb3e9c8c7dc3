-- Commits of changes of a manifest, and what is answered after them.
use Rattle.std.proofs.Common.{◌≡◌, ℕ, ℤ, ◌<◌, ◌^◌, ◌⊎◌, inl, inr, true, List, Option, Some, None, Result, Ok, Err, refl, subst}
use Rattle.std.specs.Prelude.{ok_or}
use Rattle.slate_ids.specs.Answers.{Gives, ran_out}
use Rattle.slate_ids.specs.Ids.{is_db_path}
use Rattle.slate_ids.specs.declared.error.SlateDBError.{SlateDBError}
use Rattle.slate_ids.specs.declared.error.SlateDBError.TheVariants.{CheckpointMissing}
use Rattle.slate_store.specs.StoreCalls.{Told}
use Rattle.slate_store.specs.Store.{Store}
use Rattle.slate_layout.specs.declared.codec.ManifestCodec.{ManifestCodec}
use Rattle.slate_model.specs.declared.checkpoint.Checkpoint.{Checkpoint}
use Rattle.slate_model.specs.declared.manifest.Manifest.{Manifest}
use Rattle.slate_txn.specs.Apply.{Applies, Ways}
use Rattle.slate_state_updates.specs.Checkpoints.{checkpoint_at}
use Rattle.slate_state_updates.specs.declared.rules.ManifestRules.{ManifestRules}
use Rattle.slate_txn_laws.specs.Applying.{ApplyAnswers}
use Rattle.slate_txn_laws.specs.Changing.{may_of}
use Rattle.slate_txn_laws.specs.Outside.{NotOutside, WaysInside}
use Rattle.slate_txn_laws.specs.Ready.{IsReady, LeavesReady}
use Rattle.slate_txn_laws.specs.Serving.{Serves}
use Rattle.slate_txn_laws.proofs.ApplyWalks.{apply_ends}
use Rattle.slate_txn_laws.proofs.Inside.{apply_inside, out_inside, same_error}
use Rattle.slate_state_holders.specs.ManifestHolders.{answer_of, ManifestHolder}
use Rattle.slate_state_complete.specs.Checkpointing.{CheckpointAnswers}
use Rattle.slate_txn.specs.Holder.{Holder}

module _ (ways : Ways Manifest ManifestCodec ManifestRules) (id : List ℕ) (s : Store) (new : Told) (from to : ManifestHolder) (result : Result Checkpoint SlateDBError) where
  memory : (reply : Result (Unit {0}) SlateDBError) → ran_out reply ≡ true → answer_of id to.object reply ≡ result → ran_out result ≡ true
  memory (Ok u) out same = absurd cc
  memory (Err e) out same = subst (λ (r : Result Checkpoint SlateDBError). ran_out r ≡ true) same out

  -- the answer after a commit that ended so
  pub answers_by : (reply : Result (Unit {0}) SlateDBError) → (ApplyAnswers (may_of ways) s new from to reply × LeavesReady from.sequenced.db from.sequenced.log new) ⊎ (ran_out reply ≡ true)
      → Gives result (answer_of id to.object reply) → CheckpointAnswers (may_of ways) id s new from to result ⊎ (ran_out result ≡ true)
  answers_by reply (inl ended) (inl same) = inl (record { reply = reply; commits = ended.0; answers = same; ready = ended.1 })
  answers_by reply (inr out) (inl same) = inr (memory reply out same)
  answers_by reply ended (inr out) = inr out

standing_inside : (id : List ℕ) (c : Option Checkpoint) → NotOutside (ok_or c (CheckpointMissing id))
standing_inside id None e same = same_error (Err (CheckpointMissing id)) (CheckpointMissing id) e refl same refl
standing_inside id (Some c) e same = absurd cc

answer_inside : (id : List ℕ) (m : Manifest) (reply : Result (Unit {0}) SlateDBError) → NotOutside reply → NotOutside (answer_of id m reply)
answer_inside id m (Ok u) inside = standing_inside id (checkpoint_at id m.core.checkpoints)
answer_inside id m (Err a) inside = λ e same. same_error (Err a) a e refl same (inside a refl)

-- nor is what is answered then a refusal from outside
pub gives_inside : (id : List ℕ) (m : Manifest) (reply : Result (Unit {0}) SlateDBError) (result : Result Checkpoint SlateDBError) → NotOutside reply → Gives result (answer_of id m reply) → NotOutside result
gives_inside id m reply result inside (inl same) = subst (λ (r : Result Checkpoint SlateDBError). NotOutside r) same (answer_inside id m reply inside)
gives_inside id m reply result inside (inr out) = out_inside result out

module _ {T C R : Type 0} (ways : Ways T C R) (inside : WaysInside (may_of ways)) (moment : ℤ) (tries : ℕ) (old new : Told) (s : Store) (from to : Holder T C R) (result : Result (Unit {0}) SlateDBError) where
  -- the commit of a change that is never refused from outside is not
  pub commit_inside : Applies ways moment tries old new from to result → 1 < tries → is_db_path from.sequenced.db ≡ true → from.id < 2 ^ 64 → Serves old new s → IsReady from.sequenced.db from.sequenced.log s → NotOutside result
  commit_inside applies two named small serves ready = apply_inside (may_of ways) inside s new from to result (apply_ends ways moment tries old new s from to result applies two named small serves ready)
