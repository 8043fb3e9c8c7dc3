-- What a checkpoint call answers.
use Rattle.std.specs.Prelude.{◌≡◌, ◌⊎◌, ℕ, ℤ, true, List, Result}
use Rattle.slate_ids.specs.Answers.{ran_out}
use Rattle.slate_ids.specs.declared.error.SlateDBError.{SlateDBError}
use Rattle.slate_store.specs.StoreCalls.{Told}
use Rattle.slate_store.specs.Store.{Store}
use Rattle.slate_model.specs.declared.checkpoint.Checkpoint.{Checkpoint}
use Rattle.slate_state_updates.specs.declared.manifest_change.ManifestChange.{ManifestChange}
use Rattle.slate_txn_laws.specs.Applying.{ApplyAnswers}
use Rattle.slate_txn_laws.specs.Ready.{LeavesReady}
use Rattle.slate_state_holders.specs.ManifestHolders.{answer_of, FencedManifest, ManifestHolder}
use Rattle.slate_state_complete.specs.ChangeWays.{fenced_ways, ManifestWays}

-- the commit of its change ended so, and the answer is the checkpoint of this id in the manifest then held, or why there is none
pub record CheckpointAnswers (ways : ManifestWays) (id : List ℕ) (s : Store) (new : Told) (from to : ManifestHolder) (result : Result Checkpoint SlateDBError) : Type 0 where
  pub reply : Result (Unit {0}) SlateDBError
  pub commits : ApplyAnswers ways s new from to reply
  pub answers : answer_of id to.object reply ≡ result
  pub ready : LeavesReady from.sequenced.db from.sequenced.log new

-- a checkpoint call is answered so, or memory ran out
abbrev pub CheckpointEnds : ManifestWays → List ℕ → ManifestHolder → ManifestHolder → Store → Told → Result Checkpoint SlateDBError → Type 0
CheckpointEnds ways id from to s new result = CheckpointAnswers ways id s new from to result ⊎ (ran_out result ≡ true)

-- the same of a fenced holder
abbrev pub FencedCheckpointEnds : ManifestChange → ℤ → List ℕ → FencedManifest → FencedManifest → Store → Told → Result Checkpoint SlateDBError → Type 0
FencedCheckpointEnds change moment id from to s new result = CheckpointEnds (fenced_ways from.epochs from.epoch change moment) id from.holder to.holder s new result
