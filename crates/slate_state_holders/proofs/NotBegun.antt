-- A checkpoint call for which memory runs out before it begins.
use Rattle.std.specs.Prelude.{◌≡◌, ℕ, ℤ, List, Result, Err, true, refl}
use Rattle.std.proofs.Common.{inl, inr}
use Rattle.slate_ids.specs.Answers.{ran_out}
use Rattle.slate_ids.specs.declared.error.SlateDBError.{SlateDBError}
use Rattle.slate_ids.specs.declared.error.SlateDBError.TheVariants.{OutOfMemory}
use Rattle.slate_model.specs.declared.checkpoint.Checkpoint.{Checkpoint}
use Rattle.slate_store.specs.StoreCalls.{Told}
use Rattle.slate_state_updates.specs.declared.manifest_change.ManifestChange.{ManifestChange}
use Rattle.slate_state_holders.specs.ManifestHolders.{Checkpointed, FencedCheckpointed, FencedManifest, ManifestHolder}

-- nothing was committed
pub not_begun : (id : List ℕ) (change : ManifestChange) (moment : ℤ) (tries : ℕ) (told : Told) (from : ManifestHolder) (result : Result Checkpoint SlateDBError) → ran_out result ≡ true → Checkpointed id change moment tries told told from from result
not_begun id change moment tries told from result h = record { reply = Err OutOfMemory; changed = inr (refl, inl (refl, refl)); answers = inr h }

-- the same of a fenced holder
pub fenced_not_begun : (id : List ℕ) (change : ManifestChange) (moment : ℤ) (tries : ℕ) (told : Told) (from : FencedManifest) (result : Result Checkpoint SlateDBError) → ran_out result ≡ true → FencedCheckpointed id change moment tries told told from from result
fenced_not_begun id change moment tries told from result h = record { reply = Err OutOfMemory; changed = inr (refl, inl (refl, refl)); answers = inr h }
