-- A checkpoint call answers a fence only where its commit did.
use Rattle.std.specs.Prelude.{◌≡◌, ◌≢◌, ℕ, false, List, Option, Some, None, Result, Ok, Err, ok_or}
use Rattle.std.proofs.Common.{ap, inl, inr, ◌∙◌}
use Rattle.slate_ids.specs.Answers.{Gives, ran_out}
use Rattle.slate_ids.specs.declared.error.SlateDBError.{SlateDBError}
use Rattle.slate_ids.specs.declared.error.SlateDBError.TheVariants.{CheckpointMissing, Fenced}
use Rattle.slate_model.specs.declared.checkpoint.Checkpoint.{Checkpoint}
use Rattle.slate_model.specs.declared.manifest.Manifest.{Manifest}
use Rattle.slate_txn.specs.Fencing.{FencedOnly}
use Rattle.slate_state_updates.specs.Checkpoints.{checkpoint_at}
use Rattle.slate_state_holders.specs.ManifestHolders.{answer_of}

no_fence : (c : Option Checkpoint) (id : List ℕ) (own read : ℕ) → ok_or c (CheckpointMissing id) ≢ Err (Fenced own read)
no_fence (Some c) id own read = λ same. absurd cc
no_fence None id own read = λ same. absurd cc

passed_on : (refusal : Option SlateDBError) (reply : Result (Unit {0}) SlateDBError) (id : List ℕ) (m : Manifest) (own read : ℕ) → FencedOnly refusal reply → answer_of id m reply ≡ Err (Fenced own read) → refusal ≡ Some (Fenced own read)
passed_on refusal (Ok u) id m own read only same = absurd (no_fence (checkpoint_at id m.core.checkpoints) id own read same)
passed_on refusal (Err e) id m own read only same = only own read (let both : e ≡ Fenced own read = cc in ap (λ (k : SlateDBError). Err k) both)

pub answered_fence : (refusal : Option SlateDBError) (reply : Result (Unit {0}) SlateDBError) (id : List ℕ) (m : Manifest) (result : Result Checkpoint SlateDBError) → Gives result (answer_of id m reply) → FencedOnly refusal reply → FencedOnly refusal result
answered_fence refusal reply id m result (inl gives) only own read same = passed_on refusal reply id m own read only (gives ∙ same)
answered_fence refusal reply id m result (inr out) only own read same = (let both : ran_out result ≡ false = ap (λ (k : Result Checkpoint SlateDBError). ran_out k) same in absurd cc)
