-- What holds of a log by its codec and its rules, and what its authors make of it.
use Rattle.std.proofs.Common.{◌≡◌, ℕ, ◌+◌, true, List, Some, None, Ok, ◌⊎◌}
use Rattle.slate_txn_log.specs.declared.right.Right.{Right}
use Rattle.slate_cluster_protocol.specs.Chains.{Link, Log, link_at}

-- what is read back of a value, and the rules on it
pub record IsLog {V A : Type 0} (log : Log V A) : Type 0 where
  pub round : (v : V) (bytes : List ℕ) → log.encoded v ≡ Ok bytes → log.decoded bytes ≡ Ok (log.normal v)
  pub plain : (n : ℕ) (old v : V) (right : Right) → log.refusal n old v right ≡ None → log.refusal n old (log.normal v) right ≡ None
  pub known : (n : ℕ) (old v : V) (right : Right) (k : ℕ) → log.refusal n old v right ≡ None → log.names v k ≡ true → (k ≡ n + 1) ⊎ (log.names old k ≡ true)
  pub first : (author : A) (v : V) (k : ℕ) → log.first author ≡ Ok (Some v) → log.names (log.normal v) k ≡ true → k ≡ 1

-- what an author made: of the committed version before, which follows lawfully; or of none, at the first number
pub data IsMade {V A : Type 0} (log : Log V A) (c : List (Link V A)) (author : A) (n : ℕ) (v : V) : Type 0 where
  OfVersion : (old : Link V A) → link_at old.number c ≡ Some old → n ≡ old.number + 1 → log.makes author old.number old.value ≡ Ok (Some v) → log.refusal old.number old.value v (log.right author) ≡ None → log.fence author old.value ≡ None
      → IsMade log c author n v
  OfNone : n ≡ 1 → log.first author ≡ Ok (Some v) → IsMade log c author n v
