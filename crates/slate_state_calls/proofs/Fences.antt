-- A fence never refuses for want of memory.
use Rattle.std.specs.Prelude.{◌≡◌, nat_lt, ℕ, Bool, true, false, Some, None, IfSome, if◌then◌else◌, refl}
use Rattle.slate_ids.specs.Answers.{is_memory}
use Rattle.slate_ids.specs.declared.error.SlateDBError.TheVariants.{Fenced}
use Rattle.slate_txn_log.specs.Fence.{fence}

pub fence_plain : (own read : ℕ) → IfSome (fence own read) (λ e. is_memory e ≡ false)
fence_plain own read = by_test (nat_lt own read) where
  by_test : (b : Bool) → IfSome (if b then Some (Fenced own read) else None) (λ e. is_memory e ≡ false)
  by_test true = refl
  by_test false = tt
