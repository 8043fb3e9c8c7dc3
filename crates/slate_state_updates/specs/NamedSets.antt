-- The versions that checkpoints name, as a set.
use Rattle.std.specs.Prelude.{◌≡◌, ℕ, List}
use Rattle.std.specs.BTreeSet.{BTreeSet, contains}
use Rattle.std.specs.Ordering.{nat_cmp}
use Rattle.slate_model.specs.declared.checkpoint.Checkpoint.{Checkpoint}
use Rattle.slate_state_updates.specs.Checkpoints.{is_named}

-- the set has exactly the versions that checkpoints name
abbrev pub IsSetOf : BTreeSet ℕ → List Checkpoint → Type 0
IsSetOf named cs = (n : ℕ) → contains nat_cmp named n ≡ is_named n cs
