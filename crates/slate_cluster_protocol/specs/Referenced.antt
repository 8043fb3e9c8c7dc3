-- What was read of the versions that the checkpoints of a manifest name.
use Rattle.std.specs.Prelude.{◌≡◌, ◌⊎◌, ℕ, ◌<◌, ◌≤◌, true, List, Option, Some, is_some}
use Rattle.std.specs.BTreeMap.{is_at}
use Rattle.std.specs.Map.{lookup}
use Rattle.std.specs.Ordering.{nat_cmp}
use Rattle.slate_model.specs.declared.manifest.Manifest.{Manifest}
use Rattle.slate_state_referenced.specs.Named.{has_number}
use Rattle.slate_state_updates.specs.Checkpoints.{is_named}
use Rattle.slate_txn_log.specs.declared.log_kind.LogKind.TheVariants as logs
use Rattle.slate_cluster_protocol.specs.Chains.{top}
use Rattle.slate_cluster_protocol.specs.Holding.{IsVersion}
use Rattle.slate_cluster_protocol.specs.Logs.{Chain, manifests}
use Rattle.slate_cluster_protocol.specs.Reach.{IsNeeded}

-- the version that was got at a number, where one was
abbrev pub version_at : ℕ → List (ℕ × Manifest) → Option Manifest
version_at n found = lookup (is_at (nat_cmp n)) found

-- a version was read; of those that its checkpoints name some were found, and the others are left to be got
pub record IsReferenced (c : Chain logs.Manifest) (n : ℕ) (left : List ℕ) (found : List (ℕ × Manifest)) : Type 0 where
  -- it is committed, and among what was found
  pub some : 0 < n
  pub most : n ≤ top c
  pub value : Manifest
  pub version : IsVersion c n value
  pub own : version_at n found ≡ Some value
  -- each number that it names was found, or is left
  pub named : (k : ℕ) → is_named k value.core.checkpoints ≡ true → (is_some (version_at k found) ≡ true) ⊎ (has_number k left ≡ true)
  -- what is left is below it
  pub before : (k : ℕ) → has_number k left ≡ true → k < n
  -- nothing that was found is above it; where it is still needed it is the committed version of its number
  pub read : (k : ℕ) (v : Manifest) → version_at k found ≡ Some v → (k ≤ n) × (IsNeeded manifests c k → IsVersion c k v)
