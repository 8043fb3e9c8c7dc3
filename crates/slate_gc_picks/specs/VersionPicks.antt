-- Which versions of a log a pass may delete.
use Rattle.std.specs.Prelude.{ℕ, nat_lt, not, ◌&&◌, Bool, false, List, filter, Option, Some, None}
use Rattle.slate_txn_log.specs.LogPaths.{number_of}
use Rattle.slate_txn_log.specs.declared.log_kind.LogKind.{LogKind}
use Rattle.slate_model.specs.declared.checkpoint.Checkpoint.{Checkpoint}
use Rattle.slate_store.specs.declared.object.ObjectMetadata.{ObjectMetadata}
use Rattle.slate_state_updates.specs.Checkpoints.{is_named}

-- a number below the greatest that no checkpoint names
abbrev pub is_unneeded : ℕ → List Checkpoint → Option ℕ → Bool
is_unneeded greatest checkpoints None = false
is_unneeded greatest checkpoints (Some n) = nat_lt n greatest && not (is_named n checkpoints)

-- of these objects the versions of a log below the greatest that no checkpoint names
abbrev pub unneeded : LogKind → ℕ → List Checkpoint → List ObjectMetadata → List ObjectMetadata
unneeded log greatest checkpoints found = filter (λ m. is_unneeded greatest checkpoints (number_of log m.location)) found
