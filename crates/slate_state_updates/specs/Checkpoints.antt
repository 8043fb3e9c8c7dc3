-- Checkpoints of a manifest, and what each checkpoint call makes of it.
use Rattle.std.specs.Prelude.{ℕ, ◌+◌, ◌==◌, ℤ, pos, ◌+ℤ◌, int_le, Bool, false, not, List, [], ◌∷◌, ◌++◌, map, filter, Option, Some, None, is_some, Result, Ok, Err, bytes_eq, if◌then◌else◌}
use Rattle.std.specs.Int.{w64, saturate_signed}
use Rattle.std.specs.List.{list_any}
use Rattle.slate_ids.specs.Limits.{last_number}
use Rattle.slate_ids.specs.declared.error.SlateDBError.{SlateDBError}
use Rattle.slate_ids.specs.declared.error.SlateDBError.TheVariants.{CheckpointMissing, InvalidDBState, Exhausted}
use Rattle.slate_ids.specs.declared.error.StateCause.TheVariants.{NotInitialised}
use Rattle.slate_model.specs.declared.checkpoint.Checkpoint.{Checkpoint}
use Rattle.slate_model.specs.declared.checkpoint.CheckpointOptions.{CheckpointOptions}
use Rattle.slate_model.specs.declared.manifest.Manifest.{Manifest}

-- the first checkpoint that has an id
abbrev pub checkpoint_at : List ℕ → List Checkpoint → Option Checkpoint
checkpoint_at id [] = None
checkpoint_at id (c ∷ cs) = if bytes_eq c.id id then Some c else checkpoint_at id cs

-- whether a checkpoint has the id
abbrev pub has_checkpoint : List ℕ → Manifest → Bool
has_checkpoint id m = is_some (checkpoint_at id m.core.checkpoints)

-- whether a checkpoint names the version of this number
abbrev pub is_named : ℕ → List Checkpoint → Bool
is_named n cs = list_any (λ c. c.manifest_id == n) cs

-- without the checkpoints that have an id
abbrev pub without_checkpoint : List ℕ → List Checkpoint → List Checkpoint
without_checkpoint id cs = filter (λ c. not (bytes_eq c.id id)) cs

-- when a checkpoint of this lifetime in milliseconds expires, counted from a moment: never without one
abbrev pub expiry : ℤ → Option ℕ → Option ℤ
expiry now None = None
expiry now (Some lifetime) = Some (saturate_signed w64 (now +ℤ pos lifetime))

-- the number of the version after this one
abbrev pub number_after : ℕ → Result ℕ SlateDBError
number_after n = if n == last_number then Err (Exhausted n) else Ok (n + 1)

-- the version of the checkpoint that is the source of another
abbrev pub source_version : List ℕ → Option Checkpoint → Result ℕ SlateDBError
source_version id None = Err (CheckpointMissing id)
source_version id (Some c) = Ok c.manifest_id

-- the version that a new checkpoint names: its source's, or else the one that its commit makes after version n
abbrev pub version_to_name : ℕ → Option (List ℕ) → Manifest → Result ℕ SlateDBError
version_to_name n None m = if m.core.initialized then number_after n else Err (InvalidDBState NotInitialised)
version_to_name n (Some source) m = source_version source (checkpoint_at source m.core.checkpoints)

-- a new checkpoint, made at a moment
abbrev pub new_checkpoint : List ℕ → CheckpointOptions → ℤ → ℕ → Checkpoint
new_checkpoint id options now version = record { id = id; manifest_id = version; expire_time = expiry now options.lifetime; create_time = now; name = options.name }

-- the manifest with these checkpoints
abbrev pub with_checkpoints : List Checkpoint → Manifest → Manifest
with_checkpoints cs m = record m { core = record m.core { checkpoints = cs } }

-- the manifest whose checkpoints are these and one more, where its version is known
abbrev pub pushed : List Checkpoint → List ℕ → CheckpointOptions → ℤ → Manifest → Result ℕ SlateDBError → Result (Option Manifest) SlateDBError
pushed cs id options now m (Ok version) = Ok (Some (with_checkpoints (cs ++ new_checkpoint id options now version ∷ []) m))
pushed cs id options now m (Err e) = Err e

-- what a write of a checkpoint makes of version n: nothing where the id is there, and else the checkpoint comes last
abbrev pub written : List ℕ → CheckpointOptions → ℤ → ℕ → Manifest → Result (Option Manifest) SlateDBError
written id options now n m = if has_checkpoint id m then Ok None else pushed m.core.checkpoints id options now m (version_to_name n options.source m)

-- what the replacement of an old checkpoint makes of version n: the same, without the old one
abbrev pub replaced : List ℕ → List ℕ → CheckpointOptions → ℤ → ℕ → Manifest → Result (Option Manifest) SlateDBError
replaced old id options now n m = if has_checkpoint id m then Ok None else pushed (without_checkpoint old m.core.checkpoints) id options now m (version_to_name n options.source m)

-- a checkpoint with another expiry, where it has the id
abbrev pub expiring : List ℕ → Option ℤ → Checkpoint → Checkpoint
expiring id expire_time c = if bytes_eq c.id id then record c { expire_time = expire_time } else c

-- what the refresh of a checkpoint makes of a manifest: it expires later, or never
abbrev pub refreshed : List ℕ → Option ℕ → ℤ → Manifest → Result (Option Manifest) SlateDBError
refreshed id lifetime now m = if has_checkpoint id m then Ok (Some (with_checkpoints (map (expiring id (expiry now lifetime)) m.core.checkpoints) m)) else Err (CheckpointMissing id)

-- what the deletion of a checkpoint makes of a manifest: nothing where the id isn't there
abbrev pub deleted : List ℕ → Manifest → Result (Option Manifest) SlateDBError
deleted id m = if has_checkpoint id m then Ok (Some (with_checkpoints (without_checkpoint id m.core.checkpoints) m)) else Ok None

-- whether what expires then is expired at a moment: its expiry isn't above it
abbrev pub is_over : ℤ → Option ℤ → Bool
is_over now None = false
is_over now (Some expire_time) = int_le expire_time now

-- whether a checkpoint is expired at a moment
abbrev pub is_expired : ℤ → Checkpoint → Bool
is_expired now c = is_over now c.expire_time

-- what a pass of the collector makes of a manifest first: it goes without the expired checkpoints, and nothing where there is none
abbrev pub unexpired : ℤ → Manifest → Result (Option Manifest) SlateDBError
unexpired now m = if list_any (is_expired now) m.core.checkpoints then Ok (Some (with_checkpoints (filter (λ c. not (is_expired now c)) m.core.checkpoints) m)) else Ok None
