-- What may not come twice among databases: paths, and checkpoints by their ids.
use Rattle.std.specs.Prelude.{Bool, List, bytes_eq}
use Rattle.std.specs.List.{flat_map}
use Rattle.slate_model.specs.declared.checkpoint.Checkpoint.{Checkpoint}
use Rattle.slate_script_events.specs.declared.db_spec.DbSpec.{DbSpec}

-- whether two databases have one path
abbrev pub have_one_path : DbSpec → DbSpec → Bool
have_one_path a b = bytes_eq b.path a.path

-- whether two checkpoints have one id
abbrev pub have_one_id : Checkpoint → Checkpoint → Bool
have_one_id a b = bytes_eq b.id a.id

-- the checkpoints of all databases
abbrev pub all_checkpoints : List DbSpec → List Checkpoint
all_checkpoints specs = flat_map (λ (spec : DbSpec). spec.manifest.core.checkpoints) specs
