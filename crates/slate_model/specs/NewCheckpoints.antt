-- What a new checkpoint is to be.
use Rattle.std.specs.Prelude.{None}
use Rattle.slate_model.specs.declared.checkpoint.CheckpointOptions.{CheckpointOptions}

-- no lifetime, no source, no name
abbrev pub no_options : CheckpointOptions
no_options = record { lifetime = None; source = None; name = None }
