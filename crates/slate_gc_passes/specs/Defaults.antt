-- What a pass over a folder goes by where nothing else is said.
use Rattle.std.specs.Prelude.{false, None}
use Rattle.slate_gc_passes.specs.declared.directory_options.GarbageCollectorDirectoryOptions.{GarbageCollectorDirectoryOptions}

-- a least age of five minutes, no interval, no dry run
abbrev pub default_options : GarbageCollectorDirectoryOptions
default_options = record { min_age = 300000; interval = None; dry_run = false }
