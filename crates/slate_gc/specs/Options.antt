-- What a collector goes by: which passes are configured, and how each goes.
use Rattle.std.specs.Prelude.{ℤ, Bool, true, List, [], ◌∷◌, ◌++◌, Option, Some, None, option_to_list}
use Rattle.slate_gc.specs.declared.options.GarbageCollectorOptions.{GarbageCollectorOptions}
use Rattle.slate_gc.specs.declared.schedule_options.GarbageCollectorScheduleOptions.{GarbageCollectorScheduleOptions}
use Rattle.slate_gc.specs.declared.tick.Tick.{Tick}
use Rattle.slate_gc.specs.declared.tick.Tick.TheVariants.{At, Stop}
use Rattle.slate_ids.specs.declared.gc_message.GcMessage.{GcMessage}
use Rattle.slate_ids.specs.declared.gc_message.GcMessage.TheVariants.{Manifest, Wal, WalFence, Compacted, Compactions, Detach}
use Rattle.slate_gc_passes.specs.Defaults.{default_options}
use Rattle.slate_gc_passes.specs.declared.directory_options.GarbageCollectorDirectoryOptions.{GarbageCollectorDirectoryOptions}
use Rattle.slate_gc_passes.specs.declared.pass_settings.PassSettings.{PassSettings}

-- no interval
abbrev pub default_schedule : GarbageCollectorScheduleOptions
default_schedule = record { interval = None }

-- each pass by its defaults, with boundary files
abbrev pub default_collector : GarbageCollectorOptions
default_collector = record {
  manifest_options = Some default_options;
  wal_options = Some default_options;
  wal_fence_options = Some default_options;
  compacted_options = Some default_options;
  compactions_options = Some default_options;
  detach_options = Some default_schedule;
  boundary_files_enabled = true;
}

-- what a pass over a folder goes by, where it is configured; no pass detaches clones yet
abbrev pub directory_of : GarbageCollectorOptions → GcMessage → Option GarbageCollectorDirectoryOptions
directory_of options Manifest = options.manifest_options
directory_of options Wal = options.wal_options
directory_of options WalFence = options.wal_fence_options
directory_of options Compacted = options.compacted_options
directory_of options Compactions = options.compactions_options
directory_of options Detach = None

-- the settings of a pass with these options
abbrev pub settings_with : GcMessage → Bool → Option GarbageCollectorDirectoryOptions → Option PassSettings
settings_with pass boundary_files_enabled None = None
settings_with pass boundary_files_enabled (Some options) = Some (record { pass = pass; options = options; boundary_files_enabled = boundary_files_enabled })

-- the settings of a pass, where it is configured
abbrev pub settings_of : GarbageCollectorOptions → GcMessage → Option PassSettings
settings_of options pass = settings_with pass options.boundary_files_enabled (directory_of options pass)

-- a pass that is asked for, with its moment
abbrev pub Asked : Type 0
Asked = PassSettings × ℤ

abbrev pub asked_at : ℤ → Option PassSettings → Option Asked
asked_at moment None = None
asked_at moment (Some settings) = Some (settings, moment)

-- the pass that a tick asks for, where it is configured
abbrev pub asked_by : GarbageCollectorOptions → Tick → Option Asked
asked_by options (At pass moment) = asked_at moment (settings_of options pass)
asked_by options Stop = None

-- the passes that ticks ask for, in their order
abbrev pub asked : GarbageCollectorOptions → List Tick → List Asked
asked options [] = []
asked options (tick ∷ ticks) = option_to_list (asked_by options tick) ++ asked options ticks

-- the passes over folders, in the order in which a collector runs them
abbrev pub all_passes : List GcMessage
all_passes = Manifest ∷ Wal ∷ WalFence ∷ Compacted ∷ Compactions ∷ []
