-- The collector: the passes that it runs, its report, its statistics.
use Rattle.std.specs.Prelude.{◌≡◌, ◌<◌, ℕ, ℤ, Bool, false, List, [], ◌∷◌, ◌++◌, length, map}
use Rattle.std.specs.List.{list_any}
use Rattle.slate_gc.specs.Ended.{Ended, Entry, entry_of}
use Rattle.slate_gc.specs.GcPass.{layout_ways}
use Rattle.slate_gc.specs.Options.{Asked, all_passes, asked}
use Rattle.slate_gc.specs.PassTurns.{PassRan}
use Rattle.slate_gc.specs.Stats.{after_passes, one_run_more}
use Rattle.slate_gc.specs.Ticks.{Source, Took, is_stop}
use Rattle.slate_gc.specs.declared.options.GarbageCollectorOptions.{GarbageCollectorOptions}
use Rattle.slate_gc.specs.declared.report.GcReport.{GcReport}
use Rattle.slate_gc.specs.declared.report.RunEnd.{RunEnd}
use Rattle.slate_gc.specs.declared.report.RunEnd.TheVariants.{Stopped, Turns}
use Rattle.slate_gc.specs.declared.setup.Setup as made
use Rattle.slate_gc.specs.declared.stats.GcStats.{GcStats}
use Rattle.slate_gc.specs.declared.tick.Tick.{Tick}
use Rattle.slate_gc.specs.declared.tick.Tick.TheVariants.{At, Stop}
use Rattle.slate_ids.specs.declared.gc_message.GcMessage.{GcMessage}
use Rattle.slate_ids.specs.declared.number_range.NumberRange.{NumberRange}
use Rattle.slate_gc_passes.specs.Ways.{Ways}
use Rattle.slate_gc_picks.specs.Filter.{allowed}
use Rattle.slate_gc_picks.specs.WalPicks.{wal_candidates}
use Rattle.slate_store.specs.StoreCalls.{Told}
use Rattle.slate_store.specs.declared.object.ObjectMetadata.{ObjectMetadata}

-- what a collector was made with: its database, its options, and what its filter and its picker of files answer
pub record Setup : Type 0 where
  pub db : List ℕ
  pub options : GarbageCollectorOptions
  pub ways : Ways

abbrev pub setup_of : List ℕ → GarbageCollectorOptions → Ways → Setup
setup_of db options ways = record { db = db; options = options; ways = ways }

-- of what a collector was made with, by what its filter returns and its picker of files picks
abbrev pub set_up : {F W : Type 0} → (F → List ObjectMetadata → List ObjectMetadata) → (W → List NumberRange → List ObjectMetadata → ℕ → ℤ → List ObjectMetadata) → made.Setup F W → Setup
set_up returns picks by = setup_of by.db by.options (layout_ways (allowed returns by.filter) (wal_candidates picks by.wal))

-- passes ran one after the other, each at its moment and with so many tries, and ended so
abbrev pub AllRan : Setup → ℕ → List Asked → Told → Told → List Ended → Type 0
AllRan setup tries [] old new [] = new ≡ old
AllRan setup tries (a ∷ rest) old new (ended ∷ more) = (mid : Told) × PassRan setup.ways setup.db a.0 a.1 tries old mid ended × AllRan setup tries rest mid new more
AllRan setup tries _ old new _ = ⊥

-- passes ran so, the report has an entry for each, and the statistics moved by each
pub record PassesRan (setup : Setup) (tries : ℕ) (passes : List Asked) (old new : Told) (before after : GcStats) (report : List Entry) : Type 0 where
  pub ended : List Ended
  pub ran : AllRan setup tries passes old new ended
  pub entries : report ≡ map entry_of ended
  pub stats : after ≡ after_passes ended before

-- a tick of each pass, at one moment
abbrev pub at_once : ℤ → List GcMessage → List Tick
at_once moment passes = map (λ pass. At pass moment) passes

-- all configured passes ran once, in their order
pub record OnceRan (setup : Setup) (tries : ℕ) (moment : ℤ) (old new : Told) (before after : GcStats) (report : List Entry) : Type 0 where
  pub moved : GcStats
  pub passes : PassesRan setup tries (asked setup.options (at_once moment all_passes)) old new before moved report
  pub count : after ≡ one_run_more moved

-- whether one of these ticks is a Stop
abbrev pub has_stop : List Tick → Bool
has_stop ticks = list_any is_stop ticks

-- a run ends at the first Stop of so many answers, or after so many without one
abbrev pub EndsAt : ℕ → List Tick → RunEnd → Type 0
EndsAt turns taken Stopped = (before : List Tick) × (taken ≡ before ++ Stop ∷ []) × (has_stop before ≡ false) × (length before < turns)
EndsAt turns taken Turns = (has_stop taken ≡ false) × (length taken ≡ turns)

-- ticks were taken, and the configured passes that they ask for ran, in their order
pub record TicksRan (setup : Setup) (tries : ℕ) (first last : Source) (taken : List Tick) (old new : Told) (before after : GcStats) (report : List Entry) : Type 0 where
  pub took : Took first last taken
  pub passes : PassesRan setup tries (asked setup.options taken) old new before after report

-- a whole run
pub record RunRan (setup : Setup) (tries turns : ℕ) (first last : Source) (old new : Told) (before after : GcStats) (end : RunEnd) (report : List Entry) : Type 0 where
  pub taken : List Tick
  pub ends : EndsAt turns taken end
  pub ticks : TicksRan setup tries first last taken old new before after report

-- and answered how it ended, with its report
abbrev pub RunAnswers : Setup → ℕ → ℕ → Source → Source → Told → Told → GcStats → GcStats → RunEnd × GcReport → Type 0
RunAnswers setup tries turns first last old new before after answer = RunRan setup tries turns first last old new before after answer.0 answer.1.passes

-- the report had no room for another pass: the ticks before it were taken and their passes ran, and no further one was taken
pub record RunBegan (setup : Setup) (tries turns : ℕ) (first last : Source) (old new : Told) (before after : GcStats) : Type 0 where
  pub taken : List Tick
  pub goes_on : has_stop taken ≡ false
  pub within : length taken < turns
  pub report : List Entry
  pub ticks : TicksRan setup tries first last taken old new before after report
