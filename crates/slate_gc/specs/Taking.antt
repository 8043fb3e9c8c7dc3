-- One tick more.
use Rattle.std.specs.Prelude.{ℕ, List, ◌++◌}
use Rattle.slate_gc.specs.Collector.{PassesRan, Setup}
use Rattle.slate_gc.specs.Ended.{Entry}
use Rattle.slate_gc.specs.Options.{asked}
use Rattle.slate_gc.specs.declared.stats.GcStats.{GcStats}
use Rattle.slate_gc.specs.declared.tick.Tick.{Tick}
use Rattle.slate_store.specs.StoreCalls.{Told}

-- whatever passes ran for ticks before, after these ticks those ran that they ask for besides
abbrev pub Adds : Setup → ℕ → List Tick → Told → Told → GcStats → GcStats → List Entry → List Entry → Type 0
Adds setup tries ticks old new stats after report longer =
    (first : Told) (before : GcStats) (taken : List Tick) → PassesRan setup tries (asked setup.options taken) first old before stats report
    → PassesRan setup tries (asked setup.options (taken ++ ticks)) first new before after longer
