-- A report tells the truth: each pass of it with counts is exact.
use Rattle.std.specs.Prelude.{◌≡◌, ℕ, ℤ, Bool, List, [], ◌∷◌, map, IfOk, Ok}
use Rattle.slate_gc.specs.Collector.{Setup}
use Rattle.slate_gc.specs.Ended.{Entry}
use Rattle.slate_gc.specs.Options.{Asked}
use Rattle.slate_gc.specs.PassTurns.{first_turn, turn_asks, turn_goes}
use Rattle.slate_gc_passes.specs.Exact.{Answered, Chosen, counted_along, counts_before, deleted_along, or_nothing, picked_along}
use Rattle.slate_gc_passes.specs.GcPhase.{gc_asks, gc_goes, gc_start}
use Rattle.slate_gc_passes.specs.Ways.{Ways}
use Rattle.slate_gc_passes.specs.declared.gc_phase.GcPhase.{GcPhase}
use Rattle.slate_gc_passes.specs.declared.pass_counts.PassCounts.{PassCounts}
use Rattle.slate_gc_passes.specs.declared.pass_settings.PassSettings.{PassSettings}
use Rattle.slate_store.specs.CallRuns.{Run}
use Rattle.slate_store.specs.Machines.{Stay, End}
use Rattle.slate_store.specs.StoreCalls.{Told}
use Rattle.slate_store.specs.declared.made.Made.{Made}

-- the answers to these calls, all at one moment
abbrev pub answers_at : ℤ → List Made → List Answered
answers_at moment made = map (λ m. (m.answer, moment)) made

-- what a pass picked of what it read in these calls
abbrev pub picked_of : Ways → PassSettings → ℤ → List Made → Chosen
picked_of ways settings moment made = or_nothing (picked_along ways settings (Stay gc_start) (answers_at moment made))

-- a pass that is reported with these counts: in its last turn, the later ones of the calls that it made, it went from its start to its end,
-- and of the answers to them it deleted what its rule picks of what it read, all of it and nothing else, and counted that
pub record ExactPass (ways : Ways) (db : List ℕ) (settings : PassSettings) (moment : ℤ) (old new : Told) (counts : PassCounts) : Type 0 where
  pub mid : Told
  pub earlier : List Made
  pub again : Bool
  pub reached : Run (turn_asks db settings.pass) (turn_goes ways settings moment) moment old mid earlier (Stay first_turn) (Stay (gc_start, again))
  pub made : List Made
  pub to : GcPhase
  pub run : Run (gc_asks db settings.pass) (gc_goes ways settings moment) moment mid new made (Stay gc_start) (End to (Ok counts))
  pub deleted : deleted_along ways settings (Stay gc_start) (answers_at moment made) ≡ (picked_of ways settings moment made).objects
  pub counted : counts ≡ counted_along ways settings (Stay gc_start) (answers_at moment made) (counts_before settings (picked_of ways settings moment made))

-- an entry of a report is of the pass that was asked for, and where it has counts, that pass is exact
abbrev pub ExactEntry : Setup → Asked → Told → Told → Entry → Type 0
ExactEntry setup a old new entry = (entry.0 ≡ a.0.pass) × IfOk entry.1 (λ counts. ExactPass setup.ways setup.db a.0 a.1 old new counts)

-- so is each of them, one pass after the other
abbrev pub ExactReport : Setup → List Asked → Told → Told → List Entry → Type 0
ExactReport setup [] old new [] = new ≡ old
ExactReport setup (a ∷ rest) old new (entry ∷ more) = (mid : Told) × ExactEntry setup a old mid entry × ExactReport setup rest mid new more
ExactReport setup _ old new _ = ⊥
