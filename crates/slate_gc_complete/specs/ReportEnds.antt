-- What a report says over a store that serves its passes.
use Rattle.std.specs.Prelude.{◌≡◌, List, [], ◌∷◌}
use Rattle.slate_gc.specs.Collector.{Setup}
use Rattle.slate_gc.specs.Ended.{Entry}
use Rattle.slate_gc.specs.Options.{Asked}
use Rattle.slate_gc_complete.specs.PassEnds.{LeavesBoth, PassEnds}
use Rattle.slate_store.specs.StoreCalls.{Told}

-- the passes ran one after the other, and each entry says that its pass ended so
abbrev pub EntriesEnd : Setup → List Asked → Told → Told → List Entry → Type 0
EntriesEnd setup [] old new [] = new ≡ old
EntriesEnd setup (a ∷ rest) old new (entry ∷ more) = (mid : Told) × PassEnds setup.ways setup.db a.1 mid entry.1 × EntriesEnd setup rest mid new more
EntriesEnd setup _ old new _ = ⊥

-- where the store serves the whole, and both logs are ready as it begins, each pass ends so, and both logs are ready at the end
pub record ReportEnds (setup : Setup) (passes : List Asked) (old new : Told) (report : List Entry) : Type 0 where
  pub entries : EntriesEnd setup passes old new report
  pub leaves : LeavesBoth setup.db new
