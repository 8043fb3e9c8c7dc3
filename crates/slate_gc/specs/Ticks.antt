-- Sources of ticks.
use Rattle.std.specs.Prelude.{◌≡◌, Bool, true, false, Option, Some, None, List, [], ◌∷◌}
use Rattle.slate_gc.specs.declared.tick.Tick.{Tick}
use Rattle.slate_gc.specs.declared.tick.Tick.TheVariants.{At, Stop}

-- what a source of ticks tells of itself: whether it was stopped, and, where told, the ticks that are left
pub record Source : Type 0 where
  pub is_stopped : Bool
  pub left : Option (List Tick)

-- a source of these ticks
abbrev pub source_of : Bool → List Tick → Source
source_of is_stopped left = record { is_stopped = is_stopped; left = Some left }

-- a source that was stopped; the ticks that are left stay
abbrev pub stopped : Source → Source
stopped source = record source { is_stopped = true }

-- the first tick is taken, and Stop is the answer where none is left
abbrev pub TakesFirst : Option (List Tick) → Option (List Tick) → Tick → Type 0
TakesFirst None new tick = new ≡ None
TakesFirst (Some []) new tick = (new ≡ Some []) × (tick ≡ Stop)
TakesFirst (Some (t ∷ ts)) new tick = (new ≡ Some ts) × (tick ≡ t)

-- one answer of a source: Stop once it was stopped, and no tick is taken then
abbrev pub TakesBy : Bool → Source → Source → Tick → Type 0
TakesBy true old new tick = (new ≡ old) × (tick ≡ Stop)
TakesBy false old new tick = (new.is_stopped ≡ false) × TakesFirst old.left new.left tick

abbrev pub Takes : Source → Source → Tick → Type 0
Takes old new tick = TakesBy old.is_stopped old new tick

-- so many answers, one after the other
abbrev pub Took : Source → Source → List Tick → Type 0
Took old new [] = new ≡ old
Took old new (tick ∷ ticks) = (mid : Source) × Takes old mid tick × Took mid new ticks

-- whether a tick is a Stop
abbrev pub is_stop : Tick → Bool
is_stop (At pass moment) = false
is_stop Stop = true
