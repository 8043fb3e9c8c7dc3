-- A plain call of a pass ends: with each step a turn is used, or fewer stages are left, or fewer steps of the stage.
use Rattle.std.specs.Prelude.{◌≡◌, ◌<◌, ℕ, ℤ, ◌||◌, nat_lt, Bool, true, false, Option, refl}
use Rattle.std.proofs.Common.{arith, inl, inr, sym, ◌∙◌, ◌⊎◌}
use Rattle.std.proofs.lemmas.Bool.Decides.{nat_tests}
use Rattle.slate_gc.specs.PassTurns.{Turn, is_through, is_turned, stages_left, uses_turn}
use Rattle.slate_gc.specs.PlainStages.{Fewer, TurnFalls, steps_left}
use Rattle.slate_txn_log.specs.AdvancePhase.{AdvanceFalls, advance_rank, is_bounding}
use Rattle.slate_txn_log.specs.ReadPhase.{Falls, is_listing, rank}
use Rattle.slate_txn_log.specs.declared.advance_phase.AdvancePhase.{AdvancePhase}
use Rattle.slate_txn_log.specs.declared.advance_phase.AdvancePhase.TheVariants as advancing
use Rattle.slate_txn_log.specs.declared.read_phase.ReadPhase.{ReadPhase}
use Rattle.slate_txn_log.specs.declared.read_phase.ReadPhase.TheVariants as reading
use Rattle.slate_gc_passes.specs.Stages.{GcFalls, PassFalls, stages_within}
use Rattle.slate_gc_passes.specs.declared.gc_phase.GcPhase.{GcPhase}
use Rattle.slate_gc_passes.specs.declared.gc_phase.GcPhase.TheVariants.{Removing, Collecting}
use Rattle.slate_gc_passes.specs.declared.pass_phase.PassPhase.{PassPhase}
use Rattle.slate_gc_passes.specs.declared.pass_phase.PassPhase.TheVariants.{ReadingRecord, ReadingManifest, Fetching, Listing, Getting, Bounding, Advancing, Deleting, Over}

-- a read, or an advance, that didn't start again
read_lower : {T : Type 0} (old new : ReadPhase T) → is_listing new ≡ false → Falls old new → rank new < rank old
read_lower old reading.Listing not falls = absurd cc
read_lower old _ not falls = falls

advance_lower : (old new : AdvancePhase) → is_bounding new ≡ false → AdvanceFalls old new → advance_rank new < advance_rank old
advance_lower old (advancing.Bounding n) not falls = absurd cc
advance_lower old _ not falls = falls

-- a step of a pass that used no turn
fewer_within : (old new : PassPhase) (at later : Option ℤ) → uses_turn (Collecting at old) (Collecting later new) ≡ false → PassFalls old new → Fewer (Collecting at old) (Collecting later new)
fewer_within (ReadingRecord old) (ReadingRecord new) at later not falls = inr (refl, read_lower old new not falls)
fewer_within (ReadingManifest least old) (ReadingManifest other new) at later not falls = inr (refl, read_lower old new not falls)
fewer_within (Fetching heads old) (Fetching others new) at later not falls = inr (refl, falls)
fewer_within (Advancing old left counts) (Advancing new picked others) at later not falls = inr (refl, advance_lower old new not falls)
fewer_within (Deleting old counts) (Deleting new others) at later not falls = inr (refl, falls)
fewer_within _ _ at later not falls = inl falls

stages_bound : (phase : PassPhase) → stages_within phase < 9
stages_bound (ReadingRecord phase) = omega arith
stages_bound (ReadingManifest least phase) = omega arith
stages_bound (Fetching heads phase) = omega arith
stages_bound (Listing heads versions) = omega arith
stages_bound (Getting n listed found) = omega arith
stages_bound (Bounding n listed found) = omega arith
stages_bound (Advancing phase left counts) = omega arith
stages_bound (Deleting left counts) = omega arith
stages_bound Over = omega arith

-- a step of the whole pass, which used a turn or didn't
pub turn_falls : (old new : GcPhase) (used : Bool) → uses_turn old new ≡ used → GcFalls old new → TurnFalls old new used
turn_falls old new true is falls = inl refl
turn_falls (Removing old) (Removing new) false is (inl starts) = absurd (let both : true ≡ false = sym starts ∙ is in cc)
turn_falls (Removing old) (Removing new) false is (inr falls) = inr (inr (refl, falls))
turn_falls (Removing old) (Collecting at new) false is falls = inr (inl (stages_bound new))
turn_falls (Collecting at old) (Removing new) false is falls = absurd falls
turn_falls (Collecting at old) (Collecting later new) false is falls = inr (fewer_within old new at later is falls)

-- where no turn was used, fewer stages are left, or fewer steps of the stage
pub fewer : (old new : GcPhase) (used : Bool) → TurnFalls old new used → used ≡ false → Fewer old new
fewer old new used (inl uses) not = absurd (let both : true ≡ false = sym uses ∙ not in cc)
fewer old new used (inr falls) not = falls

-- within a stage, fewer of its steps
pub same_stage : (old new : GcPhase) (stages : ℕ) → stages_left old ≡ stages → Fewer old new → (stages_left new < stages → ⊥) → (stages_left new ≡ stages) × (steps_left new < steps_left old)
same_stage old new stages is (inl less) not = absurd (not (omega (arith, less, is)))
same_stage old new stages is (inr stays) not = (stays.0 ∙ is, stays.1)

either : (b c : Bool) → (b || c) ≡ true → (b ≡ true) ⊎ (c ≡ true)
either true c h = inl refl
either false c h = inr h

neither : (b c : Bool) → (b || c) ≡ false → (b ≡ false) × (c ≡ false)
neither true c h = absurd cc
neither false c h = (refl, h)

is_less : (x y : ℕ) → nat_lt x y ≡ true → x < y
is_less x y h = grind (arith, nat_tests)

not_less : (x y : ℕ) → nat_lt x y ≡ false → x < y → ⊥
not_less x y h less = grind (arith, nat_tests)

-- where a stage is left
pub through : (stages : ℕ) (turn : Turn) → is_through stages turn ≡ true → (is_turned turn ≡ true) ⊎ (stages_left turn.0 < stages)
through stages turn h = elim (either (is_turned turn) (nat_lt (stages_left turn.0) stages) h) [
  | inl used ↦ inl used
  | inr less ↦ inr (is_less (stages_left turn.0) stages less)
]

-- and where it isn't
pub not_through : (stages : ℕ) (turn : Turn) → is_through stages turn ≡ false → (is_turned turn ≡ false) × (stages_left turn.0 < stages → ⊥)
not_through stages turn h =
    let both = neither (is_turned turn) (nat_lt (stages_left turn.0) stages) h in
    (both.0, not_less (stages_left turn.0) stages both.1)
