-- A pass that leaves its stage comes nearer to its end, and so does one that deletes.
use Rattle.std.specs.Prelude.{◌≡◌, ◌<◌, Bool, true, List, [], ◌∷◌, drop, length}
use Rattle.std.proofs.Common.{arith, subst, sym}
use Rattle.slate_gc_passes.specs.Stages.{PassFalls, stages_within}
use Rattle.slate_gc_passes.specs.declared.pass_counts.PassCounts.{PassCounts}
use Rattle.slate_gc_passes.specs.declared.pass_phase.PassPhase.{PassPhase}
use Rattle.slate_gc_passes.specs.declared.pass_phase.PassPhase.TheVariants.{ReadingRecord, ReadingManifest, Fetching, Advancing, Deleting}
use Rattle.slate_gc_picks.specs.Queue.{has_object}
use Rattle.slate_store.specs.declared.object.ObjectMetadata.{ObjectMetadata}

pub fewer_stages : (old new : PassPhase) → stages_within new < stages_within old → PassFalls old new
fewer_stages (ReadingRecord old) (ReadingRecord new) less = absurd (omega (arith, less))
fewer_stages (ReadingManifest least old) (ReadingManifest other new) less = absurd (omega (arith, less))
fewer_stages (Fetching heads old) (Fetching others new) less = absurd (omega (arith, less))
fewer_stages (Advancing old left counts) (Advancing new picked others) less = absurd (omega (arith, less))
fewer_stages (Deleting old counts) (Deleting new others) less = absurd (omega (arith, less))
fewer_stages _ _ less = less

shorter : (left : List ObjectMetadata) → has_object left ≡ true → length (drop 1 left) < length left
shorter [] has = absurd cc
shorter (m ∷ left) has = omega arith

pub fewer_left : (left : List ObjectMetadata) (before counts : PassCounts) (to : PassPhase) → has_object left ≡ true → to ≡ Deleting (drop 1 left) counts → PassFalls (Deleting left before) to
fewer_left left before counts to has same = subst (λ (p : PassPhase). PassFalls (Deleting left before) p) (sym same) (shorter left has)
