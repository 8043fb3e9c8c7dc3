-- The store's count of faults rose by at least what a report tells of.
use Rattle.std.specs.Prelude.{◌≡◌, ℕ, ℤ, List, [], ◌∷◌, map}
use Rattle.std.proofs.Common.{subst, sym}
use Rattle.slate_state_logs.specs.laws.ManifestsPlain.{encoding_fine}
use Rattle.slate_gc.proofs.PassRose.{Sound, no_rose, pass_rose, rose_both}
use Rattle.slate_gc.proofs.Takes.{SoFar}
use Rattle.slate_gc.specs.Collector.{AllRan, OnceRan, PassesRan, Setup, at_once}
use Rattle.slate_gc.specs.Ended.{Ended, Entry, entry_of, faults_told}
use Rattle.slate_gc.specs.Faults.{RoseBy, all_faults}
use Rattle.slate_gc.specs.GcPass.{layout_ways}
use Rattle.slate_gc.specs.Options.{Asked, all_passes, asked}
use Rattle.slate_gc.specs.Ticks.{Source}
use Rattle.slate_gc.specs.declared.stats.GcStats.{GcStats}
use Rattle.slate_state_logs.specs.laws.RecordsPlain.{decoding_fine as records_fine}
use Rattle.slate_ids.specs.declared.number_range.NumberRange.{NumberRange}
use Rattle.slate_state_logs.specs.laws.ManifestsPlain.{decoding_fine}
use Rattle.slate_gc_passes.proofs.GcFaults.{gc_faults}
use Rattle.slate_store.specs.StoreCalls.{Told}
use Rattle.slate_store.specs.declared.object.ObjectMetadata.{ObjectMetadata}

-- over the layout, whatever the filter allows
layout_sound : (allows : List ObjectMetadata → List ObjectMetadata) (files : List NumberRange → List ObjectMetadata → ℕ → ℤ → List ObjectMetadata) → Sound (layout_ways allows files)
layout_sound allows files = λ db settings moment. gc_faults db (layout_ways allows files) (record { manifests = decoding_fine; bytes = encoding_fine; records = records_fine }) settings moment

all_rose : (setup : Setup) → Sound setup.ways → (tries : ℕ) (passes : List Asked) (old new : Told) (ended : List Ended) → AllRan setup tries passes old new ended → RoseBy (all_faults (map entry_of ended)) old.faults new.faults
all_rose setup sound tries [] old new [] ran = subst (λ (t : Told). RoseBy 0 old.faults t.faults) (sym ran) (no_rose old.faults)
all_rose setup sound tries [] old new (e ∷ ended) ran = absurd ran
all_rose setup sound tries (a ∷ passes) old new [] ran = absurd ran
all_rose setup sound tries (a ∷ passes) old new (e ∷ ended) ran =
    rose_both (faults_told e.result) (all_faults (map entry_of ended)) old.faults ran.0.faults new.faults
    (pass_rose setup.ways sound setup.db a.0 a.1 tries old ran.0 e ran.1) (all_rose setup sound tries passes ran.0 new ended ran.2)

-- of passes over the layout
pub report_rose : (setup : Setup) (allows : List ObjectMetadata → List ObjectMetadata) (files : List NumberRange → List ObjectMetadata → ℕ → ℤ → List ObjectMetadata)
    → setup.ways ≡ layout_ways allows files → (tries : ℕ) (passes : List Asked) (old new : Told) (before after : GcStats) (report : List Entry)
    → PassesRan setup tries passes old new before after report → RoseBy (all_faults report) old.faults new.faults
report_rose setup allows files same tries passes old new before after report ran =
    let sound = subst (λ (w : _). Sound w) (sym same) (layout_sound allows files) in
    subst (λ (es : List Entry). RoseBy (all_faults es) old.faults new.faults) (sym ran.entries) (all_rose setup sound tries passes old new ran.ended ran.ran)

-- of all passes once
pub once_rose : (setup : Setup) (allows : List ObjectMetadata → List ObjectMetadata) (files : List NumberRange → List ObjectMetadata → ℕ → ℤ → List ObjectMetadata)
    → setup.ways ≡ layout_ways allows files → (tries : ℕ) (moment : ℤ) (old new : Told) (before after : GcStats) (report : List Entry)
    → OnceRan setup tries moment old new before after report → RoseBy (all_faults report) old.faults new.faults
once_rose setup allows files same tries moment old new before after report ran =
    report_rose setup allows files same tries (asked setup.options (at_once moment all_passes)) old new before ran.moved report ran.passes

-- and of a run over ticks, so far
pub so_far_rose : (setup : Setup) (allows : List ObjectMetadata → List ObjectMetadata) (files : List NumberRange → List ObjectMetadata → ℕ → ℤ → List ObjectMetadata)
    → setup.ways ≡ layout_ways allows files → (tries : ℕ) (first last : Source) (old new : Told) (before after : GcStats) (report listed : List Entry) (count : ℕ)
    → SoFar setup tries first last old new before after report count → listed ≡ report → RoseBy (all_faults listed) old.faults new.faults
so_far_rose setup allows files same tries first last old new before after report listed count so_far told_as =
    subst (λ (es : List Entry). RoseBy (all_faults es) old.faults new.faults) (sym told_as)
    (report_rose setup allows files same tries (asked setup.options so_far.taken) old new before after report so_far.ticks.passes)
