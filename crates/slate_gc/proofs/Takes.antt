-- One pass more, one tick more.
use Rattle.std.specs.Prelude.{◌≡◌, ◌<◌, ◌+◌, ℕ, ℤ, Bool, false, List, [], ◌∷◌, ◌++◌, length, suc, take, Option, Some, None, option_to_list, ◌||◌, refl}
use Rattle.std.proofs.Common.{ap, arith, sym, subst, ◌∙◌}
use Rattle.std.proofs.lemmas.List.{append-nil, append_assoc, length-append, map-append}
use Rattle.std.proofs.Math.ListN.{get_or}
use Rattle.std.proofs.Math.Seq.{take-suc}
use Rattle.std.proofs.lemmas.List.Folds.{list_any-append}
use Rattle.slate_gc.specs.Collector.{AllRan, OnceRan, PassesRan, RunBegan, RunRan, Setup, TicksRan, at_once, has_stop}
use Rattle.slate_gc.specs.Ended.{Ended, Entry, entry_of}
use Rattle.slate_gc.specs.Options.{Asked, all_passes, asked, asked_at, asked_by, settings_of}
use Rattle.slate_gc.specs.PassTurns.{PassRan}
use Rattle.slate_gc.specs.Stats.{after_pass, after_passes, one_run_more}
use Rattle.slate_gc.specs.Taking.{Adds}
use Rattle.slate_gc.specs.Ticks.{Source, Takes, Took, is_stop}
use Rattle.slate_gc.specs.declared.options.GarbageCollectorOptions.{GarbageCollectorOptions}
use Rattle.slate_gc.specs.declared.report.RunEnd.TheVariants.{Stopped, Turns}
use Rattle.slate_gc.specs.declared.stats.GcStats.{GcStats}
use Rattle.slate_gc.specs.declared.tick.Tick.{Tick}
use Rattle.slate_gc.specs.declared.tick.Tick.TheVariants.{At, Stop}
use Rattle.slate_ids.specs.declared.gc_message.GcMessage.{GcMessage}
use Rattle.slate_gc_passes.specs.declared.pass_settings.PassSettings.{PassSettings}
use Rattle.slate_store.specs.StoreCalls.{Told}

-- ---- passes

-- passes ran, and then one more
ran_push : (setup : Setup) (tries : ℕ) (passes : List Asked) (a : Asked) (old mid new : Told) (ended : List Ended) (one : Ended)
    → AllRan setup tries passes old mid ended → PassRan setup.ways setup.db a.0 a.1 tries mid new one → AllRan setup tries (passes ++ a ∷ []) old new (ended ++ one ∷ [])
ran_push setup tries [] a old mid new [] one ran pass = (new, subst (λ (t : Told). PassRan setup.ways setup.db a.0 a.1 tries t new one) ran pass, refl)
ran_push setup tries [] a old mid new (e ∷ ended) one ran pass = absurd ran
ran_push setup tries (b ∷ passes) a old mid new [] one ran pass = absurd ran
ran_push setup tries (b ∷ passes) a old mid new (e ∷ ended) one ran pass = (ran.0, ran.1, ran_push setup tries passes a ran.0 mid new ended one ran.2 pass)

after_push : (ended : List Ended) (one : Ended) (stats : GcStats) → after_passes (ended ++ one ∷ []) stats ≡ after_pass one (after_passes ended stats)
after_push [] one stats = refl
after_push (e ∷ ended) one stats = after_push ended one (after_pass e stats)

-- one pass more
passes_push : (setup : Setup) (tries : ℕ) (passes : List Asked) (a : Asked) (old mid new : Told) (before stats after : GcStats) (report : List Entry) (one : Ended)
    → PassesRan setup tries passes old mid before stats report → PassRan setup.ways setup.db a.0 a.1 tries mid new one → after ≡ after_pass one stats
    → PassesRan setup tries (passes ++ a ∷ []) old new before after (report ++ entry_of one ∷ [])
passes_push setup tries passes a old mid new before stats after report one ran pass moved = record {
  ended = ran.ended ++ one ∷ [];
  ran = ran_push setup tries passes a old mid new ran.ended one ran.ran pass;
  entries = ap (λ (es : List Entry). es ++ entry_of one ∷ []) ran.entries ∙ sym (map-append entry_of ran.ended (one ∷ []));
  stats = moved ∙ (ap (after_pass one) ran.stats ∙ sym (after_push ran.ended one before));
}

-- ---- what ticks ask for

asked_append : (options : GarbageCollectorOptions) (ticks more : List Tick) → asked options (ticks ++ more) ≡ asked options ticks ++ asked options more
asked_append options [] more = refl
asked_append options (t ∷ ticks) more =
    ap (λ (rest : List Asked). option_to_list (asked_by options t) ++ rest) (asked_append options ticks more)
    ∙ sym (append_assoc (option_to_list (asked_by options t)) (asked options ticks) (asked options more))

-- a tick that asks for no pass
asked_none : (options : GarbageCollectorOptions) (ticks : List Tick) (t : Tick) → asked_by options t ≡ None → asked options (ticks ++ t ∷ []) ≡ asked options ticks
asked_none options ticks t none =
    asked_append options ticks (t ∷ []) ∙ (ap (λ (o : Option Asked). asked options ticks ++ (option_to_list o ++ [])) none ∙ append-nil (asked options ticks))

-- one that asks for a pass
asked_some : (options : GarbageCollectorOptions) (ticks : List Tick) (t : Tick) (a : Asked) → asked_by options t ≡ Some a → asked options (ticks ++ t ∷ []) ≡ asked options ticks ++ a ∷ []
asked_some options ticks t a some = asked_append options ticks (t ∷ []) ∙ ap (λ (o : Option Asked). asked options ticks ++ (option_to_list o ++ [])) some

-- ---- one tick

-- the tick of a pass that isn't configured
pub adds_none : (setup : Setup) (tries : ℕ) (pass : GcMessage) (moment : ℤ) (told : Told) (stats : GcStats) (report : List Entry) → settings_of setup.options pass ≡ None
    → Adds setup tries (At pass moment ∷ []) told told stats stats report report
adds_none setup tries pass moment told stats report none = λ first before taken ran.
    subst (λ (ps : List Asked). PassesRan setup tries ps first told before stats report) (sym (asked_none setup.options taken (At pass moment) (ap (asked_at moment) none))) ran

-- and of one that is, which ran
pub adds_one : (setup : Setup) (tries : ℕ) (pass : GcMessage) (moment : ℤ) (settings : PassSettings) (old new : Told) (stats after : GcStats) (report longer : List Entry) (one : Ended)
    → settings_of setup.options pass ≡ Some settings → PassRan setup.ways setup.db settings moment tries old new one → after ≡ after_pass one stats → longer ≡ report ++ entry_of one ∷ []
    → Adds setup tries (At pass moment ∷ []) old new stats after report longer
adds_one setup tries pass moment settings old new stats after report longer one some pass_ran moved more = λ first before taken ran.
    let whole = passes_push setup tries (asked setup.options taken) (settings, moment) first old new before stats after report one ran pass_ran moved in
    subst (λ (es : List Entry). PassesRan setup tries (asked setup.options (taken ++ At pass moment ∷ [])) first new before after es) (sym more)
    (subst (λ (ps : List Asked). PassesRan setup tries ps first new before after (report ++ entry_of one ∷ [])) (sym (asked_some setup.options taken (At pass moment) (settings, moment) (ap (asked_at moment) some))) whole)

-- before the first tick
pub adds_nothing : (setup : Setup) (tries : ℕ) (told : Told) (stats : GcStats) (report : List Entry) → Adds setup tries [] told told stats stats report report
adds_nothing setup tries told stats report = λ first before taken ran.
    subst (λ (ts : List Tick). PassesRan setup tries (asked setup.options ts) first told before stats report) (sym (append-nil taken)) ran

-- ticks, and then more
pub adds_join : (setup : Setup) (tries : ℕ) (ticks more : List Tick) (old mid new : Told) (stats between after : GcStats) (report longer whole : List Entry)
    → Adds setup tries ticks old mid stats between report longer → Adds setup tries more mid new between after longer whole → Adds setup tries (ticks ++ more) old new stats after report whole
adds_join setup tries ticks more old mid new stats between after report longer whole some others = λ first before taken ran.
    subst (λ (ts : List Tick). PassesRan setup tries (asked setup.options ts) first new before after whole) (append_assoc taken ticks more) (others first before (taken ++ ticks) (some first before taken ran))

-- of a list of passes one more
next_taken : (passes : List GcMessage) (i : ℕ) (d : GcMessage) → i < length passes → take (i + 1) passes ≡ take i passes ++ get_or passes i d ∷ []
next_taken passes i d less =
    let same : suc i ≡ i + 1 = omega arith in
    subst (λ (k : ℕ). take k passes ≡ take i passes ++ get_or passes i d ∷ []) same (take-suc passes i d less)

pub adds_next : (setup : Setup) (tries : ℕ) (moment : ℤ) (passes : List GcMessage) (i : ℕ) (d : GcMessage) (old mid new : Told) (stats between after : GcStats) (report longer whole : List Entry) → i < length passes
    → Adds setup tries (at_once moment (take i passes)) old mid stats between report longer → Adds setup tries (At (get_or passes i d) moment ∷ []) mid new between after longer whole
    → Adds setup tries (at_once moment (take (i + 1) passes)) old new stats after report whole
adds_next setup tries moment passes i d old mid new stats between after report longer whole less some one =
    let p = get_or passes i d in
    let both = adds_join setup tries (at_once moment (take i passes)) (At p moment ∷ []) old mid new stats between after report longer whole some one in
    let mapped = subst (λ (ts : List Tick). Adds setup tries ts old new stats after report whole) (sym (map-append (λ (pass : GcMessage). At pass moment) (take i passes) (p ∷ []))) both in
    subst (λ (ps : List GcMessage). Adds setup tries (at_once moment ps) old new stats after report whole) (sym (next_taken passes i d less)) mapped

-- no pass ran
pub no_passes : (setup : Setup) (tries : ℕ) (told : Told) (stats : GcStats) → PassesRan setup tries [] told told stats stats []
no_passes setup tries told stats = record { ended = []; ran = refl; entries = refl; stats = refl }

-- all passes ran once, and a run more is counted
pub once_ran : (setup : Setup) (tries : ℕ) (moment : ℤ) (old new : Told) (before moved after : GcStats) (empty report listed : List Entry) → empty ≡ []
    → Adds setup tries (at_once moment all_passes) old new before moved empty report → after ≡ one_run_more moved → listed ≡ report → OnceRan setup tries moment old new before after listed
once_ran setup tries moment old new before moved after empty report listed none adds count same =
    let start = subst (λ (es : List Entry). PassesRan setup tries [] old old before before es) (sym none) (no_passes setup tries old before) in
    let passes = adds old before [] start in
    record {
      moved = moved;
      passes = subst (λ (es : List Entry). PassesRan setup tries (asked setup.options (at_once moment all_passes)) old new before moved es) (sym same) passes;
      count = count;
    }

-- ---- the ticks of a run

took_push : (first mid last : Source) (taken : List Tick) (t : Tick) → Took first mid taken → Takes mid last t → Took first last (taken ++ t ∷ [])
took_push first mid last [] t took takes = (last, subst (λ (s : Source). Takes s last t) took takes, refl)
took_push first mid last (u ∷ taken) t took takes = (took.0, took.1, took_push took.0 mid last taken t took.2 takes)

no_stop_push : (taken : List Tick) (pass : GcMessage) (moment : ℤ) → has_stop taken ≡ false → has_stop (taken ++ At pass moment ∷ []) ≡ false
no_stop_push taken pass moment none = list_any-append is_stop taken (At pass moment ∷ []) ∙ ap (λ (b : Bool). b || false) none

-- so many ticks were taken, none of them a Stop, and their passes ran
pub record SoFar (setup : Setup) (tries : ℕ) (first last : Source) (old new : Told) (before after : GcStats) (report : List Entry) (count : ℕ) : Type 0 where
  pub taken : List Tick
  pub goes_on : has_stop taken ≡ false
  pub counts : length taken ≡ count
  pub ticks : TicksRan setup tries first last taken old new before after report

pub so_far_none : (setup : Setup) (tries : ℕ) (first : Source) (told : Told) (stats : GcStats) → SoFar setup tries first first told told stats stats [] 0
so_far_none setup tries first told stats = record { taken = []; goes_on = refl; counts = refl; ticks = record { took = refl; passes = no_passes setup tries told stats } }

pub so_far_start : (setup : Setup) (tries : ℕ) (first : Source) (told : Told) (stats : GcStats) (entries : List Entry) → entries ≡ [] → SoFar setup tries first first told told stats stats entries 0
so_far_start setup tries first told stats entries none = subst (λ (es : List Entry). SoFar setup tries first first told told stats stats es 0) (sym none) (so_far_none setup tries first told stats)

count_push : (taken : List Tick) (t : Tick) (count : ℕ) → length taken ≡ count → length (taken ++ t ∷ []) ≡ count + 1
count_push taken t count h = length-append taken (t ∷ []) ∙ ap (λ (n : ℕ). n + 1) h

-- a tick more, whose pass ran where it is configured
pub so_far_push : (setup : Setup) (tries : ℕ) (first mid last : Source) (old told new : Told) (before stats after : GcStats) (report longer : List Entry) (count : ℕ) (pass : GcMessage) (moment : ℤ)
    → SoFar setup tries first mid old told before stats report count → Takes mid last (At pass moment) → Adds setup tries (At pass moment ∷ []) told new stats after report longer
    → SoFar setup tries first last old new before after longer (count + 1)
so_far_push setup tries first mid last old told new before stats after report longer count pass moment so_far takes adds = record {
  taken = so_far.taken ++ At pass moment ∷ [];
  goes_on = no_stop_push so_far.taken pass moment so_far.goes_on;
  counts = count_push so_far.taken (At pass moment) count so_far.counts;
  ticks = record {
    took = took_push first mid last so_far.taken (At pass moment) so_far.ticks.took takes;
    passes = adds old before so_far.taken so_far.ticks.passes;
  };
}

-- a Stop, which is one of the answers that are allowed
stops_so : (setup : Setup) (tries turns : ℕ) (first mid last : Source) (old new : Told) (before after : GcStats) (report : List Entry) (count : ℕ)
    → SoFar setup tries first mid old new before after report count → count < turns → Takes mid last Stop → RunRan setup tries turns first last old new before after Stopped report
stops_so setup tries turns first mid last old new before after report count so_far less takes = record {
  taken = so_far.taken ++ Stop ∷ [];
  ends = (so_far.taken, refl, so_far.goes_on, subst (λ (n : ℕ). n < turns) (sym so_far.counts) less);
  ticks = record {
    took = took_push first mid last so_far.taken Stop so_far.ticks.took takes;
    passes = subst (λ (ps : List Asked). PassesRan setup tries ps old new before after report) (sym (asked_none setup.options so_far.taken Stop refl)) so_far.ticks.passes;
  };
}

pub so_far_stops : (setup : Setup) (tries turns : ℕ) (first mid last : Source) (old new : Told) (before after : GcStats) (report listed : List Entry) (count : ℕ)
    → SoFar setup tries first mid old new before after report count → count < turns → Takes mid last Stop → listed ≡ report → RunRan setup tries turns first last old new before after Stopped listed
so_far_stops setup tries turns first mid last old new before after report listed count so_far less takes same =
    subst (λ (es : List Entry). RunRan setup tries turns first last old new before after Stopped es) (sym same) (stops_so setup tries turns first mid last old new before after report count so_far less takes)

-- all turns were used
pub so_far_ends : (setup : Setup) (tries turns : ℕ) (first last : Source) (old new : Told) (before after : GcStats) (report : List Entry)
    → SoFar setup tries first last old new before after report turns → RunRan setup tries turns first last old new before after Turns report
so_far_ends setup tries turns first last old new before after report so_far = record {
  taken = so_far.taken;
  ends = (so_far.goes_on, so_far.counts);
  ticks = so_far.ticks;
}

-- the report has no room for a further entry
pub so_far_began : (setup : Setup) (tries turns : ℕ) (first last : Source) (old new : Told) (before after : GcStats) (report : List Entry) (count : ℕ)
    → SoFar setup tries first last old new before after report count → count < turns → RunBegan setup tries turns first last old new before after
so_far_began setup tries turns first last old new before after report count so_far less = record {
  taken = so_far.taken;
  goes_on = so_far.goes_on;
  within = subst (λ (n : ℕ). n < turns) (sym so_far.counts) less;
  report = report;
  ticks = so_far.ticks;
}
