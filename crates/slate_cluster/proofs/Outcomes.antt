-- What follows from how the program ends.
use Rattle.std.proofs.Common.{◌≡◌, ◌↔◌, ◌⊎◌, inl, inr, ℕ, ◌≤◌, ◌<◌, List, ◌++◌, length, Option, Some, None, Result, Ok, Err, IfOk, IfSome, refl, sym, ap, ◌∙◌, subst, arith, length-append}
use Rattle.std.proofs.lemmas.List.{append-nil}
use Rattle.slate_store.specs.FaultCounts.{Rose}
use Rattle.slate_script.specs.Scripts.{script_of}
use Rattle.slate_script_events.specs.declared.db_spec.DbSpec.{DbSpec}
use Rattle.slate_script_events.specs.declared.event.Event.{Event}
use Rattle.slate_script_events.specs.declared.script.Script.{Script}
use Rattle.slate_script_events.specs.declared.cluster_cause.ClusterCause.{ClusterCause}
use Rattle.slate_script_events.specs.declared.script.ScriptPlace.{ScriptPlace}
use Rattle.slate_cluster_protocol.specs.Lawful.{IsAccepted, Lawful}
use Rattle.slate_cluster_protocol.specs.Specs.{cause_of_specs}
use Rattle.slate_cluster_reports.specs.Commands.{help_text, run_help_text, version_text}
use Rattle.slate_cluster_reports.specs.Endings.{End, GoesWell, Stays, Fails, ReadsWhole, ReadsTooLong, WritesWhole, WritesFront, Writes, after_fault, Delivers, Answers, IfAnswered, IsLawfulRun, IsLawfulScript, Runs, Outcome, ExactlyEnds, EndsTooLong, text_for, status_for, script_status, run_status, ran_of, limit}
use Rattle.slate_cluster_reports.specs.declared.command.Command.{Command}
use Rattle.slate_cluster_reports.specs.declared.command.Command.TheVariants.{Run, RunHelp, Help, Version}
use Rattle.slate_cluster_reports.specs.declared.status.Status.{Status}
use Rattle.slate_cluster_reports.specs.declared.status.Status.TheVariants as status

-- ---- what is delivered is the answer

-- a status that an input asks for
abbrev IsAsked : Status → Type 0
IsAsked status.Ok = Unit {0}
IsAsked (status.BadScript p) = Unit {0}
IsAsked (status.BadCluster c) = Unit {0}
IsAsked (status.BadEvent n) = Unit {0}
IsAsked _ = ⊥

run-asks : (bad : Option ℕ) → IsAsked (run_status bad)
run-asks None = tt
run-asks (Some n) = tt

script-asks : (o : Option ClusterCause) (script : Script) → IsAsked (script_status o script)
script-asks None script = run-asks (ran_of script).bad
script-asks (Some c) script = tt

input-asks : (read : Result Script ScriptPlace) → IsAsked (status_for read)
input-asks (Ok script) = script-asks (cause_of_specs script.databases) script
input-asks (Err p) = tt

whole-answers : (read : Result Script ScriptPlace) (old new : End) (asked : Status) → IsAsked asked → status_for read ≡ asked → WritesWhole (text_for read) old new → Answers read old new asked
whole-answers read old new status.Ok is e h = (e, h)
whole-answers read old new (status.BadScript p) is e h = (e, inl h)
whole-answers read old new (status.BadCluster c) is e h = (e, inl h)
whole-answers read old new (status.BadEvent n) is e h = (e, inl h)
whole-answers read old new _ is e h = absurd is

front-answers : (read : Result Script ScriptPlace) (old new : End) (asked : Status) → IsAsked asked → status_for read ≡ asked → WritesFront (text_for read) old new → Answers read old new (after_fault asked)
front-answers read old new status.Ok is e h = (e, h)
front-answers read old new (status.BadScript p) is e h = (e, inr h)
front-answers read old new (status.BadCluster c) is e h = (e, inr h)
front-answers read old new (status.BadEvent n) is e h = (e, inr h)
front-answers read old new _ is e h = absurd is

pub answers : (read : Result Script ScriptPlace) (old new : End) (st : Status) → Delivers (text_for read) (status_for read) old new st → Answers read old new st
answers read old new st (inl h) = subst (Answers read old new) (sym h.0) (whole-answers read old new (status_for read) (input-asks read) refl h.1)
answers read old new st (inr h) = subst (Answers read old new) (sym h.0) (front-answers read old new (status_for read) (input-asks read) refl h.1)

-- what holds, holds unless memory ran out
pub if_answered : (st : Status) (P : Type 0) → P → IfAnswered st P
if_answered status.OutOfMemory P h = tt
if_answered _ P h = h

-- the run of a script whose databases are accepted is lawful, where every such run is
pub script_is_lawful : {X E : Type 0} (law : (specs : List DbSpec) (events : List Event) → IsAccepted specs → Lawful specs events) (script : Script) (r : Result X E) → IsAccepted script.databases → IfOk r (λ _. IsLawfulRun (Ok script))
script_is_lawful law script (Ok x) accepted = subst (λ (o : Option ClusterCause). IsLawfulScript o script) (sym accepted.accepted) (law script.databases script.events accepted)
script_is_lawful law script (Err e) accepted = tt

-- ---- the input

-- where the source tells its bytes, what was read to the end is all of them
input_is : (input bytes : List ℕ) (left : Option (List ℕ)) (f g : ℕ) → ReadsWhole (record { bytes = Some input; faults = f }) (record { bytes = left; faults = g }) bytes → input ≡ bytes
input_is input bytes None f g h = absurd h.0
input_is input bytes (Some rest) f g h = h.0 ∙ ap (λ z. bytes ++ z) h.1 ∙ append-nil bytes

too-long : (input : List ℕ) (left : Option (List ℕ)) (f g : ℕ) → ReadsTooLong (record { bytes = Some input; faults = f }) (record { bytes = left; faults = g }) → limit < length input
too-long input None f g h = absurd h.2
too-long input (Some rest) f g h = omega (arith, h.1, ap length h.2 ∙ length-append h.0 rest)

-- ---- the exact end

front-fails : (text : List ℕ) (old new : End) → WritesFront text old new → Fails old new
front-fails text old new h = h.3

ends-whole : (read : Result Script ScriptPlace) (old new : End) (asked : Status) → status_for read ≡ asked → (Fails old new → ⊥) → Writes (text_for read) old new → ExactlyEnds asked read old new
ends-whole read old new asked e quiet (inl h) = inr (sym e, h)
ends-whole read old new asked e quiet (inr h) = absurd (quiet h.3)

along : (st : Status) (old new : End) (input bytes : List ℕ) → input ≡ bytes → ExactlyEnds st (script_of bytes) old new → ExactlyEnds st (script_of input) old new
along st old new input bytes e h = let P : List ℕ → Type 0 = λ z. ExactlyEnds st (script_of z) old new in subst P (sym e) h

abbrev told : List ℕ → ℕ → End
told input faults = record { bytes = Some input; faults = faults }

run-exact : (input : List ℕ) (f : ℕ) (source' sink sink' : End) (st : Status) → Runs (told input f) source' sink sink' st → length input ≤ limit → (Fails (told input f) source' → ⊥) → (Fails sink sink' → ⊥) → ExactlyEnds st (script_of input) sink sink'
run-exact input f source' sink sink' status.Ok h short calm quiet =
    along status.Ok sink sink' input h.1 (input_is input h.1 source'.bytes f source'.faults h.2) (ends-whole (script_of h.1) sink sink' status.Ok h.3.0 quiet (inl h.3.1))
run-exact input f source' sink sink' status.WriteFault h short calm quiet = absurd (quiet (front-fails (text_for (script_of h.1)) sink sink' h.3.1))
run-exact input f source' sink sink' (status.BadScript p) h short calm quiet =
    along (status.BadScript p) sink sink' input h.1 (input_is input h.1 source'.bytes f source'.faults h.2) (ends-whole (script_of h.1) sink sink' (status.BadScript p) h.3.0 quiet h.3.1)
run-exact input f source' sink sink' (status.BadCluster c) h short calm quiet =
    along (status.BadCluster c) sink sink' input h.1 (input_is input h.1 source'.bytes f source'.faults h.2) (ends-whole (script_of h.1) sink sink' (status.BadCluster c) h.3.0 quiet h.3.1)
run-exact input f source' sink sink' (status.BadEvent n) h short calm quiet =
    along (status.BadEvent n) sink sink' input h.1 (input_is input h.1 source'.bytes f source'.faults h.2) (ends-whole (script_of h.1) sink sink' (status.BadEvent n) h.3.0 quiet h.3.1)
run-exact input f source' sink sink' status.BadWords h short calm quiet = absurd h
run-exact input f source' sink sink' status.ReadFault h short calm quiet = absurd (calm h.0)
run-exact input f source' sink sink' status.TooLong h short calm quiet = let long = too-long input source'.bytes f source'.faults h.1 in absurd (omega (arith, long, short))
run-exact input f source' sink sink' status.OutOfMemory h short calm quiet = inl (refl, h.1)

-- an input that was read whole is not too long
whole-short : (input bytes : List ℕ) (f : ℕ) (source' : End) → ReadsWhole (told input f) source' bytes → length input ≤ limit
whole-short input bytes f source' h = let same = ap length (input_is input bytes source'.bytes f source'.faults h) in omega (arith, same, h.2)

long-absurd : {A : Type 0} (input bytes : List ℕ) (f : ℕ) (source' : End) → limit < length input → ReadsWhole (told input f) source' bytes → A
long-absurd input bytes f source' long h = let short = whole-short input bytes f source' h in absurd (omega (arith, long, short))

run-too_long : (input : List ℕ) (f : ℕ) (source' sink sink' : End) (st : Status) → Runs (told input f) source' sink sink' st → limit < length input → (Fails (told input f) source' → ⊥) → EndsTooLong st sink sink'
run-too_long input f source' sink sink' status.BadWords h long calm = absurd h
run-too_long input f source' sink sink' status.ReadFault h long calm = absurd (calm h.0)
run-too_long input f source' sink sink' status.TooLong h long calm = (inl refl, h.2)
run-too_long input f source' sink sink' status.OutOfMemory h long calm = (inr refl, h.1)
run-too_long input f source' sink sink' _ h long calm = long-absurd input h.1 f source' long h.2

runs-of : (command : Option Command) (source source' sink sink' : End) (st : Status) → Outcome command source source' sink sink' st → command ≡ Some Run → Runs source source' sink sink' st
runs-of command source source' sink sink' st h e = let P : Option Command → Type 0 = λ c. Outcome c source source' sink sink' st in subst P e h

pub exact : (command : Option Command) (left : Option (List ℕ)) (f : ℕ) (source' sink sink' : End) (st : Status) → Outcome command (record { bytes = left; faults = f }) source' sink sink' st
    → IfSome left (λ input. command ≡ Some Run → length input ≤ limit → (Rose f source'.faults → ⊥) → (Rose sink.faults sink'.faults → ⊥) → ExactlyEnds st (script_of input) sink sink')
exact command None f source' sink sink' st h = tt
exact command (Some input) f source' sink sink' st h = λ e short calm quiet. run-exact input f source' sink sink' st (runs-of command (told input f) source' sink sink' st h e) short calm quiet

pub ends_too_long : (command : Option Command) (left : Option (List ℕ)) (f : ℕ) (source' sink sink' : End) (st : Status) → Outcome command (record { bytes = left; faults = f }) source' sink sink' st
    → IfSome left (λ input. command ≡ Some Run → limit < length input → (Rose f source'.faults → ⊥) → EndsTooLong st sink sink')
ends_too_long command None f source' sink sink' st h = tt
ends_too_long command (Some input) f source' sink sink' st h = λ e long calm. run-too_long input f source' sink sink' st (runs-of command (told input f) source' sink sink' st h e) long calm

-- ---- what a status says alone

-- a text that is delivered ends with Ok or with a fault of the sink
printed : (text : List ℕ) (old new : End) (st : Status) → Delivers text status.Ok old new st → ((st ≡ status.Ok) × GoesWell old new) ⊎ ((st ≡ status.WriteFault) × Fails old new)
printed text old new st (inl h) = inl (h.0, h.1.1)
printed text old new st (inr h) = inr (h.0, h.1.3)

-- the facts that an end gives of its status
pub record Tells (command : Option Command) (source source' sink sink' : End) (st : Status) : Type 0 where
  pub words : (st ≡ status.BadWords) ↔ (command ≡ None)
  pub read_fault : st ≡ status.ReadFault → Fails source source'
  pub no_read_fault : (st ≡ status.ReadFault → ⊥) → GoesWell source source'
  pub write_fault : st ≡ status.WriteFault → Fails sink sink'
  pub no_write_fault : st ≡ status.Ok → GoesWell sink sink'

print-tells : (command : Command) (source source' sink sink' : End) (st : Status) → Stays source source' → ((st ≡ status.Ok) × GoesWell sink sink') ⊎ ((st ≡ status.WriteFault) × Fails sink sink') → Tells (Some command) source source' sink sink' st
print-tells command source source' sink sink' st stays (inl h) = record { words = (λ e. cc, λ e. cc); read_fault = λ e. cc; no_read_fault = λ e. stays.1; write_fault = λ e. cc; no_write_fault = λ e. h.1 }
print-tells command source source' sink sink' st stays (inr h) = record { words = (λ e. cc, λ e. cc); read_fault = λ e. cc; no_read_fault = λ e. stays.1; write_fault = λ e. h.1; no_write_fault = λ e. cc }

run-tells : (source source' sink sink' : End) (st : Status) → Runs source source' sink sink' st → Tells (Some Run) source source' sink sink' st
run-tells source source' sink sink' status.Ok h = record { words = (λ e. cc, λ e. cc); read_fault = λ e. cc; no_read_fault = λ e. h.0; write_fault = λ e. cc; no_write_fault = λ e. h.3.1.1 }
run-tells source source' sink sink' status.WriteFault h = record { words = (λ e. cc, λ e. cc); read_fault = λ e. cc; no_read_fault = λ e. h.0; write_fault = λ e. h.3.1.3; no_write_fault = λ e. cc }
run-tells source source' sink sink' status.BadWords h = absurd h
run-tells source source' sink sink' status.ReadFault h = record { words = (λ e. cc, λ e. cc); read_fault = λ e. h.0; no_read_fault = λ e. absurd (e refl); write_fault = λ e. cc; no_write_fault = λ e. cc }
run-tells source source' sink sink' _ h = record { words = (λ e. cc, λ e. cc); read_fault = λ e. cc; no_read_fault = λ e. h.0; write_fault = λ e. cc; no_write_fault = λ e. cc }

pub tells : (command : Option Command) (source source' sink sink' : End) (st : Status) → Outcome command source source' sink sink' st → Tells command source source' sink sink' st
tells None source source' sink sink' st h = record { words = (λ e. refl, λ e. h.0); read_fault = λ e. cc; no_read_fault = λ e. h.1.1; write_fault = λ e. cc; no_write_fault = λ e. cc }
tells (Some RunHelp) source source' sink sink' st h = print-tells RunHelp source source' sink sink' st h.0 (printed run_help_text sink sink' st h.1)
tells (Some Help) source source' sink sink' st h = print-tells Help source source' sink sink' st h.0 (printed help_text sink sink' st h.1)
tells (Some Version) source source' sink sink' st h = print-tells Version source source' sink sink' st h.0 (printed version_text sink sink' st h.1)
tells (Some Run) source source' sink sink' st h = run-tells source source' sink sink' st h
