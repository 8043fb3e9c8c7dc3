-- How the program ends: the text and the status that an input asks for, and what each status says.
use Rattle.std.specs.Prelude.{◌≡◌, ◌⊎◌, ℕ, ◌+◌, ◌≤◌, List, length, take, Option, Some, None, IfSome, Result, Ok, Err}
use Rattle.std.specs.Io.KnownBytes.{Keeps, Appends, Consumes, IsAtEnd}
use Rattle.slate_store.specs.FaultCounts.{Rose}
use Rattle.slate_script.specs.Scripts.{script_of}
use Rattle.slate_script_events.specs.declared.script.Script.{Script}
use Rattle.slate_script_events.specs.declared.script.ScriptPlace.{ScriptPlace}
use Rattle.slate_script_events.specs.declared.cluster_cause.ClusterCause.{ClusterCause}
use Rattle.slate_script_lines.specs.Lines.{bad_script_line, bad_cluster_line}
use Rattle.slate_cluster_protocol.specs.Runs.{Ran, opening, run}
use Rattle.slate_cluster_protocol.specs.Specs.{cause_of_specs}
use Rattle.slate_cluster_protocol.specs.Lawful.{Lawful}
use Rattle.slate_cluster_protocol.specs.Reports.{report_text}
use Rattle.slate_cluster_reports.specs.Commands.{help_text, run_help_text, version_text}
use Rattle.slate_cluster_reports.specs.declared.command.Command.{Command}
use Rattle.slate_cluster_reports.specs.declared.command.Command.TheVariants.{Run, RunHelp, Help, Version}
use Rattle.slate_cluster_reports.specs.declared.status.Status.{Status}
use Rattle.slate_cluster_reports.specs.declared.status.Status.TheVariants as status

-- ---- the text and the status of an input

-- the run of a script
abbrev pub ran_of : Script → Ran
ran_of script = run script.events 0 (opening script.databases)

-- what is written for a script, by what refuses its databases
abbrev pub script_text : Option ClusterCause → Script → List ℕ
script_text None script = report_text (ran_of script)
script_text (Some c) script = bad_cluster_line c

-- what is written for what the bytes stand for
abbrev pub text_for : Result Script ScriptPlace → List ℕ
text_for (Ok script) = script_text (cause_of_specs script.databases) script
text_for (Err p) = bad_script_line p

-- the status of a run with this first bad event
abbrev pub run_status : Option ℕ → Status
run_status None = status.Ok
run_status (Some n) = status.BadEvent n

-- the status that a script asks for, by what refuses its databases
abbrev pub script_status : Option ClusterCause → Script → Status
script_status None script = run_status (ran_of script).bad
script_status (Some c) script = status.BadCluster c

-- the status that the input asks for
abbrev pub status_for : Result Script ScriptPlace → Status
status_for (Ok script) = script_status (cause_of_specs script.databases) script
status_for (Err p) = status.BadScript p

-- the exit code of a status
abbrev pub exit_code_of : Status → ℕ
exit_code_of status.Ok = 0
exit_code_of status.BadWords = 2
exit_code_of status.ReadFault = 3
exit_code_of status.WriteFault = 4
exit_code_of status.TooLong = 5
exit_code_of (status.BadScript p) = 6
exit_code_of (status.BadCluster c) = 7
exit_code_of (status.BadEvent n) = 8
exit_code_of status.OutOfMemory = 9

-- ---- the two ends

-- what a source or a sink tells: the bytes that are left, or that were written, and how often a call failed
pub record End : Type 0 where
  pub bytes : Option (List ℕ)
  pub faults : ℕ

-- an end that tells this
abbrev pub end : Option (List ℕ) → ℕ → End
end bytes faults = record { bytes = bytes; faults = faults }

-- no call failed
abbrev pub GoesWell : End → End → Type 0
GoesWell old new = new.faults ≡ old.faults

-- no byte was taken or given, and no call failed
abbrev pub Stays : End → End → Type 0
Stays old new = Keeps old.bytes new.bytes × GoesWell old new

-- a call failed
abbrev pub Fails : End → End → Type 0
Fails old new = Rose old.faults new.faults

-- the most bytes of an input, 64 MiB
abbrev pub limit : ℕ
limit = 67108864

-- these bytes are the whole input, and no longer than the limit
abbrev pub ReadsWhole : End → End → List ℕ → Type 0
ReadsWhole old new bytes = Consumes old.bytes new.bytes bytes × IsAtEnd new.bytes × (length bytes ≤ limit)

-- one byte above the limit was read, and no more
abbrev pub ReadsTooLong : End → End → Type 0
ReadsTooLong old new = (bytes : List ℕ) × (length bytes ≡ limit + 1) × Consumes old.bytes new.bytes bytes

-- the whole text was written, and no write failed
abbrev pub WritesWhole : List ℕ → End → End → Type 0
WritesWhole text old new = Appends old.bytes new.bytes text × GoesWell old new

-- a write failed, and a front of the text was written
abbrev pub WritesFront : List ℕ → End → End → Type 0
WritesFront text old new = (n : ℕ) × (n ≤ length text) × Appends old.bytes new.bytes (take n text) × Fails old new

-- the text was written, whole or up to a write that failed
abbrev pub Writes : List ℕ → End → End → Type 0
Writes text old new = WritesWhole text old new ⊎ WritesFront text old new

-- ---- how the program ends

-- the status after a write failed: it is told only where all else went well
abbrev pub after_fault : Status → Status
after_fault status.Ok = status.WriteFault
after_fault st = st

-- a text was written, and the program ends with its status, or with what a failed write makes of it
abbrev pub Delivers : List ℕ → Status → End → End → Status → Type 0
Delivers text asked old new st = ((st ≡ asked) × WritesWhole text old new) ⊎ ((st ≡ after_fault asked) × WritesFront text old new)

-- what was written for an input that stands for `read`, by the status
abbrev pub Answers : Result Script ScriptPlace → End → End → Status → Type 0
Answers read old new status.Ok = (status_for read ≡ status.Ok) × WritesWhole (text_for read) old new
Answers read old new status.WriteFault = (status_for read ≡ status.Ok) × WritesFront (text_for read) old new
Answers read old new (status.BadScript p) = (status_for read ≡ status.BadScript p) × Writes (text_for read) old new
Answers read old new (status.BadCluster c) = (status_for read ≡ status.BadCluster c) × Writes (text_for read) old new
Answers read old new (status.BadEvent n) = (status_for read ≡ status.BadEvent n) × Writes (text_for read) old new
Answers read old new status.OutOfMemory = Stays old new
Answers read old new _ = ⊥

-- the run of a script is lawful, where there is one
abbrev pub IsLawfulScript : Option ClusterCause → Script → Type 0
IsLawfulScript None script = Lawful script.databases script.events
IsLawfulScript (Some c) script = Unit {0}

-- the run of what the bytes stand for is lawful, where there is one
abbrev pub IsLawfulRun : Result Script ScriptPlace → Type 0
IsLawfulRun (Ok script) = IsLawfulScript (cause_of_specs script.databases) script
IsLawfulRun (Err p) = Unit {0}

-- the whole input was read, and answered; the run that was reported is lawful
abbrev pub AnswersWhole : End → End → End → End → Status → Type 0
AnswersWhole source source' sink sink' st = GoesWell source source' × (bytes : List ℕ) × ReadsWhole source source' bytes × Answers (script_of bytes) sink sink' st × IsLawfulRun (script_of bytes)

-- unless memory ran out
abbrev pub IfAnswered : Status → Type 0 → Type 0
IfAnswered status.OutOfMemory P = Unit {0}
IfAnswered _ P = P

-- how `run` ends, by the status: what was read, and what was written
abbrev pub Runs : End → End → End → End → Status → Type 0
Runs source source' sink sink' status.ReadFault = Fails source source' × Stays sink sink'
Runs source source' sink sink' status.TooLong = GoesWell source source' × ReadsTooLong source source' × Stays sink sink'
Runs source source' sink sink' status.OutOfMemory = GoesWell source source' × Stays sink sink'
Runs source source' sink sink' status.Ok = AnswersWhole source source' sink sink' status.Ok
Runs source source' sink sink' status.WriteFault = AnswersWhole source source' sink sink' status.WriteFault
Runs source source' sink sink' (status.BadScript p) = AnswersWhole source source' sink sink' (status.BadScript p)
Runs source source' sink sink' (status.BadCluster c) = AnswersWhole source source' sink sink' (status.BadCluster c)
Runs source source' sink sink' (status.BadEvent n) = AnswersWhole source source' sink sink' (status.BadEvent n)
Runs source source' sink sink' status.BadWords = ⊥

-- how the program ends: what it read of the source and wrote to the sink, each as it was and as it is
abbrev pub Outcome : Option Command → End → End → End → End → Status → Type 0
Outcome None source source' sink sink' st = (st ≡ status.BadWords) × Stays source source' × Stays sink sink'
Outcome (Some RunHelp) source source' sink sink' st = Stays source source' × Delivers run_help_text status.Ok sink sink' st
Outcome (Some Help) source source' sink sink' st = Stays source source' × Delivers help_text status.Ok sink sink' st
Outcome (Some Version) source source' sink sink' st = Stays source source' × Delivers version_text status.Ok sink sink' st
Outcome (Some Run) source source' sink sink' st = Runs source source' sink sink' st

-- the status and the text are the input's, unless memory ran out, and nothing was written then
abbrev pub ExactlyEnds : Status → Result Script ScriptPlace → End → End → Type 0
ExactlyEnds st read old new = ((st ≡ status.OutOfMemory) × Stays old new) ⊎ ((st ≡ status_for read) × WritesWhole (text_for read) old new)

-- a `run` of an input that the source tells and that isn't too long ends exactly so, where no call of source or sink failed
abbrev pub ExactlyRuns : Option Command → End → End → End → End → Status → Type 0
ExactlyRuns command source source' sink sink' st =
    IfSome source.bytes (λ input. command ≡ Some Run → length input ≤ limit → (Fails source source' → ⊥) → (Fails sink sink' → ⊥) → ExactlyEnds st (script_of input) sink sink')

-- the input was too long, unless memory ran out before that was seen; nothing was written
abbrev pub EndsTooLong : Status → End → End → Type 0
EndsTooLong st old new = ((st ≡ status.TooLong) ⊎ (st ≡ status.OutOfMemory)) × Stays old new
