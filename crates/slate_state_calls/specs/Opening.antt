-- How a compactor opens a database: it raises the epoch of the manifest, gives it to the record, and resets that.
use Rattle.std.specs.Prelude.{◌≡◌, ◌⊎◌, ◌<◌, ◌+◌, ℕ, ℤ, Bool, true, false, List, Option, Some, None, Result, Ok, Err}
use Rattle.slate_txn_changes.specs.LogWorks.{WorkGoes, work_asks, work_due, work_goes, work_rank, work_start, work_starts}
use Rattle.slate_state_compactor.specs.Local.{opened}
use Rattle.slate_state_calls.specs.Commits.{ManifestChanging, RecordChanging, first_of, first_put, manifest_in, manifest_put, put_of, record_in, record_put}
use Rattle.slate_state_calls.specs.Compactors.{opened_with}
use Rattle.slate_state_calls.specs.declared.compactor.Compactor.{Compactor}
use Rattle.slate_state_calls.specs.declared.open_phase.OpenNext.{OpenNext}
use Rattle.slate_state_calls.specs.declared.open_phase.OpenNext.TheVariants.{On, Opened}
use Rattle.slate_state_calls.specs.declared.open_phase.OpenPhase.{OpenPhase}
use Rattle.slate_state_calls.specs.declared.open_phase.OpenPhase.TheVariants.{Raising, OnRecord, Over}
use Rattle.slate_state_calls.specs.declared.open_phase.OpenStep.{OpenStep}
use Rattle.slate_state_calls.specs.declared.open_phase.OpenStep.TheVariants.{Give, Begin, GiveFirst, Reset}
use Rattle.slate_ids.specs.Answers.{is_memory}
use Rattle.slate_ids.specs.declared.error.SlateDBError.{SlateDBError}
use Rattle.slate_ids.specs.declared.error.SlateDBError.TheVariants.{LatestTransactionalObjectVersionMissing, StoreFault}
use Rattle.slate_txn_log.specs.ReadPhase.{read_asks}
use Rattle.slate_txn_log.specs.declared.log_kind.LogKind.TheVariants.{Compactions as RecordLog, Manifest as ManifestLog}
use Rattle.slate_txn_log.specs.declared.read_phase.ReadPhase.TheVariants.{Listing}
use Rattle.slate_layout_manifests.specs.Decoding.{decoded_manifest}
use Rattle.slate_model.specs.declared.manifest.Manifest.{Manifest}
use Rattle.slate_layout_records.specs.RecordBytes.{decoded_record}
use Rattle.slate_state_record_updates.specs.declared.record_change.RecordChange.TheVariants as changes
use Rattle.slate_model_records.specs.Records.{Record}
use Rattle.slate_store.specs.Machines.{Goes, Stay, End}
use Rattle.slate_store.specs.declared.store_answer.StoreAnswer.{StoreAnswer}
use Rattle.slate_store.specs.declared.store_call.StoreCall.{StoreCall}
use Rattle.slate_state_updates.specs.declared.manifest_change.ManifestChange.TheVariants.{RaiseCompactor}

-- how an open goes on
abbrev pub OpenGoes : Type 0
OpenGoes = Goes OpenPhase Compactor

-- an open begins
abbrev pub open_start : OpenPhase
open_start = Raising (record { change = Some RaiseCompactor; work = work_start })

-- ---- what follows each phrase

-- a change of the record, under way for this step
abbrev pub puts : OpenStep → ℕ × Manifest → Result RecordChanging SlateDBError → OpenGoes
puts step m (Ok p) = Stay (OnRecord step m p)
puts step m (Err e) = End Over (Err e)

-- after a step with a version of the record: the first one gets the epoch, one that has it is reset, and with the last one all is held
abbrev pub with_version : OpenStep → ℕ × Manifest → ℤ → ℕ × Record → OpenGoes
with_version Give m now r = puts Reset m (put_of (changes.Reset m.1.compactor_epoch) now r)
with_version Begin m now r = puts GiveFirst m (put_of (changes.GiveEpoch m.1.compactor_epoch) now r)
with_version GiveFirst m now r = puts Reset m (put_of (changes.Reset m.1.compactor_epoch) now r)
with_version Reset m now r = End Over (Ok (opened_with m r))

-- where the log has no record to give the epoch to, the first one is made
abbrev pub without_version : OpenStep → ℕ × Manifest → ℤ → OpenGoes
without_version Give m now = puts Begin m (first_of now first_put)
without_version _ m now = End Over (Err LatestTransactionalObjectVersionMissing)

abbrev pub after_record : OpenStep → ℕ × Manifest → ℤ → Option (ℕ × Record) → OpenGoes
after_record step m now None = without_version step m now
after_record step m now (Some r) = with_version step m now r

-- the record is read, to get the epoch that was raised
abbrev pub raised : Option (ℕ × Manifest) → OpenGoes
raised None = End Over (Err LatestTransactionalObjectVersionMissing)
raised (Some m) = Stay (OnRecord Give m (record { change = Some (changes.GiveEpoch m.1.compactor_epoch); work = work_start }))

-- ---- each phrase

abbrev pub raising : ManifestChanging → WorkGoes Manifest → OpenGoes
raising p (Stay work) = Stay (Raising (record p { work = work }))
raising p (End work (Ok end)) = raised (manifest_in end)
raising p (End work (Err e)) = End Over (Err e)

abbrev pub on_record : OpenStep → ℕ × Manifest → ℤ → RecordChanging → WorkGoes Record → OpenGoes
on_record step m now p (Stay work) = Stay (OnRecord step m (record p { work = work }))
on_record step m now p (End work (Ok end)) = after_record step m now (record_in end)
on_record step m now p (End work (Err e)) = End Over (Err e)

-- ---- all phases

-- the one call of each phase
abbrev pub open_asks : List ℕ → OpenPhase → StoreCall
open_asks db (Raising p) = work_asks db ManifestLog p.work
open_asks db (OnRecord step m p) = work_asks db RecordLog p.work
open_asks db Over = read_asks {T = Manifest} db ManifestLog Listing

-- how it goes on from the answer, at a moment; an answer to another call ends as a fault does
abbrev pub open_goes : ℤ → OpenPhase → StoreAnswer → OpenGoes
open_goes now (Raising p) answer = raising p (work_goes ManifestLog decoded_manifest (manifest_put p.change) now p.work answer)
open_goes now (OnRecord step m p) answer = on_record step m now p (work_goes RecordLog decoded_record (record_put p.change) now p.work answer)
open_goes now Over answer = End Over (Err StoreFault)

-- whether a call is due
abbrev pub open_due : OpenPhase → Bool
open_due (Raising p) = work_due p.work
open_due (OnRecord step m p) = work_due p.work
open_due Over = false

-- ---- its turns

-- whether its calls are on the log of manifests
abbrev pub raises : OpenPhase → Bool
raises (Raising p) = true
raises _ = false

-- whether the versions of that log are to be listed, or those of the record
abbrev pub open_lists : Bool → OpenPhase → Bool
open_lists true (Raising p) = work_starts p.work
open_lists false (OnRecord step m p) = work_starts p.work
open_lists _ _ = false

-- whether a step led back to a list of the same log
abbrev pub open_lists_again : OpenPhase → OpenPhase → Bool
open_lists_again old new = open_lists (raises old) new

-- the steps of a turn that are left after a phrase, with one more
abbrev pub left_after : OpenStep → ℕ
left_after Give = 9
left_after Begin = 6
left_after GiveFirst = 3
left_after Reset = 0

-- the steps of a turn that are left
abbrev pub open_rank : OpenPhase → ℕ
open_rank (Raising p) = work_rank p.work + 15
open_rank (OnRecord step m p) = work_rank p.work + left_after step
open_rank Over = 0

-- a step uses a turn, or fewer steps are left
abbrev pub OpenFalls : OpenPhase → OpenPhase → Type 0
OpenFalls old new = (open_lists_again old new ≡ true) ⊎ (open_rank new < open_rank old)

-- what a part of a step answers of what follows a phrase: what is next, with a call due and so few steps left, or what is held at the end, or why that is refused
abbrev pub OpenLeads : OpenGoes → ℕ × Manifest → ℕ → Result OpenNext SlateDBError → Type 0
OpenLeads goes m left (Ok (On step p)) = (goes ≡ Stay (OnRecord step m p)) × (work_due p.work ≡ true) × (work_rank p.work + left_after step < left)
OpenLeads goes m left (Ok (Opened n r local)) = (goes ≡ End Over (Ok (opened_with m (n, r)))) × (local ≡ opened m.1.core r)
OpenLeads goes m left (Err e) = (goes ≡ End Over (Err e)) ⊎ (is_memory e ≡ true)
