-- What a party holds while it is in a call.
use Rattle.std.specs.Prelude.{◌≡◌, ℕ, ◌+◌, ◌≤◌, List, [], ◌∷◌, Bool, true, false, Option, Some, None, Ok}
use Rattle.slate_state_calls.specs.Commits.{merge_of, statuses_of}
use Rattle.slate_state_calls.specs.declared.compactor.Compactor.{Compactor}
use Rattle.slate_state_calls.specs.declared.open_phase.OpenPhase.{OpenPhase}
use Rattle.slate_state_calls.specs.declared.open_phase.OpenPhase.TheVariants as opening
use Rattle.slate_state_calls.specs.declared.open_phase.OpenStep.{OpenStep}
use Rattle.slate_state_calls.specs.declared.open_phase.OpenStep.TheVariants as opens
use Rattle.slate_state_calls.specs.declared.state_phase.ManifestStep.{ManifestStep}
use Rattle.slate_state_calls.specs.declared.state_phase.ManifestStep.TheVariants.{Follow, Keep, Merge}
use Rattle.slate_state_calls.specs.declared.state_phase.RecordStep.{RecordStep}
use Rattle.slate_state_calls.specs.declared.state_phase.RecordStep.TheVariants as steps
use Rattle.slate_state_calls.specs.declared.state_phase.StatePhase.{StatePhase}
use Rattle.slate_state_calls.specs.declared.state_phase.StatePhase.TheVariants as compacting
use Rattle.slate_state_calls.specs.declared.state_start.TreesWrite.{TreesWrite}
use Rattle.slate_script_events.specs.declared.call.Call.{Call}
use Rattle.slate_script_events.specs.declared.call.Call.TheVariants.{Upload as UploadCall, Schedule, WriteManifest, WriteState, Pass as PassCall}
use Rattle.slate_script_events.specs.declared.reply.Reply.TheVariants.{Refused}
use Rattle.slate_ids.specs.declared.error.SlateDBError.{SlateDBError}
use Rattle.slate_txn_log.specs.LogPaths.{version_path}
use Rattle.slate_txn_log.specs.declared.log_kind.LogKind.{LogKind}
use Rattle.slate_txn_log.specs.declared.log_kind.LogKind.TheVariants as logs
use Rattle.slate_ids.specs.declared.gc_message.GcMessage.{GcMessage}
use Rattle.slate_ids.specs.declared.gc_message.GcMessage.TheVariants as of
use Rattle.slate_gc_passes.specs.Rows.{log_of_pass, log_or_manifests}
use Rattle.slate_gc_passes.specs.declared.pass_phase.PassPhase.{PassPhase}
use Rattle.slate_gc_passes.specs.declared.pass_phase.PassPhase.TheVariants as passing
use Rattle.slate_cluster_protocol.specs.Calls.{change_of, new_info, record_change_of, Next, Go, Finish}
use Rattle.slate_cluster_protocol.specs.Chains.{Link, Log, link_at}
use Rattle.slate_cluster_protocol.specs.Logs.{Author, Held, Chain, Chains, Phrase, log_of, phrase_of}
use Rattle.slate_cluster_protocol.specs.declared.party.Facts.{Facts}
use Rattle.slate_cluster_protocol.specs.declared.party.Party.{Party}
use Rattle.slate_cluster_protocol.specs.declared.party.State.{State}
use Rattle.slate_cluster_protocol.specs.declared.party.State.TheVariants.{Busy}
use Rattle.slate_cluster_protocol.specs.declared.uploads.Upload.{Upload}
use Rattle.slate_cluster_protocol.specs.declared.work.Work.{Work}
use Rattle.slate_cluster_protocol.specs.declared.work.Work.TheVariants.{Manifests, Records, PutTable, Pass, Opening, Compacting}
use Rattle.slate_state_record_updates.specs.RecordEpochs.{record_epoch}
use Rattle.slate_state_record_updates.specs.declared.record_change.RecordChange.{RecordChange}
use Rattle.slate_state_record_updates.specs.declared.record_change.RecordChange.TheVariants as changes
use Rattle.slate_store.specs.declared.object.ObjectMetadata.{ObjectMetadata}
use Rattle.slate_state_updates.specs.Writers.{epoch_of}
use Rattle.slate_state_updates.specs.declared.epochs.ManifestEpochs.TheVariants as epochs
use Rattle.slate_state_updates.specs.declared.manifest_change.ManifestChange.{ManifestChange}
use Rattle.slate_state_updates.specs.declared.manifest_change.ManifestChange.TheVariants.{KeepTrees, RaiseCompactor}

-- a value that is the committed one of its number
pub record IsVersion {V A : Type 0} (c : List (Link V A)) (n : ℕ) (v : V) : Type 0 where
  pub link : Link V A
  pub at : link_at n c ≡ Some link
  pub value : link.value ≡ v

-- what an author put is the committed version of its number: the link has its bytes, what is read back of them, and this author
pub record IsPutBy {V A : Type 0} (log : Log V A) (c : List (Link V A)) (author : A) (n : ℕ) (v : V) : Type 0 where
  pub link : Link V A
  pub at : link_at n c ≡ Some link
  pub bytes : log.encoded v ≡ Ok link.bytes
  pub value : link.value ≡ log.normal v
  pub by : link.by ≡ Some author

-- what an author commits at a number is what it makes of the committed version before; of none, where the number is the first
pub data IsMadeOf (k : LogKind) (c : Chain k) (author : Author) (n : ℕ) (v : Held k) : Type 0 where
  OfVersion : (old : Link (Held k) Author) → link_at old.number c ≡ Some old → n ≡ old.number + 1 → (log_of k).makes author old.number old.value ≡ Ok (Some v) → IsMadeOf k c author n v
  OfNone : n ≡ 1 → (log_of k).first author ≡ Ok (Some v) → IsMadeOf k c author n v

-- what a pass is about to delete once its reads have ended: its picks, and what is left of them
abbrev pub picks_in : PassPhase → List ObjectMetadata
picks_in (passing.Advancing advance left counts) = left
picks_in (passing.Deleting left counts) = left
picks_in _ = []

-- what is due: what is left of its picks
abbrev pub due_in : PassPhase → List ObjectMetadata
due_in (passing.Deleting left counts) = left
due_in _ = []

-- each of the objects has it
abbrev pub Each : (ObjectMetadata → Type 0) → List ObjectMetadata → Type 0
Each P [] = Unit {0}
Each P (m ∷ ms) = P m × Each P ms

-- the log of a pass: the one whose versions it deletes, where it does
abbrev pub pass_log : GcMessage → LogKind
pass_log pass = log_or_manifests (log_of_pass pass)

-- a pass deletes versions of a log
abbrev pub IsOfLog : GcMessage → Type 0
IsOfLog pass = log_of_pass pass ≡ Some (pass_log pass)

-- whether a collector of a cluster may make a pass: any but the detaching one
abbrev pub collects_here : GcMessage → Bool
collects_here of.Detach = false
collects_here _ = true

-- an object is the version of a log of a database at a number that has it
pub record IsVersionThat (k : LogKind) (db : List ℕ) (P : ℕ → Type 0) (m : ObjectMetadata) : Type 0 where
  pub number : ℕ
  pub is : m.location ≡ version_path k db number
  pub has : P number

-- a call that ends with a refusal
pub record IsRefused (next : Next) : Type 0 where
  pub error : SlateDBError
  pub is : next ≡ Finish (Refused error)

-- a call that goes on in a phrase
pub record IsIn (phrase : Phrase) (next : Next) : Type 0 where
  pub work : Work
  pub is : next ≡ Go work
  pub same : phrase_of work ≡ phrase

-- a number is at most the epoch of the greatest version of a chain, which has one
abbrev pub AtMostTop : {V A : Type 0} → (V → ℕ) → ℕ → List (Link V A) → Type 0
AtMostTop epoch e [] = ⊥
AtMostTop epoch e (l ∷ c) = e ≤ epoch l.value

-- the epoch that an open of a compactor has raised, once it has; and once it gave that to the record, too
abbrev pub raised_at : OpenPhase → Option ℕ
raised_at (opening.OnRecord step m p) = Some m.1.compactor_epoch
raised_at _ = None

abbrev pub given_at : OpenPhase → Option ℕ
given_at (opening.OnRecord opens.Reset m p) = Some m.1.compactor_epoch
given_at _ = None

-- of what an open that is under way says
abbrev pub open_of : (OpenPhase → Option ℕ) → Work → Option ℕ
open_of says (Opening db phase) = says phase
open_of says _ = None

abbrev pub open_in : (OpenPhase → Option ℕ) → State → Option ℕ
open_in says (Busy task) = open_of says task.work
open_in says _ = None

-- the epochs that a party holds are committed ones of its database
pub record EpochsStand (chains : Chains) (p : Party) : Type 0 where
  -- what an open of a compactor has raised is at most the epoch of the greatest manifest
  pub raised : (e : ℕ) → open_in raised_at p.state ≡ Some e → AtMostTop (epoch_of epochs.Compactor) e (chains logs.Manifest p.facts.db)
  -- and once it gave that to the record, at most the epoch of the greatest record, before its reset ended
  pub given : (e : ℕ) → open_in given_at p.state ≡ Some e → AtMostTop record_epoch e (chains logs.Compactions p.facts.db)
  -- the epoch of a compactor that is open is at most those of the greatest manifest and of the greatest record
  pub opened : (c : Compactor) → p.facts.compactor ≡ Some c → AtMostTop (epoch_of epochs.Compactor) c.epoch (chains logs.Manifest p.facts.db)
      × AtMostTop record_epoch c.epoch (chains logs.Compactions p.facts.db)

-- ---- what a party is about to put, by what is known of it

-- the write of its trees that a call is
abbrev pub write_of : Call → Option TreesWrite
write_of (WriteManifest checkpoint) = Some (record { checkpoint = checkpoint; whole = false })
write_of (WriteState checkpoint) = Some (record { checkpoint = checkpoint; whole = true })
write_of _ = None

-- the schedule that a call is
abbrev pub schedule_of : Call → ℕ → Option RecordChange
schedule_of (Schedule id) epoch = Some (changes.Schedule (Some epoch) id)
schedule_of _ epoch = None

-- what a call of a compactor on its state changes of the record in a step, and of the manifest
abbrev pub record_change_at : Call → RecordStep → Compactor → Option RecordChange
record_change_at call steps.Follow c = None
record_change_at call steps.Schedule c = schedule_of call c.epoch
record_change_at call (steps.Fetch write) c = None
record_change_at call (steps.Record write) c = Some (statuses_of c.epoch c.local)

abbrev pub change_at : ManifestStep → Compactor → Option ManifestChange
change_at Follow c = None
change_at (Keep write) c = Some (KeepTrees (Some c.epoch) write.checkpoint)
change_at (Merge write) c = Some (merge_of c.epoch c.local)

-- its step writes what the call says
abbrev pub IsRecordStep : Call → RecordStep → Type 0
IsRecordStep call (steps.Fetch write) = write_of call ≡ write
IsRecordStep call (steps.Record write) = write_of call ≡ write
IsRecordStep call _ = Unit {0}

abbrev pub IsManifestStep : Call → ManifestStep → Type 0
IsManifestStep call Follow = Unit {0}
IsManifestStep call (Keep write) = write_of call ≡ Some write
IsManifestStep call (Merge write) = write_of call ≡ Some write

-- what an open changes of the record in a step
abbrev pub open_change : OpenStep → ℕ → Option RecordChange
open_change opens.Give epoch = Some (changes.GiveEpoch epoch)
open_change opens.Begin epoch = None
open_change opens.GiveFirst epoch = Some (changes.GiveEpoch epoch)
open_change opens.Reset epoch = Some (changes.Reset epoch)

abbrev pub FitsOpen : OpenPhase → Type 0
FitsOpen (opening.Raising p) = p.change ≡ Some RaiseCompactor
FitsOpen (opening.OnRecord step m p) = p.change ≡ open_change step m.1.compactor_epoch
FitsOpen opening.Over = ⊥

abbrev pub FitsState : Call → StatePhase → Option Compactor → Type 0
FitsState call (compacting.OnRecord step p) (Some c) = IsRecordStep call step × (p.change ≡ record_change_at call step c)
FitsState call (compacting.OnManifest step p) (Some c) = IsManifestStep call step × (p.change ≡ change_at step c)
FitsState call _ _ = ⊥

-- an upload of its call
pub record IsUpload (call : Call) (upload : Upload) : Type 0 where
  pub first : List ℕ
  pub last : List ℕ
  pub is : call ≡ UploadCall upload.table first last
  pub info : upload.info ≡ new_info first last

-- what is under way puts what the facts of its party and its call say: a change under way is the call's, and of a compactor that of its step, with
-- its epoch and what it holds
abbrev pub Fits : Facts → Call → Work → Type 0
Fits facts call (Manifests db p) = p.change ≡ change_of facts call
Fits facts call (Records db p) = p.change ≡ record_change_of facts call
Fits facts call (PutTable db upload bytes) = IsUpload call upload
Fits facts call (Pass db settings filter phase) = call ≡ PassCall settings.pass settings.options.min_age settings.options.dry_run filter
Fits facts call (Opening db phase) = FitsOpen phase
Fits facts call (Compacting db phase) = FitsState call phase facts.compactor
