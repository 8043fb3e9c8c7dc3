-- What is known of a party that compacts, besides what it knows of its phrase: who raised its epochs, and what it holds of the records.
use Rattle.std.proofs.Common.{◌≡◌, ℕ, ◌<◌, List, Option, Some, None, arith}
use Rattle.slate_store.specs.Store.{Store}
use Rattle.slate_txn_changes.specs.declared.log_work.LogWork.{LogWork}
use Rattle.slate_txn_changes.specs.declared.log_work.LogWork.TheVariants.{Reading, Committing}
use Rattle.slate_txn_log.specs.declared.commit_phase.CommitPhase.TheVariants as committing
use Rattle.slate_txn_log.specs.declared.log_kind.LogKind.{LogKind}
use Rattle.slate_txn_log.specs.declared.log_kind.LogKind.TheVariants as logs
use Rattle.slate_txn_log.specs.declared.read_phase.ReadPhase.{ReadPhase}
use Rattle.slate_txn_log.specs.declared.read_phase.ReadPhase.TheVariants as reading
use Rattle.slate_model.specs.declared.manifest.Manifest.{Manifest}
use Rattle.slate_model_records.specs.Records.{Record}
use Rattle.slate_state_calls.specs.declared.compactor.Compactor.{Compactor}
use Rattle.slate_state_calls.specs.declared.open_phase.OpenPhase.{OpenPhase}
use Rattle.slate_state_calls.specs.declared.open_phase.OpenPhase.TheVariants as opening
use Rattle.slate_state_calls.specs.declared.open_phase.OpenStep.{OpenStep}
use Rattle.slate_state_calls.specs.declared.open_phase.OpenStep.TheVariants.{Reset}
use Rattle.slate_state_calls.specs.declared.state_phase.ManifestStep.{ManifestStep}
use Rattle.slate_state_calls.specs.declared.state_phase.ManifestStep.TheVariants.{Follow}
use Rattle.slate_state_calls.specs.declared.state_phase.StatePhase.{StatePhase}
use Rattle.slate_state_calls.specs.declared.state_phase.StatePhase.TheVariants as compacting
use Rattle.slate_cluster_protocol.specs.Chains.{Link, link_at}
use Rattle.slate_cluster_protocol.specs.Logs.{Author, Chain, Chains, Held, log_of}
use Rattle.slate_cluster_protocol.specs.declared.party.Party.{Party}
use Rattle.slate_cluster_protocol.specs.declared.party.State.{State}
use Rattle.slate_cluster_protocol.specs.declared.party.State.TheVariants.{Busy}
use Rattle.slate_cluster_protocol.specs.declared.work.Work.{Work}
use Rattle.slate_cluster_protocol.specs.declared.work.Work.TheVariants as works
use Rattle.slate_cluster_chain_laws.specs.Locals.{CompactedStay, IsHeldIn, ObeyOutputs}
use Rattle.slate_cluster_chain_laws.specs.Raises.{HasRaised}
use Rattle.slate_cluster_laws.proofs.Facts.{Grows}
use Rattle.slate_cluster_compactor_laws.specs.Pending.{IsTopEpoch}
use Rattle.slate_cluster_compactor_laws.proofs.Greatest.{IsRecent, OnTop}
use Rattle.slate_cluster_compactor_laws.proofs.Works.{ReadHas, WorkHas}

-- ---- a compactor

-- what holds of the compactor that a party holds
pub record CompactorHas (chains : Chains) (n : ℕ) (db : List ℕ) (c : Compactor) : Type 0 where
  pub raised : HasRaised (chains logs.Manifest db) n c.epoch
  pub held : IsTopEpoch c.epoch (chains logs.Manifest db) → OnTop (λ r. IsHeldIn r c.local) (chains logs.Compactions db)
  pub outputs : ObeyOutputs c.local.compactions.entries

abbrev pub OfCompactor : Chains → ℕ → List ℕ → Option Compactor → Type 0
OfCompactor chains n db None = Unit {0}
OfCompactor chains n db (Some c) = CompactorHas chains n db c

-- an epoch is above that of the compactor that is held
abbrev pub IsAbove : Option Compactor → ℕ → Type 0
IsAbove None e = Unit {0}
IsAbove (Some c) e = c.epoch < e

-- ---- calls under way

-- while an epoch is that of the greatest manifest, the record of a number is recent
abbrev pub Recent : Chains → List ℕ → ℕ → ℕ → Type 0
Recent chains db e j = IsTopEpoch e (chains logs.Manifest db) → IsRecent (chains logs.Compactions db) j

-- the manifest of a number is there, with an epoch above that of the compactor that is held
pub record IsLater (c : Chain logs.Manifest) (o : Option Compactor) (j : ℕ) : Type 0 where
  pub link : Link Manifest Author
  pub at : link_at j c ≡ Some link
  pub above : IsAbove o link.value.compactor_epoch

-- nothing is known of a number
abbrev pub Any : ℕ → Type 0
Any j = Unit {0}

-- before its reset an open has read, or put, a recent record
abbrev pub StepHas : Store → Chains → List ℕ → OpenStep → ℕ → LogWork Record → Type 0
StepHas s chains db Reset e work = WorkHas logs.Compactions db s (Recent chains db e) (Recent chains db e) work
StepHas s chains db _ e work = Unit {0}

-- an open that has raised the epoch
pub record HasOpened (s : Store) (chains : Chains) (n : ℕ) (db : List ℕ) (o : Option Compactor) (step : OpenStep) (e : ℕ) (work : LogWork Record) : Type 0 where
  pub raised : HasRaised (chains logs.Manifest db) n e
  pub above : IsAbove o e
  pub reads : StepHas s chains db step e work

abbrev pub OpenHas : Store → Chains → ℕ → List ℕ → Option Compactor → OpenPhase → Type 0
OpenHas s chains n db o (opening.Raising p) = WorkHas logs.Manifest db s Any (IsLater (chains logs.Manifest db) o) p.work
OpenHas s chains n db o (opening.OnRecord step m p) = HasOpened s chains n db o step m.1.compactor_epoch p.work
OpenHas s chains n db o opening.Over = Unit {0}

-- a refresh that has read the record
pub record HasFollowed (chains : Chains) (db : List ℕ) (c : Compactor) : Type 0 where
  pub stays : IsTopEpoch c.epoch (chains logs.Manifest db) → OnTop (CompactedStay c.compactions) (chains logs.Compactions db)
  pub outputs : ObeyOutputs c.compactions.entries

abbrev pub FollowHas : Chains → List ℕ → ManifestStep → Compactor → Type 0
FollowHas chains db Follow c = HasFollowed chains db c
FollowHas chains db _ c = Unit {0}

-- a call of a compactor on its state
abbrev pub PhaseHas : Store → Chains → List ℕ → StatePhase → Compactor → Type 0
PhaseHas s chains db (compacting.OnRecord step p) c = WorkHas logs.Compactions db s (Recent chains db c.epoch) (Recent chains db c.epoch) p.work
PhaseHas s chains db (compacting.OnManifest step p) c = FollowHas chains db step c
PhaseHas s chains db compacting.Over c = Unit {0}

abbrev pub StateHas : Store → Chains → List ℕ → StatePhase → Option Compactor → Type 0
StateHas s chains db phase None = Unit {0}
StateHas s chains db phase (Some c) = PhaseHas s chains db phase c

abbrev pub UnderWay : Store → Chains → ℕ → Option Compactor → Work → Type 0
UnderWay s chains n o (works.Opening db phase) = OpenHas s chains n db o phase
UnderWay s chains n o (works.Compacting db phase) = StateHas s chains db phase o
UnderWay s chains n o _ = Unit {0}

abbrev pub InState : Store → Chains → ℕ → Option Compactor → State → Type 0
InState s chains n o (Busy task) = UnderWay s chains n o task.work
InState s chains n o _ = Unit {0}

-- what holds of a party
pub record PartyHas (s : Store) (chains : Chains) (n : ℕ) (p : Party) : Type 0 where
  pub compactor : OfCompactor chains n p.facts.db p.facts.compactor
  pub call : InState s chains n p.facts.compactor p.state

-- ---- while the boundary doesn't fall, what is known of numbers stays so

read_on : {V : Type 0} (P P' : ℕ → Type 0) → ((j : ℕ) → P j → P' j) → (phase : ReadPhase V) → ReadHas P phase → ReadHas P' phase
read_on P P' keeps reading.Listing h = tt
read_on P P' keeps (reading.Getting j) h = keeps j h
read_on P P' keeps (reading.Bounding j v) h = keeps j h
read_on P P' keeps reading.Over h = tt

pub work_on : (k : LogKind) (db : List ℕ) (s : Store) (c : Chain k) (s' : Store) (c' : Chain k) → Grows (log_of k) db s c s' c' → (P P' Q Q' : ℕ → Type 0) → ((j : ℕ) → P j → P' j) → ((j : ℕ) → Q j → Q' j)
    → (work : LogWork (Held k)) → WorkHas k db s P Q work → WorkHas k db s' P' Q' work
work_on k db s c s' c' grows P P' Q Q' reads puts (Reading phase) h = read_on P P' reads phase h
work_on k db s c s' c' grows P P' Q Q' reads puts (Committing made (committing.Putting j bytes v)) h = tt
work_on k db s c s' c' grows P P' Q Q' reads puts (Committing made (committing.Bounding j v)) h = λ b read lt. let was = grows.bound b read in let le = was.2 in puts j (h was.0 was.1 (omega arith))
work_on k db s c s' c' grows P P' Q Q' reads puts (Committing made committing.Over) h = tt
