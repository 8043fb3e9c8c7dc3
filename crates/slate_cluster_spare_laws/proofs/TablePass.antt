-- What a pass over tables knows of what it has read, and that this stays so whatever a step leaves of the chains.
use Rattle.std.proofs.Common.{◌≡◌, ℕ, ◌≤◌, List}
use Rattle.slate_ids.specs.declared.gc_message.GcMessage.TheVariants as of
use Rattle.slate_gc_passes.specs.declared.gc_phase.GcPhase.{GcPhase}
use Rattle.slate_gc_passes.specs.declared.gc_phase.GcPhase.TheVariants.{Removing, Collecting}
use Rattle.slate_gc_passes.specs.declared.heads.Heads.{Heads}
use Rattle.slate_gc_passes.specs.declared.pass_phase.PassPhase.{PassPhase}
use Rattle.slate_gc_passes.specs.declared.pass_phase.PassPhase.TheVariants as passing
use Rattle.slate_model.specs.Watermark.{watermark}
use Rattle.slate_model.specs.declared.manifest.Manifest.{Manifest}
use Rattle.slate_store.specs.declared.object.ObjectMetadata.{ObjectMetadata}
use Rattle.slate_txn_log.specs.declared.log_kind.LogKind.TheVariants as logs
use Rattle.slate_txn_log.specs.declared.read_phase.ReadPhase.{ReadPhase}
use Rattle.slate_txn_log.specs.declared.read_phase.ReadPhase.TheVariants as reading
use Rattle.slate_cluster_protocol.specs.Chains.{Link}
use Rattle.slate_cluster_protocol.specs.Holding.{Each}
use Rattle.slate_cluster_protocol.specs.Logs.{Author, Chains}
use Rattle.slate_cluster_protocol.specs.Spares.{least_top}
use Rattle.slate_cluster_protocol.specs.declared.party.State.{State}
use Rattle.slate_cluster_protocol.specs.declared.party.State.TheVariants.{Busy}
use Rattle.slate_cluster_protocol.specs.declared.work.Work.{Work}
use Rattle.slate_cluster_protocol.specs.declared.work.Work.TheVariants as works
use Rattle.slate_cluster_laws.proofs.Passes.{each_map}
use Rattle.slate_cluster_spare_laws.specs.SpareObjects.{IsSpareObject}
use Rattle.slate_cluster_spare_laws.proofs.Later.{IsLater, step_later, step_least}
use Rattle.slate_cluster_spare_laws.proofs.Made.{Leaves}
use Rattle.slate_cluster_spare_laws.proofs.Stays.{step_stays}

-- ---- what it knows

-- a manifest was the greatest as the manifests were listed, after a least that was read before
pub record HasListed (chains : Chains) (db : List ℕ) (least n : ℕ) : Type 0 where
  pub link : Link Manifest Author
  pub number : link.number ≡ n
  pub later : IsLater link least (chains logs.Manifest db) (chains logs.Compactions db)

-- it was read: the heads of the pass have its number and its watermark
pub record HasHeads (chains : Chains) (db : List ℕ) (heads : Heads) : Type 0 where
  pub listed : HasListed chains db heads.least heads.latest
  pub mark : heads.watermark ≡ watermark listed.link.value.core

-- while it reads the manifest
abbrev pub ReadHas : Chains → List ℕ → ℕ → ReadPhase Manifest → Type 0
ReadHas chains db least (reading.Getting n) = HasListed chains db least n
ReadHas chains db least (reading.Bounding n m) = HasListed chains db least n
ReadHas chains db least _ = least ≤ least_top (chains logs.Compactions db)

-- in each phase
abbrev pub TableHas : Chains → List ℕ → PassPhase → Type 0
TableHas chains db (passing.ReadingManifest least phase) = ReadHas chains db least phase
TableHas chains db (passing.Fetching heads phase) = HasHeads chains db heads
TableHas chains db (passing.Listing heads versions) = HasHeads chains db heads
TableHas chains db (passing.Deleting left counts) = Each (IsSpareObject chains db) left
TableHas chains db _ = Unit {0}

abbrev pub GcHas : Chains → List ℕ → GcPhase → Type 0
GcHas chains db (Removing work) = Unit {0}
GcHas chains db (Collecting at phase) = TableHas chains db phase

-- a party in a pass over tables
abbrev pub WorkHas : Chains → Work → Type 0
WorkHas chains (works.Pass db settings filter phase) = settings.pass ≡ of.Compacted → GcHas chains db phase
WorkHas chains _ = Unit {0}

abbrev pub StateHas : Chains → State → Type 0
StateHas chains (Busy task) = WorkHas chains task.work
StateHas chains _ = Unit {0}

-- ---- a step of any party keeps it

module _ (chains chains' : Chains) (own : List ℕ) (author : Author) (s : Leaves chains chains' own author) where
  pub listed_stays : (db : List ℕ) (least n : ℕ) → HasListed chains db least n → HasListed chains' db least n
  listed_stays db least n h = record { link = h.link; number = h.number; later = step_later db h.link least chains chains' own author s h.later }

  heads_stay : (db : List ℕ) (heads : Heads) → HasHeads chains db heads → HasHeads chains' db heads
  heads_stay db heads h =
      let listed = h.listed in
      record { listed = record { link = listed.link; number = listed.number; later = step_later db listed.link heads.least chains chains' own author s listed.later }; mark = h.mark }

  read_stays : (db : List ℕ) (least : ℕ) (phase : ReadPhase Manifest) → ReadHas chains db least phase → ReadHas chains' db least phase
  read_stays db least reading.Listing h = step_least db least chains chains' own author s h
  read_stays db least (reading.Getting n) h = listed_stays db least n h
  read_stays db least (reading.Bounding n m) h = listed_stays db least n h
  read_stays db least reading.Over h = step_least db least chains chains' own author s h

  object_stays : (db : List ℕ) (m : ObjectMetadata) → IsSpareObject chains db m → IsSpareObject chains' db m
  object_stays db m h = record { id = h.id; is = h.is; spare = step_stays db h.id chains chains' own author s h.spare }

  table_stays : (db : List ℕ) (phase : PassPhase) → TableHas chains db phase → TableHas chains' db phase
  table_stays db (passing.ReadingRecord phase) h = tt
  table_stays db (passing.ReadingManifest least phase) h = read_stays db least phase h
  table_stays db (passing.Fetching heads phase) h = heads_stay db heads h
  table_stays db (passing.Listing heads versions) h = heads_stay db heads h
  table_stays db (passing.Getting n listed found) h = tt
  table_stays db (passing.Bounding n listed candidates) h = tt
  table_stays db (passing.Advancing phase left counts) h = tt
  table_stays db (passing.Deleting left counts) h = each_map (IsSpareObject chains db) (IsSpareObject chains' db) (object_stays db) left h
  table_stays db passing.Over h = tt

  pub gc_stays : (db : List ℕ) (phase : GcPhase) → GcHas chains db phase → GcHas chains' db phase
  gc_stays db (Removing work) h = tt
  gc_stays db (Collecting at phase) h = table_stays db phase h

  work_stays : (work : Work) → WorkHas chains work → WorkHas chains' work
  work_stays (works.Pass db settings filter phase) h = λ tables. gc_stays db phase (h tables)
  work_stays _ h = tt

  pub state_stays : (state : State) → StateHas chains state → StateHas chains' state
  state_stays (Busy task) h = work_stays task.work h
  state_stays _ h = tt
