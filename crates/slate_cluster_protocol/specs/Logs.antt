-- The two logs of a database, and what a run commits to them: kept beside the state, event by event.
use Rattle.std.specs.Prelude.{ℕ, Bool, true, false, List, [], ◌∷◌, Option, Some, None, Ok, ℤ, bytes_eq, if◌then◌else◌}
use Rattle.slate_ids.specs.declared.gc_message.GcMessage.{GcMessage}
use Rattle.slate_model.specs.declared.manifest.Manifest.{Manifest}
use Rattle.slate_model_records.specs.Records.{Record}
use Rattle.slate_state_updates.specs.Checkpoints.{is_named}
use Rattle.slate_state_updates.specs.Rules.{manifest_refusal}
use Rattle.slate_state_record_updates.specs.RecordEpochs.{first_record}
use Rattle.slate_state_record_updates.specs.RecordChanges.{made as record_made, right_of as record_right_of, fence_of as record_fence_of}
use Rattle.slate_state_record_updates.specs.RecordRules.{record_refusal_of}
use Rattle.slate_state_record_updates.specs.declared.record_change.RecordChange.{RecordChange}
use Rattle.slate_layout.specs.Codec.{encoded}
use Rattle.slate_layout.specs.RecordCodec.{record_encoded}
use Rattle.slate_layout_manifests.specs.Decoding.{decoded_manifest}
use Rattle.slate_layout_encodable.specs.Normal.{normal_manifest}
use Rattle.slate_layout_records.specs.RecordBytes.{decoded_record}
use Rattle.slate_layout_records.specs.RecordNormal.{normal_record}
use Rattle.slate_store.specs.Store.{effect}
use Rattle.slate_store.specs.declared.mark.Mark.{Mark}
use Rattle.slate_txn_log.specs.declared.commit_phase.CommitPhase.{CommitPhase}
use Rattle.slate_txn_log.specs.declared.commit_phase.CommitPhase.TheVariants.{Putting}
use Rattle.slate_txn_log.specs.declared.log_kind.LogKind.{LogKind}
use Rattle.slate_txn_log.specs.declared.log_kind.LogKind.TheVariants as logs
use Rattle.slate_txn_log.specs.declared.read_phase.ReadPhase.{ReadPhase}
use Rattle.slate_txn_log.specs.declared.read_phase.ReadPhase.TheVariants.{Listing}
use Rattle.slate_txn_changes.specs.declared.log_work.LogWork.{LogWork}
use Rattle.slate_txn_changes.specs.declared.log_work.LogWork.TheVariants.{Reading, Committing}
use Rattle.slate_state_calls.specs.Commits.{ManifestChanging, RecordChanging}
use Rattle.slate_state_calls.specs.declared.open_phase.OpenPhase.{OpenPhase}
use Rattle.slate_state_calls.specs.declared.open_phase.OpenPhase.TheVariants as opening
use Rattle.slate_state_calls.specs.declared.state_phase.StatePhase.{StatePhase}
use Rattle.slate_state_calls.specs.declared.state_phase.StatePhase.TheVariants as compacting
use Rattle.slate_state_referenced.specs.declared.referenced_phase.ReferencedPhase.{ReferencedPhase}
use Rattle.slate_gc_passes.specs.declared.gc_phase.GcPhase.{GcPhase}
use Rattle.slate_gc_passes.specs.declared.gc_phase.GcPhase.TheVariants.{Removing, Collecting}
use Rattle.slate_gc_passes.specs.declared.pass_phase.PassPhase.{PassPhase}
use Rattle.slate_gc_passes.specs.declared.pass_phase.PassPhase.TheVariants.{ReadingRecord, ReadingManifest, Fetching}
use Rattle.slate_script_events.specs.declared.db_spec.DbSpec.{DbSpec}
use Rattle.slate_script_events.specs.declared.event.Event.{Event}
use Rattle.slate_script_events.specs.declared.event.Event.TheVariants.{Open, Start, Step, Stop}
use Rattle.slate_txn_changes.specs.Changes.{made_by, right_by, fence_by}
use Rattle.slate_state_updates.specs.ManifestChanges.{made as manifest_made, right_of as manifest_right_of, fence_of as manifest_fence_of}
use Rattle.slate_state_updates.specs.declared.manifest_change.ManifestChange.{ManifestChange}
use Rattle.slate_state_updates.specs.declared.manifest_change.ManifestChange.TheVariants.{DropExpired}
use Rattle.slate_cluster_protocol.specs.Chains.{Link, Log, with_link}
use Rattle.slate_cluster_protocol.specs.Specs.{first_bytes, record_bytes, listed_or_none}
use Rattle.slate_cluster_protocol.specs.Works.{asks}
use Rattle.slate_cluster_protocol.specs.World.{World, party_of, wrote, happens}
use Rattle.slate_cluster_protocol.specs.declared.party.Party.{Party}
use Rattle.slate_cluster_protocol.specs.declared.party.State.{State}
use Rattle.slate_cluster_protocol.specs.declared.party.State.TheVariants.{Resting, Busy, Halted}
use Rattle.slate_cluster_protocol.specs.declared.party.Task.{Task}
use Rattle.slate_cluster_protocol.specs.declared.work.Work.{Work}
use Rattle.slate_cluster_protocol.specs.declared.work.Work.TheVariants.{Manifests, Records, PutTable, Pass, Opening, Compacting}

-- ---- authors

-- what is put: a change of a manifest, a change of a record, or the first record
pub data Puts : Type 0 where
  OfManifest : ManifestChange → Puts
  OfRecord : RecordChange → Puts
  First : Puts

-- who put a version, what, and when it was made
pub record Author : Type 0 where
  pub party : ℕ
  pub puts : Puts
  pub now : ℤ

-- the change of a manifest that is put, where it is one
abbrev pub change_by : Puts → Option ManifestChange
change_by (OfManifest change) = Some change
change_by _ = None

-- the change of a record that is put, where it is one
abbrev pub record_change_by : Puts → Option RecordChange
record_change_by (OfRecord change) = Some change
record_change_by _ = None

-- the record that is put where there is none
abbrev pub first_by : Puts → Option Record
first_by First = Some first_record
first_by _ = None

-- what a change under way puts; without a change it is the first version of its log
abbrev pub manifest_puts : Option ManifestChange → Puts
manifest_puts None = First
manifest_puts (Some change) = OfManifest change

abbrev pub record_puts : Option RecordChange → Puts
record_puts None = First
record_puts (Some change) = OfRecord change

-- ---- the logs

-- the log of manifests
abbrev pub manifests : Log Manifest Author
manifests = record {
  kind = logs.Manifest;
  encoded = encoded;
  decoded = decoded_manifest;
  normal = normal_manifest;
  refusal = manifest_refusal;
  names = λ m n. is_named n m.core.checkpoints;
  first = λ a. Ok None;
  makes = λ a n m. made_by manifest_made (change_by a.puts) a.now n m;
  right = λ a. right_by manifest_right_of (change_by a.puts);
  fence = λ a m. fence_by manifest_fence_of (change_by a.puts) m;
}

-- the log of records
abbrev pub records : Log Record Author
records = record {
  kind = logs.Compactions;
  encoded = record_encoded;
  decoded = decoded_record;
  normal = normal_record;
  refusal = record_refusal_of;
  names = λ r n. false;
  first = λ a. Ok (first_by a.puts);
  makes = λ a n r. made_by record_made (record_change_by a.puts) a.now n r;
  right = λ a. right_by record_right_of (record_change_by a.puts);
  fence = λ a r. fence_by record_fence_of (record_change_by a.puts) r;
}

-- the values of a log
abbrev pub Held : LogKind → Type 0
Held logs.Manifest = Manifest
Held logs.Compactions = Record

-- the log of a kind
abbrev pub log_of : (k : LogKind) → Log (Held k) Author
log_of logs.Manifest = manifests
log_of logs.Compactions = records

-- the chain of a log
abbrev pub Chain : LogKind → Type 0
Chain k = List (Link (Held k) Author)

-- the chains of each database, by log and path
abbrev pub Chains : Type 0
Chains = (k : LogKind) → List ℕ → Chain k

-- ---- what is under way in any work

pub data Phrase : Type 0 where
  -- the latest version of a log of a database is read
  Reads : (k : LogKind) → List ℕ → ReadPhase (Held k) → Phrase
  -- a version of a log of a database is committed, which what is put made at a moment
  Commits : (k : LogKind) → List ℕ → Puts → ℤ → CommitPhase (Held k) → Phrase
  -- the object of a table is put at a database
  Uploads : List ℕ → ℕ × ℕ → List ℕ → Phrase
  -- the versions that the checkpoints of a version of a database's manifests name are got
  Fetches : List ℕ → ℕ → ReferencedPhase → Phrase
  -- a pass lists at a database, and deletes
  Collects : List ℕ → GcMessage → PassPhase → Phrase

-- of a change of a log, by what it puts
abbrev pub change_phrase : (k : LogKind) → List ℕ → Puts → LogWork (Held k) → Phrase
change_phrase k db puts (Reading phase) = Reads k db phase
change_phrase k db puts (Committing now phase) = Commits k db puts now phase

abbrev pub manifest_phrase : List ℕ → ManifestChanging → Phrase
manifest_phrase db p = change_phrase logs.Manifest db (manifest_puts p.change) p.work

abbrev pub record_phrase : List ℕ → RecordChanging → Phrase
record_phrase db p = change_phrase logs.Compactions db (record_puts p.change) p.work

-- of a pass once the expired checkpoints are removed, by its phase: what it reads before its list are reads as of any call
abbrev pub collect_phrase : List ℕ → GcMessage → PassPhase → Phrase
collect_phrase db pass (ReadingRecord phase) = Reads logs.Compactions db phase
collect_phrase db pass (ReadingManifest least phase) = Reads logs.Manifest db phase
collect_phrase db pass (Fetching heads phase) = Fetches db heads.latest phase
collect_phrase db pass phase = Collects db pass phase

-- of a pass
abbrev pub pass_phrase : List ℕ → GcMessage → GcPhase → Phrase
pass_phrase db pass (Removing work) = change_phrase logs.Manifest db (OfManifest DropExpired) work
pass_phrase db pass (Collecting at phase) = collect_phrase db pass phase

-- of an open of a compactor, and of its calls on its state
abbrev pub open_phrase : List ℕ → OpenPhase → Phrase
open_phrase db (opening.Raising p) = manifest_phrase db p
open_phrase db (opening.OnRecord step m p) = record_phrase db p
open_phrase db opening.Over = Reads logs.Manifest db Listing

abbrev pub state_phrase : List ℕ → StatePhase → Phrase
state_phrase db (compacting.OnRecord step p) = record_phrase db p
state_phrase db (compacting.OnManifest step p) = manifest_phrase db p
state_phrase db compacting.Over = Reads logs.Compactions db Listing

abbrev pub phrase_of : Work → Phrase
phrase_of (Manifests db p) = manifest_phrase db p
phrase_of (Records db p) = record_phrase db p
phrase_of (PutTable db upload bytes) = Uploads db upload.table bytes
phrase_of (Pass db settings filter phase) = pass_phrase db settings.pass phase
phrase_of (Opening db phase) = open_phrase db phase
phrase_of (Compacting db phase) = state_phrase db phase

-- ---- what is put

-- a version that is put to a log of a database
pub record Put : Type 0 where
  pub log : LogKind
  pub db : List ℕ
  pub link : Link (Held log) Author

-- what a commit puts, where its phase puts a version
abbrev pub put_in : (k : LogKind) → List ℕ → Author → CommitPhase (Held k) → Option Put
put_in k db author (Putting n bytes v) = Some (record { log = k; db = db; link = record { number = n; bytes = bytes; value = (log_of k).normal v; by = Some author } })
put_in k db author _ = None

-- what the phrase of a party puts
abbrev pub put_by : ℕ → Phrase → Option Put
put_by n (Commits k db puts now phase) = put_in k db (record { party = n; puts = puts; now = now }) phase
put_by n _ = None

-- a chain of a log after a put to a log
abbrev pub chain_with : (k j : LogKind) → Link (Held j) Author → Chain k → Chain k
chain_with logs.Manifest logs.Manifest l c = with_link l c
chain_with logs.Compactions logs.Compactions l c = with_link l c
chain_with logs.Manifest logs.Compactions l c = c
chain_with logs.Compactions logs.Manifest l c = c

-- the chains after a put, where it wrote
abbrev pub chains_put : Bool → Option Put → Chains → Chains
chains_put true (Some put) chains = λ k d. if bytes_eq d put.db then chain_with k put.log put.link (chains k d) else chains k d
chains_put _ _ chains = chains

-- ---- event by event

-- the chains after the store call of a step
abbrev pub chains_stepped : World → ℕ → Task → ℤ → Mark → Chains → Chains
chains_stepped w n task moment mark chains =
    chains_put (wrote w.store (effect mark (asks task.work) moment w.store).store) (put_by n (phrase_of task.work)) chains

-- the chains after a step of a party in this state
abbrev pub chains_state : World → ℕ → State → ℤ → Mark → Chains → Chains
chains_state w n Resting moment mark chains = chains
chains_state w n (Busy task) moment mark chains = chains_stepped w n task moment mark chains
chains_state w n Halted moment mark chains = chains

-- the chains after a step of the party that is there
abbrev pub chains_at : World → ℕ → Option Party → ℤ → Mark → Chains → Chains
chains_at w n None moment mark chains = chains
chains_at w n (Some party) moment mark chains = chains_state w n party.state moment mark chains

-- the chains after an event: a step alone puts
abbrev pub chains_after : World → Event → Chains → Chains
chains_after w (Open n kind db) chains = chains
chains_after w (Start n call) chains = chains
chains_after w (Step n moment mark) chains = chains_at w n (party_of n w.parties) moment mark chains
chains_after w (Stop n) chains = chains

-- the state after events, up to the first bad one
abbrev pub world_after : List Event → World → World
world_after [] w = w
world_after (e ∷ es) w = elim (happens w e) [ None ↦ w | Some done ↦ world_after es done.world ]

-- the chains after events, up to the first bad one
abbrev pub chains_of : List Event → World → Chains → Chains
chains_of [] w chains = chains
chains_of (e ∷ es) w chains = elim (happens w e) [ None ↦ chains | Some done ↦ chains_of es done.world (chains_after w e chains) ]

-- ---- as a run begins

-- the first manifest of a database
abbrev pub opening_link : DbSpec → Link Manifest Author
opening_link spec = record { number = 1; bytes = listed_or_none (first_bytes spec.manifest); value = spec.manifest; by = None }

-- the first manifest of the database at a path, where there is one
abbrev pub opening_manifests : List DbSpec → List ℕ → Chain logs.Manifest
opening_manifests [] d = []
opening_manifests (spec ∷ specs) d = if bytes_eq d spec.path then opening_link spec ∷ [] else opening_manifests specs d

-- the first record of a database
abbrev pub opening_record : Record → Link Record Author
opening_record r = record { number = 1; bytes = listed_or_none (record_bytes r); value = r; by = None }

-- the chain of a first record, where there is one
abbrev pub record_chain : Option Record → Chain logs.Compactions
record_chain None = []
record_chain (Some r) = opening_record r ∷ []

-- the first record of the database at a path, where there is one
abbrev pub opening_records : List DbSpec → List ℕ → Chain logs.Compactions
opening_records [] d = []
opening_records (spec ∷ specs) d = if bytes_eq d spec.path then record_chain spec.compactions else opening_records specs d

-- the chains as a run begins
abbrev pub opening_chains : List DbSpec → Chains
opening_chains specs logs.Manifest d = opening_manifests specs d
opening_chains specs logs.Compactions d = opening_records specs d
