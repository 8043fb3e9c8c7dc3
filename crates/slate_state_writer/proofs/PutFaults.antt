-- What a commit of a compactor is refused for: what it puts, or a fence, and never a fault of the store.
use Rattle.std.specs.Prelude.{◌≡◌, ◌≢◌, ◌+◌, ◌==◌, nat_lt, ℕ, ℤ, Bool, true, false, List, Option, Some, None, Result, Ok, Err, if◌then◌else◌, refl}
use Rattle.std.proofs.Common.{ap}
use Rattle.slate_txn_changes.proofs.WorkFaults.{MayPut}
use Rattle.slate_txn_changes.specs.Changes.{change_commit, holder_fence}
use Rattle.slate_state_logs.specs.RecordLog.{record_of_bytes, bytes_of_record, record_rules}
use Rattle.slate_state_compactor.specs.Local.{refreshed, with_trees}
use Rattle.slate_state_compactor.specs.declared.local_state.LocalState.{LocalState}
use Rattle.slate_txn_changes.specs.LogWorks.{work_due}
use Rattle.slate_txn_changes.specs.declared.changing.Changing.{Changing}
use Rattle.slate_state_calls.specs.Commits.{begun, first_of, first_put, manifest_put, manifest_put_of, put_of, record_put}
use Rattle.slate_ids.specs.Limits.{last_number}
use Rattle.slate_ids.specs.declared.error.SlateDBError.{SlateDBError}
use Rattle.slate_ids.specs.declared.error.SlateDBError.TheVariants.{Exhausted, Fenced, StoreFault}
use Rattle.slate_layout.specs.Codec.{encoded}
use Rattle.slate_layout.specs.RecordCodec.{record_encoded}
use Rattle.slate_txn_log.specs.Change.{some_commit, wanted}
use Rattle.slate_txn_log.specs.CommitPhase.{checked_commit, encoded_commit, prepared}
use Rattle.slate_txn_log.specs.Fence.{fence, unless}
use Rattle.slate_txn_log.specs.declared.commit_phase.CommitPhase.{CommitPhase}
use Rattle.slate_txn_log.specs.declared.right.Right.{Right}
use Rattle.slate_state_logs.proofs.ChangesPlain.{change_fine, trees_fine}
use Rattle.slate_state_logs.specs.laws.ManifestsPlain.{manifests_plain}
use Rattle.slate_state_merges.specs.LocalTrees.{Trees, trees_merged}
use Rattle.slate_model.specs.Cores.{Core}
use Rattle.slate_model.specs.declared.manifest.Manifest.{Manifest}
use Rattle.slate_state_record_updates.specs.EntrySteps.{found_stepped, put_in, to_compacted, to_running, to_scheduled}
use Rattle.slate_state_record_updates.specs.RecordChanges as records
use Rattle.slate_state_record_updates.specs.RecordEpochs.{first_record}
use Rattle.slate_state_record_updates.specs.RecordRules.{record_refusal_of}
use Rattle.slate_state_record_updates.specs.declared.record_change.RecordChange.{RecordChange}
use Rattle.slate_state_record_updates.specs.declared.record_change.RecordChange.TheVariants.{GiveEpoch, Reset, Schedule, Claim, Report, PutStatuses}
use Rattle.slate_model_records.specs.Records.{Record, entry_of}
use Rattle.slate_model_records.specs.declared.compaction.Compaction.{Compaction}
use Rattle.slate_txn_laws.proofs.PlainCommits.{apart as stays_apart}
use Rattle.slate_txn_laws.specs.Plain.{PlainLog, Plainly, is_plain, refuses_plainly}
use Rattle.slate_state_updates.specs.ManifestChanges as manifests
use Rattle.slate_state_updates.specs.Rules.{manifest_refusal}
use Rattle.slate_state_updates.specs.declared.manifest_change.ManifestChange.{ManifestChange}
use Rattle.slate_state_updates.specs.declared.manifest_change.ManifestChange.TheVariants.{Flush, KeepTrees, MergeTrees}

-- what is said of the codec of records and of the rules on them
abbrev pub RecordsPlain : Type 0
RecordsPlain = PlainLog record_of_bytes bytes_of_record record_rules

-- no refusal, or one that isn't a fault
abbrev pub Apart : Option SlateDBError → Type 0
Apart None = Unit {0}
Apart (Some e) = e ≢ StoreFault

-- ---- any value

pub plain_apart : (e : SlateDBError) → is_plain e ≡ true → e ≢ StoreFault
plain_apart e plainly = λ same. (let both : is_plain e ≡ is_plain StoreFault = ap is_plain same in absurd cc)

pub fence_apart : (own read : ℕ) → Apart (fence own read)
fence_apart own read = by_test (nat_lt own read) where
  by_test : (b : Bool) → Apart (if b then Some (Fenced own read) else None)
  by_test true = λ same. absurd cc
  by_test false = tt

holder_apart : (own : Option ℕ) (read : ℕ) → Apart (holder_fence own read)
holder_apart None read = λ same. absurd cc
holder_apart (Some own) read = fence_apart own read

module _ {V : Type 0} where
  bytes_put : (n : ℕ) (value : V) (bytes : Result (List ℕ) SlateDBError) → Plainly bytes → MayPut (some_commit (encoded_commit n value bytes))
  bytes_put n value (Ok bytes) plainly = refl
  bytes_put n value (Err e) plainly = plain_apart e plainly

  checked_put : (refusal : Option SlateDBError) (n : ℕ) (value : V) (bytes : Result (List ℕ) SlateDBError) → refuses_plainly refusal ≡ true → Plainly bytes → MayPut (some_commit (checked_commit refusal n value bytes))
  checked_put None n value bytes rules plainly = bytes_put n value bytes plainly
  checked_put (Some e) n value bytes rules plainly = plain_apart e rules

  test_put : (b : Bool) (x y : Result (CommitPhase V) SlateDBError) → MayPut (some_commit x) → MayPut (some_commit y) → MayPut (some_commit (if b then x else y))
  test_put true x y one other = one
  test_put false x y one other = other

  -- what a change made, where that isn't refused by a fault
  wanted_put : (prepare : V → Result (CommitPhase V) SlateDBError) (changed : Result (Option V) SlateDBError) → ((new : V) → MayPut (some_commit (prepare new))) → changed ≢ Err StoreFault → MayPut (wanted prepare changed)
  wanted_put prepare (Ok (Some new)) each other = each new
  wanted_put prepare (Ok None) each other = tt
  wanted_put prepare (Err e) each other = λ same. other (ap (λ (k : SlateDBError). Err k) same)

  unless_put : (refusal : Option SlateDBError) (x : Result (Option (CommitPhase V)) SlateDBError) → Apart refusal → MayPut x → MayPut (unless refusal x)
  unless_put None x other puts = puts
  unless_put (Some e) x other puts = other

  -- a commit under rules and with bytes that refuse a value for what it is
  change_put : (made : ℤ → ℕ → V → Result (Option V) SlateDBError) (right : Right) (fenced : V → Option SlateDBError) (refusal : ℕ → V → V → Right → Option SlateDBError) (bytes : V → Result (List ℕ) SlateDBError) (now : ℤ) (n : ℕ) (v : V)
      → Apart (fenced v) → made now n v ≢ Err StoreFault → ((new : V) → refuses_plainly (refusal n v new right) ≡ true) → ((new : V) → Plainly (bytes new)) → MayPut (change_commit made right fenced refusal bytes now n v)
  change_put made right fenced refusal bytes now n v open_to makes rules plainly = unless_put (fenced v) _ open_to (wanted_put (λ new. prepared refusal bytes n v new right) (made now n v)
      (λ new. test_put (n == last_number) (Err (Exhausted n)) (checked_commit (refusal n v new right) (n + 1) new (bytes new)) (λ same. absurd cc) (checked_put (refusal n v new right) (n + 1) new (bytes new) (rules new) (plainly new))) makes)

-- ---- manifests

refusal_apart : (change : ManifestChange) (m : Manifest) → Apart (manifests.fence_of change m)
refusal_apart (Flush writer batch) m = holder_apart writer m.writer_epoch
refusal_apart (KeepTrees compactor checkpoint) m = holder_apart compactor m.compactor_epoch
refusal_apart (MergeTrees compactor trees outputs) m = holder_apart compactor m.compactor_epoch
refusal_apart _ m = tt

pub manifest_puts : (change : Option ManifestChange) (now : ℤ) (n : ℕ) (m : Manifest) → MayPut (manifest_put change now n m)
manifest_puts None now n m = tt
manifest_puts (Some change) now n m = change_put (manifests.made change) (manifests.right_of change) (manifests.fence_of change) manifest_refusal encoded now n m
    (refusal_apart change m) (change_fine change now n m) (λ new. manifests_plain.refuses (record {}) n m new (manifests.right_of change)) (λ new. manifests_plain.encodes (record {}) new)

with_apart : (read : Record) (local : LocalState) (trees : Result Trees SlateDBError) → trees ≢ Err StoreFault → with_trees read local trees ≢ Err StoreFault
with_apart read local (Ok trees) other = λ same. absurd cc
with_apart read local (Err e) other = λ same. other (let both : e ≡ StoreFault = cc in ap (λ (k : SlateDBError). Err k) both)

-- a refresh is refused for what was read
pub refreshed_apart : (read : Record) (core : Core) (local : LocalState) → refreshed read core local ≢ Err StoreFault
refreshed_apart read core local = with_apart read local (trees_merged core local.trees) (stays_apart StoreFault (trees_merged core local.trees) refl (trees_fine core local.trees))

-- ---- records

put_apart : (id : ℕ × ℕ) (r : Record) (found : Option Compaction) → put_in id r found ≢ Err StoreFault
put_apart id r None = λ same. absurd cc
put_apart id r (Some c) = λ same. absurd cc

found_apart : (id : ℕ × ℕ) (step : Compaction → Option Compaction) (r : Record) (found : Option Compaction) → found_stepped id step r found ≢ Err StoreFault
found_apart id step r None = λ same. absurd cc
found_apart id step r (Some c) = put_apart id r (step c)

record_made_apart : (change : RecordChange) (now : ℤ) (n : ℕ) (r : Record) → records.made change now n r ≢ Err StoreFault
record_made_apart (Schedule compactor id) now n r = found_apart id to_scheduled r (entry_of id r.entries)
record_made_apart (Claim id worker) now n r = found_apart id (to_running worker now) r (entry_of id r.entries)
record_made_apart (Report id worker outputs) now n r = found_apart id (to_compacted worker outputs) r (entry_of id r.entries)
record_made_apart _ now n r = λ same. absurd cc

record_refusal_apart : (change : RecordChange) (r : Record) → Apart (records.fence_of change r)
record_refusal_apart (GiveEpoch epoch) r = fence_apart epoch r.compactor_epoch
record_refusal_apart (Reset epoch) r = fence_apart epoch r.compactor_epoch
record_refusal_apart (Schedule compactor id) r = holder_apart compactor r.compactor_epoch
record_refusal_apart (PutStatuses compactor local pending) r = holder_apart compactor r.compactor_epoch
record_refusal_apart _ r = tt

pub record_puts : RecordsPlain → (change : Option RecordChange) (now : ℤ) (n : ℕ) (r : Record) → MayPut (record_put change now n r)
record_puts plain None now n r = tt
record_puts plain (Some change) now n r = change_put (records.made change) (records.right_of change) (records.fence_of change) record_refusal_of record_encoded now n r
    (record_refusal_apart change r) (record_made_apart change now n r) (λ new. plain.refuses (record {}) n r new (records.right_of change)) (λ new. plain.encodes (record {}) new)

-- ---- changes that are put at once

-- a change whose call is due, or a refusal that isn't a fault
abbrev pub MayBegin : {C V : Type 0} → Result (Changing C V) SlateDBError → Type 0
MayBegin (Ok p) = work_due p.work ≡ true
MayBegin (Err e) = e ≢ StoreFault

begins : {C V : Type 0} (change : C) (now : ℤ) (commit : Result (Option (CommitPhase V)) SlateDBError) → MayPut commit → MayBegin (begun change now commit)
begins change now (Ok (Some commit)) due = due
begins change now (Ok None) due = λ same. absurd cc
begins change now (Err e) other = other

pub record_begins : RecordsPlain → (change : RecordChange) (now : ℤ) (r : ℕ × Record) → MayBegin (put_of change now r)
record_begins plain change now r = begins change now (record_put (Some change) now r.0 r.1) (record_puts plain (Some change) now r.0 r.1)

pub manifest_begins : (change : ManifestChange) (now : ℤ) (m : ℕ × Manifest) → MayBegin (manifest_put_of change now m)
manifest_begins change now m = begins change now (manifest_put (Some change) now m.0 m.1) (manifest_puts (Some change) now m.0 m.1)

first_bytes : (now : ℤ) (bytes : Result (List ℕ) SlateDBError) → Plainly bytes → MayBegin (first_of now (encoded_commit 1 first_record bytes))
first_bytes now (Ok bytes) plainly = refl
first_bytes now (Err e) plainly = plain_apart e plainly

pub first_begins : RecordsPlain → (now : ℤ) → MayBegin (first_of now first_put)
first_begins plain now = first_bytes now (record_encoded first_record) (plain.encodes (record {}) first_record)
