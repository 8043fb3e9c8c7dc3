-- Fenced epochs: no writer and no compactor commits below the epoch of its kind in an earlier version.
use Rattle.std.specs.Prelude.{◌≡◌, ℕ, ◌≤◌, List, [], ◌∷◌, Option, Some, None}
use Rattle.slate_model.specs.declared.manifest.Manifest.{Manifest}
use Rattle.slate_cluster_protocol.specs.Chains.{Link, link_at}
use Rattle.slate_cluster_protocol.specs.Logs.{Author, Chain, change_by, record_change_by}
use Rattle.slate_txn_log.specs.declared.log_kind.LogKind.TheVariants as logs
use Rattle.slate_state_record_updates.specs.RecordEpochs.{record_epoch}
use Rattle.slate_state_record_updates.specs.declared.record_change.RecordChange.{RecordChange}
use Rattle.slate_state_record_updates.specs.declared.record_change.RecordChange.TheVariants.{GiveEpoch, Reset, Schedule, PutStatuses}
use Rattle.slate_state_updates.specs.ManifestChanges.{compactor_epoch_in, writer_epoch_in}
use Rattle.slate_state_updates.specs.Writers.{epoch_of}
use Rattle.slate_state_updates.specs.declared.epochs.ManifestEpochs.TheVariants.{Writer, Compactor}
use Rattle.slate_state_updates.specs.declared.manifest_change.ManifestChange.{ManifestChange}

-- ---- with which epoch a change is put

-- a writer's, where a writer puts it
abbrev pub writer_in : Option ManifestChange → Manifest → Option ℕ
writer_in None m = None
writer_in (Some change) m = writer_epoch_in change m

-- a compactor's, where a compactor puts it
abbrev pub compactor_in : Option ManifestChange → Manifest → Option ℕ
compactor_in None m = None
compactor_in (Some change) m = compactor_epoch_in change m

-- a compactor's, of a record: that which its open raised, or that of its open
abbrev pub record_epoch_in : Option RecordChange → Option ℕ
record_epoch_in (Some (GiveEpoch epoch)) = Some epoch
record_epoch_in (Some (Reset epoch)) = Some epoch
record_epoch_in (Some (Schedule compactor id)) = compactor
record_epoch_in (Some (PutStatuses compactor local pending)) = compactor
record_epoch_in _ = None

-- ---- along a chain

-- an author's epoch is not below the epoch of any of these versions
abbrev pub NotBelow : {V : Type 0} → (V → ℕ) → (Author → V → Option ℕ) → Option Author → V → List (Link V Author) → Type 0
NotBelow epoch own None v c = Unit {0}
NotBelow epoch own (Some author) v c = (e : ℕ) → own author v ≡ Some e → (n : ℕ) (u : _) → link_at n c ≡ Some u → epoch u.value ≤ e

-- each version's author is not below those before it
abbrev pub IsFencedBy : {V : Type 0} → (V → ℕ) → (Author → V → Option ℕ) → List (Link V Author) → Type 0
IsFencedBy epoch own [] = Unit {0}
IsFencedBy epoch own (l ∷ c) = NotBelow epoch own l.by l.value c × IsFencedBy epoch own c

-- no writer and no compactor committed a manifest below its kind's epoch in an earlier one
pub record IsFenced (c : Chain logs.Manifest) : Type 0 where
  pub writers : IsFencedBy (epoch_of Writer) (λ author m. writer_in (change_by author.puts) m) c
  pub compactors : IsFencedBy (epoch_of Compactor) (λ author m. compactor_in (change_by author.puts) m) c

-- no compactor committed a record below the epoch of an earlier one
abbrev pub IsRecordFenced : Chain logs.Compactions → Type 0
IsRecordFenced c = IsFencedBy record_epoch (λ author r. record_epoch_in (record_change_by author.puts)) c
