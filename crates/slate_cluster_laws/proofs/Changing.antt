-- A step of a change of a log under way: what it brings, of any log.
use Rattle.std.proofs.Common.{◌≡◌, ℕ, ℤ, ◌+◌, ◌<◌, ◌≤◌, ◌^◌, ◌==◌, false, List, Option, Some, None, Result, Ok, Err, refl, sym, ap, ◌∙◌, subst, arith}
use Rattle.std.proofs.lemmas.Bool.Decides.{nat_tests}
use Rattle.slate_txn_changes.specs.Changes.{fence_by, made_by, right_by}
use Rattle.slate_txn_changes.specs.LogWorks.{WorkGoes, change_goes, commit_on, read_on, work_goes}
use Rattle.slate_txn_changes.specs.declared.changing.Changing.{Changing}
use Rattle.slate_txn_changes.specs.declared.log_work.LogEnd.{LogEnd}
use Rattle.slate_txn_changes.specs.declared.log_work.LogEnd.TheVariants.{Absent, Unchanged, Committed}
use Rattle.slate_txn_changes.specs.declared.log_work.LogWork.{LogWork}
use Rattle.slate_txn_changes.specs.declared.log_work.LogWork.TheVariants.{Reading, Committing}
use Rattle.slate_state_calls.specs.Commits.{ManifestChanging, RecordChanging, begun, committing, manifest_in, manifest_put, record_in, record_put}
use Rattle.slate_ids.specs.Limits.{last_number}
use Rattle.slate_ids.specs.declared.error.SlateDBError.{SlateDBError}
use Rattle.slate_layout.specs.Codec.{encoded}
use Rattle.slate_layout.specs.RecordCodec.{record_encoded}
use Rattle.slate_txn_log.specs.CommitPhase.{CommitGoes, commit_goes}
use Rattle.slate_txn_log.specs.ReadPhase.{Reply, read_goes}
use Rattle.slate_txn_log.specs.declared.commit_phase.CommitPhase.{CommitPhase}
use Rattle.slate_txn_log.specs.declared.log_kind.LogKind.{LogKind}
use Rattle.slate_txn_log.specs.declared.log_kind.LogKind.TheVariants as logs
use Rattle.slate_layout_manifests.specs.Decoding.{decoded_manifest}
use Rattle.slate_model.specs.declared.manifest.Manifest.{Manifest}
use Rattle.slate_layout_records.specs.RecordBytes.{decoded_record}
use Rattle.slate_state_record_updates.specs.RecordChanges as records
use Rattle.slate_state_record_updates.specs.RecordRules.{record_refusal_of}
use Rattle.slate_state_record_updates.specs.declared.record_change.RecordChange.{RecordChange}
use Rattle.slate_model_records.specs.Records.{Record}
use Rattle.slate_store.specs.Machines.{Stay, End}
use Rattle.slate_store.specs.Store.{Store}
use Rattle.slate_store.specs.declared.store_answer.StoreAnswer.{StoreAnswer}
use Rattle.slate_state_updates.specs.ManifestChanges as manifests
use Rattle.slate_state_updates.specs.Rules.{manifest_refusal}
use Rattle.slate_state_updates.specs.declared.manifest_change.ManifestChange.{ManifestChange}
use Rattle.slate_cluster_protocol.specs.Chains.{Link, Log, link_at, top}
use Rattle.slate_cluster_protocol.specs.Logs.{Chains, Held, Puts, manifest_puts, record_puts, log_of, change_phrase, manifest_phrase, record_phrase}
use Rattle.slate_cluster_laws.proofs.Facts.{IsSound, IsValue, IsNext, ReadBrings, CommitKnows, CommitBrings}
use Rattle.slate_cluster_chain_laws.proofs.LogRules.IsMade.{OfVersion}
use Rattle.slate_cluster_chain_laws.proofs.Links.{link_number, at_most}
use Rattle.slate_cluster_chain_laws.proofs.Manifests.{IsChanged, change_commits}
use Rattle.slate_cluster_laws.proofs.Steps.{author_of, PhraseKnows, PhraseBrings}

-- ---- what is committed of a committed version

room_for : (n top : ℕ) → n ≤ top → top < 2 ^ 64 → (n == last_number) ≡ false → n + 1 < 2 ^ 64
room_for n top le small room = grind (arith, nat_tests)

-- what an author makes of it is the next one
module _ {V A : Type 0} (log : Log V A) (db : List ℕ) (s : Store) (c : List (Link V A)) (i : IsSound log db s c) (author : A) (k : ℕ) (v : V) (value : IsValue c k v) (commit : CommitPhase V) where
  pub next_knows : IsChanged log.refusal log.encoded (log.makes author) (log.right author) (log.fence author v) k v commit → CommitKnows log db s c author commit
  next_knows changed =
      let p = changed.prepared in
      let same = link_number k value.link c value.at in
      let le = at_most log k value.link c i.chain value.at in
      let next : IsNext log c author (k + 1) p.bytes changed.new = record {
        small = room_for k (top c) le i.small p.room;
        encodes = p.encodes;
        made = OfVersion value.link (subst (λ j. link_at j c ≡ Some value.link) (sym same) value.at) (omega arith)
            (ap (λ (j : ℕ). log.makes author j value.link.value) same ∙ (ap (log.makes author k) value.value ∙ changed.makes))
            (ap (λ (j : ℕ). log.refusal j value.link.value changed.new (log.right author)) same ∙ (ap (λ (o : V). log.refusal k o changed.new (log.right author)) value.value ∙ p.lawful))
            (ap (log.fence author) value.value ∙ changed.passed);
      } in
      subst (λ (x : CommitPhase V). CommitKnows log db s c author x) (sym p.is) next

-- ---- a change of any log

-- the commits that are made of versions are those of what is put
abbrev pub Makes : (k : LogKind) → ℕ → Puts → (ℤ → ℕ → Held k → Result (Option (CommitPhase (Held k))) SlateDBError) → Type 0
Makes k n puts commit_of = (now : ℤ) (m : ℕ) (v : Held k) (commit : CommitPhase (Held k)) → commit_of now m v ≡ Ok (Some commit)
    → IsChanged (log_of k).refusal (log_of k).encoded ((log_of k).makes (author_of n puts now)) ((log_of k).right (author_of n puts now)) ((log_of k).fence (author_of n puts now) v) m v commit

module _ (k : LogKind) (db : List ℕ) (s : Store) (chains : Chains) (n : ℕ) (puts : Puts) (commit_of : ℤ → ℕ → Held k → Result (Option (CommitPhase (Held k))) SlateDBError) where
  -- what its end brings: the version with which it ended is a committed one, and where nothing was put, nothing was made of it
  abbrev pub EndKnows : LogEnd (Held k) → Type 0
  EndKnows Absent = Unit {0}
  EndKnows (Unchanged m v) = IsValue (chains k db) m v × ((at : ℤ) × (commit_of at m v ≡ Ok None))
  EndKnows (Committed m v) = IsValue (chains k db) m ((log_of k).normal v)

  abbrev pub ChangeBrings : WorkGoes (Held k) → Type 0
  ChangeBrings (Stay work) = PhraseKnows s chains n (change_phrase k db puts work)
  ChangeBrings (End work (Ok end)) = EndKnows end
  ChangeBrings (End work (Err e)) = Unit {0}

  module _ (i : IsSound (log_of k) db s (chains k db)) (makes : Makes k n puts commit_of) where
    made_brings : (now : ℤ) (m : ℕ) (v : Held k) (r : Result (Option (CommitPhase (Held k))) SlateDBError) → IsValue (chains k db) m v → commit_of now m v ≡ r → ChangeBrings (change_goes now m v r)
    made_brings now m v (Ok (Some commit)) value is = next_knows (log_of k) db s (chains k db) i (author_of n puts now) m v value commit (makes now m v commit is)
    made_brings now m v (Ok None) value is = (value, (now, is))
    made_brings now m v (Err e) value is = tt

    read_brings : (now : ℤ) (g : Reply (Held k)) → ReadBrings (log_of k) db s (chains k db) g → ChangeBrings (read_on commit_of now g)
    read_brings now (Stay phase) b = b
    read_brings now (End phase (Ok None)) b = tt
    read_brings now (End phase (Ok (Some version))) b = made_brings now version.0 version.1 (commit_of now version.0 version.1) b refl
    read_brings now (End phase (Err e)) b = tt

    commit_brings : (made : ℤ) (g : CommitGoes (Held k)) → CommitBrings (log_of k) db s (chains k db) (author_of n puts made) g → ChangeBrings (commit_on made g)
    commit_brings made (Stay phase) b = b
    commit_brings made (End phase (Ok version)) b = record { link = b.link; at = b.at; value = b.value }
    commit_brings made (End phase (Err e)) b = tt

    pub change_brings : (now : ℤ) (work : LogWork (Held k)) (answer : StoreAnswer) → PhraseBrings s chains n (change_phrase k db puts work) now answer
        → ChangeBrings (work_goes (log_of k).kind (log_of k).decoded commit_of now work answer)
    change_brings now (Reading phase) answer b = read_brings now (read_goes (log_of k).kind (log_of k).decoded phase answer) b
    change_brings now (Committing made phase) answer b = commit_brings made (commit_goes phase answer) b

-- ---- of manifests, and of records

pub manifest_makes : (n : ℕ) (change : Option ManifestChange) → Makes logs.Manifest n (manifest_puts change) (manifest_put change)
manifest_makes n None now m v commit h = change_commits manifest_refusal encoded (made_by manifests.made None now) (right_by manifests.right_of None) (fence_by manifests.fence_of None v) m v commit h
manifest_makes n (Some change) now m v commit h = change_commits manifest_refusal encoded (made_by manifests.made (Some change) now) (right_by manifests.right_of (Some change)) (fence_by manifests.fence_of (Some change) v) m v commit h

pub record_makes : (n : ℕ) (change : Option RecordChange) → Makes logs.Compactions n (record_puts change) (record_put change)
record_makes n None now m v commit h = change_commits record_refusal_of record_encoded (made_by records.made None now) (right_by records.right_of None) (fence_by records.fence_of None v) m v commit h
record_makes n (Some change) now m v commit h = change_commits record_refusal_of record_encoded (made_by records.made (Some change) now) (right_by records.right_of (Some change)) (fence_by records.fence_of (Some change) v) m v commit h

module _ (db : List ℕ) (s : Store) (chains : Chains) (n : ℕ) where
  abbrev pub ManifestBrings : Option ManifestChange → WorkGoes Manifest → Type 0
  ManifestBrings change g = ChangeBrings logs.Manifest db s chains n (manifest_puts change) (manifest_put change) g

  abbrev pub RecordBrings : Option RecordChange → WorkGoes Record → Type 0
  RecordBrings change g = ChangeBrings logs.Compactions db s chains n (record_puts change) (record_put change) g

  pub manifest_brings : IsSound (log_of logs.Manifest) db s (chains logs.Manifest db) → (p : ManifestChanging) (now : ℤ) (answer : StoreAnswer) → PhraseBrings s chains n (manifest_phrase db p) now answer
      → ManifestBrings p.change (work_goes logs.Manifest decoded_manifest (manifest_put p.change) now p.work answer)
  manifest_brings i p now answer b = change_brings logs.Manifest db s chains n (manifest_puts p.change) (manifest_put p.change) i (manifest_makes n p.change) now p.work answer b

  pub record_brings : IsSound (log_of logs.Compactions) db s (chains logs.Compactions db) → (p : RecordChanging) (now : ℤ) (answer : StoreAnswer) → PhraseBrings s chains n (record_phrase db p) now answer
      → RecordBrings p.change (work_goes logs.Compactions decoded_record (record_put p.change) now p.work answer)
  record_brings i p now answer b = change_brings logs.Compactions db s chains n (record_puts p.change) (record_put p.change) i (record_makes n p.change) now p.work answer b

  -- the version with which a change ended, as it is held, is a committed one
  abbrev pub IsHeld : (k : LogKind) → Option (ℕ × Held k) → Type 0
  IsHeld k None = Unit {0}
  IsHeld k (Some v) = IsValue (chains k db) v.0 v.1

  pub manifest_held : (change : Option ManifestChange) (end : LogEnd Manifest) → EndKnows logs.Manifest db s chains n (manifest_puts change) (manifest_put change) end → IsHeld logs.Manifest (manifest_in end)
  manifest_held change Absent h = tt
  manifest_held change (Unchanged m v) h = h.0
  manifest_held change (Committed m v) h = h

  pub record_held : (change : Option RecordChange) (end : LogEnd Record) → EndKnows logs.Compactions db s chains n (record_puts change) (record_put change) end → IsHeld logs.Compactions (record_in end)
  record_held change Absent h = tt
  record_held change (Unchanged m r) h = h.0
  record_held change (Committed m r) h = h

-- ---- a change of any kind that is put at once of a committed version: it puts what it makes of it

pub record IsBegun {C V : Type 0} (change : C) (now : ℤ) (r : Result (Option (CommitPhase V)) SlateDBError) (p : Changing (Option C) V) : Type 0 where
  pub commit : CommitPhase V
  pub made : r ≡ Ok (Some commit)
  pub is : committing (Some change) now commit ≡ p

pub is_begun : {C V : Type 0} (change : C) (now : ℤ) (r : Result (Option (CommitPhase V)) SlateDBError) (p : Changing (Option C) V) → begun change now r ≡ Ok p → IsBegun change now r p
is_begun change now (Ok (Some commit)) p h = record { commit = commit; made = refl; is = cc h }
is_begun change now (Ok None) p h = absurd (cc h)
is_begun change now (Err e) p h = absurd (cc h)

module _ {C : Type 0} (k : LogKind) (db : List ℕ) (s : Store) (chains : Chains) (n : ℕ) (i : IsSound (log_of k) db s (chains k db))
    (of : Option C → Puts) (commit_of : Option C → ℤ → ℕ → Held k → Result (Option (CommitPhase (Held k))) SlateDBError) (makes : (change : Option C) → Makes k n (of change) (commit_of change)) where
  pub put_knows : (change : C) (now : ℤ) (v : ℕ × Held k) → IsValue (chains k db) v.0 v.1 → (p : Changing (Option C) (Held k)) → begun change now (commit_of (Some change) now v.0 v.1) ≡ Ok p
      → PhraseKnows s chains n (change_phrase k db (of p.change) p.work) × (p.change ≡ Some change)
  put_knows change now v value p h =
      let b = is_begun change now (commit_of (Some change) now v.0 v.1) p h in
      let knows = next_knows (log_of k) db s (chains k db) i (author_of n (of (Some change)) now) v.0 v.1 value b.commit (makes (Some change) now v.0 v.1 b.commit b.made) in
      subst (λ (q : Changing (Option C) (Held k)). PhraseKnows s chains n (change_phrase k db (of q.change) q.work) × (q.change ≡ Some change)) b.is (knows, refl)
