-- Steps of the calls on the state: what each keeps of the local state, and when the record comes.
use Rattle.std.specs.Prelude.{◌≡◌, ℕ, ℤ, Bool, true, false, List, Option, Some, None, Result, Ok, Err, refl}
use Rattle.std.proofs.Common.{◌⊎◌, inl, inr, ap, subst}
use Rattle.slate_txn_changes.proofs.CommitEnds.{ends_bounding}
use Rattle.slate_txn_changes.specs.LogWorks.{WorkGoes, change_goes, commit_on, read_on, work_goes}
use Rattle.slate_txn_changes.specs.declared.log_work.LogEnd.{LogEnd}
use Rattle.slate_txn_changes.specs.declared.log_work.LogEnd.TheVariants.{Absent, Unchanged, Committed}
use Rattle.slate_txn_changes.specs.declared.log_work.LogWork.{LogWork}
use Rattle.slate_txn_changes.specs.declared.log_work.LogWork.TheVariants.{Reading, Committing}
use Rattle.slate_state_compactor.specs.declared.local_state.LocalState.{LocalState}
use Rattle.slate_state_calls.specs.Commits.{ManifestChanging, RecordChanging, manifest_in, manifest_put, manifest_put_of, merge_of, put_of, record_in, record_put, statuses_of}
use Rattle.slate_state_calls.specs.Compactors.{with_manifest}
use Rattle.slate_state_calls.specs.StateSteps.{StateGoes, follows, manifest_next, merge_by, merges, next_after, on_manifest, on_record, onward, or_missing, record_next, records, refresh_of, refreshes, state_goes}
use Rattle.slate_state_calls.specs.declared.compactor.Compactor.{Compactor}
use Rattle.slate_state_calls.specs.declared.state_phase.ManifestStep.{ManifestStep}
use Rattle.slate_state_calls.specs.declared.state_phase.ManifestStep.TheVariants.{Follow, Keep, Merge}
use Rattle.slate_state_calls.specs.declared.state_phase.RecordStep.{RecordStep}
use Rattle.slate_state_calls.specs.declared.state_phase.RecordStep.TheVariants as steps
use Rattle.slate_state_calls.specs.declared.state_phase.StatePhase.{StatePhase}
use Rattle.slate_state_calls.specs.declared.state_phase.StatePhase.TheVariants.{OnManifest, OnRecord, Over}
use Rattle.slate_state_calls.specs.declared.state_start.TreesWrite.{TreesWrite}
use Rattle.slate_state_writer.specs.StateLaws.{RecordFollows, RefusalsKeepLocal, StepsKeepLocal, TreesStand, after_trees, is_at_record}
use Rattle.slate_ids.specs.declared.error.SlateDBError.{SlateDBError}
use Rattle.slate_txn_log.specs.CommitPhase.{CommitGoes, commit_goes}
use Rattle.slate_txn_log.specs.Fence.{fence}
use Rattle.slate_txn_log.specs.ReadPhase.{Reply, read_goes}
use Rattle.slate_txn_log.specs.declared.commit_phase.CommitPhase.{CommitPhase}
use Rattle.slate_txn_log.specs.declared.commit_phase.CommitPhase.TheVariants.{Bounding}
use Rattle.slate_txn_log.specs.declared.log_kind.LogKind.{LogKind}
use Rattle.slate_txn_log.specs.declared.log_kind.LogKind.TheVariants.{Compactions as RecordLog, Manifest as ManifestLog}
use Rattle.slate_layout_manifests.specs.Decoding.{decoded_manifest}
use Rattle.slate_model.specs.declared.manifest.Manifest.{Manifest}
use Rattle.slate_layout_records.specs.RecordBytes.{decoded_record}
use Rattle.slate_model_records.specs.Records.{Record}
use Rattle.slate_store.specs.Machines.{Stay, End}
use Rattle.slate_store.specs.declared.store_answer.StoreAnswer.{StoreAnswer}

-- ---- where a commit stands

module _ {V : Type 0} where
  made_never : (now : ℤ) (n : ℕ) (v : V) (commit : Result (Option (CommitPhase V)) SlateDBError) (to : LogWork V) (k : ℕ) (w : V) → change_goes now n v commit ≡ End to (Ok (Committed k w)) → ⊥
  made_never now n v (Ok (Some commit)) to k w h = absurd cc
  made_never now n v (Ok None) to k w h = absurd cc
  made_never now n v (Err e) to k w h = absurd cc

  read_never : (commit : ℤ → ℕ → V → Result (Option (CommitPhase V)) SlateDBError) (now : ℤ) (out : Reply V) (to : LogWork V) (k : ℕ) (w : V) → read_on commit now out ≡ End to (Ok (Committed k w)) → ⊥
  read_never commit now (Stay phase) to k w h = absurd cc
  read_never commit now (End phase (Ok None)) to k w h = absurd cc
  read_never commit now (End phase (Ok (Some version))) to k w h = made_never now version.0 version.1 (commit now version.0 version.1) to k w h
  read_never commit now (End phase (Err e)) to k w h = absurd cc

  commit_stood : (made : ℤ) (phase : CommitPhase V) (answer : StoreAnswer) (out : CommitGoes V) (to : LogWork V) (k : ℕ) (w : V) → commit_goes phase answer ≡ out → commit_on made out ≡ End to (Ok (Committed k w)) → phase ≡ Bounding k w
  commit_stood made phase answer (Stay next) to k w same h = absurd cc
  commit_stood made phase answer (End q (Ok version)) to k w same h = (let stood : phase ≡ Bounding version.0 version.1 = ends_bounding phase answer q version same in let both : phase ≡ Bounding k w = cc in both)
  commit_stood made phase answer (End q (Err e)) to k w same h = absurd cc

  -- work that ends with what it committed was at the boundary of that
  work_stood : (log : LogKind) (decoded : List ℕ → Result V SlateDBError) (commit : ℤ → ℕ → V → Result (Option (CommitPhase V)) SlateDBError) (now : ℤ) (work : LogWork V) (answer : StoreAnswer) (to : LogWork V) (k : ℕ) (w : V)
      → work_goes log decoded commit now work answer ≡ End to (Ok (Committed k w)) → (made : ℤ) × (work ≡ Committing made (Bounding k w))
  work_stood log decoded commit now (Reading phase) answer to k w h = absurd (read_never commit now (read_goes log decoded phase answer) to k w h)
  work_stood log decoded commit now (Committing made phase) answer to k w h = (made, ap (λ (c : CommitPhase V). Committing made c) (commit_stood made phase answer (commit_goes phase answer) to k w refl h))

-- the merge's commit is at its boundary
abbrev Stood : ManifestChanging → Type 0
Stood p = (made : ℤ) × (n : ℕ) × (m : Manifest) × (p.work ≡ Committing made (Bounding n m))

trees_stand : (write : TreesWrite) (p : ManifestChanging) (c : Compactor) → Stood p → write.whole ≡ true → TreesStand (OnManifest (Merge write) p, c)
trees_stand write p c stood whole = (write, p.change, stood.0, stood.1, stood.2, ap (λ (w : LogWork Manifest). OnManifest (Merge write) (record { change = p.change; work = w })) stood.3, whole)

-- ---- what a step keeps

-- a step keeps this local state, unless it ends well or the trees stand, and comes to the record only there or from it
abbrev KeepsLocal : StatePhase → Compactor → StateGoes → Type 0
KeepsLocal from c (Stay to) = ((to.1.local ≡ c.local) × (is_at_record to.0 ≡ true → is_at_record from ≡ true)) ⊎ TreesStand (from, c)
KeepsLocal from c (End to (Ok r)) = Unit {0}
KeepsLocal from c (End to (Err e)) = to.1.local ≡ c.local

missing_kept : {V : Type 0} (from : StatePhase) (c : Compactor) (next : V → StateGoes) (found : Option V) → ((v : V) → KeepsLocal from c (next v)) → KeepsLocal from c (or_missing c next found)
missing_kept from c next None each = refl
missing_kept from c next (Some v) each = each v

follows_kept : (from : StatePhase) (c : Compactor) (v : ℕ × Record) (refusal : Option SlateDBError) → KeepsLocal from c (follows c v refusal)
follows_kept from c v (Some e) = refl
follows_kept from c v None = inl (refl, λ late. absurd cc)

same_trees : (write : Option TreesWrite) → after_trees (steps.Record write) ≡ true → after_trees (steps.Fetch write) ≡ true
same_trees (Some write) late = refl
same_trees None late = absurd cc

records_kept : (write : Option TreesWrite) (q : RecordChanging) (c : Compactor) (put : Result RecordChanging SlateDBError) → KeepsLocal (OnRecord (steps.Fetch write) q) c (records write c put)
records_kept write q c (Ok p) = inl (refl, same_trees write)
records_kept write q c (Err e) = refl

record_kept : (step : RecordStep) (p : RecordChanging) (now : ℤ) (c : Compactor) (v : ℕ × Record) → KeepsLocal (OnRecord step p) c (record_next step now c v)
record_kept steps.Follow p now c v = follows_kept (OnRecord steps.Follow p) c v (fence c.epoch v.1.compactor_epoch)
record_kept steps.Schedule p now c v = tt
record_kept (steps.Fetch write) p now c v = records_kept write p c (put_of (statuses_of c.epoch c.local) now v)
record_kept (steps.Record write) p now c v = tt

on_record_kept : (step : RecordStep) (p : RecordChanging) (now : ℤ) (c : Compactor) (out : WorkGoes Record) → KeepsLocal (OnRecord step p) c (on_record step now c p out)
on_record_kept step p now c (Stay work) = inl (refl, λ late. late)
on_record_kept step p now c (End work (Ok end)) = missing_kept (OnRecord step p) c (record_next step now c) (record_in end) (record_kept step p now c)
on_record_kept step p now c (End work (Err e)) = refl

refreshes_kept : (from : StatePhase) (c : Compactor) (v : ℕ × Manifest) (local : Result LocalState SlateDBError) → KeepsLocal from c (refreshes c v local)
refreshes_kept from c v (Ok local) = tt
refreshes_kept from c v (Err e) = refl

merges_kept : (from : StatePhase) (write : TreesWrite) (c : Compactor) (v : ℕ × Manifest) (put : Result ManifestChanging SlateDBError) → KeepsLocal from c (merges write (with_manifest v c) put)
merges_kept from write c v (Ok p) = inl (refl, λ late. absurd cc)
merges_kept from write c v (Err e) = refl

whole_kept : (whole : Bool) (write : TreesWrite) (from : StatePhase) (old new : Compactor) → (whole ≡ true → TreesStand (from, old)) → KeepsLocal from old (onward new (next_after whole write))
whole_kept true write from old new stand = inr (stand refl)
whole_kept false write from old new stand = tt

manifest_kept : (step : ManifestStep) (p : ManifestChanging) (now : ℤ) (c : Compactor) (end : LogEnd Manifest) → ((n : ℕ) (m : Manifest) → end ≡ Committed n m → Stood p) → KeepsLocal (OnManifest step p) c (manifest_next step now c end)
manifest_kept Follow p now c end stood = missing_kept (OnManifest Follow p) c _ (manifest_in end) (λ v. refreshes_kept (OnManifest Follow p) c v (refresh_of c v.1))
manifest_kept (Keep write) p now c end stood = missing_kept (OnManifest (Keep write) p) c (merge_by write now c) (manifest_in end) (λ v. merges_kept (OnManifest (Keep write) p) write c v (manifest_put_of (merge_of c.epoch c.local) now v))
manifest_kept (Merge write) p now c Absent stood = refl
manifest_kept (Merge write) p now c (Unchanged n m) stood = refl
manifest_kept (Merge write) p now c (Committed n m) stood = whole_kept write.whole write (OnManifest (Merge write) p) c _ (λ whole. trees_stand write p c (stood n m refl) whole)

on_manifest_kept : (step : ManifestStep) (p : ManifestChanging) (now : ℤ) (c : Compactor) (out : WorkGoes Manifest) → ((to : LogWork Manifest) (n : ℕ) (m : Manifest) → out ≡ End to (Ok (Committed n m)) → Stood p) → KeepsLocal (OnManifest step p) c (on_manifest step now c p out)
on_manifest_kept step p now c (Stay work) stood = inl (refl, λ late. late)
on_manifest_kept step p now c (End work (Ok end)) stood = manifest_kept step p now c end (λ n m same. stood work n m (ap (λ (k : LogEnd Manifest). End work (Ok k)) same))
on_manifest_kept step p now c (End work (Err e)) stood = refl

stood_at : (now : ℤ) (p : ManifestChanging) (answer : StoreAnswer) (to : LogWork Manifest) (n : ℕ) (m : Manifest) → work_goes ManifestLog decoded_manifest (manifest_put p.change) now p.work answer ≡ End to (Ok (Committed n m)) → Stood p
stood_at now p answer to n m h = (let stood = work_stood ManifestLog decoded_manifest (manifest_put p.change) now p.work answer to n m h in (stood.0, n, m, stood.1))

all_kept : (now : ℤ) (from : StatePhase) (c : Compactor) (answer : StoreAnswer) → KeepsLocal from c (state_goes now (from, c) answer)
all_kept now (OnRecord step p) c answer = on_record_kept step p now c (work_goes RecordLog decoded_record (record_put p.change) now p.work answer)
all_kept now (OnManifest step p) c answer = on_manifest_kept step p now c (work_goes ManifestLog decoded_manifest (manifest_put p.change) now p.work answer) (stood_at now p answer)
all_kept now Over c answer = refl

-- ---- the laws

pub refusals_keep : RefusalsKeepLocal
refusals_keep moment at to answer e h = subst (λ (out : StateGoes). KeepsLocal at.0 at.1 out) h (all_kept moment at.0 at.1 answer)

pub steps_keep : StepsKeepLocal
steps_keep moment at to answer h = elim (subst (λ (out : StateGoes). KeepsLocal at.0 at.1 out) h (all_kept moment at.0 at.1 answer)) [
  | inl kept ↦ inl kept.0
  | inr stand ↦ inr stand
]

pub record_follows : RecordFollows
record_follows moment at to answer h late = elim (subst (λ (out : StateGoes). KeepsLocal at.0 at.1 out) h (all_kept moment at.0 at.1 answer)) [
  | inl kept ↦ inl (kept.1 late)
  | inr stand ↦ inr stand
]
