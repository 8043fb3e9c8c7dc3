-- An open of a compactor: what is known of the epoch that it raised, and what a step of it brings.
use Rattle.std.proofs.Common.{◌≡◌, ◌≢◌, ℕ, ℤ, Bool, true, false, List, Option, Some, None, Result, Ok, Err, refl, sym, ap, ◌∙◌, subst, arith}
use Rattle.std.specs.Prelude.{nat_le, if◌then◌else◌}
use Rattle.slate_txn_changes.specs.Changes.{fence_by, made_by, right_by}
use Rattle.slate_txn_changes.specs.LogWorks.{WorkGoes, change_goes, commit_on, read_on, work_goes}
use Rattle.slate_txn_changes.specs.declared.log_work.LogEnd.{LogEnd}
use Rattle.slate_txn_changes.specs.declared.log_work.LogEnd.TheVariants.{Absent, Unchanged, Committed}
use Rattle.slate_txn_changes.specs.declared.log_work.LogWork.{LogWork}
use Rattle.slate_txn_changes.specs.declared.log_work.LogWork.TheVariants.{Reading, Committing}
use Rattle.slate_state_calls.specs.Commits.{ManifestChanging, RecordChanging, first_of, manifest_in, manifest_put, put_of, record_in, record_put}
use Rattle.slate_state_calls.specs.Opening.{OpenGoes, after_record, on_record, open_goes, puts, raised, raising, with_version, without_version}
use Rattle.slate_state_calls.specs.declared.open_phase.OpenPhase.{OpenPhase}
use Rattle.slate_state_calls.specs.declared.open_phase.OpenPhase.TheVariants.{Raising, OnRecord, Over}
use Rattle.slate_state_calls.specs.declared.open_phase.OpenStep.{OpenStep}
use Rattle.slate_state_calls.specs.declared.open_phase.OpenStep.TheVariants.{Give, Begin, GiveFirst, Reset}
use Rattle.slate_ids.specs.declared.error.SlateDBError.{SlateDBError}
use Rattle.slate_ids.specs.declared.error.SlateDBError.TheVariants.{TransactionalObjectVersionExists}
use Rattle.slate_layout.specs.RecordCodec.{record_encoded}
use Rattle.slate_txn_log.specs.Boundary.{boundary_got}
use Rattle.slate_txn_log.specs.Change.{some_commit}
use Rattle.slate_txn_log.specs.CommitPhase.{CommitGoes, bounded_goes, commit_goes, created_goes, encoded_commit, prepared}
use Rattle.slate_txn_log.specs.Fence.{unless}
use Rattle.slate_txn_log.specs.ReadPhase.{Reply, read_goes}
use Rattle.slate_txn_log.specs.declared.commit_phase.CommitPhase.{CommitPhase}
use Rattle.slate_txn_log.specs.declared.commit_phase.CommitPhase.TheVariants as commits
use Rattle.slate_txn_log.specs.declared.log_kind.LogKind.TheVariants as logs
use Rattle.slate_layout_manifests.specs.Decoding.{decoded_manifest}
use Rattle.slate_model.specs.declared.manifest.Manifest.{Manifest}
use Rattle.slate_layout_records.specs.RecordBytes.{decoded_record}
use Rattle.slate_state_record_updates.specs.RecordChanges as records
use Rattle.slate_state_record_updates.specs.RecordEpochs.{first_record, record_epoch, with_record_epoch}
use Rattle.slate_state_record_updates.specs.RecordRules.{record_refusal_of}
use Rattle.slate_state_record_updates.specs.declared.record_change.RecordChange.{RecordChange}
use Rattle.slate_state_record_updates.specs.declared.record_change.RecordChange.TheVariants as changes
use Rattle.slate_model_records.specs.Records.{Record}
use Rattle.slate_store.specs.Machines.{Stay, End}
use Rattle.slate_store.specs.Store.{Store}
use Rattle.slate_store.specs.declared.store_answer.StoreAnswer.{StoreAnswer}
use Rattle.slate_store.specs.declared.store_answer.StoreAnswer.TheVariants.{Created, Got}
use Rattle.slate_state_updates.specs.Writers.{epoch_of}
use Rattle.slate_state_updates.specs.declared.epochs.ManifestEpochs.TheVariants.{Compactor}
use Rattle.slate_state_updates.specs.declared.manifest_change.ManifestChange.TheVariants.{RaiseCompactor}
use Rattle.slate_cluster_protocol.specs.Chains.{Link, link_at}
use Rattle.slate_cluster_protocol.specs.Holding.{FitsOpen, open_change}
use Rattle.slate_cluster_protocol.specs.Logs.{Author, Chains, log_of, open_phrase, record_puts}
use Rattle.slate_cluster_laws.proofs.Changing.{EndKnows, IsBegun, IsHeld, ManifestBrings, RecordBrings, is_begun, manifest_brings, manifest_held, put_knows, record_brings, record_held, record_makes}
use Rattle.slate_cluster_laws.proofs.Facts.{IsSound, IsValue}
use Rattle.slate_cluster_chain_laws.proofs.LogRules.IsMade.{OfNone}
use Rattle.slate_cluster_chain_laws.proofs.Manifests.{change_commits}
use Rattle.slate_cluster_laws.proofs.Steps.{PhraseKnows, PhraseBrings}

-- ---- epochs that were committed

-- a committed version of a chain has this epoch
pub record HasEpoch {V : Type 0} (epoch : V → ℕ) (e : ℕ) (c : List (Link V Author)) : Type 0 where
  pub number : ℕ
  pub value : V
  pub committed : IsValue c number value
  pub same : epoch value ≡ e

-- a chain that keeps its versions keeps it
pub kept_epoch : {V : Type 0} (epoch : V → ℕ) (e : ℕ) (c c' : List (Link V Author)) → ((n : ℕ) (l : Link V Author) → link_at n c ≡ Some l → link_at n c' ≡ Some l) → HasEpoch epoch e c → HasEpoch epoch e c'
kept_epoch epoch e c c' kept h = record {
  number = h.number;
  value = h.value;
  committed = record { link = h.committed.link; at = kept h.number h.committed.link h.committed.at; value = h.committed.value };
  same = h.same;
}

-- of manifests, and of records
abbrev pub Raised : Chains → List ℕ → ℕ → Type 0
Raised chains db e = HasEpoch (epoch_of Compactor) e (chains logs.Manifest db)

abbrev pub Given : Chains → List ℕ → ℕ → Type 0
Given chains db e = HasEpoch record_epoch e (chains logs.Compactions db)

-- ---- what is put keeps its epoch until it is committed

abbrev pub PutsEpoch : ℕ → CommitPhase Record → Type 0
PutsEpoch e (commits.Putting n bytes r) = r.compactor_epoch ≡ e
PutsEpoch e (commits.Bounding n r) = r.compactor_epoch ≡ e
PutsEpoch e commits.Over = Unit {0}

abbrev pub WorkEpoch : ℕ → LogWork Record → Type 0
WorkEpoch e (Reading phase) = Unit {0}
WorkEpoch e (Committing made phase) = PutsEpoch e phase

abbrev CommitEpoch : ℕ → CommitGoes Record → Type 0
CommitEpoch e (Stay phase) = PutsEpoch e phase
CommitEpoch e (End phase (Ok version)) = version.1.compactor_epoch ≡ e
CommitEpoch e (End phase (Err error)) = Unit {0}

abbrev EndEpoch : ℕ → LogEnd Record → Type 0
EndEpoch e Absent = Unit {0}
EndEpoch e (Unchanged n r) = Unit {0}
EndEpoch e (Committed n r) = r.compactor_epoch ≡ e

abbrev GoesEpoch : ℕ → WorkGoes Record → Type 0
GoesEpoch e (Stay work) = WorkEpoch e work
GoesEpoch e (End work (Ok end)) = EndEpoch e end
GoesEpoch e (End work (Err error)) = Unit {0}

created_epoch : (n : ℕ) (r : Record) (tag : Option ℕ) (e : ℕ) → r.compactor_epoch ≡ e → CommitEpoch e (created_goes n r tag)
created_epoch n r (Some tag) e h = h
created_epoch n r None e h = tt

bounded_epoch : (n : ℕ) (r : Record) (bound : Option ℕ) (e : ℕ) → r.compactor_epoch ≡ e → CommitEpoch e (bounded_goes n r bound)
bounded_epoch n r None e h = tt
bounded_epoch n r (Some b) e h = test (nat_le n b)
  where
    test : (t : Bool) → CommitEpoch e (if t then End commits.Over (Err (TransactionalObjectVersionExists n (Some b))) else End commits.Over (Ok (n, r)))
    test true = tt
    test false = h

commit_epoch : (phase : CommitPhase Record) (answer : StoreAnswer) (e : ℕ) → PutsEpoch e phase → CommitEpoch e (commit_goes phase answer)
commit_epoch (commits.Putting n bytes r) (Created tag) e h = created_epoch n r tag e h
commit_epoch (commits.Putting n bytes r) _ e h = tt
commit_epoch (commits.Bounding n r) (Got object) e h = bounded_epoch n r (boundary_got object) e h
commit_epoch (commits.Bounding n r) _ e h = tt
commit_epoch commits.Over answer e h = tt

committed_on : (e : ℕ) (made : ℤ) (g : CommitGoes Record) → CommitEpoch e g → GoesEpoch e (commit_on made g)
committed_on e made (Stay phase) h = h
committed_on e made (End phase (Ok version)) h = h
committed_on e made (End phase (Err error)) h = tt

-- what gives an epoch puts a record that has it, and always puts one
give_puts : (e : ℕ) (now : ℤ) (n : ℕ) (r : Record) (commit : CommitPhase Record) → record_put (Some (changes.GiveEpoch e)) now n r ≡ Ok (Some commit) → PutsEpoch e commit
give_puts e now n r commit h =
    let change = Some (changes.GiveEpoch e) in
    let c = change_commits record_refusal_of record_encoded (made_by records.made change now) (right_by records.right_of change) (fence_by records.fence_of change r) n r commit h in
    let same : with_record_epoch r e ≡ c.new = cc (c.makes) in
    subst (λ (x : CommitPhase Record). PutsEpoch e x) (sym c.prepared.is) (sym (ap (λ (x : Record). x.compactor_epoch) same))

always_puts : {V : Type 0} (o : Option SlateDBError) (r : Result (CommitPhase V) SlateDBError) → unless o (some_commit r) ≢ Ok None
always_puts (Some e) r h = cc h
always_puts None (Ok commit) h = cc h
always_puts None (Err e) h = cc h

give_always : (e : ℕ) (now : ℤ) (n : ℕ) (r : Record) → record_put (Some (changes.GiveEpoch e)) now n r ≢ Ok None
give_always e now n r h =
    let change = Some (changes.GiveEpoch e) in
    always_puts (fence_by records.fence_of change r) (prepared record_refusal_of record_encoded n r (with_record_epoch r e) (right_by records.right_of change)) h

made_on : (e : ℕ) (now : ℤ) (n : ℕ) (r : Record) (commit : Result (Option (CommitPhase Record)) SlateDBError) → record_put (Some (changes.GiveEpoch e)) now n r ≡ commit → GoesEpoch e (change_goes now n r commit)
made_on e now n r (Ok (Some commit)) is = give_puts e now n r commit is
made_on e now n r (Ok None) is = tt
made_on e now n r (Err error) is = tt

read_epoch : (e : ℕ) (now : ℤ) (g : Reply Record) → GoesEpoch e (read_on (record_put (Some (changes.GiveEpoch e))) now g)
read_epoch e now (Stay phase) = tt
read_epoch e now (End phase (Ok None)) = tt
read_epoch e now (End phase (Ok (Some version))) = made_on e now version.0 version.1 (record_put (Some (changes.GiveEpoch e)) now version.0 version.1) refl
read_epoch e now (End phase (Err error)) = tt

goes_epoch : (e : ℕ) (now : ℤ) (work : LogWork Record) (answer : StoreAnswer) → WorkEpoch e work → GoesEpoch e (work_goes logs.Compactions decoded_record (record_put (Some (changes.GiveEpoch e))) now work answer)
goes_epoch e now (Reading phase) answer h = read_epoch e now (read_goes logs.Compactions decoded_record phase answer)
goes_epoch e now (Committing made phase) answer h = committed_on e made (commit_goes phase answer) (commit_epoch phase answer e h)

-- ---- what an open knows

-- by its step on the record: what gives the epoch puts a record that has it, and before the reset a committed record has it
abbrev pub StepKnows : Chains → List ℕ → OpenStep → ℕ → LogWork Record → Type 0
StepKnows chains db Give e work = WorkEpoch e work
StepKnows chains db Begin e work = Unit {0}
StepKnows chains db GiveFirst e work = WorkEpoch e work
StepKnows chains db Reset e work = Given chains db e

-- once the epoch was raised, a committed manifest has it
abbrev pub OpenKnows : Chains → List ℕ → OpenPhase → Type 0
OpenKnows chains db (Raising p) = Unit {0}
OpenKnows chains db (OnRecord step m p) = Raised chains db m.1.compactor_epoch × StepKnows chains db step m.1.compactor_epoch p.work
OpenKnows chains db Over = Unit {0}

-- so do chains that keep their versions
module _ (chains chains' : Chains) (db : List ℕ) (manifests_kept : (n : ℕ) (l : _) → link_at n (chains logs.Manifest db) ≡ Some l → link_at n (chains' logs.Manifest db) ≡ Some l)
    (records_kept : (n : ℕ) (l : _) → link_at n (chains logs.Compactions db) ≡ Some l → link_at n (chains' logs.Compactions db) ≡ Some l) where
  pub kept_raised : (e : ℕ) → Raised chains db e → Raised chains' db e
  kept_raised e h = kept_epoch (epoch_of Compactor) e (chains logs.Manifest db) (chains' logs.Manifest db) manifests_kept h

  pub kept_given : (e : ℕ) → Given chains db e → Given chains' db e
  kept_given e h = kept_epoch record_epoch e (chains logs.Compactions db) (chains' logs.Compactions db) records_kept h

  kept_step : (step : OpenStep) (e : ℕ) (work : LogWork Record) → StepKnows chains db step e work → StepKnows chains' db step e work
  kept_step Reset e work h = kept_given e h
  kept_step _ e work h = h

  pub kept_open : (phase : OpenPhase) → OpenKnows chains db phase → OpenKnows chains' db phase
  kept_open (Raising p) h = h
  kept_open (OnRecord step m p) h = (kept_raised m.1.compactor_epoch h.0, kept_step step m.1.compactor_epoch p.work h.1)
  kept_open Over h = h

-- ---- what a step brings

module _ (db : List ℕ) (s : Store) (chains : Chains) (n : ℕ) where
  -- with its end both logs have the epoch
  abbrev pub OpenBrings : OpenGoes → Type 0
  OpenBrings (Stay phase) = PhraseKnows s chains n (open_phrase db phase) × (FitsOpen phase × OpenKnows chains db phase)
  OpenBrings (End phase (Ok compactor)) = Raised chains db compactor.epoch × Given chains db compactor.epoch
  OpenBrings (End phase (Err e)) = Unit {0}

  raised_brings : (o : Option (ℕ × Manifest)) → IsHeld db s chains n logs.Manifest o → OpenBrings (raised o)
  raised_brings None h = tt
  raised_brings (Some m) h = (tt, (refl, (record { number = m.0; value = m.1; committed = h; same = refl }, tt)))

  raising_brings : (p : ManifestChanging) → p.change ≡ Some RaiseCompactor → (g : WorkGoes Manifest) → ManifestBrings db s chains n p.change g → OpenBrings (raising p g)
  raising_brings p fits (Stay work) b = (b, (fits, tt))
  raising_brings p fits (End work (Ok end)) b = raised_brings (manifest_in end) (manifest_held db s chains n p.change end b)
  raising_brings p fits (End work (Err e)) b = tt

  module _ (i : IsSound (log_of logs.Compactions) db s (chains logs.Compactions db)) (m : ℕ × Manifest) (raises : Raised chains db m.1.compactor_epoch) where
    abbrev epoch : ℕ
    epoch = m.1.compactor_epoch

    -- a change of a committed record that is put next
    next_brings : (step : OpenStep) (change : RecordChange) → Some change ≡ open_change step epoch → ((p : RecordChanging) → p.change ≡ Some change → (now : ℤ) (v : ℕ × Record) → IsBegun change now (record_put (Some change) now v.0 v.1) p → StepKnows chains db step epoch p.work)
        → (now : ℤ) (v : ℕ × Record) → IsValue (chains logs.Compactions db) v.0 v.1 → (r : Result RecordChanging SlateDBError) → put_of change now v ≡ r → OpenBrings (puts step m r)
    next_brings step change fits gives now v value (Ok p) is =
        let k = put_knows logs.Compactions db s chains n i record_puts record_put (record_makes n) change now v value p is in
        (k.0, (k.1 ∙ fits, (raises, gives p k.1 now v (is_begun change now (record_put (Some change) now v.0 v.1) p is))))
    next_brings step change fits gives now v value (Err e) is = tt

    reset_brings : Given chains db epoch → (now : ℤ) (v : ℕ × Record) → IsValue (chains logs.Compactions db) v.0 v.1 → OpenBrings (puts Reset m (put_of (changes.Reset epoch) now v))
    reset_brings given now v value = next_brings Reset (changes.Reset epoch) refl (λ p is at w b. given) now v value (put_of (changes.Reset epoch) now v) refl

    give_brings : (now : ℤ) (v : ℕ × Record) → IsValue (chains logs.Compactions db) v.0 v.1 → OpenBrings (puts GiveFirst m (put_of (changes.GiveEpoch epoch) now v))
    give_brings now v value =
        next_brings GiveFirst (changes.GiveEpoch epoch) refl
        (λ p is at w b. subst (λ (q : RecordChanging). WorkEpoch epoch q.work) b.is (give_puts epoch at w.0 w.1 b.commit b.made)) now v value (put_of (changes.GiveEpoch epoch) now v) refl

    -- the first record is made of none
    first_brings : (now : ℤ) (r : Result (List ℕ) SlateDBError) → record_encoded first_record ≡ r → OpenBrings (puts Begin m (first_of now (encoded_commit 1 first_record r)))
    first_brings now (Ok bytes) encodes = (record { small = omega arith; encodes = encodes; made = OfNone refl refl }, (refl, (raises, tt)))
    first_brings now (Err e) encodes = tt

    -- after the end of what gives the epoch
    given_of : (end : LogEnd Record) → EndKnows logs.Compactions db s chains n (record_puts (Some (changes.GiveEpoch epoch))) (record_put (Some (changes.GiveEpoch epoch))) end → EndEpoch epoch end
        → (step : OpenStep) → ((now : ℤ) (v : ℕ × Record) → with_version step m now v ≡ puts Reset m (put_of (changes.Reset epoch) now v)) → ((now : ℤ) → OpenBrings (without_version step m now))
        → (now : ℤ) → OpenBrings (after_record step m now (record_in end))
    given_of Absent h e step with_one without now = without now
    given_of (Unchanged k r) h e step with_one without now = absurd (give_always epoch h.1.0 k r h.1.1)
    given_of (Committed k r) h e step with_one without now =
        let v : ℕ × Record = (k, (log_of logs.Compactions).normal r) in
        subst OpenBrings (sym (with_one now v)) (reset_brings (record { number = v.0; value = v.1; committed = h; same = e }) now v h)

    after_first : (now : ℤ) (o : Option (ℕ × Record)) → IsHeld db s chains n logs.Compactions o → OpenBrings (after_record Begin m now o)
    after_first now None h = tt
    after_first now (Some v) h = give_brings now v h

    after_reset : Given chains db epoch → (now : ℤ) (o : Option (ℕ × Record)) → OpenBrings (after_record Reset m now o)
    after_reset given now None = tt
    after_reset given now (Some v) = (raises, given)

    -- a step of a change of the record
    on_record_brings : (step : OpenStep) (now : ℤ) (p : RecordChanging) → p.change ≡ open_change step epoch → StepKnows chains db step epoch p.work → (answer : StoreAnswer)
        → RecordBrings db s chains n p.change (work_goes logs.Compactions decoded_record (record_put p.change) now p.work answer)
        → OpenBrings (on_record step m now p (work_goes logs.Compactions decoded_record (record_put p.change) now p.work answer))
    on_record_brings step now p fits knows answer b =
        by_step step fits knows (work_goes logs.Compactions decoded_record (record_put p.change) now p.work answer) b
        (λ is h. subst (λ (c : Option RecordChange). GoesEpoch epoch (work_goes logs.Compactions decoded_record (record_put c) now p.work answer)) (sym is) (goes_epoch epoch now p.work answer h))
      where
        giving : (step : OpenStep) → ((now : ℤ) (v : ℕ × Record) → with_version step m now v ≡ puts Reset m (put_of (changes.Reset epoch) now v)) → ((now : ℤ) → OpenBrings (without_version step m now)) → ((work : LogWork Record) → WorkEpoch epoch work → StepKnows chains db step epoch work)
            → p.change ≡ open_change step epoch → p.change ≡ Some (changes.GiveEpoch epoch) → (g : WorkGoes Record) → RecordBrings db s chains n p.change g → GoesEpoch epoch g → OpenBrings (on_record step m now p g)
        giving step with_one without knows fits is (Stay work) b e = (b, (fits, (raises, knows work e)))
        giving step with_one without knows fits is (End work (Ok end)) b e =
            given_of end (subst (λ (c : Option RecordChange). EndKnows logs.Compactions db s chains n (record_puts c) (record_put c) end) is b) e step with_one without now
        giving step with_one without knows fits is (End work (Err error)) b e = tt

        by_step : (step : OpenStep) → p.change ≡ open_change step epoch → StepKnows chains db step epoch p.work → (g : WorkGoes Record) → RecordBrings db s chains n p.change g
            → (p.change ≡ Some (changes.GiveEpoch epoch) → WorkEpoch epoch p.work → GoesEpoch epoch g) → OpenBrings (on_record step m now p g)
        by_step Give fits knows g b e = giving Give (λ at v. refl) (λ at. first_brings at (record_encoded first_record) refl) (λ work h. h) fits fits g b (e fits knows)
        by_step GiveFirst fits knows g b e = giving GiveFirst (λ at v. refl) (λ at. tt) (λ work h. h) fits fits g b (e fits knows)
        by_step Begin fits knows (Stay work) b e = (b, (fits, (raises, tt)))
        by_step Begin fits knows (End work (Ok end)) b e = after_first now (record_in end) (record_held db s chains n p.change end b)
        by_step Begin fits knows (End work (Err error)) b e = tt
        by_step Reset fits knows (Stay work) b e = (b, (fits, (raises, knows)))
        by_step Reset fits knows (End work (Ok end)) b e = after_reset knows now (record_in end)
        by_step Reset fits knows (End work (Err error)) b e = tt

  -- a step of an open
  pub open_brings : IsSound (log_of logs.Manifest) db s (chains logs.Manifest db) → IsSound (log_of logs.Compactions) db s (chains logs.Compactions db) → (now : ℤ) (phase : OpenPhase) (answer : StoreAnswer) → FitsOpen phase → OpenKnows chains db phase
      → PhraseBrings s chains n (open_phrase db phase) now answer → OpenBrings (open_goes now phase answer)
  open_brings i j now (Raising p) answer fits knows b = raising_brings p fits (work_goes logs.Manifest decoded_manifest (manifest_put p.change) now p.work answer) (manifest_brings db s chains n i p now answer b)
  open_brings i j now (OnRecord step m p) answer fits knows b = on_record_brings j m knows.0 step now p fits knows.1 answer (record_brings db s chains n j p now answer b)
  open_brings i j now Over answer fits knows b = absurd fits
