-- A step of an open of a compactor: who raised the epoch, that it is above the one held before, and what the compactor holds at its end.
use Rattle.std.proofs.Common.{◌≡◌, ◌≢◌, ℕ, ℤ, ◌+◌, ◌<◌, ◌==◌, Bool, true, false, List, [], ◌∷◌, Option, Some, None, Result, Ok, Err, refl, sym, ap, ◌∙◌, subst, arith}
use Rattle.std.specs.Prelude.{if◌then◌else◌}
use Rattle.slate_ids.specs.Ids.{is_db_path}
use Rattle.slate_ids.specs.Limits.{last_number}
use Rattle.slate_ids.specs.declared.error.SlateDBError.{SlateDBError}
use Rattle.slate_ids.specs.declared.error.SlateDBError.TheVariants.{Exhausted}
use Rattle.slate_store.specs.Machines.{Stay, End}
use Rattle.slate_store.specs.Store.{Store, effect}
use Rattle.slate_store.specs.declared.mark.Mark.{Mark}
use Rattle.slate_txn_changes.specs.LogWorks.{WorkGoes, work_asks, work_goes}
use Rattle.slate_txn_changes.specs.declared.log_work.LogEnd.{LogEnd}
use Rattle.slate_txn_changes.specs.declared.log_work.LogEnd.TheVariants.{Absent, Unchanged, Committed}
use Rattle.slate_txn_changes.specs.declared.log_work.LogWork.{LogWork}
use Rattle.slate_txn_log.specs.Change.{some_commit, wanted}
use Rattle.slate_txn_log.specs.CommitPhase.{prepared}
use Rattle.slate_txn_log.specs.declared.commit_phase.CommitPhase.{CommitPhase}
use Rattle.slate_txn_log.specs.declared.log_kind.LogKind.{LogKind}
use Rattle.slate_txn_log.specs.declared.log_kind.LogKind.TheVariants as logs
use Rattle.slate_txn_log.specs.declared.right.Right.TheVariants.{Plain}
use Rattle.slate_layout.specs.Codec.{encoded}
use Rattle.slate_layout_encodable.specs.Normal.{normal_manifest}
use Rattle.slate_layout_manifests.specs.Decoding.{decoded_manifest}
use Rattle.slate_layout_records.specs.RecordBytes.{decoded_record}
use Rattle.slate_model.specs.declared.manifest.Manifest.{Manifest}
use Rattle.slate_model_records.specs.Records.{Record}
use Rattle.slate_state_calls.specs.Commits.{ManifestChanging, RecordChanging, committing, first_of, first_put, manifest_in, manifest_put, put_of, record_in, record_put}
use Rattle.slate_state_calls.specs.Compactors.{opened_with}
use Rattle.slate_state_calls.specs.Opening.{OpenGoes, after_record, on_record, open_asks, open_goes, puts, raised, raising}
use Rattle.slate_state_calls.specs.declared.compactor.Compactor.{Compactor}
use Rattle.slate_state_calls.specs.declared.open_phase.OpenPhase.{OpenPhase}
use Rattle.slate_state_calls.specs.declared.open_phase.OpenPhase.TheVariants as opening
use Rattle.slate_state_calls.specs.declared.open_phase.OpenStep.{OpenStep}
use Rattle.slate_state_calls.specs.declared.open_phase.OpenStep.TheVariants.{Give, Begin, GiveFirst, Reset}
use Rattle.slate_state_record_updates.specs.declared.record_change.RecordChange.{RecordChange}
use Rattle.slate_state_record_updates.specs.declared.record_change.RecordChange.TheVariants as changes
use Rattle.slate_state_updates.specs.Rules.{manifest_refusal}
use Rattle.slate_state_updates.specs.Writers.{epoch_of, with_epoch}
use Rattle.slate_state_updates.specs.declared.epochs.ManifestEpochs.TheVariants as epochs
use Rattle.slate_state_updates.specs.declared.manifest_change.ManifestChange.{ManifestChange}
use Rattle.slate_state_updates.specs.declared.manifest_change.ManifestChange.TheVariants.{RaiseCompactor}
use Rattle.slate_cluster_protocol.specs.Chains.{Link, link_at, top, IsChain, Changed}
use Rattle.slate_cluster_protocol.specs.Holding.{AtMostTop, FitsOpen, IsPutBy}
use Rattle.slate_cluster_protocol.specs.Logs.{Author, Chain, Chains, OfManifest, log_of, manifest_phrase, manifest_puts, manifests, open_phrase, put_by, record_phrase}
use Rattle.slate_cluster_chain_laws.specs.Locals.{CompactedStay, IsHeldIn, ObeyOutputs}
use Rattle.slate_cluster_chain_laws.specs.Raises.{HasRaised}
use Rattle.slate_cluster_chain_laws.proofs.Links.{link_here}
use Rattle.slate_cluster_chain_laws.proofs.Locals.{opened_held}
use Rattle.slate_cluster_chain_laws.proofs.Raises.{raise_adds}
use Rattle.slate_cluster_laws.proofs.Changing.{manifest_makes}
use Rattle.slate_cluster_laws.proofs.Facts.{IsSound}
use Rattle.slate_cluster_laws.proofs.Steps.{PhraseBrings, PhraseKnows, author_in, author_of}
use Rattle.slate_cluster_laws.proofs.Stores.{IsTidy}
use Rattle.slate_cluster_compactor_laws.proofs.Greatest.{OnTop}
use Rattle.slate_cluster_compactor_laws.proofs.Held.{Any, CompactorHas, IsAbove, IsLater, OpenHas, Recent, StepHas}
use Rattle.slate_cluster_compactor_laws.proofs.Others.{Turned}
use Rattle.slate_cluster_compactor_laws.proofs.OwnChains.{OnEnd, RecordGoes, begun_has, on_end, own_raised, record_has}
use Rattle.slate_cluster_compactor_laws.proofs.Works.{GoesHas, WorkHas, goes_has}

-- ---- a raise always puts a manifest

not_none : (r : Result (CommitPhase Manifest) SlateDBError) → some_commit r ≢ Ok None
not_none (Ok commit) h = cc h
not_none (Err e) h = cc h

raises_some : (at : ℤ) (j : ℕ) (m : Manifest) → manifest_put (Some RaiseCompactor) at j m ≢ Ok None
raises_some at j m h = by (m.compactor_epoch == last_number) h
  where
    by : (b : Bool) → wanted (λ (new : Manifest). prepared manifest_refusal encoded j m new Plain) (if b then Err (Exhausted m.compactor_epoch) else Ok (Some (with_epoch epochs.Compactor m (m.compactor_epoch + 1)))) ≡ Ok None → ⊥
    by true h = cc h
    by false h = not_none (prepared manifest_refusal encoded j m (with_epoch epochs.Compactor m (m.compactor_epoch + 1)) Plain) h

-- what is held is below what was raised above its greatest manifest
above_held : (o : Option Compactor) (x : ℕ) → ((c : Compactor) → o ≡ Some c → c.epoch < x) → IsAbove o x
above_held None x h = tt
above_held (Some c) x h = h c refl

module _ (db : List ℕ) (named : is_db_path db ≡ true) (s : Store) (tidy : IsTidy s.objects) (chains : Chains) (s' : Store) (chains' : Chains) (n : ℕ) (author : Author)
    (sound : (k : LogKind) → IsSound (log_of k) db s (chains k db)) (t : Turned (λ (a : Author). a ≡ author) s chains s' chains' db)
    (obey : (j : ℕ) (l : Link Record Author) → link_at j (chains' logs.Compactions db) ≡ Some l → ObeyOutputs l.value.entries) (o : Option Compactor) (mark : Mark) (moment : ℤ) where
  abbrev pub OpenTo : OpenGoes → Type 0
  OpenTo (Stay phase) = OpenHas s' chains' n db o phase
  OpenTo (End phase (Ok c)) = CompactorHas chains' n db c
  OpenTo (End phase (Err e)) = Unit {0}

  -- ---- of the manifest

  module _ (p : ManifestChanging) (fits : p.change ≡ Some RaiseCompactor) (held : (c : Compactor) → o ≡ Some c → AtMostTop (epoch_of epochs.Compactor) c.epoch (chains logs.Manifest db)) where
    raise_puts : manifest_puts p.change ≡ OfManifest RaiseCompactor
    raise_puts = ap manifest_puts fits

    -- a raise that joins the chain is above all that was there
    joins_above : (l : Link Manifest Author) (made : ℤ) (c : Chain logs.Manifest) → IsChain manifests (l ∷ c) → l.by ≡ Some (author_of n (manifest_puts p.change) made) → (x : ℕ) → AtMostTop (epoch_of epochs.Compactor) x c
        → x < l.value.compactor_epoch
    joins_above l made [] h by x most = absurd most
    joins_above l made (old ∷ c) h by x most =
        let same : h.0.author ≡ author_of n (manifest_puts p.change) made = cc (h.0.by, by) in
        let adds = raise_adds old l h.0 (ap (λ (a : Author). a.puts) same ∙ raise_puts) in
        omega (arith, most, adds)

    joins_later : (made : ℤ) (j : ℕ) (l : Link Manifest Author) → chains' logs.Manifest db ≡ l ∷ chains logs.Manifest db → l.by ≡ Some (author_of n (manifest_puts p.change) made) → l.number ≡ j → IsLater (chains' logs.Manifest db) o j
    joins_later made j l grown by number = record {
      link = l;
      at = ap (λ (d : Chain logs.Manifest). link_at j d) grown ∙ link_here j l (chains logs.Manifest db) number;
      above = above_held o l.value.compactor_epoch (λ c is. joins_above l made (chains logs.Manifest db) (subst (IsChain manifests) grown (t.chain_after logs.Manifest)) by c.epoch (held c is));
    }

    still_later : (j : ℕ) → IsLater (chains logs.Manifest db) o j → IsLater (chains' logs.Manifest db) o j
    still_later j h = record { link = h.link; at = (t.grows logs.Manifest).kept j h.link h.at; above = h.above }

    abbrev RaiseGoes : WorkGoes Manifest → Type 0
    RaiseGoes g = GoesHas logs.Manifest db s' chains' Any (IsLater (chains' logs.Manifest db) o) n (manifest_puts p.change) (manifest_put p.change) g

    raise_has : author ≡ author_in n (manifest_phrase db p) → (put_by n (manifest_phrase db p) ≡ None → chains' logs.Manifest db ≡ chains logs.Manifest db) → PhraseKnows s chains n (manifest_phrase db p)
        → WorkHas logs.Manifest db s Any (IsLater (chains logs.Manifest db) o) p.work → PhraseBrings s' chains' n (manifest_phrase db p) moment (effect mark (work_asks db logs.Manifest p.work) moment s).answer
        → RaiseGoes (work_goes logs.Manifest decoded_manifest (manifest_put p.change) moment p.work (effect mark (work_asks db logs.Manifest p.work) moment s).answer)
    raise_has is still knows h brings =
        goes_has logs.Manifest db named s tidy chains (sound logs.Manifest) s' chains' (t.grows logs.Manifest) Any (IsLater (chains logs.Manifest db) o) Any (IsLater (chains' logs.Manifest db) o) (λ same j at. tt) (λ same j h. h) (λ same. still_later)
        n (manifest_puts p.change) (manifest_put p.change) (manifest_makes n p.change) joins_later p.work still mark moment knows h
        (subst (λ (a : Author). Changed (λ (b : Author). b ≡ a) (chains logs.Manifest db) (chains' logs.Manifest db)) is (t.changed logs.Manifest)) brings

    raise_put : (j : ℕ) (v : Manifest) (at : ℤ) → IsPutBy manifests (chains' logs.Manifest db) (author_of n (manifest_puts p.change) at) j v → IsLater (chains' logs.Manifest db) o j → OpenTo (raised (Some (j, normal_manifest v)))
    raise_put j v at put later =
        let epoch : put.link.value.compactor_epoch ≡ v.compactor_epoch = ap (λ (m : Manifest). m.compactor_epoch) put.value in
        let one : later.link ≡ put.link = cc (later.at, put.at) in
        record {
          raised = record { number = j; link = put.link; at = put.at; author = author_of n (manifest_puts p.change) at; by = put.by; party = refl; puts = raise_puts; epoch = epoch };
          above = subst (IsAbove o) (ap (λ (l : Link Manifest Author). l.value.compactor_epoch) one ∙ epoch) later.above;
          reads = tt;
        }

    raise_ends : (work : LogWork Manifest) (end : LogEnd Manifest) → RaiseGoes (End work (Ok end)) → OpenTo (raised (manifest_in end))
    raise_ends work Absent h = tt
    raise_ends work (Unchanged j v) h = absurd (raises_some h.1.1.0 j v (ap (λ (c : Option ManifestChange). manifest_put c h.1.1.0 j v) (sym fits) ∙ h.1.1.1))
    raise_ends work (Committed j v) h = raise_put j v h.1.0 h.1.1 h.0

    raise_to : (g : WorkGoes Manifest) → RaiseGoes g → OpenTo (raising p g)
    raise_to (Stay work) h = h
    raise_to (End work (Ok end)) h = raise_ends work end h
    raise_to (End work (Err e)) h = tt

  -- ---- of the record

  module _ (m : ℕ × Manifest) (mine : HasRaised (chains logs.Manifest db) n m.1.compactor_epoch) (above : IsAbove o m.1.compactor_epoch) where
    abbrev epoch : ℕ
    epoch = m.1.compactor_epoch

    mine_after : HasRaised (chains' logs.Manifest db) n epoch
    mine_after = own_raised db named s tidy chains s' chains' n author sound t epoch mine

    opens_on : (step : OpenStep) (p : RecordChanging) → StepHas s' chains' db step epoch p.work → OpenTo (Stay (opening.OnRecord step m p))
    opens_on step p h = record { raised = mine_after; above = above; reads = h }

    -- a change that is put next
    puts_next : (step : OpenStep) (change : RecordChange) (now : ℤ) (v : ℕ × Record) → ((p : RecordChanging) → put_of change now v ≡ Ok p → StepHas s' chains' db step epoch p.work) → (r : Result RecordChanging SlateDBError)
        → put_of change now v ≡ r → OpenTo (puts step m r)
    puts_next step change now v has (Ok p) is = opens_on step p (has p is)
    puts_next step change now v has (Err e) is = tt

    reset_next : (now : ℤ) (v : ℕ × Record) → OpenTo (puts Reset m (put_of (changes.Reset epoch) now v))
    reset_next now v = puts_next Reset (changes.Reset epoch) now v (λ p is. begun_has db s' (Recent chains' db epoch) (Recent chains' db epoch) n (changes.Reset epoch) now v p is) (put_of (changes.Reset epoch) now v) refl

    give_next : (now : ℤ) (v : ℕ × Record) → OpenTo (puts GiveFirst m (put_of (changes.GiveEpoch epoch) now v))
    give_next now v = puts_next GiveFirst (changes.GiveEpoch epoch) now v (λ p is. tt) (put_of (changes.GiveEpoch epoch) now v) refl

    first_next : (now : ℤ) (r : Result (CommitPhase Record) SlateDBError) → OpenTo (puts Begin m (first_of now r))
    first_next now (Ok commit) = opens_on Begin (committing None now commit) tt
    first_next now (Err e) = tt

    -- what the compactor holds of the record that it committed last
    held_on_top : (r : Record) (c : Chain logs.Compactions) → OnTop (CompactedStay r) c → OnTop (λ x. IsHeldIn x (opened_with m (0, r)).local) c
    held_on_top r [] h = tt
    held_on_top r (l ∷ c) h = opened_held m.1.core r l.value h

    module _ (p : RecordChanging) where
      -- of a step before the reset nothing else is known
      before_reset : (step : OpenStep) → (step ≢ Reset) → (work : LogWork Record) → StepHas s' chains' db step epoch work
      before_reset Give ne work = tt
      before_reset Begin ne work = tt
      before_reset GiveFirst ne work = tt
      before_reset Reset ne work = absurd (ne refl)

      gives : (step : OpenStep) → step ≢ Reset → (now : ℤ) (v : Option (ℕ × Record)) → OpenTo (after_record step m now v)
      gives Give ne now None = first_next now first_put
      gives Give ne now (Some v) = reset_next now v
      gives Begin ne now None = tt
      gives Begin ne now (Some v) = give_next now v
      gives GiveFirst ne now None = tt
      gives GiveFirst ne now (Some v) = reset_next now v
      gives Reset ne now v = absurd (ne refl)

      give_to : (step : OpenStep) → step ≢ Reset → (g : WorkGoes Record) → OpenTo (on_record step m moment p g)
      give_to step ne (Stay work) = opens_on step (record p { work = work }) (before_reset step ne work)
      give_to step ne (End work (Ok end)) = gives step ne moment (record_in end)
      give_to step ne (End work (Err e)) = tt

      abbrev Ends : Option (ℕ × Record) → Type 0
      Ends v = OnEnd db named s tidy chains s' chains' n author sound t p epoch mine obey v

      resets : (v : Option (ℕ × Record)) → Ends v → OpenTo (after_record Reset m moment v)
      resets None h = tt
      resets (Some v) h = record { raised = mine_after; held = λ top. held_on_top v.1 (chains' logs.Compactions db) (h.stays top); outputs = h.outputs }

      reset_to : (g : WorkGoes Record) → RecordGoes db named s tidy chains s' chains' n author sound t p epoch mine g → OpenTo (on_record Reset m moment p g)
      reset_to (Stay work) h = opens_on Reset (record p { work = work }) h
      reset_to (End work (Ok end)) h = resets (record_in end) (on_end db named s tidy chains s' chains' n author sound t p epoch mine obey work end h)
      reset_to (End work (Err e)) h = tt

      on_record_to : (step : OpenStep) → author ≡ author_in n (record_phrase db p) → (put_by n (record_phrase db p) ≡ None → chains' logs.Compactions db ≡ chains logs.Compactions db) → PhraseKnows s chains n (record_phrase db p)
          → StepHas s chains db step epoch p.work → PhraseBrings s' chains' n (record_phrase db p) moment (effect mark (work_asks db logs.Compactions p.work) moment s).answer
          → OpenTo (on_record step m moment p (work_goes logs.Compactions decoded_record (record_put p.change) moment p.work (effect mark (work_asks db logs.Compactions p.work) moment s).answer))
      on_record_to Give is still knows h brings = give_to Give (λ e. cc e) _
      on_record_to Begin is still knows h brings = give_to Begin (λ e. cc e) _
      on_record_to GiveFirst is still knows h brings = give_to GiveFirst (λ e. cc e) _
      on_record_to Reset is still knows h brings =
          reset_to (work_goes logs.Compactions decoded_record (record_put p.change) moment p.work (effect mark (work_asks db logs.Compactions p.work) moment s).answer)
          (record_has db named s tidy chains s' chains' n author sound t p epoch mine is still mark moment knows h brings)

  -- ---- of both

  pub open_to : (phase : OpenPhase) → FitsOpen phase → ((c : Compactor) → o ≡ Some c → AtMostTop (epoch_of epochs.Compactor) c.epoch (chains logs.Manifest db)) → author ≡ author_in n (open_phrase db phase)
      → ((k : LogKind) → put_by n (open_phrase db phase) ≡ None → chains' k db ≡ chains k db) → PhraseKnows s chains n (open_phrase db phase) → OpenHas s chains n db o phase
      → PhraseBrings s' chains' n (open_phrase db phase) moment (effect mark (open_asks db phase) moment s).answer → OpenTo (open_goes moment phase (effect mark (open_asks db phase) moment s).answer)
  open_to (opening.Raising p) fits held is still knows h brings =
      raise_to p fits held (work_goes logs.Manifest decoded_manifest (manifest_put p.change) moment p.work (effect mark (work_asks db logs.Manifest p.work) moment s).answer) (raise_has p fits held is (still logs.Manifest) knows h brings)
  open_to (opening.OnRecord step m p) fits held is still knows h brings = on_record_to m h.raised h.above p step is (still logs.Compactions) knows h.reads brings
  open_to opening.Over fits held is still knows h brings = absurd fits
