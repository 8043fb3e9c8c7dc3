-- A step of a party that compacts: what it leaves of what the party holds of the chains, and what the end of a change of the record brings.
use Rattle.std.proofs.Common.{◌≡◌, ℕ, ℤ, ◌<◌, true, List, ◌∷◌, Option, Some, None, Ok, refl, sym, subst}
use Rattle.slate_ids.specs.Ids.{is_db_path}
use Rattle.slate_store.specs.Machines.{End}
use Rattle.slate_store.specs.Store.{Store, effect}
use Rattle.slate_store.specs.declared.mark.Mark.{Mark}
use Rattle.slate_txn_changes.specs.LogWorks.{WorkGoes, work_asks, work_goes}
use Rattle.slate_txn_changes.specs.declared.log_work.LogEnd.{LogEnd}
use Rattle.slate_txn_changes.specs.declared.log_work.LogEnd.TheVariants.{Absent, Unchanged, Committed}
use Rattle.slate_txn_changes.specs.declared.log_work.LogWork.{LogWork}
use Rattle.slate_txn_log.specs.declared.commit_phase.CommitPhase.{CommitPhase}
use Rattle.slate_txn_log.specs.declared.log_kind.LogKind.{LogKind}
use Rattle.slate_txn_log.specs.declared.log_kind.LogKind.TheVariants as logs
use Rattle.slate_layout_records.specs.RecordBytes.{decoded_record}
use Rattle.slate_layout_records.specs.RecordNormal.{normal_record}
use Rattle.slate_model_records.specs.Records.{Record}
use Rattle.slate_state_calls.specs.Commits.{RecordChanging, put_of, record_in, record_put}
use Rattle.slate_state_calls.specs.declared.compactor.Compactor.{Compactor}
use Rattle.slate_state_compactor.specs.declared.local_state.LocalState.{LocalState}
use Rattle.slate_state_record_updates.specs.RecordEpochs.{record_epoch}
use Rattle.slate_state_record_updates.specs.declared.record_change.RecordChange.{RecordChange}
use Rattle.slate_cluster_protocol.specs.Chains.{Link, link_at, top, Changed}
use Rattle.slate_cluster_protocol.specs.Holding.{AtMostTop}
use Rattle.slate_cluster_protocol.specs.Logs.{Author, Chain, Chains, log_of, put_by, record_phrase, record_puts}
use Rattle.slate_cluster_chain_laws.specs.Locals.{CompactedStay, IsHeldIn, ObeyOutputs}
use Rattle.slate_cluster_chain_laws.specs.Raises.{HasRaised}
use Rattle.slate_cluster_chain_laws.proofs.Locals.{stay_on}
use Rattle.slate_cluster_laws.proofs.Calls.{Holds}
use Rattle.slate_cluster_laws.proofs.Changing.{is_begun, record_makes}
use Rattle.slate_cluster_laws.proofs.Facts.{IsSound}
use Rattle.slate_cluster_laws.proofs.Opens.{Given}
use Rattle.slate_cluster_laws.proofs.Steps.{PhraseBrings, PhraseKnows, author_in, author_of}
use Rattle.slate_cluster_laws.proofs.Stores.{IsTidy}
use Rattle.slate_cluster_compactor_laws.specs.Pending.{IsTopEpoch}
use Rattle.slate_cluster_compactor_laws.proofs.Greatest.{IsGentle, IsQuiet, IsRecent, OnTop, compacted_next, epoch_back, given_most, held_next, listed_recent, raised_kept, raised_most, top_next, top_recent}
use Rattle.slate_cluster_compactor_laws.proofs.Held.{CompactorHas, OfCompactor, Recent}
use Rattle.slate_cluster_compactor_laws.proofs.Others.{Turned}
use Rattle.slate_cluster_compactor_laws.proofs.Works.{CommitHas, GoesHas, WorkHas, goes_has}

-- a record of a change that is put at once has its put due
pub begun_has : (db : List ℕ) (s : Store) (P Q : ℕ → Type 0) (n : ℕ) (change : RecordChange) (now : ℤ) (v : ℕ × Record) (p : RecordChanging) → put_of change now v ≡ Ok p → WorkHas logs.Compactions db s P Q p.work
begun_has db s P Q n change now v p is =
    let b = is_begun change now (record_put (Some change) now v.0 v.1) p is in
    let put = (record_makes n (Some change) now v.0 v.1 b.commit b.made).prepared.is in
    subst (λ (q : RecordChanging). WorkHas logs.Compactions db s P Q q.work) b.is (subst (λ (x : CommitPhase Record). CommitHas (log_of logs.Compactions) db s Q x) (sym put) tt)

module _ (db : List ℕ) (named : is_db_path db ≡ true) (s : Store) (tidy : IsTidy s.objects) (chains : Chains) (s' : Store) (chains' : Chains) (n : ℕ) (author : Author)
    (sound : (k : LogKind) → IsSound (log_of k) db s (chains k db)) (t : Turned (λ (a : Author). a ≡ author) s chains s' chains' db) where
  pub own_raised : (e : ℕ) → HasRaised (chains logs.Manifest db) n e → HasRaised (chains' logs.Manifest db) n e
  own_raised e h = raised_kept (chains logs.Manifest db) (chains' logs.Manifest db) (t.grows logs.Manifest).kept n e h

  -- ---- what a compactor holds

  module _ (e : ℕ) (mine : HasRaised (chains logs.Manifest db) n e) where
    own_back : IsTopEpoch e (chains' logs.Manifest db) → IsTopEpoch e (chains logs.Manifest db)
    own_back top =
        epoch_back (chains logs.Manifest db) (chains' logs.Manifest db) (t.chain_after logs.Manifest) (t.grows logs.Manifest).kept e
        (raised_most (chains logs.Manifest db) (t.chain logs.Manifest) n e mine) top

    module _ (given : Given chains db e) where
      own_most : AtMostTop record_epoch e (chains logs.Compactions db)
      own_most = given_most (chains logs.Compactions db) (t.chain logs.Compactions) e given

      own_held : (local : LocalState) → (IsTopEpoch e (chains' logs.Manifest db) → (old : Record) → IsGentle local author.puts old) → (IsTopEpoch e (chains logs.Manifest db) → OnTop (λ r. IsHeldIn r local) (chains logs.Compactions db))
          → IsTopEpoch e (chains' logs.Manifest db) → OnTop (λ r. IsHeldIn r local) (chains' logs.Compactions db)
      own_held local gentle h top =
          top_next (λ r. IsHeldIn r local) (λ (a : Author). a ≡ author) (chains logs.Compactions db) (chains' logs.Compactions db) (t.chain_after logs.Compactions) (t.changed logs.Compactions)
          (λ old new rest a first grown by is keeps held. held_next local a.puts old.value new.value keeps (subst (λ (x : Author). IsGentle local x.puts old.value) (sym is) (gentle top old.value)) held)
          e own_most (h (own_back top))

      pub own_stays : (r : Record) → ((old : Record) → IsQuiet author.puts old) → (IsTopEpoch e (chains logs.Manifest db) → OnTop (CompactedStay r) (chains logs.Compactions db)) → IsTopEpoch e (chains' logs.Manifest db)
          → OnTop (CompactedStay r) (chains' logs.Compactions db)
      own_stays r quiet h top =
          top_next (CompactedStay r) (λ (a : Author). a ≡ author) (chains logs.Compactions db) (chains' logs.Compactions db) (t.chain_after logs.Compactions) (t.changed logs.Compactions)
          (λ old new rest a first grown by is keeps stay. stay_on r old.value new.value stay (compacted_next a.puts old.value new.value keeps (subst (λ (x : Author). IsQuiet x.puts old.value) (sym is) (quiet old.value)).ends))
          e own_most (h (own_back top))

  pub own_compactor : (c : Compactor) → Holds chains db (Some c) → (IsTopEpoch c.epoch (chains' logs.Manifest db) → (old : Record) → IsGentle c.local author.puts old) → CompactorHas chains n db c → CompactorHas chains' n db c
  own_compactor c holds gentle h = record { raised = own_raised c.epoch h.raised; held = own_held c.epoch h.raised holds.1 c.local gentle h.held; outputs = h.outputs }

  pub own_compactors : (o : Option Compactor) → Holds chains db o → ((c : Compactor) → o ≡ Some c → IsTopEpoch c.epoch (chains' logs.Manifest db) → (old : Record) → IsGentle c.local author.puts old) → OfCompactor chains n db o
      → OfCompactor chains' n db o
  own_compactors None holds gentle h = tt
  own_compactors (Some c) holds gentle h = own_compactor c holds (gentle c refl) h

  -- ---- a change of the record

  module _ (p : RecordChanging) (e : ℕ) (mine : HasRaised (chains logs.Manifest db) n e) where
    listed_is : chains' logs.Compactions db ≡ chains logs.Compactions db → (j : ℕ) → (0 < top (chains logs.Compactions db) → j ≡ top (chains logs.Compactions db)) → Recent chains' db e j
    listed_is same j at = λ top. subst (λ (d : Chain logs.Compactions). IsRecent d j) (sym same) (listed_recent (chains logs.Compactions db) (t.chain logs.Compactions) j at)

    kept_is : chains' logs.Compactions db ≡ chains logs.Compactions db → (j : ℕ) → Recent chains db e j → Recent chains' db e j
    kept_is same j h = λ top. subst (λ (d : Chain logs.Compactions). IsRecent d j) (sym same) (h (own_back e mine top))

    new_is : (made : ℤ) (j : ℕ) (l : Link Record Author) → chains' logs.Compactions db ≡ l ∷ chains logs.Compactions db → l.by ≡ Some (author_of n (record_puts p.change) made) → l.number ≡ j → Recent chains' db e j
    new_is made j l grown by number = λ top. subst (λ (d : Chain logs.Compactions). IsRecent d j) (sym grown) (top_recent l (chains logs.Compactions db) j number)

    abbrev pub RecordGoes : WorkGoes Record → Type 0
    RecordGoes g = GoesHas logs.Compactions db s' chains' (Recent chains' db e) (Recent chains' db e) n (record_puts p.change) (record_put p.change) g

    pub record_has : author ≡ author_in n (record_phrase db p) → (put_by n (record_phrase db p) ≡ None → chains' logs.Compactions db ≡ chains logs.Compactions db) → (mark : Mark) (moment : ℤ) → PhraseKnows s chains n (record_phrase db p)
        → WorkHas logs.Compactions db s (Recent chains db e) (Recent chains db e) p.work → PhraseBrings s' chains' n (record_phrase db p) moment (effect mark (work_asks db logs.Compactions p.work) moment s).answer
        → RecordGoes (work_goes logs.Compactions decoded_record (record_put p.change) moment p.work (effect mark (work_asks db logs.Compactions p.work) moment s).answer)
    record_has is still mark moment knows h brings =
        goes_has logs.Compactions db named s tidy chains (sound logs.Compactions) s' chains' (t.grows logs.Compactions) (Recent chains db e) (Recent chains db e) (Recent chains' db e) (Recent chains' db e) listed_is kept_is kept_is
        n (record_puts p.change) (record_put p.change) (record_makes n p.change) new_is p.work still mark moment knows h
        (subst (λ (a : Author). Changed (λ (b : Author). b ≡ a) (chains logs.Compactions db) (chains' logs.Compactions db)) is (t.changed logs.Compactions)) brings

    -- the record with which it ended: what is Compacted there is so in the greatest one, and it obeys the rule on outputs
    module _ (obey : (j : ℕ) (l : Link Record Author) → link_at j (chains' logs.Compactions db) ≡ Some l → ObeyOutputs l.value.entries) where
      pub record EndsWith (v : ℕ × Record) : Type 0 where
        pub stays : IsTopEpoch e (chains' logs.Manifest db) → OnTop (CompactedStay v.1) (chains' logs.Compactions db)
        pub outputs : ObeyOutputs v.1.entries

      by_link : (j : ℕ) (r : Record) (l : Link Record Author) → link_at j (chains' logs.Compactions db) ≡ Some l → l.value ≡ r → Recent chains' db e j → EndsWith (j, r)
      by_link j r l at value recent = record {
        stays = λ top. subst (λ (x : Record). OnTop (CompactedStay x) (chains' logs.Compactions db)) value (recent top l at);
        outputs = subst (λ (x : Record). ObeyOutputs x.entries) value (obey j l at);
      }

      abbrev pub OnEnd : Option (ℕ × Record) → Type 0
      OnEnd None = Unit {0}
      OnEnd (Some v) = EndsWith v

      pub on_end : (work : LogWork Record) (end : LogEnd Record) → RecordGoes (End work (Ok end)) → OnEnd (record_in end)
      on_end work Absent h = tt
      on_end work (Unchanged j r) h = by_link j r h.1.0.link h.1.0.at h.1.0.value h.0
      on_end work (Committed j r) h = by_link j (normal_record r) h.1.1.link h.1.1.at h.1.1.value h.0
