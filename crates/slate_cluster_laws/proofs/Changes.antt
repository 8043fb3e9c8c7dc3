-- What an event changes of the chains.
use Rattle.std.proofs.Common.{◌≡◌, ℕ, ℤ, Bool, true, List, Option, Some, None, is_some, refl, sym, ap, ◌∙◌, subst}
use Rattle.slate_ids.specs.Ids.{is_db_path}
use Rattle.slate_ids.specs.declared.object_path.ObjectPath.{ObjectPath}
use Rattle.slate_store.specs.Store.{Store, object_at, stands_at, put_new, under, taken, effect}
use Rattle.slate_store.specs.declared.mark.Mark.{Mark}
use Rattle.slate_store.specs.declared.mark.Mark.TheVariants.{Good, Fail, Lost}
use Rattle.slate_store.specs.declared.object.StoredObject.{StoredObject}
use Rattle.slate_store.specs.declared.store_call.StoreCall.{StoreCall}
use Rattle.slate_store.specs.declared.store_call.StoreCall.TheVariants.{PutNew}
use Rattle.slate_script_events.specs.declared.event.Event.{Event}
use Rattle.slate_script_events.specs.declared.event.Event.TheVariants.{Open, Start, Step, Stop}
use Rattle.slate_cluster_protocol.specs.ByRows.{party_in}
use Rattle.slate_cluster_protocol.specs.Chains.{Link, Changed, with_link}
use Rattle.slate_cluster_protocol.specs.Chains.Changed.{Stays, Gets}
use Rattle.slate_cluster_protocol.specs.Logs.{Author, Held, Puts, Chain, Chains, Phrase, Commits, log_of, phrase_of, put_by, chains_put, chains_stepped, chains_state, chains_at, chains_after}
use Rattle.slate_cluster_protocol.specs.Works.{asks}
use Rattle.slate_txn_log.specs.declared.commit_phase.CommitPhase.TheVariants.{Putting}
use Rattle.slate_txn_log.specs.declared.log_kind.LogKind.{LogKind}
use Rattle.slate_cluster_protocol.specs.World.{World, party_of, wrote, HasDb}
use Rattle.slate_cluster_protocol.specs.declared.party.Party.{Party}
use Rattle.slate_cluster_protocol.specs.declared.party.State.{State}
use Rattle.slate_cluster_protocol.specs.declared.party.State.TheVariants.{Resting, Busy, Halted}
use Rattle.slate_cluster_protocol.specs.declared.party.Task.{Task}
use Rattle.slate_cluster_chain_laws.proofs.Manifests.{log_laws}
use Rattle.slate_cluster_laws.specs.LogsAtEnd.{HasWritten}
use Rattle.slate_cluster_laws.proofs.Calls.{WorkKnows}
use Rattle.slate_cluster_laws.proofs.Facts.{IsNext}
use Rattle.slate_cluster_laws.proofs.Runs.{StateKnows, Inv, log_after}
use Rattle.slate_cluster_laws.proofs.Steps.{PhraseKnows, author_of, author_party, db_in, own_put, phrase_asks, work_asks, work_db}
use Rattle.slate_cluster_laws.proofs.Turns.{put_wrote}

-- by a party of this number
abbrev pub By : ℕ → Author → Type 0
By n author = author.party ≡ n

by_party : (k : LogKind) (n : ℕ) (author : Author) (c c' : Chain k) → author.party ≡ n → Changed (λ (a : Author). a ≡ author) c c' → Changed (By n) c c'
by_party k n author c c' e (Stays same) = Stays same
by_party k n author c c' e (Gets l a is same grown) = Gets l a is (ap (λ (x : Author). x.party) same ∙ e) grown

step_changes : (w : World) (chains : Chains) (i : Inv w chains) (n : ℕ) (p : Party) (at : party_of n w.parties ≡ Some p) (moment : ℤ) (mark : Mark) (state : State) → StateKnows w.store chains n p.facts state
    → (k : LogKind) (d : List ℕ) → is_db_path d ≡ true
    → Changed (By n) (chains k d) (chains_state w n state moment mark chains k d)
step_changes w chains i n p at moment mark Resting known k d h = Stays refl
step_changes w chains i n p at moment mark Halted known k d h = Stays refl
step_changes w chains i n p at moment mark (Busy task) known k d h = by_party k n _ (chains k d) (chains_stepped w n task moment mark chains k d) (author_party n (phrase_of task.work)) (log_after w chains i n p at task known moment mark k d h).changed

pub event_changes : (w : World) (chains : Chains) (e : Event) → Inv w chains → (k : LogKind) (d : List ℕ) → is_db_path d ≡ true → Changed (By (party_in e)) (chains k d) (chains_after w e chains k d)
event_changes w chains (Open n kind db) i k d h = Stays refl
event_changes w chains (Start n call) i k d h = Stays refl
event_changes w chains (Stop n) i k d h = Stays refl
event_changes w chains (Step n moment mark) i k d h = went (party_of n w.parties) refl
  where
    went : (o : Option Party) → party_of n w.parties ≡ o → Changed (By n) (chains k d) (chains_at w n o moment mark chains k d)
    went None at = Stays refl
    went (Some p) at = step_changes w chains i n p at moment mark p.state (i.parties n p at).knows k d h

-- what a put does that wrote
module _ (w : World) (chains : Chains) (i : Inv w chains) (n : ℕ) (p : Party) (at : party_of n w.parties ≡ Some p) (task : Task) (state : p.state ≡ Busy task)
    (k : LogKind) (db : List ℕ) (puts : Puts) (now : ℤ) (number : ℕ) (bytes : List ℕ) (v : Held k) (mark : Mark) (moment : ℤ) (e : phrase_of task.work ≡ Commits k db puts now (Putting number bytes v))
    (did : wrote w.store (effect mark (asks task.work) moment w.store).store ≡ true) where
  abbrev link : Link (Held k) Author
  link = record { number = number; bytes = bytes; value = (log_of k).normal v; by = Some (author_of n puts now) }

  knows : WorkKnows w.store chains n p.facts task.call task.work
  knows = subst (StateKnows w.store chains n p.facts) state (i.parties n p at).knows

  own_db : db ≡ p.facts.db
  own_db = sym (ap db_in e) ∙ (work_db task.work ∙ knows.own)

  has : HasDb w db
  has = subst (λ d. HasDb w d) (sym own_db) (i.parties n p at).has

  did_so : wrote w.store (effect mark (phrase_asks (Commits k db puts now (Putting number bytes v))) moment w.store).store ≡ true
  did_so = subst (λ (call : StoreCall). wrote w.store (effect mark call moment w.store).store ≡ true) (work_asks task.work ∙ ap phrase_asks e) did

  chain_after : chains_after w (Step n moment mark) chains k db ≡ with_link link (chains k db)
  chain_after =
      ap (λ (o : Option Party). chains_at w n o moment mark chains k db) at
      ∙ (ap (λ (s : State). chains_state w n s moment mark chains k db) state
      ∙ (ap (λ (b : Bool). chains_put b (put_by n (phrase_of task.work)) chains k db) did ∙ (ap (λ (phrase : Phrase). chains_put true (put_by n phrase) chains k db) e ∙ own_put true k db link chains)))

  pub put_changes : HasWritten (log_of k) db w.store link (chains k db) (chains_after w (Step n moment mark) chains k db)
  put_changes =
      let next : IsNext (log_of k) (chains k db) (author_of n puts now) number bytes v = subst (PhraseKnows w.store chains n) e knows.knows in
      subst (HasWritten (log_of k) db w.store link (chains k db)) (sym chain_after)
      (put_wrote (log_of k) (log_laws k) db w.store (chains k db) (i.logs k db (i.named db has)) (author_of n puts now) (i.named db has) number bytes v moment next mark did_so)

-- a put at a path that is taken changes nothing, whatever its mark
pub taken_path : (path : ObjectPath) (bytes : List ℕ) (moment : ℤ) (mark : Mark) (s : Store) → stands_at path s ≡ true → (effect mark (PutNew path bytes) moment s).store ≡ s
taken_path path bytes moment mark s h = by_object (object_at path s) (taken mark (PutNew path bytes) s) h
  where
    by_object : (o : Option StoredObject) (m : Mark) → is_some o ≡ true → (under m (put_new o path bytes moment s) s).store ≡ s
    by_object None m h = absurd cc
    by_object (Some object) Good h = refl
    by_object (Some object) Fail h = refl
    by_object (Some object) Lost h = refl
