-- Each event keeps what holds of the logs and what each party knows, and so does each list of events.
use Rattle.std.proofs.Common.{◌≡◌, ◌≢◌, ℕ, ℤ, Bool, true, false, List, [], ◌∷◌, Option, Some, None, is_some, ◌⊎◌, inl, inr, ⊎_elim, refl, sym, ap, ◌∙◌, subst}
use Rattle.std.proofs.lemmas.Bool.{and_parts}
use Rattle.std.specs.Prelude.{not, if◌then◌else◌}
use Rattle.std.specs.Ordering.{nat_cmp}
use Rattle.std.specs.BTreeMap.{insert_entry}
use Rattle.slate_ids.specs.Ids.{is_db_path}
use Rattle.slate_store.specs.Store.{Store, effect}
use Rattle.slate_store.specs.declared.mark.Mark.{Mark}
use Rattle.slate_store.specs.declared.store_answer.StoreAnswer.{StoreAnswer}
use Rattle.slate_store.specs.declared.store_call.StoreCall.{StoreCall}
use Rattle.slate_txn_log.specs.declared.commit_phase.CommitPhase.TheVariants as committing
use Rattle.slate_txn_log.specs.declared.log_kind.LogKind.{LogKind}
use Rattle.slate_txn_log.specs.declared.log_kind.LogKind.TheVariants as logs
use Rattle.slate_script_events.specs.declared.call.Call.{Call}
use Rattle.slate_script_events.specs.declared.event.Event.{Event}
use Rattle.slate_script_events.specs.declared.event.Event.TheVariants.{Open, Start, Step, Stop}
use Rattle.slate_script_events.specs.declared.party_kind.PartyKind.{PartyKind}
use Rattle.slate_cluster_protocol.specs.Chains.{Changed, link_at}
use Rattle.slate_cluster_protocol.specs.Chains.Changed.{Stays}
use Rattle.slate_cluster_protocol.specs.Logs.{Author, log_of, Chain, Chains, Phrase, Reads, Commits, Uploads, Fetches, Collects, phrase_of, put_by, chains_put, chains_stepped, chains_state, chains_at, chains_after, world_after, chains_of}
use Rattle.slate_cluster_protocol.specs.Rows.{Standing, begin, moved}
use Rattle.slate_cluster_protocol.specs.Works.{db_of, asks}
use Rattle.slate_cluster_protocol.specs.World.{World, Transition, party_of, with_party, tally_of, tallied, wrote, newcomer, settled, stepped, step_state, start_state, halted, stop_state, carrying, may_start, open_at, start_at, step_at, stop_at, happens, HasDb}
use Rattle.slate_cluster_protocol.specs.declared.party.Facts.{Facts}
use Rattle.slate_cluster_protocol.specs.declared.party.Party.{Party}
use Rattle.slate_cluster_protocol.specs.declared.party.State.{State}
use Rattle.slate_cluster_protocol.specs.declared.party.State.TheVariants.{Resting, Busy, Halted}
use Rattle.slate_cluster_protocol.specs.declared.party.Task.{Task}
use Rattle.slate_cluster_protocol.specs.declared.tally.Tally.{Tally}
use Rattle.slate_cluster_protocol.specs.Calls.{has_call, Next, Go, Finish}
use Rattle.slate_cluster_protocol.specs.Ids.{is_stale}
use Rattle.slate_cluster_protocol.specs.declared.work.Work.{Work}
use Rattle.slate_cluster_laws.proofs.Stores.{IsTidy, same_name}
use Rattle.slate_cluster_laws.proofs.Maps.{number_order, set_here, set_else, insert_here, insert_else}
use Rattle.slate_cluster_chain_laws.proofs.Links.{same_or_not}
use Rattle.slate_cluster_laws.proofs.Facts.{IsSound, Grows}
use Rattle.slate_cluster_laws.proofs.Frame.{kept_read, kept_commit}
use Rattle.slate_cluster_laws.proofs.Paths.{IsOwn, IsElsewhere, AreApart, own_elsewhere, nobodys_elsewhere}
use Rattle.slate_cluster_laws.proofs.Moves.{gone_grows, gone_sound}
use Rattle.slate_cluster_laws.proofs.Puts.{grows_not, elsewhere_grows, elsewhere_sound}
use Rattle.slate_cluster_laws.proofs.Referenced.{kept_fetch}
use Rattle.slate_cluster_laws.proofs.Steps.{log_in, db_in, phrase_asks, work_asks, work_db, author_of, author_in, PhraseKnows, PhraseBrings, kept_collect, none_put, other_put, phrase_step}
use Rattle.slate_cluster_laws.proofs.Calls.{Holds, WorkKnows, NextKnows, Reaches, begin_reaches, kept_holds, kept_work, moved_reaches}
use Rattle.slate_cluster_laws.proofs.Tallies.{StoreAfter, store_after, tidy_after, same_kind, its_kind, Told, TalliesAfter, tallies_after}
use Rattle.slate_cluster_laws.proofs.Tallies.StoreAfter.{Same, Wrote, Gone, WroteElse, GoneElse}

-- what a party knows, by its state
abbrev pub StateKnows : Store → Chains → ℕ → Facts → State → Type 0
StateKnows s chains n facts Resting = Unit {0}
StateKnows s chains n facts (Busy task) = WorkKnows s chains n facts task.call task.work
StateKnows s chains n facts Halted = Unit {0}

pub record PartyKnows (w : World) (chains : Chains) (n : ℕ) (p : Party) : Type 0 where
  pub has : HasDb w p.facts.db
  pub holds : Holds chains p.facts.db p.facts.compactor
  pub knows : StateKnows w.store chains n p.facts p.state

-- what is kept from event to event
pub record Inv (w : World) (chains : Chains) : Type 0 where
  pub tidy : IsTidy w.store.objects
  pub named : (d : List ℕ) → HasDb w d → is_db_path d ≡ true
  pub logs : (k : LogKind) (d : List ℕ) → is_db_path d ≡ true → IsSound (log_of k) d w.store (chains k d)
  pub told : (k : LogKind) (d : List ℕ) → Told w.tallies chains k d
  pub parties : (n : ℕ) (p : Party) → party_of n w.parties ≡ Some p → PartyKnows w chains n p

-- ---- the frame

-- a log of a database grows
abbrev pub LogGrows : Store → Chains → Store → Chains → LogKind → List ℕ → Type 0
LogGrows s chains s' chains' k d = Grows (log_of k) d s (chains k d) s' (chains' k d)

phrase_kept : (s : Store) (chains : Chains) (s' : Store) (chains' : Chains) (n : ℕ) (phrase : Phrase) → LogGrows s chains s' chains' (log_in phrase) (db_in phrase)
    → PhraseKnows s chains n phrase → PhraseKnows s' chains' n phrase
phrase_kept s chains s' chains' n (Reads k db phase) g h = kept_read (log_of k) db s (chains k db) s' (chains' k db) g phase h
phrase_kept s chains s' chains' n (Commits k db puts now phase) g h = kept_commit (log_of k) db s (chains k db) s' (chains' k db) g (author_of n puts now) phase h
phrase_kept s chains s' chains' n (Uploads db table bytes) g h = h
phrase_kept s chains s' chains' n (Fetches db m phase) g h = kept_fetch db s (chains logs.Manifest db) s' (chains' logs.Manifest db) g m phase h
phrase_kept s chains s' chains' n (Collects db pass phase) g h = kept_collect s chains s' chains' db pass phase g h

module _ (s : Store) (chains : Chains) (s' : Store) (chains' : Chains) (d : List ℕ) (grows : (k : LogKind) → LogGrows s chains s' chains' k d) where
  versions_kept : (k : LogKind) (n : ℕ) (l : _) → link_at n (chains k d) ≡ Some l → link_at n (chains' k d) ≡ Some l
  versions_kept k n l at = (grows k).kept n l at

  work_kept : (n : ℕ) (facts : Facts) (call : Call) (work : Work) → facts.db ≡ d → WorkKnows s chains n facts call work → WorkKnows s' chains' n facts call work
  work_kept n facts call work is h =
      let at : db_of work ≡ d = h.own ∙ is in
      record {
        own = h.own;
        over = h.over;
        asked = h.asked;
        fits = h.fits;
        holds = kept_work chains chains' work (λ k n l. subst (λ x. link_at n (chains k x) ≡ Some l → link_at n (chains' k x) ≡ Some l) (sym at) (versions_kept k n l)) h.holds;
        knows = phrase_kept s chains s' chains' n (phrase_of work) (subst (LogGrows s chains s' chains' (log_in (phrase_of work))) (sym (work_db work ∙ at)) (grows (log_in (phrase_of work)))) h.knows;
      }

  state_kept : (n : ℕ) (facts : Facts) (state : State) → facts.db ≡ d → StateKnows s chains n facts state → StateKnows s' chains' n facts state
  state_kept n facts Resting is h = tt
  state_kept n facts Halted is h = tt
  state_kept n facts (Busy task) is h = work_kept n facts task.call task.work is h

-- ---- a change of one party alone

settle_knows : (s : Store) (chains : Chains) (n : ℕ) (call : Call) (facts : Facts) (next : Next) → NextKnows s chains n facts call next
    → StateKnows s chains n facts (settled call (record { facts = facts; next = next })).state
settle_knows s chains n call facts (Go work) h = h
settle_knows s chains n call facts (Finish reply) h = tt

-- a party whose call goes on so, or has ended
settled_knows : (w : World) (chains : Chains) (n : ℕ) (facts : Facts) (call : Call) (standing : Standing) → HasDb w facts.db → Reaches w.store chains n facts call standing → PartyKnows w chains n (settled call standing)
settled_knows w chains n facts call standing has r = record {
  has = subst (λ d. HasDb w d) (sym r.same.db) has;
  holds = r.holds;
  knows = settle_knows w.store chains n call standing.facts standing.next r.next;
}

-- the parties with one in the place of its number
pub party_in_place : (n : ℕ) (p q : Party) (parties : List (ℕ × Party)) → party_of n parties ≡ Some p → party_of n (with_party n q parties) ≡ Some q
party_in_place n p q parties h = set_here nat_cmp number_order n q p parties h

pub others_stay : (n k : ℕ) (q : Party) (parties : List (ℕ × Party)) → k ≢ n → party_of k (with_party n q parties) ≡ party_of k parties
others_stay n k q parties ne = set_else nat_cmp number_order n k q parties ne

-- what each party knows, where one number's party has changed
module _ (w w' : World) (chains chains' : Chains) (n : ℕ) (q : Party) (here : party_of n w'.parties ≡ Some q)
    (away : (k : ℕ) → k ≢ n → party_of k w'.parties ≡ party_of k w.parties)
    (same : (d : List ℕ) → HasDb w d → HasDb w' d) (grows : (k : LogKind) (d : List ℕ) → HasDb w d → LogGrows w.store chains w'.store chains' k d) where
  each_knows : PartyKnows w' chains' n q → ((k : ℕ) (p : Party) → party_of k w.parties ≡ Some p → PartyKnows w chains k p) → (k : ℕ) (p : Party) → party_of k w'.parties ≡ Some p → PartyKnows w' chains' k p
  each_knows own others k p at =
      ⊎_elim
      (λ (e : k ≡ n).
      let found : party_of n w'.parties ≡ Some p = subst (λ j. party_of j w'.parties ≡ Some p) e at in
      let is : q ≡ p = cc (here, found) in
      subst (λ (j : ℕ). PartyKnows w' chains' j p) (sym e) (subst (λ (r : Party). PartyKnows w' chains' n r) is own))
      (λ (ne : k ≢ n).
      let h = others k p (sym (away k ne) ∙ at) in
      let grown = λ (j : LogKind). grows j p.facts.db h.has in
      record {
        has = same p.facts.db h.has;
        holds = kept_holds chains chains' p.facts.db (λ j. (grown j).kept) p.facts.compactor h.holds;
        knows = state_kept w.store chains w'.store chains' p.facts.db grown k p.facts p.state refl h.knows;
      })
      (same_or_not k n)

-- a change of one party, with the store and the chains as they are
moved_inv : (w : World) (chains : Chains) (n : ℕ) (p q : Party) → Inv w chains → party_of n w.parties ≡ Some p → PartyKnows w chains n q → Inv (record w { parties = with_party n q w.parties }) chains
moved_inv w chains n p q i at own =
    let w' : World = record w { parties = with_party n q w.parties } in
    record {
      tidy = i.tidy;
      named = i.named;
      logs = i.logs;
      told = i.told;
      parties = each_knows w w' chains chains n q (party_in_place n p q w.parties at) (λ k ne. others_stay n k q w.parties ne) (λ d h. h) (λ k d h. grows_not (log_of k) d w.store (chains k d))
          (record { has = own.has; holds = own.holds; knows = own.knows }) i.parties;
    }

-- ---- a step

-- the other logs: a path of one log is elsewhere for another
module _ (s s' : Store) (k : LogKind) (db : List ℕ) (j : LogKind) (d : List ℕ) (c : Chain j) (named : is_db_path d ≡ true) (own : is_db_path db ≡ true) (apart : AreApart j d k db) where
  away : (p : _) → IsOwn k db p → IsElsewhere (log_of j).kind d p
  away p is = subst (λ x. IsElsewhere x d p) (sym (its_kind j)) (own_elsewhere j d k db p named own apart is)

  other_grows : StoreAfter k db s s' → Grows (log_of j) d s c s' c
  other_grows (Same e) = subst (λ (t : Store). Grows (log_of j) d s c t c) (sym e) (grows_not (log_of j) d s c)
  other_grows (Wrote p bytes moment is e) = subst (λ (t : Store). Grows (log_of j) d s c t c) (sym e) (elsewhere_grows (log_of j) d s c p bytes moment (away p is))
  other_grows (WroteElse p bytes moment other e) = subst (λ (t : Store). Grows (log_of j) d s c t c) (sym e) (elsewhere_grows (log_of j) d s c p bytes moment (nobodys_elsewhere (log_of j).kind d p named other))
  other_grows (GoneElse p other e) = subst (λ (t : Store). Grows (log_of j) d s c t c) (sym e) (gone_grows (log_of j) d s c p (nobodys_elsewhere (log_of j).kind d p named other))
  other_grows (Gone p is e) = subst (λ (t : Store). Grows (log_of j) d s c t c) (sym e) (gone_grows (log_of j) d s c p (away p is))

  other_sound : StoreAfter k db s s' → IsSound (log_of j) d s c → IsSound (log_of j) d s' c
  other_sound (Same e) i = subst (λ (t : Store). IsSound (log_of j) d t c) (sym e) i
  other_sound (Wrote p bytes moment is e) i = subst (λ (t : Store). IsSound (log_of j) d t c) (sym e) (elsewhere_sound (log_of j) d s c p bytes moment (away p is) i)
  other_sound (WroteElse p bytes moment other e) i = subst (λ (t : Store). IsSound (log_of j) d t c) (sym e) (elsewhere_sound (log_of j) d s c p bytes moment (nobodys_elsewhere (log_of j).kind d p named other) i)
  other_sound (GoneElse p other e) i = subst (λ (t : Store). IsSound (log_of j) d t c) (sym e) (gone_sound (log_of j) d s c p (nobodys_elsewhere (log_of j).kind d p named other) i)
  other_sound (Gone p is e) i = subst (λ (t : Store). IsSound (log_of j) d t c) (sym e) (gone_sound (log_of j) d s c p (away p is) i)

-- one log, or two
same_place : (j : LogKind) (d : List ℕ) (k : LogKind) (db : List ℕ) → ((j ≡ k) × (d ≡ db)) ⊎ AreApart j d k db
same_place j d k db =
    ⊎_elim
    (λ (e : j ≡ k). ⊎_elim (λ (f : d ≡ db). inl (e, f)) (λ (ne : d ≢ db). inr (λ a b. ne b)) (same_name d db))
    (λ (ne : j ≢ k). inr (λ a b. ne a))
    (same_kind j k)

-- a put of a phrase leaves the other chains
pub other_chain : (b : Bool) (n : ℕ) (phrase : Phrase) (chains : Chains) (j : LogKind) (d : List ℕ) → AreApart j d (log_in phrase) (db_in phrase) → chains_put b (put_by n phrase) chains j d ≡ chains j d
other_chain b n (Reads k db phase) chains j d apart = none_put b chains j d
other_chain b n (Uploads db table bytes) chains j d apart = none_put b chains j d
other_chain b n (Fetches db m phase) chains j d apart = none_put b chains j d
other_chain b n (Collects db pass phase) chains j d apart = none_put b chains j d
other_chain b n (Commits k db puts now (committing.Putting m bytes v)) chains j d apart =
    other_put b k db (record { number = m; bytes = bytes; value = (log_of k).normal v; by = Some (author_of n puts now) }) chains j d apart
other_chain b n (Commits k db puts now (committing.Bounding m v)) chains j d apart = none_put b chains j d
other_chain b n (Commits k db puts now committing.Over) chains j d apart = none_put b chains j d

-- what a step changes of each log
pub record LogAfter (k : LogKind) (s : Store) (c : Chain k) (s' : Store) (c' : Chain k) (d : List ℕ) (author : Author) : Type 0 where
  pub sound : IsSound (log_of k) d s' c'
  pub grows : Grows (log_of k) d s c s' c'
  pub changed : Changed (λ (a : Author). a ≡ author) c c'

module _ (w : World) (chains : Chains) (i : Inv w chains) (n : ℕ) (p : Party) (at : party_of n w.parties ≡ Some p) (task : Task) (knows : StateKnows w.store chains n p.facts (Busy task)) (moment : ℤ) (mark : Mark) where
  abbrev facts : Facts
  facts = p.facts

  abbrev phrase : Phrase
  phrase = phrase_of task.work

  abbrev author : Author
  author = author_in n phrase

  abbrev s' : Store
  s' = (effect mark (asks task.work) moment w.store).store

  abbrev answer : StoreAnswer
  answer = (effect mark (asks task.work) moment w.store).answer

  abbrev standing : Standing
  standing = moved facts task.call task.work moment answer

  abbrev chains' : Chains
  chains' = chains_stepped w n task moment mark chains

  abbrev k0 : LogKind
  k0 = log_in phrase

  abbrev db0 : List ℕ
  db0 = db_in phrase

  -- it is the party's
  own_db : db0 ≡ facts.db
  own_db = work_db task.work ∙ knows.own

  has : HasDb w db0
  has = subst (λ d. HasDb w d) (sym own_db) (i.parties n p at).has

  sound : IsSound (log_of k0) db0 w.store (chains k0 db0)
  sound = i.logs k0 db0 (i.named db0 has)

  -- with the call as the phrase asks it
  pub record AfterWork : Type 0 where
    pub sound_after : IsSound (log_of k0) db0 s' (chains' k0 db0)
    pub grows : LogGrows w.store chains s' chains' k0 db0
    pub changed : Changed (λ (a : Author). a ≡ author) (chains k0 db0) (chains' k0 db0)
    pub brings : PhraseBrings s' chains' n phrase moment answer
    pub stored : StoreAfter k0 db0 w.store s'
    pub tallies : TalliesAfter w.tallies (tallied (asks task.work) (wrote w.store s') w.tallies) chains'

  abbrev Asked : StoreCall → Type 0
  Asked asked =
      IsSound (log_of k0) db0 (effect mark asked moment w.store).store (chains_put (wrote w.store (effect mark asked moment w.store).store) (put_by n phrase) chains k0 db0)
      × (LogGrows w.store chains (effect mark asked moment w.store).store (chains_put (wrote w.store (effect mark asked moment w.store).store) (put_by n phrase) chains) k0 db0
      × (Changed (λ (a : Author). a ≡ author) (chains k0 db0) (chains_put (wrote w.store (effect mark asked moment w.store).store) (put_by n phrase) chains k0 db0)
      × (PhraseBrings (effect mark asked moment w.store).store (chains_put (wrote w.store (effect mark asked moment w.store).store) (put_by n phrase) chains) n phrase moment (effect mark asked moment w.store).answer
      × (StoreAfter k0 db0 w.store (effect mark asked moment w.store).store
      × TalliesAfter w.tallies (tallied asked (wrote w.store (effect mark asked moment w.store).store) w.tallies) (chains_put (wrote w.store (effect mark asked moment w.store).store) (put_by n phrase) chains)))))

  by_phrase : Asked (phrase_asks phrase)
  by_phrase =
      let a = phrase_step w.store chains n i.tidy mark moment phrase (i.named db0 has) sound knows.knows in (
        a.leaves.sound,
        (
          a.leaves.grows,
          (
            a.leaves.changed,
            (
              a.brings,
              (
                store_after w.store chains n mark moment phrase (i.named db0 has) sound knows.knows,
                tallies_after w.store chains w.tallies i.told n phrase (wrote w.store (effect mark (phrase_asks phrase) moment w.store).store) sound knows.knows,
              ),
            ),
          ),
        ),
      )

  asked_work : Asked (asks task.work)
  asked_work = subst Asked (sym (work_asks task.work)) by_phrase

  pub after : AfterWork
  after =
      let h = asked_work in
      record { sound_after = h.0; grows = h.1.0; changed = h.1.1.0; brings = h.1.1.1.0; stored = h.1.1.1.1.0; tallies = h.1.1.1.1.1 }

  own_after : LogAfter k0 w.store (chains k0 db0) s' (chains' k0 db0) db0 author
  own_after = record { sound = after.sound_after; grows = after.grows; changed = after.changed }

  other_after : (k : LogKind) (d : List ℕ) → is_db_path d ≡ true → AreApart k d k0 db0 → LogAfter k w.store (chains k d) s' (chains' k d) d author
  other_after k d path apart =
      let same : chains' k d ≡ chains k d = other_chain (wrote w.store s') n phrase chains k d apart in
      let g = other_grows w.store s' k0 db0 k d (chains k d) path (i.named db0 has) apart after.stored in
      let o = other_sound w.store s' k0 db0 k d (chains k d) path (i.named db0 has) apart after.stored (i.logs k d path) in
      subst (λ (c : Chain k). LogAfter k w.store (chains k d) s' c d author) (sym same) (record { sound = o; grows = g; changed = Stays refl })

  -- what a step leaves of each log, at any name
  pub log_after : (k : LogKind) (d : List ℕ) → is_db_path d ≡ true → LogAfter k w.store (chains k d) s' (chains' k d) d author
  log_after k d path =
      ⊎_elim
      (λ (e : (k ≡ k0) × (d ≡ db0)). subst (λ x. LogAfter x w.store (chains x d) s' (chains' x d) d author) (sym e.0) (subst (λ y. LogAfter k0 w.store (chains k0 y) s' (chains' k0 y) y author) (sym e.1) own_after))
      (λ (apart : AreApart k d k0 db0). other_after k d path apart)
      (same_place k d k0 db0)

  abbrev w' : World
  w' = (stepped w n facts task moment mark).world

  pub same_tallies : (d : List ℕ) → is_some (tally_of d w'.tallies) ≡ is_some (tally_of d w.tallies)
  same_tallies d = after.tallies.same d

  same_db : (d : List ℕ) → HasDb w d → HasDb w' d
  same_db d h = after.tallies.same d ∙ h

  was_db : (d : List ℕ) → HasDb w' d → HasDb w d
  was_db d h = sym (after.tallies.same d) ∙ h

  -- what is left of the logs of the party's database
  own_log : (k : LogKind) → LogAfter k w.store (chains k facts.db) s' (chains' k facts.db) facts.db author
  own_log k = log_after k facts.db (i.named facts.db (i.parties n p at).has)

  kept : (d : List ℕ) → d ≡ facts.db → (k : LogKind) (m : ℕ) (l : _) → link_at m (chains k d) ≡ Some l → link_at m (chains' k d) ≡ Some l
  kept d is k m l = subst (λ x. link_at m (chains k x) ≡ Some l → link_at m (chains' k x) ≡ Some l) (sym is) ((own_log k).grows.kept m l)

  pub reaches : Reaches s' chains' n facts task.call standing
  reaches = moved_reaches s' chains' n task.call facts knows.asked (kept_holds chains chains' facts.db (kept facts.db refl) facts.compactor (i.parties n p at).holds) task.work knows.own
      (λ k. subst (λ d. IsSound (log_of k) d s' (chains' k d)) (sym knows.own) (own_log k).sound) knows.over knows.fits (kept_work chains chains' task.work (kept (db_of task.work) knows.own) knows.holds) moment answer after.brings

  own_knows : PartyKnows w' chains' n (settled task.call standing)
  own_knows = settled_knows w' chains' n facts task.call standing (same_db facts.db (i.parties n p at).has) reaches

  pub stepped_inv : Inv w' chains'
  stepped_inv = record {
    tidy = tidy_after k0 db0 w.store s' (i.named db0 has) after.stored i.tidy;
    named = λ d h. i.named d (was_db d h);
    logs = λ k d path. (log_after k d path).sound;
    told = after.tallies.told;
    parties = each_knows w w' chains chains' n (settled task.call standing) (party_in_place n p (settled task.call standing) w.parties at) (λ k ne. others_stay n k (settled task.call standing) w.parties ne)
        same_db (λ k d h. (log_after k d (i.named d h)).grows) own_knows i.parties;
  }

-- ---- events

step_inv : (w : World) (chains : Chains) (n : ℕ) (p : Party) (moment : ℤ) (mark : Mark) → Inv w chains → party_of n w.parties ≡ Some p → (state : State) → StateKnows w.store chains n p.facts state
    → Inv (step_state w n p.facts state moment mark).world (chains_state w n state moment mark chains)
step_inv w chains n p moment mark i at Resting k = i
step_inv w chains n p moment mark i at Halted k = i
step_inv w chains n p moment mark i at (Busy task) k = stepped_inv w chains i n p at task k moment mark

start_inv : (w : World) (chains : Chains) (n : ℕ) (p : Party) (call : Call) → has_call p.facts.kind call ≡ true → Inv w chains → party_of n w.parties ≡ Some p → (state : State) → Inv (start_state w n p.facts state call).world chains
start_inv w chains n p call may i at Resting =
    let own = i.parties n p at in
    moved_inv w chains n p (settled call (begin p.facts call)) i at (settled_knows w chains n p.facts call (begin p.facts call) own.has (begin_reaches w.store chains n p.facts call may own.holds))
start_inv w chains n p call may i at (Busy task) = i
start_inv w chains n p call may i at Halted = i

-- ids that are carried change nothing of it
carried_inv : (w : World) (chains : Chains) (n : ℕ) (call : Call) → Inv w chains → Inv (carrying n call w) chains
carried_inv w chains n call i = record {
  tidy = i.tidy;
  named = i.named;
  logs = i.logs;
  told = i.told;
  parties = λ k p at. let known = i.parties k p at in record { has = known.has; holds = known.holds; knows = known.knows };
}

-- nor does a stop
stop_inv : (w : World) (chains : Chains) (n : ℕ) (p : Party) → Inv w chains → party_of n w.parties ≡ Some p → (state : State) → Inv (stop_state w n p.facts state).world chains
stop_inv w chains n p i at Halted = i
stop_inv w chains n p i at Resting = moved_inv w chains n p (halted p.facts) i at (let own = i.parties n p at in record { has = own.has; holds = own.holds; knows = tt })
stop_inv w chains n p i at (Busy task) = moved_inv w chains n p (halted p.facts) i at (let own = i.parties n p at in record { has = own.has; holds = own.holds; knows = tt })

open_inv : (w : World) (chains : Chains) (n : ℕ) (kind : PartyKind) (db : List ℕ) (t : Tally) → Inv w chains → party_of n w.parties ≡ None → tally_of db w.tallies ≡ Some t → Inv (record w { parties = insert_entry nat_cmp w.parties n (newcomer n kind db) }) chains
open_inv w chains n kind db t i none found =
    let w' : World = record w { parties = insert_entry nat_cmp w.parties n (newcomer n kind db) } in
    record {
      tidy = i.tidy;
      named = i.named;
      logs = i.logs;
      told = i.told;
      parties = each_knows w w' chains chains n (newcomer n kind db) (insert_here nat_cmp number_order n (newcomer n kind db) w.parties) (λ k ne. insert_else nat_cmp number_order n k (newcomer n kind db) w.parties ne)
          (λ d h. h) (λ k d h. grows_not (log_of k) d w.store (chains k d)) (record { has = ap is_some found; holds = tt; knows = tt }) i.parties;
    }

-- one event that isn't bad keeps them all
pub event_inv : (w : World) (chains : Chains) (e : Event) (d : Transition) → happens w e ≡ Some d → Inv w chains → Inv d.world (chains_after w e chains)
event_inv w chains (Open n kind db) d h i = opened (party_of n w.parties) (tally_of db w.tallies) refl refl h
  where
    opened : (o : Option Party) (t : Option Tally) → party_of n w.parties ≡ o → tally_of db w.tallies ≡ t → open_at w n kind db o t ≡ Some d → Inv d.world chains
    opened None (Some t) none found h = subst (λ (r : World). Inv r chains) (ap (λ (o : Option Transition). elim o as (λ _. World) [ None ↦ w | Some d ↦ d.world ]) h) (open_inv w chains n kind db t i none found)
    opened None None none found h = absurd cc
    opened (Some p) t none found h = absurd cc
event_inv w chains (Start n call) d h i = started (party_of n w.parties) refl h
  where
    test : (p : Party) (b : Bool) → may_start w call p ≡ b → party_of n w.parties ≡ Some p → (if b then Some (start_state (carrying n call w) n p.facts p.state call) else None) ≡ Some d → Inv d.world chains
    test p true may at h =
        let same : start_state (carrying n call w) n p.facts p.state call ≡ d = cc in
        subst (λ (r : Transition). Inv r.world chains) same (start_inv (carrying n call w) chains n p call (and_parts (has_call p.facts.kind call) (not (is_stale w.carried call)) may).0 (carried_inv w chains n call i) at p.state)
    test p false may at h = absurd cc

    started : (o : Option Party) → party_of n w.parties ≡ o → start_at w n call o ≡ Some d → Inv d.world chains
    started None at h = absurd cc
    started (Some p) at h = test p (may_start w call p) refl at h
event_inv w chains (Step n moment mark) d h i = went (party_of n w.parties) refl h
  where
    went : (o : Option Party) → party_of n w.parties ≡ o → step_at w n moment mark o ≡ Some d → Inv d.world (chains_at w n o moment mark chains)
    went None at h = absurd cc
    went (Some p) at h =
        let same : step_state w n p.facts p.state moment mark ≡ d = cc in
        subst (λ (r : Transition). Inv r.world (chains_state w n p.state moment mark chains)) same (step_inv w chains n p moment mark i at p.state (i.parties n p at).knows)
event_inv w chains (Stop n) d h i = went (party_of n w.parties) refl h
  where
    went : (o : Option Party) → party_of n w.parties ≡ o → stop_at w n o ≡ Some d → Inv d.world chains
    went None at h = absurd cc
    went (Some p) at h =
        let same : stop_state w n p.facts p.state ≡ d = cc in
        subst (λ (r : Transition). Inv r.world chains) same (stop_inv w chains n p i at p.state)

-- so does a list of events, up to the first bad one
pub run_inv : (es : List Event) (w : World) (chains : Chains) → Inv w chains → Inv (world_after es w) (chains_of es w chains)
run_inv [] w chains i = i
run_inv (e ∷ es) w chains i = went (happens w e) refl (λ d i'. run_inv es d.world (chains_after w e chains) i')
  where
    went : (o : Option Transition) → happens w e ≡ o → ((d : Transition) → Inv d.world (chains_after w e chains) → Inv (world_after es d.world) (chains_of es d.world (chains_after w e chains)))
        → Inv (elim o as (λ _. World) [ None ↦ w | Some d ↦ world_after es d.world ]) (elim o as (λ _. Chains) [ None ↦ chains | Some d ↦ chains_of es d.world (chains_after w e chains) ])
    went None h f = i
    went (Some d) h f = f d (event_inv w chains e d h i)
