-- What holds of each party that compacts, and of all records, is kept by each event, so it holds at each moment of a run.
use Rattle.std.proofs.Common.{◌≡◌, ◌≢◌, ℕ, ℤ, true, List, Option, Some, None, ⊎_elim, refl, sym, ap, ◌∙◌, subst}
use Rattle.slate_ids.specs.Ids.{is_db_path}
use Rattle.slate_store.specs.declared.mark.Mark.{Mark}
use Rattle.slate_txn_log.specs.declared.log_kind.LogKind.{LogKind}
use Rattle.slate_txn_log.specs.declared.log_kind.LogKind.TheVariants as logs
use Rattle.slate_model_records.specs.Records.{Record}
use Rattle.slate_state_record_updates.specs.RecordEpochs.{record_epoch}
use Rattle.slate_script_events.specs.declared.db_spec.DbSpec.{DbSpec}
use Rattle.slate_script_events.specs.declared.event.Event.{Event}
use Rattle.slate_cluster_protocol.specs.ByRows.{party_in}
use Rattle.slate_cluster_protocol.specs.Chains.{Link, link_at}
use Rattle.slate_cluster_protocol.specs.Fenced.{record_epoch_in}
use Rattle.slate_cluster_protocol.specs.Holding.{AtMostTop}
use Rattle.slate_cluster_protocol.specs.Lawful.{IsAccepted}
use Rattle.slate_cluster_protocol.specs.Logs.{Author, phrase_of, put_by, record_change_by, Put, chains_put}
use Rattle.slate_cluster_protocol.specs.World.{HasDb, party_of, settled, wrote}
use Rattle.slate_cluster_protocol.specs.declared.party.Facts.{Facts}
use Rattle.slate_cluster_protocol.specs.declared.party.Party.{Party}
use Rattle.slate_cluster_protocol.specs.declared.party.Task.{Task}
use Rattle.slate_cluster_chain_laws.specs.Locals.{ObeyOutputs}
use Rattle.slate_cluster_chain_laws.specs.Raises.{HasRaised}
use Rattle.slate_cluster_chain_laws.proofs.RecordSteps.{outputs_stand}
use Rattle.slate_cluster_laws.proofs.Along.{All, Does, Kept, Moment, StepBrings, Turn, along_run, in_call, moment_of, moment_stepped, opening_moment, standing_after, step_brings}
use Rattle.slate_cluster_laws.proofs.Along.Does.{Comes, Starts, Carries, Steps, Stops, Idles}
use Rattle.slate_cluster_laws.proofs.Calls.{Holds}
use Rattle.slate_cluster_laws.proofs.Opens.{Given}
use Rattle.slate_cluster_laws.proofs.Runs.{Inv, other_chain}
use Rattle.slate_cluster_laws.proofs.Steps.{author_in, author_party, none_put, work_db}
use Rattle.slate_cluster_laws.proofs.Stores.{same_name}
use Rattle.slate_cluster_compactor_laws.specs.Fences.{PutByRaisers}
use Rattle.slate_cluster_compactor_laws.specs.Growing.{TrimmedByHolders, trimming_epoch}
use Rattle.slate_cluster_compactor_laws.proofs.Greatest.{given_most}
use Rattle.slate_cluster_compactor_laws.proofs.Held.{OfCompactor, PartyHas}
use Rattle.slate_cluster_compactor_laws.proofs.Openings.{opening_whole}
use Rattle.slate_cluster_compactor_laws.proofs.Others.{Turned, party_kept, turned}
use Rattle.slate_cluster_compactor_laws.proofs.OwnChains.{own_raised}
use Rattle.slate_cluster_compactor_laws.proofs.OwnParty.{settled_has, work_stands}
use Rattle.slate_cluster_compactor_laws.proofs.Starts.{started_has}
use Rattle.slate_cluster_compactor_laws.proofs.Wholes.{WholeHas, holders_next, opens_next, raisers_next, raisers_same, work_gives, work_raises}

-- what holds of a party at a moment
abbrev pub PartyAt : Moment → ℕ → Party → Type 0
PartyAt m n p = PartyHas m.world.store m.chains n p

-- ---- a step

module _ (m : Moment) (n : ℕ) (moment : ℤ) (mark : Mark) (facts : Facts) (task : Task) (i : Inv m.world m.chains) (at : party_of n m.world.parties ≡ Some (in_call facts task)) (h : PartyAt m n (in_call facts task)) where
  abbrev next : Moment
  next = moment_stepped m n facts task moment mark

  abbrev author : Author
  author = author_in n (phrase_of task.work)

  brought : StepBrings m n facts task moment mark
  brought = step_brings m n facts task moment mark i at

  named : is_db_path facts.db ≡ true
  named = i.named facts.db brought.has

  own_turned : (db : List ℕ) → is_db_path db ≡ true → Turned (λ (a : Author). a ≡ author) m.world.store m.chains next.world.store next.chains db
  own_turned db is = record {
    chain = λ k. (i.logs k db is).chain;
    chain_after = λ k. (brought.log k db is).sound.chain;
    grows = λ k. (brought.log k db is).grows;
    changed = λ k. (brought.log k db is).changed;
  }

  -- a step that puts no version leaves all chains
  still : (k : LogKind) (d : List ℕ) → put_by n (phrase_of task.work) ≡ None → next.chains k d ≡ m.chains k d
  still k d is =
      let b = wrote m.world.store next.world.store in
      ap (λ (o : Option Put). chains_put b o m.chains k d) is ∙ none_put b m.chains k d

  -- and any step leaves those of other databases
  away : (k : LogKind) (d : List ℕ) → d ≢ facts.db → next.chains k d ≡ m.chains k d
  away k d ne = other_chain (wrote m.world.store next.world.store) n (phrase_of task.work) m.chains k d (λ log db. ne (db ∙ (work_db task.work ∙ brought.knows.own)))

  holds : Holds m.chains facts.db facts.compactor
  holds = (i.parties n (in_call facts task) at).holds

  pub stepped_has : (obey : (j : ℕ) (l : Link Record Author) → link_at j (next.chains logs.Compactions facts.db) ≡ Some l → ObeyOutputs l.value.entries) → PartyAt next n (settled task.call (standing_after m.world facts task moment mark))
  stepped_has obey =
      let standing = standing_after m.world facts task moment mark in
      settled_has next.world.store next.chains n task.call standing.facts standing.next
      (work_stands m.world.store i.tidy m.chains next.world.store next.chains n facts task.call mark moment author named (λ k. i.logs k facts.db named) (own_turned facts.db named) obey holds h.compactor task.work brought.knows.own refl brought.knows.fits
      (λ k. still k facts.db) brought.knows.knows h.call brought.brings)

  -- the epoch with which the party puts a record
  raises : (e : ℕ) → record_epoch_in (record_change_by author.puts) ≡ Some e → HasRaised (next.chains logs.Manifest facts.db) author.party e
  raises e is =
      let own = work_raises m.world.store m.chains n facts task.call task.work brought.knows.fits h.call (subst (λ d. OfCompactor m.chains n d facts.compactor) (sym brought.knows.own) h.compactor) e is in
      let here = subst (λ d. HasRaised (m.chains logs.Manifest d) n e) brought.knows.own own in
      subst (λ (k : ℕ). HasRaised (next.chains logs.Manifest facts.db) k e) (sym (author_party n (phrase_of task.work)))
      (own_raised facts.db named m.world.store i.tidy m.chains next.world.store next.chains n author (λ k. i.logs k facts.db named) (own_turned facts.db named) e here)

  pub stepped_raisers : (db : List ℕ) → is_db_path db ≡ true → PutByRaisers (m.chains logs.Manifest db) (m.chains logs.Compactions db) → PutByRaisers (next.chains logs.Manifest db) (next.chains logs.Compactions db)
  stepped_raisers db is was =
      ⊎_elim
      (λ (same : db ≡ facts.db).
      let t = own_turned facts.db named in
      subst (λ d. PutByRaisers (next.chains logs.Manifest d) (next.chains logs.Compactions d)) (sym same)
      (raisers_next (m.chains logs.Manifest facts.db) (next.chains logs.Manifest facts.db) (t.grows logs.Manifest).kept (m.chains logs.Compactions facts.db) (next.chains logs.Compactions facts.db) author (t.changed logs.Compactions) raises
      (subst (λ d. PutByRaisers (m.chains logs.Manifest d) (m.chains logs.Compactions d)) same was)))
      (λ (ne : db ≢ facts.db). raisers_same (m.chains logs.Manifest db) (next.chains logs.Manifest db) (m.chains logs.Compactions db) (next.chains logs.Compactions db) (away logs.Manifest db ne) (away logs.Compactions db ne) was)
      (same_name db facts.db)

  gives : (e : ℕ) → trimming_epoch author.puts ≡ Some e → AtMostTop record_epoch e (m.chains logs.Compactions facts.db)
  gives e is =
      let given = work_gives m.world.store m.chains n facts task.call task.work brought.knows.fits brought.knows.holds (subst (λ d. Holds m.chains d facts.compactor) (sym brought.knows.own) holds) e is in
      given_most (m.chains logs.Compactions facts.db) (i.logs logs.Compactions facts.db named).chain e (subst (λ d. Given m.chains d e) brought.knows.own given)

  pub stepped_holders : (db : List ℕ) → is_db_path db ≡ true → TrimmedByHolders (m.chains logs.Compactions db) → TrimmedByHolders (next.chains logs.Compactions db)
  stepped_holders db is was =
      ⊎_elim
      (λ (same : db ≡ facts.db).
      let t = own_turned facts.db named in
      subst (λ d. TrimmedByHolders (next.chains logs.Compactions d)) (sym same)
      (holders_next (m.chains logs.Compactions facts.db) (next.chains logs.Compactions facts.db) author (t.chain_after logs.Compactions) (t.changed logs.Compactions) gives (subst (λ d. TrimmedByHolders (m.chains logs.Compactions d)) same was)))
      (λ (ne : db ≢ facts.db). subst TrimmedByHolders (sym (away logs.Compactions db ne)) was)
      (same_name db facts.db)

-- ---- each event

had_db : (m m' : Moment) (e : Event) → Turn m e m' → (db : List ℕ) → HasDb m'.world db → HasDb m.world db
had_db m m' e t db has = sym (t.grows.same db) ∙ has

whole_kept : (m : Moment) (e : Event) (q : Party) (m' : Moment) → Does m e q m' → Turn m e m' → All WholeHas PartyAt m → WholeHas m'
whole_kept m e q m' (Comes n kind db tally none found) t h = record { raisers = h.whole.raisers; holders = h.whole.holders; opens = h.whole.opens }
whole_kept m e q m' (Starts n call facts at may) t h = record { raisers = h.whole.raisers; holders = h.whole.holders; opens = h.whole.opens }
whole_kept m e q m' (Carries n call p at may) t h = record { raisers = h.whole.raisers; holders = h.whole.holders; opens = h.whole.opens }
whole_kept m e q m' (Stops n p at) t h = record { raisers = h.whole.raisers; holders = h.whole.holders; opens = h.whole.opens }
whole_kept m e q m' (Idles _ p at) t h = h.whole
whole_kept m e q m' (Steps n moment mark facts task at) t h =
    let party = h.each n (in_call facts task) at in
    record {
      raisers = λ db has.
          let was = had_db m m' e t db has in
          stepped_raisers m n moment mark facts task t.inv at party db (t.inv.named db was) (h.whole.raisers db was);
      holders = λ db has.
          let was = had_db m m' e t db has in
          stepped_holders m n moment mark facts task t.inv at party db (t.inv.named db was) (h.whole.holders db was);
      opens = λ db has.
          let was = had_db m m' e t db has in
          opens_next _ (m.chains logs.Compactions db) (m'.chains logs.Compactions db) ((own_turned m n moment mark facts task t.inv at party db (t.inv.named db was)).changed logs.Compactions) (h.whole.opens db was);
    }

own_kept : (m : Moment) (e : Event) (q : Party) (m' : Moment) → Does m e q m' → Turn m e m' → All WholeHas PartyAt m → WholeHas m' → PartyAt m' (party_in e) q
own_kept m e q m' (Comes n kind db tally none found) t h whole = record { compactor = tt; call = tt }
own_kept m e q m' (Starts n call facts at may) t h whole = started_has m.world.store m.chains n facts (h.each n _ at).compactor call
own_kept m e q m' (Carries n call p at may) t h whole = h.each n p at
own_kept m e q m' (Stops n p at) t h whole = record { compactor = (h.each n p at).compactor; call = tt }
own_kept m e q m' (Idles _ p at) t h whole = h.each (party_in e) p at
own_kept m e q m' (Steps n moment mark facts task at) t h whole =
    let party = h.each n (in_call facts task) at in
    let has = (step_brings m n facts task moment mark t.inv at).has in
    let named = t.inv.named facts.db has in
    stepped_has m n moment mark facts task t.inv at party
    (λ j l is. outputs_stand (m'.chains logs.Compactions facts.db) (t.inv_after.logs logs.Compactions facts.db named).chain (whole.opens facts.db (t.grows.same facts.db ∙ has)) j l is)

others_kept : (m : Moment) (e : Event) (q : Party) (m' : Moment) → Does m e q m' → Turn m e m' → All WholeHas PartyAt m → WholeHas m' → (k : ℕ) → k ≢ party_in e → (p : Party) → party_of k m.world.parties ≡ Some p → PartyAt m k p → PartyAt m' k p
others_kept m e q m' d t h whole k ne p at own =
    let knows = t.inv.parties k p at in
    party_kept m.world.store m.chains m'.world.store m'.chains (party_in e) k ne p.facts (turned m e m' t p.facts.db knows.has) (whole.raisers p.facts.db (t.grows.same p.facts.db ∙ knows.has)) knows.holds own.compactor p.state knows.knows own.call

pub each_kept : Kept WholeHas PartyAt
each_kept = record { whole = whole_kept; own = own_kept; others = others_kept }

-- at each moment of a run
pub all_of_run : (specs : List DbSpec) (events : List Event) → IsAccepted specs → All WholeHas PartyAt (moment_of events (opening_moment specs))
all_of_run specs events accepted = along_run WholeHas PartyAt each_kept specs events accepted (opening_whole specs accepted)
