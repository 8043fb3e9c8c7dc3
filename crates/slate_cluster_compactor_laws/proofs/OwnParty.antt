-- A step of a party: what holds of it after that, whatever its work is.
use Rattle.std.proofs.Common.{◌≡◌, ◌≢◌, ℕ, ℤ, ◌<◌, true, false, List, Option, Some, None, Ok, Err, refl, sym, ap, ◌∙◌, subst, arith}
use Rattle.slate_ids.specs.Ids.{is_db_path}
use Rattle.slate_ids.specs.declared.gc_message.GcMessage.{GcMessage}
use Rattle.slate_store.specs.Machines.{Stay, End}
use Rattle.slate_store.specs.Store.{Store, effect}
use Rattle.slate_store.specs.declared.mark.Mark.{Mark}
use Rattle.slate_store.specs.declared.store_answer.StoreAnswer.{StoreAnswer}
use Rattle.slate_store.specs.declared.store_answer.StoreAnswer.TheVariants.{Written}
use Rattle.slate_txn_changes.specs.LogWorks.{WorkGoes}
use Rattle.slate_txn_changes.specs.declared.log_work.LogEnd.{LogEnd}
use Rattle.slate_txn_changes.specs.declared.log_work.LogEnd.TheVariants.{Absent, Unchanged, Committed}
use Rattle.slate_txn_changes.specs.declared.log_work.LogWork.{LogWork}
use Rattle.slate_txn_changes.specs.declared.log_work.LogWork.TheVariants.{Reading, Committing}
use Rattle.slate_txn_log.specs.declared.log_kind.LogKind.{LogKind}
use Rattle.slate_txn_log.specs.declared.log_kind.LogKind.TheVariants as logs
use Rattle.slate_gc_passes.specs.GcPhase.{GcGoes}
use Rattle.slate_gc_passes.specs.declared.gc_phase.GcPhase.{GcPhase}
use Rattle.slate_gc_passes.specs.declared.gc_phase.GcPhase.TheVariants.{Removing, Collecting}
use Rattle.slate_gc_passes.specs.declared.pass_phase.PassPhase.{PassPhase}
use Rattle.slate_gc_passes.specs.declared.pass_phase.PassPhase.TheVariants as passing
use Rattle.slate_gc_passes.specs.declared.pass_settings.PassSettings.{PassSettings}
use Rattle.slate_model.specs.declared.manifest.Manifest.{Manifest}
use Rattle.slate_model_records.specs.Records.{Record}
use Rattle.slate_script_events.specs.declared.call.Call.{Call}
use Rattle.slate_script_events.specs.declared.call.Call.TheVariants.{OpenWriter, Schedule, Claim, Report}
use Rattle.slate_script_events.specs.declared.filter_word.FilterWord.{FilterWord}
use Rattle.slate_state_calls.specs.Commits.{ManifestChanging, RecordChanging}
use Rattle.slate_state_calls.specs.Opening.{OpenGoes, open_asks, open_goes}
use Rattle.slate_state_calls.specs.StateSteps.{StateGoes, state_asks, state_goes}
use Rattle.slate_state_calls.specs.declared.compactor.Compactor.{Compactor}
use Rattle.slate_state_calls.specs.declared.open_phase.OpenPhase.{OpenPhase}
use Rattle.slate_state_calls.specs.declared.open_phase.OpenPhase.TheVariants as opening
use Rattle.slate_state_calls.specs.declared.open_phase.OpenStep.{OpenStep}
use Rattle.slate_state_calls.specs.declared.open_phase.OpenStep.TheVariants.{Give, Begin, GiveFirst, Reset}
use Rattle.slate_state_calls.specs.declared.state_phase.RecordStep.{RecordStep}
use Rattle.slate_state_calls.specs.declared.state_phase.RecordStep.TheVariants as steps
use Rattle.slate_state_calls.specs.declared.state_phase.StatePhase.{StatePhase}
use Rattle.slate_state_calls.specs.declared.state_phase.StatePhase.TheVariants as compacting
use Rattle.slate_state_record_updates.specs.declared.record_change.RecordChange.{RecordChange}
use Rattle.slate_state_updates.specs.Writers.{epoch_of}
use Rattle.slate_state_updates.specs.declared.epochs.ManifestEpochs.TheVariants as epochs
use Rattle.slate_state_updates.specs.declared.manifest_change.ManifestChange.{ManifestChange}
use Rattle.slate_state_updates.specs.declared.manifest_change.ManifestChange.TheVariants.{DropExpired}
use Rattle.slate_cluster_protocol.specs.Calls.{facts_after, facts_with, record_change_of, Next, Go, Finish}
use Rattle.slate_cluster_protocol.specs.Chains.{Link, link_at}
use Rattle.slate_cluster_protocol.specs.Holding.{AtMostTop, Fits, FitsOpen, FitsState, open_change, record_change_at, schedule_of}
use Rattle.slate_cluster_protocol.specs.Logs.{Author, Chains, Held, OfManifest, First, Puts, change_phrase, log_of, manifest_phrase, manifest_puts, open_phrase, pass_phrase, phrase_of, put_by, record_phrase, record_puts, state_phrase}
use Rattle.slate_cluster_protocol.specs.Rows.{Standing, compactor_on, manifest_on, moved, open_on, pass_on, put_on, record_on, state_on}
use Rattle.slate_cluster_protocol.specs.Works.{asks, db_of}
use Rattle.slate_cluster_protocol.specs.World.{settled}
use Rattle.slate_cluster_protocol.specs.declared.party.Facts.{Facts}
use Rattle.slate_cluster_protocol.specs.declared.uploads.Upload.{Upload}
use Rattle.slate_cluster_protocol.specs.declared.work.Work.{Work}
use Rattle.slate_cluster_protocol.specs.declared.work.Work.TheVariants as works
use Rattle.slate_cluster_chain_laws.specs.Locals.{ObeyOutputs}
use Rattle.slate_cluster_chain_laws.specs.Raises.{HasRaised}
use Rattle.slate_cluster_laws.proofs.Calls.{Holds}
use Rattle.slate_cluster_laws.proofs.Facts.{IsSound}
use Rattle.slate_cluster_laws.proofs.Steps.{PhraseBrings, PhraseKnows, author_in}
use Rattle.slate_cluster_laws.proofs.Stores.{IsTidy}
use Rattle.slate_cluster_compactor_laws.specs.Pending.{IsTopEpoch}
use Rattle.slate_cluster_compactor_laws.proofs.Greatest.{IsGentle, below_top, harmless, own_gentle, quiet_gentle, raised_most, trims}
use Rattle.slate_cluster_compactor_laws.proofs.Held.{CompactorHas, IsAbove, OfCompactor, OpenHas, PartyHas, StateHas, UnderWay}
use Rattle.slate_cluster_compactor_laws.proofs.OpenSteps.{OpenTo, open_to}
use Rattle.slate_cluster_compactor_laws.proofs.Others.{Turned}
use Rattle.slate_cluster_compactor_laws.proofs.OwnChains.{own_compactors, own_raised}
use Rattle.slate_cluster_compactor_laws.proofs.StateSteps.{IsCalm, StateTo, state_to}

-- ---- what the author of a phrase puts

-- where a change doesn't trim, its phrase doesn't
change_calm : (n : ℕ) (k : LogKind) (db : List ℕ) (puts : Puts) (work : LogWork (Held k)) → trims puts ≡ false → trims (author_in n (change_phrase k db puts work)).puts ≡ false
change_calm n k db puts (Reading phase) h = refl
change_calm n k db puts (Committing made phase) h = h

manifest_calm : (n : ℕ) (db : List ℕ) (p : ManifestChanging) → trims (author_in n (manifest_phrase db p)).puts ≡ false
manifest_calm n db p = change_calm n logs.Manifest db (manifest_puts p.change) p.work (by p.change)
  where
    by : (o : Option ManifestChange) → trims (manifest_puts o) ≡ false
    by None = refl
    by (Some change) = refl

-- where it is none of those that trim
record_calm : (n : ℕ) (db : List ℕ) (p : RecordChanging) (o : Option RecordChange) → p.change ≡ o → trims (record_puts o) ≡ false → trims (author_in n (record_phrase db p)).puts ≡ false
record_calm n db p o is h = change_calm n logs.Compactions db (record_puts p.change) p.work (ap (λ (x : Option RecordChange). trims (record_puts x)) is ∙ h)

worker_calm : (facts : Facts) (call : Call) → trims (record_puts (record_change_of facts call)) ≡ false
worker_calm facts (Claim id) = refl
worker_calm facts (Report id tables) = refl
worker_calm facts _ = refl

collecting_calm : (n : ℕ) (db : List ℕ) (pass : GcMessage) (at : Option ℤ) (phase : PassPhase) → trims (author_in n (pass_phrase db pass (Collecting at phase))).puts ≡ false
collecting_calm n db pass at passing.Over = refl
collecting_calm n db pass at _ = refl

pass_calm : (n : ℕ) (db : List ℕ) (pass : GcMessage) (phase : GcPhase) → trims (author_in n (pass_phrase db pass phase)).puts ≡ false
pass_calm n db pass (Removing work) = change_calm n logs.Manifest db (OfManifest DropExpired) work refl
pass_calm n db pass (Collecting at phase) = collecting_calm n db pass at phase

schedule_calm : (call : Call) (e : ℕ) → trims (record_puts (schedule_of call e)) ≡ false
schedule_calm (Schedule id) e = refl
schedule_calm _ e = refl

-- an open's steps before its reset
open_calm : (step : OpenStep) (e : ℕ) → step ≢ Reset → trims (record_puts (open_change step e)) ≡ false
open_calm Give e ne = refl
open_calm Begin e ne = refl
open_calm GiveFirst e ne = refl
open_calm Reset e ne = absurd (ne refl)

module _ (n : ℕ) (db : List ℕ) (c : Compactor) where
  calm_gentle : (puts : Puts) → trims puts ≡ false → (old : Record) → IsGentle c.local puts old
  calm_gentle puts h old = quiet_gentle c.local puts old (harmless puts old h)

  -- a compactor's own record puts its own statuses
  own_statuses : (call : Call) (p : RecordChanging) → p.change ≡ record_change_at call (steps.Record None) c → (old : Record) → IsGentle c.local (author_in n (record_phrase db p)).puts old
  own_statuses call p is old = by p.work
    where
      by : (work : LogWork Record) → IsGentle c.local (author_in n (change_phrase logs.Compactions db (record_puts p.change) work)).puts old
      by (Reading phase) = calm_gentle First refl old
      by (Committing made phase) = own_gentle c.local c.epoch (record_puts p.change) old (ap record_puts is)

  record_gentle : (call : Call) (step : RecordStep) (p : RecordChanging) → p.change ≡ record_change_at call step c → (old : Record) → IsGentle c.local (author_in n (record_phrase db p)).puts old
  record_gentle call steps.Follow p is old = calm_gentle (author_in n (record_phrase db p)).puts (record_calm n db p None is refl) old
  record_gentle call steps.Schedule p is old = calm_gentle (author_in n (record_phrase db p)).puts (record_calm n db p (schedule_of call c.epoch) is (schedule_calm call c.epoch)) old
  record_gentle call (steps.Fetch write) p is old = calm_gentle (author_in n (record_phrase db p)).puts (record_calm n db p None is refl) old
  record_gentle call (steps.Record write) p is old = own_statuses call p is old

  state_gentle : (call : Call) (phase : StatePhase) → FitsState call phase (Some c) → (old : Record) → IsGentle c.local (author_in n (state_phrase db phase)).puts old
  state_gentle call (compacting.OnRecord step p) fits old = record_gentle call step p fits.1 old
  state_gentle call (compacting.OnManifest step p) fits old = calm_gentle (author_in n (manifest_phrase db p)).puts (manifest_calm n db p) old
  state_gentle call compacting.Over fits old = absurd fits

-- ---- after a step

-- what holds where a call stands so
abbrev pub NextHas : Store → Chains → ℕ → Option Compactor → Next → Type 0
NextHas s chains n o (Go work) = UnderWay s chains n o work
NextHas s chains n o (Finish reply) = Unit {0}

pub record StandsHas (s : Store) (chains : Chains) (n : ℕ) (standing : Standing) : Type 0 where
  pub compactor : OfCompactor chains n standing.facts.db standing.facts.compactor
  pub next : NextHas s chains n standing.facts.compactor standing.next

pub settled_has : (s : Store) (chains : Chains) (n : ℕ) (call : Call) (facts : Facts) (next : Next) → StandsHas s chains n (record { facts = facts; next = next }) → PartyHas s chains n (settled call (record { facts = facts; next = next }))
settled_has s chains n call facts (Go work) h = record { compactor = h.compactor; call = h.next }
settled_has s chains n call facts (Finish reply) h = record { compactor = h.compactor; call = tt }

module _ (s : Store) (tidy : IsTidy s.objects) (chains : Chains) (s' : Store) (chains' : Chains) (n : ℕ) (facts : Facts) (call : Call) (mark : Mark) (moment : ℤ) (author : Author)
    (named : is_db_path facts.db ≡ true) (sound : (k : LogKind) → IsSound (log_of k) facts.db s (chains k facts.db)) (t : Turned (λ (a : Author). a ≡ author) s chains s' chains' facts.db)
    (obey : (j : ℕ) (l : Link Record Author) → link_at j (chains' logs.Compactions facts.db) ≡ Some l → ObeyOutputs l.value.entries) (holds : Holds chains facts.db facts.compactor) (of : OfCompactor chains n facts.db facts.compactor) where
  -- the compactor stays as it is
  abbrev Kept : Type 0
  Kept = OfCompactor chains' n facts.db facts.compactor

  kept_if : ((c : Compactor) → facts.compactor ≡ Some c → IsTopEpoch c.epoch (chains' logs.Manifest facts.db) → (old : Record) → IsGentle c.local author.puts old) → Kept
  kept_if gentle = own_compactors facts.db named s tidy chains s' chains' n author sound t facts.compactor holds gentle of

  kept_calm : trims author.puts ≡ false → Kept
  kept_calm calm = kept_if (λ c is top old. quiet_gentle c.local author.puts old (harmless author.puts old calm))

  -- ---- works of which nothing more is known

  with_kept : (by : Call) (m : Manifest) → Kept → OfCompactor chains' n (facts_with by m facts).db (facts_with by m facts).compactor
  with_kept OpenWriter m h = h
  with_kept _ m h = h

  after_kept : (end : LogEnd Manifest) → Kept → OfCompactor chains' n (facts_after call end facts).db (facts_after call end facts).compactor
  after_kept Absent h = h
  after_kept (Unchanged k m) h = h
  after_kept (Committed k m) h = with_kept call m h

  manifest_has : (db : List ℕ) (p : ManifestChanging) (g : WorkGoes Manifest) → Kept → StandsHas s' chains' n (manifest_on facts call db p g)
  manifest_has db p (Stay work) h = record { compactor = h; next = tt }
  manifest_has db p (End work (Ok end)) h = record { compactor = after_kept end h; next = tt }
  manifest_has db p (End work (Err e)) h = record { compactor = h; next = tt }

  record_has_on : (db : List ℕ) (p : RecordChanging) (g : WorkGoes Record) → Kept → StandsHas s' chains' n (record_on facts db p g)
  record_has_on db p (Stay work) h = record { compactor = h; next = tt }
  record_has_on db p (End work (Ok end)) h = record { compactor = h; next = tt }
  record_has_on db p (End work (Err e)) h = record { compactor = h; next = tt }

  put_has : (upload : Upload) (answer : StoreAnswer) → Kept → StandsHas s' chains' n (put_on facts upload answer)
  put_has upload (Written tag) h = record { compactor = h; next = tt }
  put_has upload _ h = record { compactor = h; next = tt }

  pass_has : (db : List ℕ) (settings : PassSettings) (filter : FilterWord) (g : GcGoes) → Kept → StandsHas s' chains' n (pass_on facts db settings filter g)
  pass_has db settings filter (Stay phase) h = record { compactor = h; next = tt }
  pass_has db settings filter (End phase (Ok counts)) h = record { compactor = h; next = tt }
  pass_has db settings filter (End phase (Err e)) h = record { compactor = h; next = tt }

  -- ---- an open

  held_most : (o : Option Compactor) → OfCompactor chains n facts.db o → (c : Compactor) → o ≡ Some c → AtMostTop (epoch_of epochs.Compactor) c.epoch (chains logs.Manifest facts.db)
  held_most None h c is = absurd (cc is)
  held_most (Some d) h c is =
      let same : d ≡ c = cc is in
      subst (λ (x : Compactor). AtMostTop (epoch_of epochs.Compactor) x.epoch (chains logs.Manifest facts.db)) same (raised_most (chains logs.Manifest facts.db) (t.chain logs.Manifest) n d.epoch h.raised)

  -- once another epoch was raised, the one held isn't that of the greatest manifest
  no_top : (c : Compactor) (e : ℕ) → HasRaised (chains logs.Manifest facts.db) n e → c.epoch < e → IsTopEpoch c.epoch (chains' logs.Manifest facts.db) → ⊥
  no_top c e mine lt top =
      let le = below_top (chains' logs.Manifest facts.db) e c.epoch (raised_most (chains' logs.Manifest facts.db) (t.chain_after logs.Manifest) n e (own_raised facts.db named s tidy chains s' chains' n author sound t e mine)) top in
      omega arith

  above_some : (o : Option Compactor) (e : ℕ) → IsAbove o e → (c : Compactor) → o ≡ Some c → c.epoch < e
  above_some None e h c is = absurd (cc is)
  above_some (Some d) e h c is = let same : d ≡ c = cc is in subst (λ (x : Compactor). x.epoch < e) same h

  open_gentle : (phase : OpenPhase) → author ≡ author_in n (open_phrase facts.db phase) → FitsOpen phase → OpenHas s chains n facts.db facts.compactor phase → (c : Compactor) → facts.compactor ≡ Some c
      → IsTopEpoch c.epoch (chains' logs.Manifest facts.db) → (old : Record) → IsGentle c.local author.puts old
  open_gentle (opening.Raising p) is fits h c held top old = quiet_gentle c.local author.puts old (harmless author.puts old (ap (λ (a : Author). trims a.puts) is ∙ manifest_calm n facts.db p))
  open_gentle (opening.OnRecord Reset m p) is fits h c held top old = absurd (no_top c m.1.compactor_epoch h.raised (above_some facts.compactor m.1.compactor_epoch h.above c held) top)
  open_gentle (opening.OnRecord Give m p) is fits h c held top old = quiet_gentle c.local author.puts old (harmless author.puts old (ap (λ (a : Author). trims a.puts) is ∙ record_calm n facts.db p (open_change Give m.1.compactor_epoch) fits refl))
  open_gentle (opening.OnRecord Begin m p) is fits h c held top old = quiet_gentle c.local author.puts old (harmless author.puts old (ap (λ (a : Author). trims a.puts) is ∙ record_calm n facts.db p (open_change Begin m.1.compactor_epoch) fits refl))
  open_gentle (opening.OnRecord GiveFirst m p) is fits h c held top old = quiet_gentle c.local author.puts old (harmless author.puts old (ap (λ (a : Author). trims a.puts) is ∙ record_calm n facts.db p (open_change GiveFirst m.1.compactor_epoch) fits refl))
  open_gentle opening.Over is fits h c held top old = absurd fits

  open_stands : (g : OpenGoes) → Kept → OpenTo facts.db named s tidy chains s' chains' n author sound t obey facts.compactor mark moment g → StandsHas s' chains' n (open_on facts facts.db g)
  open_stands (Stay phase) kept h = record { compactor = kept; next = h }
  open_stands (End phase (Ok c)) kept h = record { compactor = h; next = tt }
  open_stands (End phase (Err e)) kept h = record { compactor = kept; next = tt }

  -- ---- a call on the state

  module _ (c : Compactor) (holds_c : Holds chains facts.db (Some c)) (of_c : CompactorHas chains n facts.db c) (after : CompactorHas chains' n facts.db c) where
    state_stands : (g : StateGoes) → StateTo facts.db named s tidy chains s' chains' n author sound t obey mark moment c of_c.raised holds_c.1 after g → StandsHas s' chains' n (state_on facts facts.db g)
    state_stands (Stay at) h = record { compactor = h.0; next = h.1 }
    state_stands (End at (Ok u)) h = record { compactor = h; next = tt }
    state_stands (End at (Err e)) h = record { compactor = h; next = tt }

    calm_at : (phase : StatePhase) → author ≡ author_in n (state_phrase facts.db phase) → IsCalm facts.db named s tidy chains s' chains' n author sound t obey mark moment c of_c.raised holds_c.1 after phase
    calm_at (compacting.OnManifest step p) is = λ old. harmless author.puts old (ap (λ (a : Author). trims a.puts) is ∙ manifest_calm n facts.db p)
    calm_at (compacting.OnRecord step p) is = tt
    calm_at compacting.Over is = tt

  by_compactor : (phase : StatePhase) (o : Option Compactor) → Holds chains facts.db o → OfCompactor chains n facts.db o → OfCompactor chains' n facts.db o → Kept → author ≡ author_in n (state_phrase facts.db phase)
      → ((k : LogKind) → put_by n (state_phrase facts.db phase) ≡ None → chains' k facts.db ≡ chains k facts.db) → PhraseKnows s chains n (state_phrase facts.db phase) → StateHas s chains facts.db phase o
      → PhraseBrings s' chains' n (state_phrase facts.db phase) moment (effect mark (state_asks facts.db phase) moment s).answer
      → StandsHas s' chains' n (compactor_on facts facts.db moment phase (effect mark (state_asks facts.db phase) moment s).answer o)
  by_compactor phase None holds_o of_o after kept is still knows h brings = record { compactor = kept; next = tt }
  by_compactor phase (Some c) holds_o of_o after kept is still knows h brings =
      state_stands c holds_o of_o after (state_goes moment (phase, c) (effect mark (state_asks facts.db phase) moment s).answer)
      (state_to facts.db named s tidy chains s' chains' n author sound t obey mark moment c of_o.raised holds_o.1 after phase (calm_at c holds_o of_o after phase is) is still knows h brings)

  state_gentles : (phase : StatePhase) → author ≡ author_in n (state_phrase facts.db phase) → (o : Option Compactor) → FitsState call phase o → (c : Compactor) → o ≡ Some c → (old : Record) → IsGentle c.local author.puts old
  state_gentles phase is None fits c held old = absurd (cc held)
  state_gentles phase is (Some d) fits c held old =
      let same : d ≡ c = cc held in
      subst (λ (a : Author). IsGentle c.local a.puts old) (sym is) (state_gentle n facts.db c call phase (subst (λ (x : Compactor). FitsState call phase (Some x)) same fits) old)

  -- ---- any work at the party's database

  pub work_stands : (work : Work) → db_of work ≡ facts.db → author ≡ author_in n (phrase_of work) → Fits facts call work → ((k : LogKind) → put_by n (phrase_of work) ≡ None → chains' k facts.db ≡ chains k facts.db)
      → PhraseKnows s chains n (phrase_of work)
      → UnderWay s chains n facts.compactor work → PhraseBrings s' chains' n (phrase_of work) moment (effect mark (asks work) moment s).answer → StandsHas s' chains' n (moved facts call work moment (effect mark (asks work) moment s).answer)
  work_stands (works.Manifests db p) own is fits still knows h brings = manifest_has db p _ (kept_calm (ap (λ (a : Author). trims a.puts) is ∙ manifest_calm n db p))
  work_stands (works.Records db p) own is fits still knows h brings = record_has_on db p _ (kept_calm (ap (λ (a : Author). trims a.puts) is ∙ record_calm n db p (record_change_of facts call) fits (worker_calm facts call)))
  work_stands (works.PutTable db upload bytes) own is fits still knows h brings = put_has upload _ (kept_calm (ap (λ (a : Author). trims a.puts) is))
  work_stands (works.Pass db settings filter phase) own is fits still knows h brings = pass_has db settings filter _ (kept_calm (ap (λ (a : Author). trims a.puts) is ∙ pass_calm n db settings.pass phase))
  work_stands (works.Opening db phase) own is fits still knows h brings = at_own db own is still knows h brings
    where
      at_own : (db : List ℕ) → db ≡ facts.db → author ≡ author_in n (open_phrase db phase) → ((k : LogKind) → put_by n (open_phrase db phase) ≡ None → chains' k facts.db ≡ chains k facts.db) → PhraseKnows s chains n (open_phrase db phase)
          → OpenHas s chains n db facts.compactor phase → PhraseBrings s' chains' n (open_phrase db phase) moment (effect mark (open_asks db phase) moment s).answer
          → StandsHas s' chains' n (open_on facts db (open_goes moment phase (effect mark (open_asks db phase) moment s).answer))
      at_own db own = subst (λ (d : List ℕ). author ≡ author_in n (open_phrase d phase) → ((k : LogKind) → put_by n (open_phrase d phase) ≡ None → chains' k facts.db ≡ chains k facts.db) → PhraseKnows s chains n (open_phrase d phase)
          → OpenHas s chains n d facts.compactor phase → PhraseBrings s' chains' n (open_phrase d phase) moment (effect mark (open_asks d phase) moment s).answer
          → StandsHas s' chains' n (open_on facts d (open_goes moment phase (effect mark (open_asks d phase) moment s).answer)))
          (sym own)
          (λ is still knows h brings.
          open_stands (open_goes moment phase (effect mark (open_asks facts.db phase) moment s).answer) (kept_if (open_gentle phase is fits h))
          (open_to facts.db named s tidy chains s' chains' n author sound t obey facts.compactor mark moment phase fits (held_most facts.compactor of) is still knows h brings))
  work_stands (works.Compacting db phase) own is fits still knows h brings = at_own db own is still knows h brings
    where
      at_own : (db : List ℕ) → db ≡ facts.db → author ≡ author_in n (state_phrase db phase) → ((k : LogKind) → put_by n (state_phrase db phase) ≡ None → chains' k facts.db ≡ chains k facts.db) → PhraseKnows s chains n (state_phrase db phase)
          → StateHas s chains db phase facts.compactor → PhraseBrings s' chains' n (state_phrase db phase) moment (effect mark (state_asks db phase) moment s).answer
          → StandsHas s' chains' n (compactor_on facts db moment phase (effect mark (state_asks db phase) moment s).answer facts.compactor)
      at_own db own = subst (λ (d : List ℕ). author ≡ author_in n (state_phrase d phase) → ((k : LogKind) → put_by n (state_phrase d phase) ≡ None → chains' k facts.db ≡ chains k facts.db) → PhraseKnows s chains n (state_phrase d phase)
          → StateHas s chains d phase facts.compactor → PhraseBrings s' chains' n (state_phrase d phase) moment (effect mark (state_asks d phase) moment s).answer
          → StandsHas s' chains' n (compactor_on facts d moment phase (effect mark (state_asks d phase) moment s).answer facts.compactor))
          (sym own)
          (λ is still knows h brings.
          let kept = kept_if (λ c held top old. state_gentles phase is facts.compactor fits c held old) in
          by_compactor phase facts.compactor holds of kept kept is still knows h brings)
