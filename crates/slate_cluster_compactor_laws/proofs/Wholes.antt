-- What holds of all records of a run: each epoch with which one was put was raised by the party that put it, and each obeys the rule on outputs.
use Rattle.std.proofs.Common.{◌≡◌, ◌≢◌, ℕ, ℤ, ◌+◌, ◌≤◌, List, [], ◌∷◌, Option, Some, None, ⊎_elim, sym, ap, ◌∙◌, subst, arith}
use Rattle.slate_ids.specs.declared.gc_message.GcMessage.{GcMessage}
use Rattle.slate_store.specs.Store.{Store}
use Rattle.slate_txn_changes.specs.declared.log_work.LogWork.{LogWork}
use Rattle.slate_txn_changes.specs.declared.log_work.LogWork.TheVariants.{Reading, Committing}
use Rattle.slate_txn_log.specs.declared.log_kind.LogKind.{LogKind}
use Rattle.slate_txn_log.specs.declared.log_kind.LogKind.TheVariants as logs
use Rattle.slate_gc_passes.specs.declared.gc_phase.GcPhase.{GcPhase}
use Rattle.slate_gc_passes.specs.declared.gc_phase.GcPhase.TheVariants.{Removing, Collecting}
use Rattle.slate_gc_passes.specs.declared.pass_phase.PassPhase.{PassPhase}
use Rattle.slate_gc_passes.specs.declared.pass_phase.PassPhase.TheVariants as passing
use Rattle.slate_model.specs.declared.manifest.Manifest.{Manifest}
use Rattle.slate_model_records.specs.Records.{Record}
use Rattle.slate_script_events.specs.declared.call.Call.{Call}
use Rattle.slate_script_events.specs.declared.call.Call.TheVariants.{Schedule, Claim, Report}
use Rattle.slate_state_calls.specs.Commits.{RecordChanging}
use Rattle.slate_state_calls.specs.declared.compactor.Compactor.{Compactor}
use Rattle.slate_state_calls.specs.declared.open_phase.OpenPhase.{OpenPhase}
use Rattle.slate_state_calls.specs.declared.open_phase.OpenPhase.TheVariants as opening
use Rattle.slate_state_calls.specs.declared.open_phase.OpenStep.{OpenStep}
use Rattle.slate_state_calls.specs.declared.open_phase.OpenStep.TheVariants.{Give, Begin, GiveFirst, Reset}
use Rattle.slate_state_calls.specs.declared.state_phase.RecordStep.{RecordStep}
use Rattle.slate_state_calls.specs.declared.state_phase.RecordStep.TheVariants as steps
use Rattle.slate_state_calls.specs.declared.state_phase.StatePhase.{StatePhase}
use Rattle.slate_state_calls.specs.declared.state_phase.StatePhase.TheVariants as compacting
use Rattle.slate_state_record_updates.specs.RecordChanges.{fence_of as record_fence_of}
use Rattle.slate_state_record_updates.specs.RecordEpochs.{record_epoch}
use Rattle.slate_state_record_updates.specs.declared.record_change.RecordChange.{RecordChange}
use Rattle.slate_state_record_updates.specs.declared.record_change.RecordChange.TheVariants as changes
use Rattle.slate_txn_changes.specs.Changes.{fence_by}
use Rattle.slate_state_updates.specs.declared.manifest_change.ManifestChange.{ManifestChange}
use Rattle.slate_state_updates.specs.declared.manifest_change.ManifestChange.TheVariants.{DropExpired}
use Rattle.slate_cluster_protocol.specs.Calls.{record_change_of}
use Rattle.slate_cluster_protocol.specs.Chains.{Link, link_at, IsChain, Changed}
use Rattle.slate_cluster_protocol.specs.Chains.Changed.{Stays, Gets}
use Rattle.slate_cluster_protocol.specs.Fenced.{record_epoch_in}
use Rattle.slate_cluster_protocol.specs.Holding.{AtMostTop, Fits, FitsOpen, FitsState, open_change, record_change_at, schedule_of}
use Rattle.slate_cluster_protocol.specs.Logs.{Author, Chain, Chains, Held, records, OfManifest, OfRecord, First, Puts, change_phrase, manifest_phrase, manifest_puts, open_phrase, pass_phrase, phrase_of, record_change_by, record_phrase, record_puts, state_phrase}
use Rattle.slate_cluster_protocol.specs.Works.{db_of}
use Rattle.slate_cluster_protocol.specs.World.{HasDb}
use Rattle.slate_cluster_protocol.specs.declared.party.Facts.{Facts}
use Rattle.slate_cluster_protocol.specs.declared.work.Work.{Work}
use Rattle.slate_cluster_protocol.specs.declared.work.Work.TheVariants as works
use Rattle.slate_cluster_chain_laws.specs.Raises.{HasRaised}
use Rattle.slate_cluster_chain_laws.proofs.Epochs.{record_above}
use Rattle.slate_cluster_chain_laws.proofs.Links.{at_most, link_here, link_there, same_or_not}
use Rattle.slate_cluster_chain_laws.proofs.RecordSteps.{OpensWell}
use Rattle.slate_cluster_laws.proofs.Along.{Moment}
use Rattle.slate_cluster_laws.proofs.Calls.{Holds, WorkHolds}
use Rattle.slate_cluster_laws.proofs.Opens.{Given, OpenKnows}
use Rattle.slate_cluster_laws.proofs.Steps.{author_in}
use Rattle.slate_cluster_compactor_laws.specs.Fences.{PutByRaisers}
use Rattle.slate_cluster_compactor_laws.specs.Growing.{TrimmedByHolders, trimming_epoch}
use Rattle.slate_cluster_compactor_laws.proofs.Greatest.{raised_kept}
use Rattle.slate_cluster_compactor_laws.proofs.Held.{OfCompactor, OpenHas, UnderWay}

-- at each database of the cluster
pub record WholeHas (m : Moment) : Type 0 where
  pub raisers : (db : List ℕ) → HasDb m.world db → PutByRaisers (m.chains logs.Manifest db) (m.chains logs.Compactions db)
  pub holders : (db : List ℕ) → HasDb m.world db → TrimmedByHolders (m.chains logs.Compactions db)
  pub opens : (db : List ℕ) → HasDb m.world db → OpensWell (m.chains logs.Compactions db)

-- ---- chains that grow

pub raisers_next : (cm cm' : Chain logs.Manifest) → ((k : ℕ) (l : Link Manifest Author) → link_at k cm ≡ Some l → link_at k cm' ≡ Some l) → (c c' : Chain logs.Compactions) (author : Author) → Changed (λ (a : Author). a ≡ author) c c'
    → ((e : ℕ) → record_epoch_in (record_change_by author.puts) ≡ Some e → HasRaised cm' author.party e) → PutByRaisers cm c → PutByRaisers cm' c'
raisers_next cm cm' kept c c' author (Stays same) own h = λ number l a e at by is.
    raised_kept cm cm' kept a.party e (h number l a e (ap (λ (d : Chain logs.Compactions). link_at number d) (sym same) ∙ at) by is)
raisers_next cm cm' kept c c' author (Gets new who put is_author same) own h = λ number l a e at by is.
    let there : link_at number (new ∷ c) ≡ Some l = ap (λ (d : Chain logs.Compactions). link_at number d) (sym same) ∙ at in
    ⊎_elim
    (λ (here : new.number ≡ number).
    let one : new ≡ l = cc (link_here number new c here, there) in
    let its : author ≡ a = cc (one, put, by, is_author) in
    subst (λ (x : Author). record_epoch_in (record_change_by x.puts) ≡ Some e → HasRaised cm' x.party e) its (own e) is)
    (λ (ne : new.number ≢ number). raised_kept cm cm' kept a.party e (h number l a e (sym (link_there number new c ne) ∙ there) by is))
    (same_or_not new.number number)

-- a chain that stays
pub raisers_same : (cm cm' : Chain logs.Manifest) (c c' : Chain logs.Compactions) → cm' ≡ cm → c' ≡ c → PutByRaisers cm c → PutByRaisers cm' c'
raisers_same cm cm' c c' same_m same h = subst (λ (x : Chain logs.Manifest). PutByRaisers x c') (sym same_m) (subst (PutByRaisers cm) (sym same) h)

pub opens_next : (A : Author → Type 0) (c c' : Chain logs.Compactions) → Changed A c c' → OpensWell c → OpensWell c'
opens_next A c c' (Stays same) h = subst OpensWell (sym same) h
opens_next A c c' (Gets new who put is same) h = λ l at by.
    let there : link_at l.number (new ∷ c) ≡ Some l = ap (λ (d : Chain logs.Compactions). link_at l.number d) (sym same) ∙ at in
    ⊎_elim
    (λ (here : new.number ≡ l.number). let one : new ≡ l = cc (link_here l.number new c here, there) in absurd (cc (one, put, by)))
    (λ (ne : new.number ≢ l.number). h l (sym (link_there l.number new c ne) ∙ there) by)
    (same_or_not new.number l.number)

-- what trims has an epoch that isn't below that of the record, and was given to it
trims_with : (puts : Puts) (e : ℕ) → trimming_epoch puts ≡ Some e → record_epoch_in (record_change_by puts) ≡ Some e
trims_with (OfRecord (changes.Reset epoch)) e is = is
trims_with (OfRecord (changes.PutStatuses compactor local pending)) e is = is
trims_with (OfRecord _) e is = absurd (cc is)
trims_with (OfManifest change) e is = absurd (cc is)
trims_with First e is = absurd (cc is)

both_most : (x e : ℕ) → x ≤ e → e ≤ x → x ≡ e
both_most x e h k = omega arith

pub holders_next : (c c' : Chain logs.Compactions) (author : Author) → IsChain records c' → Changed (λ (a : Author). a ≡ author) c c' → ((e : ℕ) → trimming_epoch author.puts ≡ Some e → AtMostTop record_epoch e c) → TrimmedByHolders c
    → TrimmedByHolders c'
holders_next c c' author h (Stays same) given was = subst TrimmedByHolders (sym same) was
holders_next [] c' author h (Gets new who put is_author same) given was = λ number old next a e at_old at_new by is.
    let alone : link_at number (new ∷ []) ≡ Some old = ap (λ (d : Chain logs.Compactions). link_at number d) (sym same) ∙ at_old in
    let other : link_at (number + 1) (new ∷ []) ≡ Some next = ap (λ (d : Chain logs.Compactions). link_at (number + 1) d) (sym same) ∙ at_new in
    let one = only new number old alone in
    let two = only new (number + 1) next other in
    absurd (omega arith)
  where
    only : (l : Link Record Author) (k : ℕ) (m : Link Record Author) → link_at k (l ∷ []) ≡ Some m → l.number ≡ k
    only l k m at = ⊎_elim (λ (e : l.number ≡ k). e) (λ (ne : l.number ≢ k). absurd (cc (link_there k l [] ne, at))) (same_or_not l.number k)
holders_next (top ∷ rest) c' author h (Gets new who put is_author same) given was = λ number old next a e at_old at_new by is.
    let chain = subst (IsChain records) same h in
    let up = chain.0.number in
    let there_old : link_at number (new ∷ top ∷ rest) ≡ Some old = ap (λ (d : Chain logs.Compactions). link_at number d) (sym same) ∙ at_old in
    let there_new : link_at (number + 1) (new ∷ top ∷ rest) ≡ Some next = ap (λ (d : Chain logs.Compactions). link_at (number + 1) d) (sym same) ∙ at_new in
    ⊎_elim
    (λ (here : new.number ≡ number + 1).
    let below : link_at number (top ∷ rest) ≡ Some old = sym (link_there number new (top ∷ rest) (λ (x : new.number ≡ number). omega arith)) ∙ there_old in
    let old_is : top ≡ old = cc (link_here number top rest (omega arith), below) in
    let new_is : new ≡ next = cc (link_here (number + 1) new (top ∷ rest) here, there_new) in
    let its : author ≡ a = cc (new_is, put, by, is_author) in
    let follow : chain.0.author ≡ author = cc (chain.0.by, put, is_author) in
    let own : trimming_epoch author.puts ≡ Some e = ap (λ (x : Author). trimming_epoch x.puts) its ∙ is in
    let low = record_above (record_change_by author.puts) top.value e (subst (λ (x : Author). fence_by record_fence_of (record_change_by x.puts) top.value ≡ None) follow chain.0.passed) (trims_with author.puts e own) in
    subst (λ (l : Link Record Author). l.value.compactor_epoch ≡ e) old_is (both_most top.value.compactor_epoch e low (given e own)))
    (λ (ne : new.number ≢ number + 1).
    let below_new : link_at (number + 1) (top ∷ rest) ≡ Some next = sym (link_there (number + 1) new (top ∷ rest) ne) ∙ there_new in
    let le = at_most records (number + 1) next (top ∷ rest) chain.1 below_new in
    was number old next a e (sym (link_there number new (top ∷ rest) (λ (x : new.number ≡ number). omega arith)) ∙ there_old) below_new by is)
    (same_or_not new.number (number + 1))

-- ---- the epoch with which a party is about to put a record

abbrev epoch_in : Puts → Option ℕ
epoch_in puts = record_epoch_in (record_change_by puts)

change_epoch : (n : ℕ) (k : LogKind) (db : List ℕ) (puts : Puts) (work : LogWork (Held k)) (e : ℕ) → epoch_in (author_in n (change_phrase k db puts work)).puts ≡ Some e → epoch_in puts ≡ Some e
change_epoch n k db puts (Reading phase) e is = absurd (cc is)
change_epoch n k db puts (Committing made phase) e is = is

manifest_none : (o : Option ManifestChange) (e : ℕ) → epoch_in (manifest_puts o) ≡ Some e → ⊥
manifest_none None e is = cc is
manifest_none (Some change) e is = cc is

worker_none : (facts : Facts) (call : Call) (e : ℕ) → epoch_in (record_puts (record_change_of facts call)) ≡ Some e → ⊥
worker_none facts (Claim id) e is = cc is
worker_none facts (Report id tables) e is = cc is
worker_none facts _ e is = cc is

collecting_none : (n : ℕ) (db : List ℕ) (pass : GcMessage) (at : Option ℤ) (phase : PassPhase) (e : ℕ) → epoch_in (author_in n (pass_phrase db pass (Collecting at phase))).puts ≡ Some e → ⊥
collecting_none n db pass at passing.Over e is = cc is
collecting_none n db pass at _ e is = cc is

pass_none : (n : ℕ) (db : List ℕ) (pass : GcMessage) (phase : GcPhase) (e : ℕ) → epoch_in (author_in n (pass_phrase db pass phase)).puts ≡ Some e → ⊥
pass_none n db pass (Removing work) e is = cc (change_epoch n logs.Manifest db (OfManifest DropExpired) work e is)
pass_none n db pass (Collecting at phase) e is = collecting_none n db pass at phase e is

-- of a change of the record, by what it is
change_at : (n : ℕ) (db : List ℕ) (p : RecordChanging) (o : Option RecordChange) → p.change ≡ o → (e : ℕ) → epoch_in (author_in n (record_phrase db p)).puts ≡ Some e → epoch_in (record_puts o) ≡ Some e
change_at n db p o is e at = ap (λ (x : Option RecordChange). epoch_in (record_puts x)) (sym is) ∙ change_epoch n logs.Compactions db (record_puts p.change) p.work e at

open_epoch : (step : OpenStep) (own e : ℕ) → epoch_in (record_puts (open_change step own)) ≡ Some e → own ≡ e
open_epoch Give own e is = cc is
open_epoch Begin own e is = absurd (cc is)
open_epoch GiveFirst own e is = cc is
open_epoch Reset own e is = cc is

schedule_epoch : (call : Call) (own e : ℕ) → epoch_in (record_puts (schedule_of call own)) ≡ Some e → own ≡ e
schedule_epoch (Schedule id) own e is = cc is
schedule_epoch _ own e is = absurd (cc is)

state_epoch : (call : Call) (step : RecordStep) (c : Compactor) (e : ℕ) → epoch_in (record_puts (record_change_at call step c)) ≡ Some e → c.epoch ≡ e
state_epoch call steps.Follow c e is = absurd (cc is)
state_epoch call steps.Schedule c e is = schedule_epoch call c.epoch e is
state_epoch call (steps.Fetch write) c e is = absurd (cc is)
state_epoch call (steps.Record write) c e is = cc is

module _ (s : Store) (chains : Chains) (n : ℕ) (facts : Facts) (call : Call) where
  open_raises : (db : List ℕ) (phase : OpenPhase) → FitsOpen phase → OpenHas s chains n db facts.compactor phase → (e : ℕ) → epoch_in (author_in n (open_phrase db phase)).puts ≡ Some e → HasRaised (chains logs.Manifest db) n e
  open_raises db (opening.Raising p) fits h e is = absurd (manifest_none p.change e (change_epoch n logs.Manifest db (manifest_puts p.change) p.work e is))
  open_raises db (opening.OnRecord step m p) fits h e is =
      subst (HasRaised (chains logs.Manifest db) n) (open_epoch step m.1.compactor_epoch e (change_at n db p (open_change step m.1.compactor_epoch) fits e is)) h.raised
  open_raises db opening.Over fits h e is = absurd fits

  state_raises : (db : List ℕ) (phase : StatePhase) (o : Option Compactor) → FitsState call phase o → OfCompactor chains n db o → (e : ℕ) → epoch_in (author_in n (state_phrase db phase)).puts ≡ Some e → HasRaised (chains logs.Manifest db) n e
  state_raises db (compacting.OnRecord step p) (Some c) fits of e is = subst (HasRaised (chains logs.Manifest db) n) (state_epoch call step c e (change_at n db p (record_change_at call step c) fits.1 e is)) of.raised
  state_raises db (compacting.OnRecord step p) None fits of e is = absurd fits
  state_raises db (compacting.OnManifest step p) (Some c) fits of e is = absurd (manifest_none p.change e (change_epoch n logs.Manifest db (manifest_puts p.change) p.work e is))
  state_raises db (compacting.OnManifest step p) None fits of e is = absurd fits
  state_raises db compacting.Over (Some c) fits of e is = absurd fits
  state_raises db compacting.Over None fits of e is = absurd fits

  -- the party raised it
  pub work_raises : (work : Work) → Fits facts call work → UnderWay s chains n facts.compactor work → OfCompactor chains n (db_of work) facts.compactor → (e : ℕ) → epoch_in (author_in n (phrase_of work)).puts ≡ Some e
      → HasRaised (chains logs.Manifest (db_of work)) n e
  work_raises (works.Manifests db p) fits h of e is = absurd (manifest_none p.change e (change_epoch n logs.Manifest db (manifest_puts p.change) p.work e is))
  work_raises (works.Records db p) fits h of e is = absurd (worker_none facts call e (change_at n db p (record_change_of facts call) fits e is))
  work_raises (works.PutTable db upload bytes) fits h of e is = absurd (cc is)
  work_raises (works.Pass db settings filter phase) fits h of e is = absurd (pass_none n db settings.pass phase e is)
  work_raises (works.Opening db phase) fits h of e is = open_raises db phase fits h e is
  work_raises (works.Compacting db phase) fits h of e is = state_raises db phase facts.compactor fits of e is

-- ---- where it trims, the record was given it

change_trims : (n : ℕ) (db : List ℕ) (p : RecordChanging) (o : Option RecordChange) → p.change ≡ o → (e : ℕ) → trimming_epoch (author_in n (record_phrase db p)).puts ≡ Some e → trimming_epoch (record_puts o) ≡ Some e
change_trims n db p o same e is = ap (λ (x : Option RecordChange). trimming_epoch (record_puts x)) (sym same) ∙ by p.work is
  where
    by : (work : LogWork Record) → trimming_epoch (author_in n (change_phrase logs.Compactions db (record_puts p.change) work)).puts ≡ Some e → trimming_epoch (record_puts p.change) ≡ Some e
    by (Reading phase) is = absurd (cc is)
    by (Committing made phase) is = is

schedule_trims : (call : Call) (own e : ℕ) → trimming_epoch (record_puts (schedule_of call own)) ≡ Some e → ⊥
schedule_trims (Schedule id) own e is = cc is
schedule_trims _ own e is = cc is

module _ (s : Store) (chains : Chains) (n : ℕ) (facts : Facts) (call : Call) where
  open_gives : (db : List ℕ) (phase : OpenPhase) → FitsOpen phase → OpenKnows chains db phase → (e : ℕ) → trimming_epoch (author_in n (open_phrase db phase)).puts ≡ Some e → Given chains db e
  open_gives db (opening.Raising p) fits h e is = absurd (manifest_none p.change e (change_epoch n logs.Manifest db (manifest_puts p.change) p.work e (trims_with (author_in n (manifest_phrase db p)).puts e is)))
  open_gives db (opening.OnRecord Give m p) fits h e is = absurd (cc (change_trims n db p (open_change Give m.1.compactor_epoch) fits e is))
  open_gives db (opening.OnRecord Begin m p) fits h e is = absurd (cc (change_trims n db p (open_change Begin m.1.compactor_epoch) fits e is))
  open_gives db (opening.OnRecord GiveFirst m p) fits h e is = absurd (cc (change_trims n db p (open_change GiveFirst m.1.compactor_epoch) fits e is))
  open_gives db (opening.OnRecord Reset m p) fits h e is = let same : m.1.compactor_epoch ≡ e = cc (change_trims n db p (open_change Reset m.1.compactor_epoch) fits e is) in subst (Given chains db) same h.1
  open_gives db opening.Over fits h e is = absurd fits

  record_gives : (db : List ℕ) (step : RecordStep) (c : Compactor) → Given chains db c.epoch → (e : ℕ) → trimming_epoch (record_puts (record_change_at call step c)) ≡ Some e → Given chains db e
  record_gives db steps.Follow c given e is = absurd (cc is)
  record_gives db steps.Schedule c given e is = absurd (schedule_trims call c.epoch e is)
  record_gives db (steps.Fetch write) c given e is = absurd (cc is)
  record_gives db (steps.Record write) c given e is = let same : c.epoch ≡ e = cc is in subst (Given chains db) same given

  state_gives : (db : List ℕ) (phase : StatePhase) (o : Option Compactor) → FitsState call phase o → Holds chains db o → (e : ℕ) → trimming_epoch (author_in n (state_phrase db phase)).puts ≡ Some e → Given chains db e
  state_gives db (compacting.OnRecord step p) (Some c) fits holds e is = record_gives db step c holds.1 e (change_trims n db p (record_change_at call step c) fits.1 e is)
  state_gives db (compacting.OnRecord step p) None fits holds e is = absurd fits
  state_gives db (compacting.OnManifest step p) (Some c) fits holds e is = absurd (manifest_none p.change e (change_epoch n logs.Manifest db (manifest_puts p.change) p.work e (trims_with (author_in n (manifest_phrase db p)).puts e is)))
  state_gives db (compacting.OnManifest step p) None fits holds e is = absurd fits
  state_gives db compacting.Over (Some c) fits holds e is = absurd fits
  state_gives db compacting.Over None fits holds e is = absurd fits

  -- the record of its database was given the epoch with which a party is about to trim it
  pub work_gives : (work : Work) → Fits facts call work → WorkHolds chains work → Holds chains (db_of work) facts.compactor → (e : ℕ) → trimming_epoch (author_in n (phrase_of work)).puts ≡ Some e → Given chains (db_of work) e
  work_gives (works.Manifests db p) fits h holds e is = absurd (manifest_none p.change e (change_epoch n logs.Manifest db (manifest_puts p.change) p.work e (trims_with (author_in n (manifest_phrase db p)).puts e is)))
  work_gives (works.Records db p) fits h holds e is = absurd (worker_none facts call e (trims_with (record_puts (record_change_of facts call)) e (change_trims n db p (record_change_of facts call) fits e is)))
  work_gives (works.PutTable db upload bytes) fits h holds e is = absurd (cc is)
  work_gives (works.Pass db settings filter phase) fits h holds e is = absurd (pass_none n db settings.pass phase e (trims_with (author_in n (pass_phrase db settings.pass phase)).puts e is))
  work_gives (works.Opening db phase) fits h holds e is = open_gives db phase fits h e is
  work_gives (works.Compacting db phase) fits h holds e is = state_gives db phase facts.compactor fits holds e is
