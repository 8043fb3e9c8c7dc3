-- The trail alone tells the store and what is committed, in both logs.
use Rattle.std.proofs.Common.{◌≡◌, ℕ, ℤ, ◌+◌, ◌==◌, Bool, true, false, List, [], ◌∷◌, map, Option, Some, None, is_some, refl, sym, ap, ◌∙◌, subst}
use Rattle.std.specs.Prelude.{if◌then◌else◌, ◌&&◌, bytes_eq}
use Rattle.slate_store.specs.Store.{Store, effect}
use Rattle.slate_store.specs.declared.mark.Mark.{Mark}
use Rattle.slate_store.specs.declared.store_call.StoreCall.{StoreCall}
use Rattle.slate_store.specs.declared.store_call.StoreCall.TheVariants.{PutNew}
use Rattle.slate_script_events.specs.declared.call.Call.{Call}
use Rattle.slate_script_events.specs.declared.entry.Entry.{Entry}
use Rattle.slate_script_events.specs.declared.event.Event.{Event}
use Rattle.slate_script_events.specs.declared.event.Event.TheVariants.{Open, Start, Step, Stop}
use Rattle.slate_txn_log.specs.AdvancePhase.{advance_asks}
use Rattle.slate_txn_log.specs.CommitPhase.{commit_asks}
use Rattle.slate_txn_log.specs.LogPaths.{version_path}
use Rattle.slate_txn_log.specs.ReadPhase.{read_asks}
use Rattle.slate_txn_log.specs.declared.advance_phase.AdvancePhase.{AdvancePhase}
use Rattle.slate_txn_log.specs.declared.advance_phase.AdvancePhase.TheVariants as advancing
use Rattle.slate_txn_log.specs.declared.commit_phase.CommitPhase.{CommitPhase}
use Rattle.slate_txn_log.specs.declared.commit_phase.CommitPhase.TheVariants as committing
use Rattle.slate_txn_log.specs.declared.log_kind.LogKind.{LogKind}
use Rattle.slate_txn_log.specs.declared.log_kind.LogKind.TheVariants as logs
use Rattle.slate_txn_log.specs.declared.read_phase.ReadPhase.{ReadPhase}
use Rattle.slate_txn_log.specs.declared.read_phase.ReadPhase.TheVariants as reading
use Rattle.slate_ids.specs.declared.gc_message.GcMessage.{GcMessage}
use Rattle.slate_gc_passes.specs.Pass.{pass_asks}
use Rattle.slate_gc_passes.specs.Rows.{log_of_pass, log_or_manifests}
use Rattle.slate_gc_passes.specs.declared.pass_phase.PassPhase.{PassPhase}
use Rattle.slate_gc_passes.specs.declared.pass_phase.PassPhase.TheVariants as passing
use Rattle.slate_state_referenced.specs.Referenced.{referenced_asks}
use Rattle.slate_state_referenced.specs.declared.referenced_phase.ReferencedPhase.{ReferencedPhase}
use Rattle.slate_state_referenced.specs.declared.referenced_phase.ReferencedPhase.TheVariants as fetching
use Rattle.slate_cluster_protocol.specs.ByRows.{AllTold, all_told_after, entry_store, trail_by}
use Rattle.slate_cluster_protocol.specs.Chains.{Link, link_at, if_new, with_link}
use Rattle.slate_cluster_protocol.specs.Logs.{Author, Chains, Held, Phrase, Reads, Commits, Uploads, Fetches, Collects, log_of, phrase_of, put_in, put_by, chain_with, chains_put, chains_state, chains_at, chains_after, chains_of}
use Rattle.slate_cluster_protocol.specs.Runs.{Course, Ran, going_on, run}
use Rattle.slate_cluster_protocol.specs.Trails.{Firsts, has_number, first_put, same_log, call_told, entry_told, store_of, told, number_and_bytes}
use Rattle.slate_cluster_protocol.specs.Works.{asks}
use Rattle.slate_cluster_protocol.specs.World.{World, Transition, party_of, tally_of, wrote, step_state, start_state, stop_state, carrying, may_start, open_at, start_at, step_at, stop_at, happens}
use Rattle.slate_cluster_protocol.specs.declared.party.Facts.{Facts}
use Rattle.slate_cluster_protocol.specs.declared.party.Party.{Party}
use Rattle.slate_cluster_protocol.specs.declared.party.State.{State}
use Rattle.slate_cluster_protocol.specs.declared.party.State.TheVariants.{Resting, Busy, Halted}
use Rattle.slate_cluster_protocol.specs.declared.tally.Tally.{Tally}
use Rattle.slate_cluster_protocol.specs.declared.work.Work.{Work}
use Rattle.slate_cluster_laws.proofs.Steps.{author_of, phrase_asks, work_asks}
use Rattle.slate_cluster_laws.proofs.Rows.{AllMatch, ended, event_brings, all_after}

-- the numbers and bytes of chains
abbrev pub Tells : Firsts → Chains → Type 0
Tells firsts chains = (k : LogKind) (d : List ℕ) → firsts k d ≡ map number_and_bytes (chains k d)

number_there : {V A : Type 0} (n : ℕ) (c : List (Link V A)) → has_number n (map number_and_bytes c) ≡ is_some (link_at n c)
number_there n [] = refl
number_there n (l ∷ c) = test (l.number == n) (number_there n c)
  where
    test : (b : Bool) → has_number n (map number_and_bytes c) ≡ is_some (link_at n c) → (if b then true else has_number n (map number_and_bytes c)) ≡ is_some (if b then Some l else link_at n c)
    test true h = refl
    test false h = h

first_link : {V A : Type 0} (l : Link V A) (c : List (Link V A)) → first_put l.number l.bytes (map number_and_bytes c) ≡ map number_and_bytes (with_link l c)
first_link l c = ap (λ (b : Bool). if b then map number_and_bytes c else (l.number, l.bytes) ∷ map number_and_bytes c) (number_there l.number c) ∙ by_link (link_at l.number c)
  where
    by_link : (o : Option (Link _ _)) → (if is_some o then map number_and_bytes c else (l.number, l.bytes) ∷ map number_and_bytes c) ≡ map number_and_bytes (if_new o l c)
    by_link None = refl
    by_link (Some old) = refl

-- ---- a put

module _ (firsts : Firsts) (chains : Chains) (h : Tells firsts chains) where
  -- a version that is put to a log, in the chain of a log
  own_told : (k : LogKind) (l : Link (Held k) Author) (d : List ℕ) (b : Bool)
      → (if b then first_put l.number l.bytes (firsts k d) else firsts k d) ≡ map number_and_bytes (if b then with_link l (chains k d) else chains k d)
  own_told k l d true = ap (first_put l.number l.bytes) (h k d) ∙ first_link l (chains k d)
  own_told k l d false = h k d

  other_told : (k : LogKind) (d : List ℕ) (b : Bool) → firsts k d ≡ map number_and_bytes (if b then chains k d else chains k d)
  other_told k d true = h k d
  other_told k d false = h k d

  put_told : (log : LogKind) (db : List ℕ) (l : Link (Held log) Author) (k : LogKind) (d : List ℕ)
      → (if same_log k log && bytes_eq d db then first_put l.number l.bytes (firsts k d) else firsts k d) ≡ map number_and_bytes (if bytes_eq d db then chain_with k log l (chains k d) else chains k d)
  put_told logs.Manifest db l logs.Manifest d = own_told logs.Manifest l d (bytes_eq d db)
  put_told logs.Compactions db l logs.Compactions d = own_told logs.Compactions l d (bytes_eq d db)
  put_told logs.Manifest db l logs.Compactions d = other_told logs.Compactions d (bytes_eq d db)
  put_told logs.Compactions db l logs.Manifest d = other_told logs.Manifest d (bytes_eq d db)

  version_told : (log : LogKind) (db : List ℕ) (l : Link (Held log) Author) → Tells (call_told true (PutNew (version_path log db l.number) l.bytes) firsts) (chains_put true (Some (record { log = log; db = db; link = l })) chains)
  version_told logs.Manifest db l = put_told logs.Manifest db l
  version_told logs.Compactions db l = put_told logs.Compactions db l

  -- the boundary of a log is no version
  advance_told : (log : LogKind) (db : List ℕ) (phase : AdvancePhase) → Tells (call_told true (advance_asks db log phase) firsts) chains
  advance_told log db (advancing.Bounding n) = h
  advance_told logs.Manifest db (advancing.Creating n) = h
  advance_told logs.Compactions db (advancing.Creating n) = h
  advance_told log db (advancing.Replacing n tag) = h
  advance_told log db advancing.Over = h

  read_told : {V : Type 0} (log : LogKind) (db : List ℕ) (phase : ReadPhase V) → Tells (call_told true (read_asks db log phase) firsts) chains
  read_told log db reading.Listing = h
  read_told log db (reading.Getting n) = h
  read_told log db (reading.Bounding n v) = h
  read_told log db reading.Over = h

  commit_told : (log : LogKind) (db : List ℕ) (author : Author) (phase : CommitPhase (Held log)) → Tells (call_told true (commit_asks db log phase) firsts) (chains_put true (put_in log db author phase) chains)
  commit_told log db author (committing.Putting n bytes v) = version_told log db (record { number = n; bytes = bytes; value = (log_of log).normal v; by = Some author })
  commit_told log db author (committing.Bounding n v) = h
  commit_told log db author committing.Over = h

  fetch_told : (db : List ℕ) (phase : ReferencedPhase) → Tells (call_told true (referenced_asks db phase) firsts) chains
  fetch_told db (fetching.Getting [] found) = h
  fetch_told db (fetching.Getting (n ∷ left) found) = h
  fetch_told db fetching.Over = h

  pass_told : (db : List ℕ) (pass : GcMessage) (phase : PassPhase) → Tells (call_told true (pass_asks db pass phase) firsts) chains
  pass_told db pass (passing.ReadingRecord phase) = read_told logs.Compactions db phase
  pass_told db pass (passing.ReadingManifest least phase) = read_told logs.Manifest db phase
  pass_told db pass (passing.Fetching heads phase) = fetch_told db phase
  pass_told db pass (passing.Advancing phase left counts) = advance_told (log_or_manifests (log_of_pass pass)) db phase
  pass_told db pass (passing.Deleting [] counts) = h
  pass_told db pass (passing.Deleting (m ∷ left) counts) = h
  pass_told db pass _ = h

  phrase_told : (n : ℕ) (phrase : Phrase) (b : Bool) → Tells (call_told b (phrase_asks phrase) firsts) (chains_put b (put_by n phrase) chains)
  phrase_told n phrase false = h
  phrase_told n (Reads k db phase) true = read_told (log_of k).kind db phase
  phrase_told n (Commits logs.Manifest db puts now phase) true = commit_told logs.Manifest db (author_of n puts now) phase
  phrase_told n (Commits logs.Compactions db puts now phase) true = commit_told logs.Compactions db (author_of n puts now) phase
  phrase_told n (Uploads db table bytes) true = h
  phrase_told n (Fetches db m phase) true = fetch_told db phase
  phrase_told n (Collects db pass phase) true = pass_told db pass phase

  work_told : (n : ℕ) (at : Work) (b : Bool) → Tells (call_told b (asks at) firsts) (chains_put b (put_by n (phrase_of at)) chains)
  work_told n at b = subst (λ (call : StoreCall). Tells (call_told b call firsts) (chains_put b (put_by n (phrase_of at)) chains)) (sym (work_asks at)) (phrase_told n (phrase_of at) b)

-- ---- an event

step_told : (w : World) (n : ℕ) (facts : Facts) (state : State) (moment : ℤ) (mark : Mark) (firsts : Firsts) (chains : Chains) → Tells firsts chains
    → Tells (entry_told (step_state w n facts state moment mark).entry w.store firsts) (chains_state w n state moment mark chains)
step_told w n facts Resting moment mark firsts chains h = h
step_told w n facts Halted moment mark firsts chains h = h
step_told w n facts (Busy task) moment mark firsts chains h = work_told firsts chains h n task.work (wrote w.store (effect mark (asks task.work) moment w.store).store)

start_told : (w : World) (n : ℕ) (facts : Facts) (state : State) (call : Call) (firsts : Firsts) (chains : Chains) → Tells firsts chains → Tells (entry_told (start_state w n facts state call).entry w.store firsts) chains
start_told w n facts Resting call firsts chains h = h
start_told w n facts (Busy task) call firsts chains h = h
start_told w n facts Halted call firsts chains h = h

stop_told : (w : World) (n : ℕ) (facts : Facts) (state : State) (firsts : Firsts) (chains : Chains) → Tells firsts chains → Tells (entry_told (stop_state w n facts state).entry w.store firsts) chains
stop_told w n facts Resting firsts chains h = h
stop_told w n facts (Busy task) firsts chains h = h
stop_told w n facts Halted firsts chains h = h

event_told : (w : World) (e : Event) (d : Transition) (firsts : Firsts) (chains : Chains) → Tells firsts chains → happens w e ≡ Some d → Tells (entry_told d.entry w.store firsts) (chains_after w e chains)
event_told w (Open n kind db) d firsts chains h is = opened (party_of n w.parties) (tally_of db w.tallies) is
  where
    opened : (o : Option Party) (t : Option Tally) → open_at w n kind db o t ≡ Some d → Tells (entry_told d.entry w.store firsts) chains
    opened None (Some t) is = subst (λ (o : Option Transition). elim o as (λ _. Type 0) [ None ↦ Unit {0} | Some d ↦ Tells (entry_told d.entry w.store firsts) chains ]) is h
    opened None None is = absurd cc
    opened (Some p) t is = absurd cc
event_told w (Start n call) d firsts chains h is = started (party_of n w.parties) is
  where
    test : (p : Party) (b : Bool) → (if b then Some (start_state (carrying n call w) n p.facts p.state call) else None) ≡ Some d → Tells (entry_told d.entry w.store firsts) chains
    test p true is = let same : start_state (carrying n call w) n p.facts p.state call ≡ d = cc in subst (λ (r : Transition). Tells (entry_told r.entry w.store firsts) chains) same (start_told (carrying n call w) n p.facts p.state call firsts chains h)
    test p false is = absurd cc

    started : (o : Option Party) → start_at w n call o ≡ Some d → Tells (entry_told d.entry w.store firsts) chains
    started None is = absurd cc
    started (Some p) is = test p (may_start w call p) is
event_told w (Step n moment mark) d firsts chains h is = went (party_of n w.parties) is
  where
    went : (o : Option Party) → step_at w n moment mark o ≡ Some d → Tells (entry_told d.entry w.store firsts) (chains_at w n o moment mark chains)
    went None is = absurd cc
    went (Some p) is =
        let same : step_state w n p.facts p.state moment mark ≡ d = cc in
        subst (λ (r : Transition). Tells (entry_told r.entry w.store firsts) (chains_state w n p.state moment mark chains)) same (step_told w n p.facts p.state moment mark firsts chains h)
event_told w (Stop n) d firsts chains h is = went (party_of n w.parties) is
  where
    went : (o : Option Party) → stop_at w n o ≡ Some d → Tells (entry_told d.entry w.store firsts) chains
    went None is = absurd cc
    went (Some p) is =
        let same : stop_state w n p.facts p.state ≡ d = cc in
        subst (λ (r : Transition). Tells (entry_told r.entry w.store firsts) chains) same (stop_told w n p.facts p.state firsts chains h)

-- what the entries of a run tell, where the run led from c to v
pub record RunTells (xs : List Entry) (c v : Course) (firsts : Firsts) (chains : Chains) : Type 0 where
  pub store : v.world.store ≡ store_of xs c.world.store
  pub told : Tells (told xs c.world.store firsts) chains
  pub specs : v.specs ≡ c.specs

-- one entry more in front
more_tells : (x : Entry) (xs : List Entry) (c mid v : Course) (firsts : Firsts) (chains : Chains) → mid.world.store ≡ entry_store x c.world.store → mid.specs ≡ c.specs
    → RunTells xs mid v (entry_told x c.world.store firsts) chains → RunTells (x ∷ xs) c v firsts chains
more_tells x xs c mid v firsts chains e same r = record {
  store = r.store ∙ ap (λ (s : Store). store_of xs s) e;
  told = λ k d. ap (λ (s : Store). told xs s (entry_told x c.world.store firsts) k d) (sym e) ∙ r.told k d;
  specs = r.specs ∙ same;
}

pub run_tells : (es : List Event) (place : ℕ) (c v : Course) (all : AllTold) (firsts : Firsts) (chains : Chains) → AllMatch all c.world → Tells firsts chains → run es place c ≡ ended v
    → RunTells (trail_by es all c.world.store) c v firsts (chains_of es c.world chains)
run_tells [] place c v all firsts chains m t h =
    let same : c ≡ v = ap (λ (r : Ran). r.course) h in
    record { store = ap (λ (x : Course). x.world.store) (sym same); told = t; specs = ap (λ (x : Course). x.specs) (sym same) }
run_tells (e ∷ es) place c v all firsts chains m t h =
    went (happens c.world e) refl h
    (λ d k is. run_tells es (place + 1) (going_on c d) v (all_told_after e d.entry all) (entry_told d.entry c.world.store firsts) (chains_after c.world e chains)
    (all_after e all c.world d m (event_brings e all c.world d m is)) (event_told c.world e d firsts chains t is) k)
  where
    went : (o : Option Transition) → happens c.world e ≡ o → (elim o as (λ _. Ran) [ None ↦ record { course = c; bad = Some place } | Some done ↦ run es (place + 1) (going_on c done) ]) ≡ ended v
        → ((d : Transition) → run es (place + 1) (going_on c d) ≡ ended v → happens c.world e ≡ Some d
        → RunTells (trail_by es (all_told_after e d.entry all) d.world.store) (going_on c d) v (entry_told d.entry c.world.store firsts) (chains_of es d.world (chains_after c.world e chains)))
        → RunTells (trail_by (e ∷ es) all c.world.store) c v firsts (elim o as (λ _. Chains) [ None ↦ chains | Some d ↦ chains_of es d.world (chains_after c.world e chains) ])
    went None is h f = absurd (cc (ap (λ (r : Ran). r.bad) h))
    went (Some d) is h f =
        let b = event_brings e all c.world d m is in
        let r = f d h is in
        let moved = subst (λ (s : Store). RunTells (trail_by es (all_told_after e d.entry all) s) (going_on c d) v (entry_told d.entry c.world.store firsts) (chains_of es d.world (chains_after c.world e chains))) b.store r in
        let whole = more_tells d.entry (trail_by es (all_told_after e d.entry all) (entry_store d.entry c.world.store)) c (going_on c d) v firsts (chains_of es d.world (chains_after c.world e chains)) b.store refl moved in
        subst (λ (x : Entry). RunTells (x ∷ trail_by es (all_told_after e x all) (entry_store x c.world.store)) c v firsts (chains_of es d.world (chains_after c.world e chains))) b.entry whole
