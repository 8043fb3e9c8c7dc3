-- What was removed of a log stays spare, at or below its boundary, at each moment of a run; where all that was removed is collected, nothing reachable was.
use Rattle.std.proofs.Common.{◌≡◌, ◌⊎◌, inl, inr, ℕ, ℤ, ◌+◌, ◌≤◌, Bool, true, false, List, [], ◌∷◌, ◌++◌, Option, Some, None, is_some, refl, sym, ap, ◌∙◌, subst, arith}
use Rattle.std.specs.Prelude.{if◌then◌else◌}
use Rattle.slate_ids.specs.declared.object_path.ObjectPath.{ObjectPath}
use Rattle.slate_ids.specs.declared.object_path.ObjectPath.TheVariants as paths
use Rattle.slate_ids.specs.Ids.{is_db_path}
use Rattle.slate_store.specs.Store.{Store, object_at, effect}
use Rattle.slate_store.specs.declared.store_call.StoreCall.{StoreCall}
use Rattle.slate_store.specs.declared.mark.Mark.{Mark}
use Rattle.slate_store.specs.declared.object.ObjectMetadata.{ObjectMetadata}
use Rattle.slate_script_events.specs.declared.call.Call.{Call}
use Rattle.slate_script_events.specs.declared.event.Event.{Event}
use Rattle.slate_script_events.specs.declared.event.Event.TheVariants.{Open, Start, Step, Stop}
use Rattle.slate_txn_log.specs.LogPaths.{version_path}
use Rattle.slate_txn_log.specs.declared.advance_phase.AdvancePhase.TheVariants as advancing
use Rattle.slate_txn_log.specs.declared.commit_phase.CommitPhase.TheVariants as committing
use Rattle.slate_txn_log.specs.declared.log_kind.LogKind.{LogKind}
use Rattle.slate_txn_log.specs.declared.log_kind.LogKind.TheVariants as logs
use Rattle.slate_txn_log.specs.declared.read_phase.ReadPhase.TheVariants as reading
use Rattle.slate_ids.specs.declared.gc_message.GcMessage.{GcMessage}
use Rattle.slate_ids.specs.declared.gc_message.GcMessage.TheVariants as of
use Rattle.slate_gc_passes.specs.declared.pass_counts.PassCounts.{PassCounts}
use Rattle.slate_gc_passes.specs.declared.pass_phase.PassPhase.{PassPhase}
use Rattle.slate_gc_passes.specs.declared.pass_phase.PassPhase.TheVariants as passing
use Rattle.slate_state_referenced.specs.declared.referenced_phase.ReferencedPhase.TheVariants as fetching
use Rattle.slate_cluster_protocol.specs.Chains.{bound_in}
use Rattle.slate_cluster_protocol.specs.Holding.{IsVersionThat}
use Rattle.slate_cluster_protocol.specs.Logs.{Chains, Phrase, Reads, Commits, Uploads, Fetches, Collects, log_of, phrase_of, chains_state, chains_at, chains_after}
use Rattle.slate_cluster_protocol.specs.Owners.{owner_of}
use Rattle.slate_cluster_protocol.specs.Owners.Owner.{Version}
use Rattle.slate_cluster_protocol.specs.Reach.{IsNeeded, InReach, NeedsTable, Reachable, IsSpare}
use Rattle.slate_cluster_protocol.specs.Reach.InReach.{OfVersion, OfTable}
use Rattle.slate_cluster_protocol.specs.Runs.{Course, Ran, going_on, run}
use Rattle.slate_cluster_protocol.specs.Safe.{took_away, path_if, removed_by_call, removed_by, EachPath, IsCollected, IsCollectedTable, IsCollectedVersion, AllCollected, IsPresent, IsSafe}
use Rattle.slate_cluster_protocol.specs.Safe.IsCollected.{OfLog, OfTables}
use Rattle.slate_cluster_protocol.specs.Works.{asks}
use Rattle.slate_cluster_protocol.specs.World.{World, Transition, HasDb, party_of, tally_of, step_state, start_state, stop_state, carrying, may_start, open_at, start_at, step_at, stop_at, happens}
use Rattle.slate_cluster_protocol.specs.declared.party.Facts.{Facts}
use Rattle.slate_cluster_protocol.specs.declared.party.Party.{Party}
use Rattle.slate_cluster_protocol.specs.declared.party.State.{State}
use Rattle.slate_cluster_protocol.specs.declared.party.State.TheVariants.{Resting, Busy, Halted}
use Rattle.slate_cluster_protocol.specs.declared.party.Task.{Task}
use Rattle.slate_cluster_protocol.specs.declared.tally.Tally.{Tally}
use Rattle.slate_cluster_protocol.specs.declared.work.Work.{Work}
use Rattle.slate_cluster_laws.proofs.Facts.{IsReached, Grows}
use Rattle.slate_cluster_laws.proofs.Paths.{IsNobodys, version_owner}
use Rattle.slate_cluster_laws.proofs.Puts.{grows_not}
use Rattle.slate_cluster_laws.proofs.Rows.{ended}
use Rattle.slate_cluster_laws.proofs.Runs.{Inv, StateKnows, log_after, same_tallies, event_inv}
use Rattle.slate_cluster_chain_laws.proofs.Spares.{not_needed}
use Rattle.slate_cluster_laws.proofs.Steps.{CollectKnows, PhraseKnows, db_in, phrase_asks, work_asks, work_db}
use Rattle.slate_cluster_laws.proofs.Tallies.{its_kind}
use Rattle.slate_cluster_laws.proofs.Zeros.{NoZero, zero_stays}

-- ---- what an event leaves of each log

-- the same databases, whose logs have grown, with nothing at the number 0
pub record EventAfter (w : World) (chains : Chains) (v : World) (chains' : Chains) : Type 0 where
  pub same : (db : List ℕ) → is_some (tally_of db v.tallies) ≡ is_some (tally_of db w.tallies)
  pub grows : (k : LogKind) (db : List ℕ) → HasDb w db → Grows (log_of k) db w.store (chains k db) v.store (chains' k db)
  pub zero : NoZero w → NoZero v

-- an event that leaves store, tallies and chains
leaves_all : (w v : World) (chains : Chains) → v.store ≡ w.store → v.tallies ≡ w.tallies → EventAfter w chains v chains
leaves_all w v chains store tallies = record {
  same = λ db. ap (λ (ts : List (List ℕ × Tally)). is_some (tally_of db ts)) tallies;
  grows = λ k db has. subst (λ (s : Store). Grows (log_of k) db w.store (chains k db) s (chains k db)) (sym store) (grows_not (log_of k) db w.store (chains k db));
  zero = λ h k db has. ap (λ (s : Store). object_at (version_path k db 0) s) store ∙ h k db (ap (λ (ts : List (List ℕ × Tally)). is_some (tally_of db ts)) (sym tallies) ∙ has);
}

step_after : (w : World) (chains : Chains) (i : Inv w chains) (n : ℕ) (p : Party) (at : party_of n w.parties ≡ Some p) (moment : ℤ) (mark : Mark) (state : State) → StateKnows w.store chains n p.facts state
    → EventAfter w chains (step_state w n p.facts state moment mark).world (chains_state w n state moment mark chains)
step_after w chains i n p at moment mark Resting k = leaves_all w w chains refl refl
step_after w chains i n p at moment mark Halted k = leaves_all w w chains refl refl
step_after w chains i n p at moment mark (Busy task) k = record {
  same = λ db. same_tallies w chains i n p at task k moment mark db;
  grows = λ log db has. (log_after w chains i n p at task k moment mark log db (i.named db has)).grows;
  zero = λ h log db has.
      let had = sym (same_tallies w chains i n p at task k moment mark db) ∙ has in
      zero_stays log db (i.named db had) w.store chains n task.work moment mark (subst (λ d. is_db_path d ≡ true) (sym k.own) (i.named p.facts.db (i.parties n p at).has)) k.knows (h log db had);
}

start_after : (w : World) (chains : Chains) (n : ℕ) (facts : Facts) (state : State) (call : Call) → EventAfter w chains (start_state (carrying n call w) n facts state call).world chains
start_after w chains n facts Resting call = leaves_all w _ chains refl refl
start_after w chains n facts (Busy task) call = leaves_all w _ chains refl refl
start_after w chains n facts Halted call = leaves_all w _ chains refl refl

stop_after : (w : World) (chains : Chains) (n : ℕ) (facts : Facts) (state : State) → EventAfter w chains (stop_state w n facts state).world chains
stop_after w chains n facts Halted = leaves_all w w chains refl refl
stop_after w chains n facts Resting = leaves_all w _ chains refl refl
stop_after w chains n facts (Busy task) = leaves_all w _ chains refl refl

pub event_after : (w : World) (chains : Chains) (e : Event) (d : Transition) → Inv w chains → happens w e ≡ Some d → EventAfter w chains d.world (chains_after w e chains)
event_after w chains (Open n kind db) d i h = opened (party_of n w.parties) (tally_of db w.tallies) h
  where
    opened : (o : Option Party) (t : Option Tally) → open_at w n kind db o t ≡ Some d → EventAfter w chains d.world chains
    opened None (Some t) h = subst (λ (o : Option Transition). elim o as (λ _. Type 0) [ None ↦ Unit {0} | Some r ↦ EventAfter w chains r.world chains ]) h (leaves_all w _ chains refl refl)
    opened None None h = absurd cc
    opened (Some p) t h = absurd cc
event_after w chains (Start n call) d i h = started (party_of n w.parties) h
  where
    test : (p : Party) (b : Bool) → (if b then Some (start_state (carrying n call w) n p.facts p.state call) else None) ≡ Some d → EventAfter w chains d.world chains
    test p true h = let same : start_state (carrying n call w) n p.facts p.state call ≡ d = cc in subst (λ (r : Transition). EventAfter w chains r.world chains) same (start_after w chains n p.facts p.state call)
    test p false h = absurd cc

    started : (o : Option Party) → start_at w n call o ≡ Some d → EventAfter w chains d.world chains
    started None h = absurd cc
    started (Some p) h = test p (may_start w call p) h
event_after w chains (Step n moment mark) d i h = went (party_of n w.parties) refl h
  where
    went : (o : Option Party) → party_of n w.parties ≡ o → step_at w n moment mark o ≡ Some d → EventAfter w chains d.world (chains_at w n o moment mark chains)
    went None at h = absurd cc
    went (Some p) at h =
        let same : step_state w n p.facts p.state moment mark ≡ d = cc in
        subst (λ (r : Transition). EventAfter w chains r.world (chains_state w n p.state moment mark chains)) same (step_after w chains i n p at moment mark p.state (i.parties n p at).knows)
event_after w chains (Stop n) d i h = went (party_of n w.parties) h
  where
    went : (o : Option Party) → stop_at w n o ≡ Some d → EventAfter w chains d.world chains
    went None h = absurd cc
    went (Some p) h =
        let same : stop_state w n p.facts p.state ≡ d = cc in
        subst (λ (r : Transition). EventAfter w chains r.world chains) same (stop_after w chains n p.facts p.state)

-- ---- what was removed

pub each_both : (P : ObjectPath → Type 0) (xs ys : List ObjectPath) → EachPath P xs → EachPath P ys → EachPath P (xs ++ ys)
each_both P [] ys h k = k
each_both P (x ∷ xs) ys h k = (h.0, each_both P xs ys h.1 k)

pub each_path : (P Q : ObjectPath → Type 0) → ((path : ObjectPath) → P path → Q path) → (paths : List ObjectPath) → EachPath P paths → EachPath Q paths
each_path P Q f [] h = tt
each_path P Q f (path ∷ paths) h = (f path h.0, each_path P Q f paths h.1)

-- what was removed is a collected version, or of no log
abbrev pub IsGone : World → Chains → ObjectPath → Type 0
IsGone w chains path = IsCollectedVersion w chains path ⊎ IsNobodys path

-- a phrase that deletes an object: a pass, the first of what is left of its picks
pub record Deletes (phrase : Phrase) (path : ObjectPath) : Type 0 where
  pub db : List ℕ
  pub pass : GcMessage
  pub first : ObjectMetadata
  pub left : List ObjectMetadata
  pub counts : PassCounts
  pub is : phrase ≡ Collects db pass (passing.Deleting (first ∷ left) counts)
  pub same : path ≡ first.location

-- what a store call of a phrase removed
module _ (s s' : Store) where
  abbrev Removes : Phrase → Type 0
  Removes phrase = EachPath (Deletes phrase) (removed_by_call (phrase_asks phrase) s s')

  took_one : (db : List ℕ) (pass : GcMessage) (m : ObjectMetadata) (left : List ObjectMetadata) (counts : PassCounts) (b : Bool) → EachPath (Deletes (Collects db pass (passing.Deleting (m ∷ left) counts))) (path_if b m.location)
  took_one db pass m left counts true = (record { db = db; pass = pass; first = m; left = left; counts = counts; is = refl; same = refl }, tt)
  took_one db pass m left counts false = tt

  pass_removes : (db : List ℕ) (pass : GcMessage) (phase : PassPhase) → Removes (Collects db pass phase)
  pass_removes db pass (passing.ReadingRecord reading.Listing) = tt
  pass_removes db pass (passing.ReadingRecord (reading.Getting n)) = tt
  pass_removes db pass (passing.ReadingRecord (reading.Bounding n m)) = tt
  pass_removes db pass (passing.ReadingRecord reading.Over) = tt
  pass_removes db pass (passing.ReadingManifest least reading.Listing) = tt
  pass_removes db pass (passing.ReadingManifest least (reading.Getting n)) = tt
  pass_removes db pass (passing.ReadingManifest least (reading.Bounding n m)) = tt
  pass_removes db pass (passing.ReadingManifest least reading.Over) = tt
  pass_removes db pass (passing.Fetching heads (fetching.Getting [] found)) = tt
  pass_removes db pass (passing.Fetching heads (fetching.Getting (n ∷ left) found)) = tt
  pass_removes db pass (passing.Fetching heads fetching.Over) = tt
  pass_removes db pass (passing.Listing heads versions) = tt
  pass_removes db pass (passing.Getting n listed found) = tt
  pass_removes db pass (passing.Bounding n listed candidates) = tt
  pass_removes db pass (passing.Advancing (advancing.Bounding n) left counts) = tt
  pass_removes db pass (passing.Advancing (advancing.Creating n) left counts) = tt
  pass_removes db pass (passing.Advancing (advancing.Replacing n tag) left counts) = tt
  pass_removes db pass (passing.Advancing advancing.Over left counts) = tt
  pass_removes db pass (passing.Deleting [] counts) = tt
  pass_removes db pass (passing.Deleting (m ∷ left) counts) = took_one db pass m left counts (took_away m.location s s')
  pass_removes db pass passing.Over = tt

  phrase_removes : (phrase : Phrase) → Removes phrase
  phrase_removes (Reads k db reading.Listing) = tt
  phrase_removes (Reads k db (reading.Getting n)) = tt
  phrase_removes (Reads k db (reading.Bounding n m)) = tt
  phrase_removes (Reads k db reading.Over) = tt
  phrase_removes (Commits k db puts now (committing.Putting n bytes m)) = tt
  phrase_removes (Commits k db puts now (committing.Bounding n m)) = tt
  phrase_removes (Commits k db puts now committing.Over) = tt
  phrase_removes (Uploads db table bytes) = tt
  phrase_removes (Fetches db m (fetching.Getting [] found)) = tt
  phrase_removes (Fetches db m (fetching.Getting (n ∷ left) found)) = tt
  phrase_removes (Fetches db m fetching.Over) = tt
  phrase_removes (Collects db pass phase) = pass_removes db pass phase

  pub work_removes : (work : Work) → EachPath (Deletes (phrase_of work)) (removed_by_call (asks work) s s')
  work_removes work = subst (λ (call : StoreCall). EachPath (Deletes (phrase_of work)) (removed_by_call call s s')) (sym (work_asks work)) (phrase_removes (phrase_of work))

-- what an event removed: what is deleted by the party in a call that steps
module _ (w : World) (P : ObjectPath → Type 0) (deleted : (n : ℕ) (facts : Facts) (task : Task) → party_of n w.parties ≡ Some (record { facts = facts; state = Busy task }) → (path : ObjectPath) → Deletes (phrase_of task.work) path → P path) where
  step_removes : (n : ℕ) (facts : Facts) (state : State) (moment : ℤ) (mark : Mark) → party_of n w.parties ≡ Some (record { facts = facts; state = state }) → EachPath P (removed_by (step_state w n facts state moment mark).entry w.store)
  step_removes n facts Resting moment mark at = tt
  step_removes n facts Halted moment mark at = tt
  step_removes n facts (Busy task) moment mark at =
      let s = (effect mark (asks task.work) moment w.store).store in
      each_path (Deletes (phrase_of task.work)) P (deleted n facts task at) (removed_by_call (asks task.work) w.store s) (work_removes w.store s task.work)

  start_removes : (n : ℕ) (facts : Facts) (state : State) (call : Call) (u : World) → EachPath P (removed_by (start_state u n facts state call).entry w.store)
  start_removes n facts Resting call u = tt
  start_removes n facts (Busy task) call u = tt
  start_removes n facts Halted call u = tt

  stop_removes : (n : ℕ) (facts : Facts) (state : State) → EachPath P (removed_by (stop_state w n facts state).entry w.store)
  stop_removes n facts Halted = tt
  stop_removes n facts Resting = tt
  stop_removes n facts (Busy task) = tt

  pub event_removes : (e : Event) (d : Transition) → happens w e ≡ Some d → EachPath P (removed_by d.entry w.store)
  event_removes (Open n kind db) d h = opened (party_of n w.parties) (tally_of db w.tallies) h
    where
      opened : (o : Option Party) (t : Option Tally) → open_at w n kind db o t ≡ Some d → EachPath P (removed_by d.entry w.store)
      opened None (Some t) h = subst (λ (o : Option Transition). elim o as (λ _. Type 0) [ None ↦ Unit {0} | Some r ↦ EachPath P (removed_by r.entry w.store) ]) h tt
      opened None None h = absurd cc
      opened (Some p) t h = absurd cc
  event_removes (Start n call) d h = started (party_of n w.parties) h
    where
      test : (p : Party) (b : Bool) → (if b then Some (start_state (carrying n call w) n p.facts p.state call) else None) ≡ Some d → EachPath P (removed_by d.entry w.store)
      test p true h = let same : start_state (carrying n call w) n p.facts p.state call ≡ d = cc in subst (λ (r : Transition). EachPath P (removed_by r.entry w.store)) same (start_removes n p.facts p.state call (carrying n call w))
      test p false h = absurd cc

      started : (o : Option Party) → start_at w n call o ≡ Some d → EachPath P (removed_by d.entry w.store)
      started None h = absurd cc
      started (Some p) h = test p (may_start w call p) h
  event_removes (Step n moment mark) d h = went (party_of n w.parties) refl h
    where
      went : (o : Option Party) → party_of n w.parties ≡ o → step_at w n moment mark o ≡ Some d → EachPath P (removed_by d.entry w.store)
      went None at h = absurd cc
      went (Some p) at h =
          let same : step_state w n p.facts p.state moment mark ≡ d = cc in
          subst (λ (r : Transition). EachPath P (removed_by r.entry w.store)) same (step_removes n p.facts p.state moment mark at)
  event_removes (Stop n) d h = went (party_of n w.parties) h
    where
      went : (o : Option Party) → stop_at w n o ≡ Some d → EachPath P (removed_by d.entry w.store)
      went None h = absurd cc
      went (Some p) h =
          let same : stop_state w n p.facts p.state ≡ d = cc in
          subst (λ (r : Transition). EachPath P (removed_by r.entry w.store)) same (stop_removes n p.facts p.state)

-- what was removed stays so, and what an event removes is so after it
module _ (w : World) (chains : Chains) (v : World) (chains' : Chains) (a : EventAfter w chains v chains') where
  pub version_stays : (path : ObjectPath) → IsCollectedVersion w chains path → IsCollectedVersion v chains' path
  version_stays path h =
      let g = a.grows h.log h.db h.has in
      record {
        log = h.log;
        db = h.db;
        number = h.number;
        is = h.is;
        has = a.same h.db ∙ h.has;
        spare = g.spares h.number h.spare;
        bounded = λ bound read. let was = g.bound bound read in let up = was.2 in let le = h.bounded was.0 was.1 in omega arith;
      }

  stays_gone : (path : ObjectPath) → IsGone w chains path → IsGone v chains' path
  stays_gone path (inl h) = inl (version_stays path h)
  stays_gone path (inr h) = inr h

  pub all_stay : (paths : List ObjectPath) → EachPath (IsGone w chains) paths → EachPath (IsGone v chains') paths
  all_stay paths h = each_path (IsGone w chains) (IsGone v chains') stays_gone paths h

  -- a version that a pass over its log deletes is spare, and at or below the boundary
  pub delete_gone : (k : LogKind) (db : List ℕ) (m : ObjectMetadata) → HasDb w db → IsVersionThat (log_of k).kind db (λ n. IsReached (log_of k) db w.store n × IsSpare (log_of k) (chains k db) n) m
      → IsCollectedVersion v chains' m.location
  delete_gone k db m has h =
      let is = h.is ∙ ap (λ j. version_path j db h.number) (its_kind k) in
      version_stays m.location (record { log = k; db = db; number = h.number; is = is; has = has; spare = h.has.1; bounded = h.has.0.reached })

  pass_gone : (db : List ℕ) (pass : GcMessage) (m : ObjectMetadata) (left : List ObjectMetadata) (counts : PassCounts) → HasDb w db → CollectKnows w.store chains db pass (passing.Deleting (m ∷ left) counts) → IsGone v chains' m.location
  pass_gone db of.Manifest m left counts has h = inl (delete_gone logs.Manifest db m has h.0)
  pass_gone db of.Compactions m left counts has h = inl (delete_gone logs.Compactions db m has h.0)
  pass_gone db of.Compacted m left counts has h = inr h.0
  pass_gone db of.Wal m left counts has h = inr h.0
  pass_gone db of.WalFence m left counts has h = inr h.0
  pass_gone db of.Detach m left counts has h = absurd h

  pub event_gone : (e : Event) (d : Transition) → Inv w chains → happens w e ≡ Some d → EachPath (IsGone v chains') (removed_by d.entry w.store)
  event_gone e d i h = event_removes w (IsGone v chains') deleted e d h
    where
      deleted : (n : ℕ) (facts : Facts) (task : Task) → party_of n w.parties ≡ Some (record { facts = facts; state = Busy task }) → (path : ObjectPath) → Deletes (phrase_of task.work) path → IsGone v chains' path
      deleted n facts task at path del =
          let known = i.parties n (record { facts = facts; state = Busy task }) at in
          let knows = subst (λ (ph : Phrase). PhraseKnows w.store chains n ph) del.is known.knows.knows in
          let own : facts.db ≡ del.db = sym known.knows.own ∙ (sym (work_db task.work) ∙ ap db_in del.is) in
          subst (IsGone v chains') (sym del.same) (pass_gone del.db del.pass del.first del.left del.counts (subst (λ d. HasDb w d) own known.has) knows)

-- ---- so it is safe

module _ (w : World) (chains : Chains) (i : Inv w chains) where
  version_unreachable : (path : ObjectPath) → IsCollectedVersion w chains path → Reachable w chains path → ⊥
  version_unreachable path h r = by_reach r.reach
    where
      by_reach : InReach chains r.db path → ⊥
      by_reach (OfVersion k n is needed) =
          let same : Version h.log h.db h.number ≡ Version k r.db n = sym (version_owner h.log h.db h.number) ∙ (ap owner_of (sym h.is ∙ is) ∙ version_owner k r.db n) in
          let same_log : h.log ≡ k = cc (same) in
          let same_db : h.db ≡ r.db = cc (same) in
          let same_number : h.number ≡ n = cc (same) in
          let own : IsNeeded (log_of k) (chains k h.db) h.number = subst (λ j. IsNeeded (log_of k) (chains k h.db) j) (sym same_number) (subst (λ d. IsNeeded (log_of k) (chains k d) n) (sym same_db) needed) in
          not_needed (log_of h.log) (chains h.log h.db) h.number h.spare (subst (λ j. IsNeeded (log_of j) (chains j h.db) h.number) (sym same_log) own)
      by_reach (OfTable id is needs) = cc (sym (version_owner h.log h.db h.number) ∙ ap owner_of (sym h.is ∙ is))

  table_unreachable : (path : ObjectPath) → IsCollectedTable w chains path → Reachable w chains path → ⊥
  table_unreachable path h r = by_reach r.reach
    where
      by_reach : InReach chains r.db path → ⊥
      by_reach (OfVersion k n is needed) = cc (ap owner_of (sym h.is ∙ is) ∙ version_owner k r.db n)
      by_reach (OfTable id is needs) =
          let same : paths.Table h.db h.id ≡ paths.Table r.db id = sym h.is ∙ is in
          let same_db : h.db ≡ r.db = cc (same) in
          let same_id : h.id ≡ id = cc (same) in
          h.spare.unneeded (subst (λ (d : List ℕ). NeedsTable (chains logs.Manifest d) h.id) (sym same_db) (subst (λ (t : ℕ × ℕ). NeedsTable (chains logs.Manifest r.db) t) (sym same_id) needs))

  unreachable_one : (path : ObjectPath) → IsCollected w chains path → Reachable w chains path → ⊥
  unreachable_one path (OfLog h) r = version_unreachable path h r
  unreachable_one path (OfTables h) r = table_unreachable path h r

  stands_there : (k : LogKind) (db : List ℕ) (n : ℕ) → HasDb w db → IsNeeded (log_of k) (chains k db) n → IsPresent w chains k db n
  stands_there logs.Manifest db n has needed = let it = (i.logs logs.Manifest db (i.named db has)).needed n needed in record { link = it.link; committed = it.at; stands = it.stands }
  stands_there logs.Compactions db n has needed = let it = (i.logs logs.Compactions db (i.named db has)).needed n needed in record { link = it.link; committed = it.at; stands = it.stands }

  pub is_safe : (paths : List ObjectPath) → AllCollected w chains paths → IsSafe w chains paths
  is_safe paths h = record { unreachable = each_path (IsCollected w chains) (λ path. Reachable w chains path → ⊥) unreachable_one paths h; stands = stands_there; collected = h }

-- ---- along a run: the same databases, and no boundary falls

pub run_same : (es : List Event) (place : ℕ) (c v : Course) (chains : Chains) (db : List ℕ) → Inv c.world chains → run es place c ≡ ended v → is_some (tally_of db v.world.tallies) ≡ is_some (tally_of db c.world.tallies)
run_same [] place c v chains db i is = ap (λ (r : Ran). is_some (tally_of db r.course.world.tallies)) (sym is)
run_same (e ∷ es) place c v chains db i is =
    went (happens c.world e) refl is
    (λ d k at. run_same es (place + 1) (going_on c d) v (chains_after c.world e chains) db (event_inv c.world chains e d at i) k ∙ (event_after c.world chains e d i at).same db)
  where
    went : (o : Option Transition) → happens c.world e ≡ o → (elim o as (λ _. Ran) [ None ↦ record { course = c; bad = Some place } | Some done ↦ run es (place + 1) (going_on c done) ]) ≡ ended v
        → ((d : Transition) → run es (place + 1) (going_on c d) ≡ ended v → happens c.world e ≡ Some d → is_some (tally_of db v.world.tallies) ≡ is_some (tally_of db c.world.tallies))
        → is_some (tally_of db v.world.tallies) ≡ is_some (tally_of db c.world.tallies)
    went None at is f = absurd (cc (ap (λ (r : Ran). r.bad) is))
    went (Some d) at is f = f d is at

pub run_rises : (log : LogKind) (es : List Event) (place : ℕ) (c v : Course) (chains : Chains) (db : List ℕ) → Inv c.world chains → HasDb c.world db → run es place c ≡ ended v
    → (before now : ℕ) → bound_in (log_of log) db c.world.store ≡ Some before → bound_in (log_of log) db v.world.store ≡ Some now → before ≤ now
run_rises log [] place c v chains db i has is before now was read =
    let same : c ≡ v = ap (λ (r : Ran). r.course) is in
    let here : bound_in (log_of log) db c.world.store ≡ Some now = subst (λ (x : Course). bound_in (log_of log) db x.world.store ≡ Some now) (sym same) read in
    let equal : before ≡ now = cc (was, here) in
    omega arith
run_rises log (e ∷ es) place c v chains db i has is before now was read =
    went (happens c.world e) refl is
    (λ d k at.
    let after = event_after c.world chains e d i at in
    let mid_inv = event_inv c.world chains e d at i in
    let mid_has : HasDb d.world db = after.same db ∙ has in
    let mid = mid_inv.logs log db (mid_inv.named db mid_has) in
    let was_there = (after.grows log db has).bound mid.bound mid.read in
    let equal : was_there.0 ≡ before = cc (was_there.1, was) in
    let up = was_there.2 in
    let rest = run_rises log es (place + 1) (going_on c d) v (chains_after c.world e chains) db mid_inv mid_has k mid.bound now mid.read read in
    omega arith)
  where
    went : (o : Option Transition) → happens c.world e ≡ o → (elim o as (λ _. Ran) [ None ↦ record { course = c; bad = Some place } | Some done ↦ run es (place + 1) (going_on c done) ]) ≡ ended v
        → ((d : Transition) → run es (place + 1) (going_on c d) ≡ ended v → happens c.world e ≡ Some d → before ≤ now) → before ≤ now
    went None at is f = absurd (cc (ap (λ (r : Ran). r.bad) is))
    went (Some d) at is f = f d is at
