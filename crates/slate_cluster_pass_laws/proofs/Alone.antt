-- A pass that nobody disturbs, phase by phase: what it knows, and what it leaves from there on.
use Rattle.std.proofs.Common.{◌≡◌, ℕ, ◌+◌, ◌<◌, ◌≤◌, ◌^◌, ℤ, max, nat_le, nat_lt, Bool, true, false, List, [], ◌∷◌, length, filter, Option, Some, None, Result, Ok, Err, refl, sym, ap, ◌∙◌, subst, arith}
use Rattle.std.proofs.lemmas.Bool.Decides.{nat_tests}
use Rattle.std.specs.Prelude.{◌==◌, ◌||◌, ◌&&◌, not, min, decimal, if◌then◌else◌}
use Rattle.std.specs.List.{list_any, list_all}
use Rattle.slate_ids.specs.Ids.{is_db_path}
use Rattle.slate_ids.specs.Limits.{last_number, next_count}
use Rattle.slate_ids.specs.declared.error.SlateDBError.{SlateDBError}
use Rattle.slate_ids.specs.declared.error.SlateDBError.TheVariants.{Exhausted, ManifestMissing, TransactionalObjectVersionExists}
use Rattle.slate_ids.specs.declared.gc_message.GcMessage.{GcMessage}
use Rattle.slate_ids.specs.declared.gc_message.GcMessage.TheVariants as of
use Rattle.slate_ids.specs.declared.object_path.ObjectPath.TheVariants as paths
use Rattle.slate_ids.proofs.PathsApart.{same_path}
use Rattle.slate_layout_manifests.specs.Decoding.{decoded_manifest}
use Rattle.slate_layout_encodable.specs.Normal.{normal_manifest}
use Rattle.slate_layout.specs.Codec.{encoded}
use Rattle.slate_model.specs.Watermark.{watermark}
use Rattle.slate_model.specs.declared.checkpoint.Checkpoint.{Checkpoint}
use Rattle.slate_model.specs.declared.manifest.Manifest.{Manifest}
use Rattle.slate_store.specs.Machines.{Stay, End}
use Rattle.slate_store.specs.Store.{Store, object_at, has_tag, listed, stored, put_new, replace, whole}
use Rattle.slate_store.specs.declared.object.ObjectMetadata.{ObjectMetadata}
use Rattle.slate_store.specs.declared.object.StoredObject.{StoredObject}
use Rattle.slate_store.specs.declared.store_answer.StoreAnswer.TheVariants.{Found, Got}
use Rattle.slate_txn_log.specs.AdvancePhase.{AdvanceGoes, advance_asks, advance_goes}
use Rattle.slate_txn_log.specs.AdvancePhase.{read_goes_to, bound_goes as to_bound}
use Rattle.slate_txn_log.specs.Boundary.{boundary_got, greatest}
use Rattle.slate_txn_log.specs.CommitPhase.{commit_asks, commit_goes, checked_commit, encoded_commit, prepared}
use Rattle.slate_txn_log.specs.CommitPhase.{bounded_goes as commit_bounded}
use Rattle.slate_txn_log.specs.Change.{some_commit, wanted}
use Rattle.slate_txn_log.specs.LogPaths.{version_path, boundary_path, folder}
use Rattle.slate_txn_log.specs.ReadPhase.{read_asks, read_goes}
use Rattle.slate_txn_log.specs.ReadPhase.{listed_goes as read_listed, got_goes as read_got, decoded_goes as read_decoded, boundary_goes as read_bounded}
use Rattle.slate_txn_log.specs.declared.advance_phase.AdvancePhase.{AdvancePhase}
use Rattle.slate_txn_log.specs.declared.advance_phase.AdvancePhase.TheVariants as advancing
use Rattle.slate_txn_log.specs.declared.commit_phase.CommitPhase.{CommitPhase}
use Rattle.slate_txn_log.specs.declared.commit_phase.CommitPhase.TheVariants as committing
use Rattle.slate_txn_log.specs.declared.log_kind.LogKind.{LogKind}
use Rattle.slate_txn_log.specs.declared.log_kind.LogKind.TheVariants.{Manifest as ManifestLog, Compactions as RecordLog}
use Rattle.slate_txn_log.specs.declared.read_phase.ReadPhase.{ReadPhase}
use Rattle.slate_txn_log.specs.declared.read_phase.ReadPhase.TheVariants as reading
use Rattle.slate_txn_log.specs.declared.right.Right.TheVariants.{Plain}
use Rattle.slate_gc_passes.specs.Candidates.{old_records}
use Rattle.slate_gc_passes.specs.PassCounts.{counts_of}
use Rattle.slate_gc_passes.specs.Rows.{folder_of}
use Rattle.slate_gc_passes.specs.GcPhase.{GcGoes, gc_asks, gc_goes, gc_due, read_on, commit_on, collect_on, removal_goes, moment_of_pass}
use Rattle.slate_gc_passes.specs.Pass.{pass_asks, pass_goes, manifests_goes, decoded_goes, got_goes, bounded_goes, chosen_goes, advance_to, deletes_next, advanced_goes, first_phase, list_goes}
use Rattle.slate_gc_passes.specs.declared.directory_options.GarbageCollectorDirectoryOptions.{GarbageCollectorDirectoryOptions}
use Rattle.slate_gc_passes.specs.declared.gc_phase.GcPhase.{GcPhase}
use Rattle.slate_txn_changes.specs.declared.log_work.LogWork.TheVariants.{Reading, Committing}
use Rattle.slate_gc_passes.specs.declared.gc_phase.GcPhase.TheVariants.{Removing, Collecting}
use Rattle.slate_gc_passes.specs.declared.heads.Heads.{Heads}
use Rattle.slate_gc_passes.specs.declared.pass_counts.PassCounts.{PassCounts}
use Rattle.slate_gc_passes.specs.declared.pass_phase.PassPhase.TheVariants as passing
use Rattle.slate_gc_passes.specs.declared.pass_settings.PassSettings.{PassSettings}
use Rattle.slate_gc_picks.specs.Queue.{has_object}
use Rattle.slate_script_events.specs.declared.filter_word.FilterWord.{FilterWord}
use Rattle.slate_state_updates.specs.ManifestChanges.{commit_of, floored, with_floor}
use Rattle.slate_state_updates.specs.Checkpoints.{is_named, is_expired, with_checkpoints}
use Rattle.slate_state_updates.specs.Prefixes.{prefix_refusal}
use Rattle.slate_state_updates.specs.Rules.{manifest_refusal}
use Rattle.slate_state_updates.proofs.Lawful.{lawful}
use Rattle.slate_state_updates.proofs.Unchanged.{passes}
use Rattle.slate_state_updates.specs.declared.manifest_change.ManifestChange.TheVariants.{DropExpired}
use Rattle.slate_script_events.specs.declared.call.Call.{Call}
use Rattle.slate_script_events.specs.declared.reply.Reply.{Reply}
use Rattle.slate_script_events.specs.declared.reply.Reply.TheVariants.{Refused}
use Rattle.slate_script_events.specs.declared.reply.Reply.TheVariants as reply
use Rattle.slate_cluster_protocol.specs.Alone.{without}
use Rattle.slate_cluster_protocol.specs.Calls.{Go}
use Rattle.slate_cluster_protocol.specs.Holding.{IsOfLog, pass_log}
use Rattle.slate_cluster_protocol.specs.Passes.{pass_answers, picks_read}
use Rattle.slate_cluster_protocol.specs.Rows.{Answered, Standing, pass_on}
use Rattle.slate_cluster_protocol.specs.Specs.{listed_or_none}
use Rattle.slate_cluster_protocol.specs.Works.{pass_ways}
use Rattle.slate_cluster_protocol.specs.declared.party.Facts.{Facts}
use Rattle.slate_cluster_protocol.specs.declared.work.Work.TheVariants.{Pass}
use Rattle.slate_cluster_pass_laws.proofs.Encodable.{HasBytes, removal_bytes}
use Rattle.slate_cluster_pass_laws.proofs.ManifestPicks.{of_candidates, bound_picks, bounded_picks, get_picks, decoded_picks, listed_picks, picks_same}
use Rattle.slate_cluster_pass_laws.proofs.Left.{without_none, without_one, advance_listed, delete_listed}
use Rattle.slate_cluster_laws.proofs.Ordered.{IsOrdered}
use Rattle.slate_cluster_laws.proofs.Passes.{bounded_pass}
use Rattle.slate_store.proofs.LookUps.{at_else}
use Rattle.slate_cluster_laws.proofs.Stores.{IsTidy}

not_at_most : (n b : ℕ) → b < n → nat_le n b ≡ false
not_at_most n b lt = grind (arith, nat_tests)

-- ---- the removal is lawful, and has bytes

-- what is left of checkpoints is named
left_named : (id : ℕ) (cs : List Checkpoint) (keep : Checkpoint → Bool) (all : List Checkpoint) → ((n : ℕ) → is_named n cs ≡ true → is_named n all ≡ true)
    → list_all (λ c. c.manifest_id == id + 1 || is_named c.manifest_id all) (filter keep cs) ≡ true
left_named id [] keep all h = refl
left_named id (c ∷ cs) keep all h =
    step (keep c) (h c.manifest_id (first_is c.manifest_id (is_named c.manifest_id cs))) (left_named id cs keep all (λ n e. h n (later_is (c.manifest_id == n) (is_named n cs) e)))
  where
    first_is : (n : ℕ) (b : Bool) → ((n == n) || b) ≡ true
    first_is n b = let e : (n == n) ≡ true = grind (arith, nat_tests) in ap (λ (x : Bool). x || b) e

    later_is : (a b : Bool) → b ≡ true → (a || b) ≡ true
    later_is true b e = refl
    later_is false b e = e

    both : (a b r : Bool) → b ≡ true → r ≡ true → ((a || b) && r) ≡ true
    both true b r e f = f
    both false true r e f = f
    both false false r e f = absurd cc

    step : (b : Bool) → is_named c.manifest_id all ≡ true → list_all (λ x. x.manifest_id == id + 1 || is_named x.manifest_id all) (filter keep cs) ≡ true
        → list_all (λ x. x.manifest_id == id + 1 || is_named x.manifest_id all) (if b then c ∷ filter keep cs else filter keep cs) ≡ true
    step true e rest = both (c.manifest_id == id + 1) (is_named c.manifest_id all) _ e rest
    step false e rest = rest

-- the manifest without some checkpoints, with the floor that it asks for
abbrev less : (Checkpoint → Bool) → Manifest → Manifest
less keep m = with_floor m.core.floor (with_checkpoints (filter keep m.core.checkpoints) m)

-- no rule refuses it, where the prefixes don't nest
less_lawful : (n : ℕ) (m : Manifest) (keep : Checkpoint → Bool) → prefix_refusal m.core.segments ≡ None → manifest_refusal n m (less keep m) Plain ≡ None
less_lawful n m keep apart =
    let tables = passes m (less keep m) Plain refl refl in
    lawful n m (less keep m) Plain (record {
      numbers = none_falls m.writer_epoch m.compactor_epoch m.core.replay_after_wal_id m.core.floor (watermark (with_checkpoints (filter keep m.core.checkpoints) m).core);
      names = left_named n m.core.checkpoints keep m.core.checkpoints (λ k e. e);
      entries = tables.0;
      ticks = tables.1;
      runs = tables.2;
      prefixes = apart;
    })
  where
    none_falls : (w c r f k : ℕ) → (nat_lt w w || nat_lt c c || nat_lt r r || nat_lt (max f k) f) ≡ false
    none_falls w c r f k = grind (arith, nat_tests)

-- ---- counts

more_deleted : (d k n : ℕ) → k + 1 ≡ n → min (min (d + 1) last_number + k) last_number ≡ min (d + n) last_number
more_deleted d k n e = grind (arith, nat_tests)

from_none : (k : ℕ) → min (0 + k) last_number ≡ min k last_number
from_none k = grind (arith, nat_tests)

count_small : (d : ℕ) → next_count d ≤ last_number
count_small d = grind (arith, nat_tests)

-- ---- what is known, and what is left

-- the latest manifest of a database, as the store has it: it has bytes, and no object is at the next number
pub record IsLatest (db : List ℕ) (s : Store) (n : ℕ) (v : Manifest) : Type 0 where
  pub object : StoredObject
  pub at : object_at (version_path ManifestLog db n) s ≡ Some object
  pub value : decoded_manifest object.bytes ≡ Ok v
  pub source : Manifest
  pub bytes : List ℕ
  pub encodes : encoded source ≡ Ok bytes
  pub normal : v ≡ normal_manifest source
  pub apart : prefix_refusal v.core.segments ≡ None
  pub small : n < 2 ^ 64
  pub free : n + 1 < 2 ^ 64 → object_at (version_path ManifestLog db (n + 1)) s ≡ None

-- a number above the boundary
abbrev pub IsUp : List ℕ → Store → ℕ → Type 0
IsUp db s n = (b : ℕ) → boundary_got (object_at (boundary_path ManifestLog db) s) ≡ Some b → b < n

-- the boundary of a log can be read
pub record HasBound (k : LogKind) (db : List ℕ) (s : Store) : Type 0 where
  pub bound : ℕ
  pub read : boundary_got (object_at (boundary_path k db) s) ≡ Some bound

-- what holds of the manifests of a database at each moment, and of the boundary of a log
pub record IsFine (k : LogKind) (db : List ℕ) (s : Store) : Type 0 where
  pub tidy : IsTidy s.objects
  pub ordered : IsOrdered s.objects
  pub bound : ℕ
  pub read : boundary_got (object_at (boundary_path ManifestLog db) s) ≡ Some bound
  pub top : ℕ
  pub value : Manifest
  pub latest : IsLatest db s top value
  pub greatest : greatest ManifestLog (listed (folder ManifestLog db) s) ≡ Some top
  pub below : bound < top
  pub own : HasBound k db s

-- the object of the boundary is as it was read
abbrev AdvanceCan : LogKind → List ℕ → Store → AdvancePhase → Type 0
AdvanceCan k db s (advancing.Bounding n) = Unit {0}
AdvanceCan k db s (advancing.Creating n) = object_at (boundary_path k db) s ≡ None
AdvanceCan k db s (advancing.Replacing n tag) = has_tag tag (object_at (boundary_path k db) s) ≡ true
AdvanceCan k db s advancing.Over = ⊥

-- the counts of a pass before its first delete
pub record IsFirst (left : List ObjectMetadata) (counts : PassCounts) : Type 0 where
  pub picked : counts.picked ≡ length left
  pub deleted : counts.deleted ≡ 0
  pub failed : counts.failed ≡ 0

-- what is known in a phase of a pass over a log: that over the manifests alone reads after its list
abbrev pub Knows : LogKind → List ℕ → Store → GcPhase → Type 0
Knows k db s (Removing (Reading reading.Listing)) = Unit {0}
Knows k db s (Removing (Reading (reading.Getting n))) = (v : Manifest) × IsLatest db s n v × IsUp db s n
Knows k db s (Removing (Reading (reading.Bounding n v))) = IsLatest db s n v × IsUp db s n
Knows k db s (Removing (Reading reading.Over)) = ⊥
Knows k db s (Removing (Committing now (committing.Putting n bytes v))) = (n < 2 ^ 64) × (object_at (version_path ManifestLog db n) s ≡ None) × IsUp db s n
Knows k db s (Removing (Committing now (committing.Bounding n v))) = IsUp db s n
Knows k db s (Removing (Committing now committing.Over)) = ⊥
Knows k db s (Collecting at (passing.ReadingRecord phase)) = ⊥
Knows k db s (Collecting at (passing.ReadingManifest least phase)) = ⊥
Knows k db s (Collecting at (passing.Fetching heads phase)) = ⊥
Knows k db s (Collecting None (passing.Listing heads versions)) = Unit {0}
Knows k db s (Collecting (Some now) (passing.Listing heads versions)) = ⊥
Knows k db s (Collecting at (passing.Getting n count found)) = (k ≡ ManifestLog) × ((v : Manifest) × IsLatest db s n v × IsUp db s n)
Knows k db s (Collecting at (passing.Bounding n count candidates)) = (k ≡ ManifestLog) × IsUp db s n
Knows k db s (Collecting at (passing.Advancing advance left counts)) = AdvanceCan k db s advance × IsFirst left counts
Knows k db s (Collecting at (passing.Deleting left counts)) = (has_object left ≡ true) × (counts.deleted ≤ last_number)
Knows k db s (Collecting at passing.Over) = ⊥

-- where so much is known a call is due
pub known_due : (k : LogKind) (db : List ℕ) (s : Store) (phase : GcPhase) → Knows k db s phase → gc_due phase ≡ true
known_due k db s (Removing (Reading reading.Listing)) h = refl
known_due k db s (Removing (Reading (reading.Getting n))) h = refl
known_due k db s (Removing (Reading (reading.Bounding n v))) h = refl
known_due k db s (Removing (Reading reading.Over)) h = absurd h
known_due k db s (Removing (Committing now (committing.Putting n bytes v))) h = refl
known_due k db s (Removing (Committing now (committing.Bounding n v))) h = refl
known_due k db s (Removing (Committing now committing.Over)) h = absurd h
known_due k db s (Collecting at (passing.ReadingRecord phase)) h = absurd h
known_due k db s (Collecting at (passing.ReadingManifest least phase)) h = absurd h
known_due k db s (Collecting at (passing.Fetching heads phase)) h = absurd h
known_due k db s (Collecting at (passing.Listing heads versions)) h = refl
known_due k db s (Collecting at (passing.Getting n count found)) h = refl
known_due k db s (Collecting at (passing.Bounding n count candidates)) h = refl
known_due k db s (Collecting at (passing.Advancing (advancing.Bounding n) left counts)) h = refl
known_due k db s (Collecting at (passing.Advancing (advancing.Creating n) left counts)) h = refl
known_due k db s (Collecting at (passing.Advancing (advancing.Replacing n tag) left counts)) h = refl
known_due k db s (Collecting at (passing.Advancing advancing.Over left counts)) h = absurd h.0
known_due k db s (Collecting at (passing.Deleting left counts)) h = h.0
known_due k db s (Collecting at passing.Over) h = absurd h

-- the reply of a pass that deleted all of these objects, and left of those that were found the others
pub record EndsWith (k : LogKind) (db : List ℕ) (ps found : List ObjectMetadata) (r : Reply) (s : Store) : Type 0 where
  pub replied : r ≡ reply.Pass (length ps) (min (length ps) last_number) 0
  pub left : listed (folder k db) s ≡ without ps found

-- the same, where some were deleted before
pub record DeletesEnd (k : LogKind) (db : List ℕ) (ps : List ObjectMetadata) (counts : PassCounts) (found : List ObjectMetadata) (r : Reply) (s : Store) : Type 0 where
  pub replied : r ≡ reply.Pass counts.picked (min (counts.deleted + length ps) last_number) counts.failed
  pub left : listed (folder k db) s ≡ without ps found

-- by the answers from its list on: the pass ended, or there was no list
pub data RemovalEnds (k : LogKind) (db : List ℕ) (settings : PassSettings) (word : FilterWord) (answers : List Answered) (r : Reply) (s : Store) : Type 0 where
  Lists : (found : List ObjectMetadata) (moment : ℤ) (later : List Answered) → answers ≡ (Found found, moment) ∷ later → EndsWith k db (listed_or_none (picks_read settings word answers)) found r s
      → RemovalEnds k db settings word answers r s
  Lacks : answers ≡ [] → r ≡ Refused (Exhausted last_number) → RemovalEnds k db settings word answers r s

-- a pass over a log that still removes, or that is to list
abbrev pub IsRemoval : GcPhase → Type 0
IsRemoval (Removing (Reading phase)) = Unit {0}
IsRemoval (Removing (Committing now phase)) = Unit {0}
IsRemoval (Collecting None (passing.Listing heads versions)) = Unit {0}
IsRemoval (Collecting _ _) = ⊥

-- before its list a pass over a log knows nothing
lists_first : (db : List ℕ) (s : Store) (pass : GcMessage) → IsOfLog pass → Knows (pass_log pass) db s (Collecting None (first_phase pass)) × IsRemoval (Collecting None (first_phase pass))
lists_first db s of.Manifest h = (tt, tt)
lists_first db s of.Compactions h = (tt, tt)
lists_first db s _ h = absurd (cc (h))

module _ (facts : Facts) (call : Call) (db : List ℕ) (pass : GcMessage) (options : GarbageCollectorDirectoryOptions) (word : FilterWord) where
  abbrev settings : PassSettings
  settings = bounded_pass pass options

  -- the log of the pass
  abbrev own : LogKind
  own = pass_log pass

  -- what a list finds
  abbrev found_in : Store → List ObjectMetadata
  found_in s = listed (folder own db) s

  -- where a call stands in a phase
  abbrev pub standing : GcPhase → Standing
  standing phase = record { facts = facts; next = Go (Pass db settings word phase) }

  -- where a call stands once its pass has gone on
  abbrev pub next_of : GcGoes → Standing
  next_of g = pass_on facts db settings word g

  -- what a pass leaves, from a phase on: by the store there, the answers from there on, the reply, and the store at the end
  abbrev pub Ends : GcPhase → Store → List Answered → Reply → Store → Type 0
  Ends (Removing (Reading phase)) s answers r t = RemovalEnds own db settings word (pass_answers call (standing (Removing (Reading phase))) answers) r t
  Ends (Removing (Committing now phase)) s answers r t = RemovalEnds own db settings word (pass_answers call (standing (Removing (Committing now phase))) answers) r t
  Ends (Collecting at (passing.ReadingRecord phase)) s answers r t = ⊥
  Ends (Collecting at (passing.ReadingManifest least phase)) s answers r t = ⊥
  Ends (Collecting at (passing.Fetching heads phase)) s answers r t = ⊥
  Ends (Collecting at (passing.Listing heads versions)) s answers r t = RemovalEnds own db settings word (pass_answers call (standing (Collecting at (passing.Listing heads versions))) answers) r t
  Ends (Collecting at (passing.Getting n count found)) s answers r t = EndsWith own db (get_picks settings word n found answers) (found_in s) r t
  Ends (Collecting at (passing.Bounding n count candidates)) s answers r t = EndsWith own db (bound_picks settings word n candidates answers) (found_in s) r t
  Ends (Collecting at (passing.Advancing advance left counts)) s answers r t = EndsWith own db left (found_in s) r t
  Ends (Collecting at (passing.Deleting left counts)) s answers r t = DeletesEnd own db left counts (found_in s) r t
  Ends (Collecting at passing.Over) s answers r t = ⊥

  -- what a step brings: what is known after it, with which the end from there on is the end from here on; or the end
  abbrev pub Brings : Store → (List Answered → Reply → Store → Type 0) → GcGoes → Type 0
  Brings s P (Stay phase) = Knows own db s phase × ((answers : List Answered) (r : Reply) (t : Store) → Ends phase s answers r t → P answers r t)
  Brings s P (End phase (Ok counts)) = P [] (reply.Pass counts.picked counts.deleted counts.failed) s
  Brings s P (End phase (Err e)) = P [] (Refused e) s

  -- what ends so ends so too
  brings_so : (s : Store) (P Q : List Answered → Reply → Store → Type 0) → ((answers : List Answered) (r : Reply) (t : Store) → P answers r t → Q answers r t) → (g : GcGoes) → Brings s P g → Brings s Q g
  brings_so s P Q f (Stay phase) b = (b.0, λ answers r t e. f answers r t (b.1 answers r t e))
  brings_so s P Q f (End phase (Ok counts)) b = f [] (reply.Pass counts.picked counts.deleted counts.failed) s b
  brings_so s P Q f (End phase (Err e)) b = f [] (Refused e) s b

  -- ---- the removal

  -- the removal goes on, or has no number left
  abbrev Removed : Store → GcGoes → Type 0
  Removed s (Stay phase) = Knows own db s phase × IsRemoval phase
  Removed s (End phase (Ok counts)) = ⊥
  Removed s (End phase (Err e)) = e ≡ Exhausted last_number

  removal_brings : (s : Store) (g : GcGoes) → Removed s g → Brings s (λ answers r t. RemovalEnds own db settings word (pass_answers call (next_of g) answers) r t) g
  removal_brings s (Stay (Removing (Reading phase))) h = (h.0, λ answers r t e. e)
  removal_brings s (Stay (Removing (Committing now phase))) h = (h.0, λ answers r t e. e)
  removal_brings s (Stay (Collecting None (passing.Listing heads versions))) h = (h.0, λ answers r t e. e)
  removal_brings s (Stay (Collecting _ _)) h = absurd h.1
  removal_brings s (End phase (Ok counts)) h = absurd h
  removal_brings s (End phase (Err e)) h = Lacks refl (ap (λ (x : SlateDBError). Refused x) h)

  -- what is made without the expired checkpoints is committed, or there is no number left for it
  removal_made : IsOfLog pass → (s : Store) (now : ℤ) (n : ℕ) (v : Manifest) → IsLatest db s n v → IsUp db s n → Removed s (removal_goes pass now n v (commit_of encoded DropExpired now n v))
  removal_made log s now n v h up = by_expired (list_any (is_expired now) v.core.checkpoints)
    where
      keep : Checkpoint → Bool
      keep c = not (is_expired now c)

      new : Manifest
      new = less (λ c. not (is_expired now c)) v

      by_number : HasBytes new → (b : Bool) → (n == last_number) ≡ b
          → Removed s (removal_goes pass now n v (some_commit (if b then Err (Exhausted n) else checked_commit (manifest_refusal n v new Plain) (n + 1) new (encoded new))))
      by_number k true is = ap (λ (i : ℕ). Exhausted i) (is_last n is)
        where
          is_last : (i : ℕ) → (i == last_number) ≡ true → i ≡ last_number
          is_last i e = grind (arith, nat_tests)
      by_number k false is =
          subst (λ (o : Option SlateDBError). Removed s (removal_goes pass now n v (some_commit (checked_commit o (n + 1) new (encoded new))))) (sym (less_lawful n v keep h.apart))
          (subst (λ (r : Result (List ℕ) SlateDBError). Removed s (removal_goes pass now n v (some_commit (encoded_commit (n + 1) new r)))) (sym k.is) ((fits n is h.small, h.free (fits n is h.small), λ b e. above b n (up b e)), tt))
        where
          fits : (i : ℕ) → (i == last_number) ≡ false → i < 2 ^ 64 → i + 1 < 2 ^ 64
          fits i e lt = grind (arith, nat_tests)

          above : (b i : ℕ) → b < i → b < i + 1
          above b i lt = omega arith

      by_expired : (b : Bool) → Removed s (removal_goes pass now n v (wanted (λ m. prepared manifest_refusal encoded n v m Plain) (floored v.core.floor (if b then Ok (Some (with_checkpoints (filter (λ c. not (is_expired now c)) v.core.checkpoints) v)) else Ok None))))
      by_expired false = lists_first db s pass log
      by_expired true = by_number (subst (λ (m : Manifest). HasBytes (less (λ c. not (is_expired now c)) m)) (sym h.normal) (removal_bytes h.source h.bytes (λ c. not (is_expired now c)) h.encodes)) (n == last_number) refl

  -- ---- the steps of the removal

  module _ (log : IsOfLog pass) (s : Store) (fine : IsFine own db s) (moment : ℤ) where
    top_up : IsUp db s fine.top
    top_up b is =
        let same : fine.bound ≡ b = some_same (sym fine.read ∙ is) in
        subst (λ (i : ℕ). i < fine.top) same fine.below
      where
        some_same : {a b : ℕ} → Some a ≡ Some b → a ≡ b
        some_same e = cc

    above_test : (n : ℕ) → IsUp db s n → nat_le n fine.bound ≡ false
    above_test n up = not_at_most n fine.bound (up fine.bound fine.read)

    read_step : (phase : ReadPhase Manifest) → Knows own db s (Removing (Reading phase))
        → Removed s (read_on encoded pass moment (read_goes ManifestLog decoded_manifest phase (whole (read_asks db ManifestLog phase) moment s).answer))
    read_step reading.Listing h =
        subst (λ (o : Option ℕ). Removed s (read_on encoded pass moment (read_listed o))) (sym fine.greatest) ((fine.value, fine.latest, top_up), tt)
    read_step (reading.Getting n) h =
        subst (λ (o : Option StoredObject). Removed s (read_on encoded pass moment (read_got decoded_manifest n o))) (sym h.1.at)
        (subst (λ (r : Result Manifest SlateDBError). Removed s (read_on encoded pass moment (read_decoded n r))) (sym h.1.value) ((h.1, h.2), tt))
    read_step (reading.Bounding n v) h =
        subst (λ (o : Option ℕ). Removed s (read_on encoded pass moment (read_bounded n v o))) (sym fine.read)
        (subst (λ (b : Bool). Removed s (read_on encoded pass moment (if b then Stay reading.Listing else End reading.Over (Ok (Some (n, v)))))) (sym (above_test n h.1)) (removal_made log s moment n v h.0 h.1))
    read_step reading.Over h = absurd h

    module _ (named : is_db_path db ≡ true) where
      boundary_else : (n : ℕ) (bytes : List ℕ) → n < 2 ^ 64 → object_at (boundary_path ManifestLog db) (stored (version_path ManifestLog db n) bytes moment s) ≡ object_at (boundary_path ManifestLog db) s
      boundary_else n bytes small = at_else (paths.Manifest db n) (paths.ManifestBoundary db) bytes moment s (λ e. apart (same_path (paths.ManifestBoundary db) (paths.Manifest db n) named (named, small) e))
        where
          apart : paths.ManifestBoundary db ≡ paths.Manifest db n → ⊥
          apart e = absurd cc

      commit_step : (since : ℤ) (phase : CommitPhase Manifest) → Knows own db s (Removing (Committing since phase))
          → Removed (whole (commit_asks db ManifestLog phase) moment s).store (commit_on pass since (commit_goes phase (whole (commit_asks db ManifestLog phase) moment s).answer))
      commit_step since (committing.Putting n bytes v) h =
          subst (λ (o : Option StoredObject). Removed (put_new o (version_path ManifestLog db n) bytes moment s).store (commit_on pass since (commit_goes (committing.Putting n bytes v) (put_new o (version_path ManifestLog db n) bytes moment s).answer))) (sym h.1)
          ((λ b is. h.2 b (sym (ap boundary_got (boundary_else n bytes h.0)) ∙ is)), tt)
      commit_step since (committing.Bounding n v) h =
          subst (λ (o : Option ℕ). Removed s (commit_on pass since (commit_bounded n v o))) (sym fine.read)
          (subst (λ (b : Bool). Removed s (commit_on pass since (if b then End committing.Over (Err (TransactionalObjectVersionExists n (Some fine.bound))) else End committing.Over (Ok (n, v))))) (sym (above_test n h)) (lists_first db s pass log))
      commit_step since committing.Over h = absurd h

    -- ---- the steps of what follows its list

    -- the picks are to be deleted
    picks_bring : (at : Option ℤ) (now : ℤ) (t : Store) (ps : List ObjectMetadata) (counts : PassCounts) → IsFirst ps counts → found_in t ≡ found_in s
        → Brings t (λ answers r u. EndsWith own db ps (found_in s) r u) (collect_on at now (deletes_next ps counts))
    picks_bring at now t [] counts first same = record {
      replied = first_reply counts.picked counts.deleted counts.failed first.picked first.deleted first.failed;
      left = same ∙ sym (without_none (found_in s));
    }
      where
        first_reply : (a b c : ℕ) → a ≡ 0 → b ≡ 0 → c ≡ 0 → reply.Pass a b c ≡ reply.Pass 0 0 0
        first_reply a b c e f g = cc
    picks_bring at now t (p ∷ ps) counts first same = (
      (refl, subst (λ (i : ℕ). i ≤ last_number) (sym first.deleted) (zero_small last_number)),
      λ answers r u e. record {
        replied = e.replied ∙ (ap (λ (i : ℕ). reply.Pass i (min (counts.deleted + length (p ∷ ps)) last_number) counts.failed) first.picked
            ∙ (ap (λ (i : ℕ). reply.Pass (length (p ∷ ps)) (min (i + length (p ∷ ps)) last_number) counts.failed) first.deleted
            ∙ (ap (λ (i : ℕ). reply.Pass (length (p ∷ ps)) (min (0 + length (p ∷ ps)) last_number) i) first.failed
            ∙ ap (λ (i : ℕ). reply.Pass (length (p ∷ ps)) i 0) (from_none (length (p ∷ ps))))));
        left = e.left ∙ ap (without (p ∷ ps)) same;
      },
    )
      where
        zero_small : (i : ℕ) → 0 ≤ i
        zero_small i = omega arith

    -- candidates are known: the boundary is to move up, or the picks are to be deleted
    chosen_bring : (at : Option ℤ) (now : ℤ) (ps : List ObjectMetadata) (count : ℕ) (k : Option ℕ) → Brings s (λ answers r t. EndsWith own db ps (found_in s) r t) (collect_on at now (advance_to k ps (counts_of (length ps) count)))
    chosen_bring at now ps count (Some k) = ((tt, record { picked = refl; deleted = refl; failed = refl }), λ answers r t e. e)
    chosen_bring at now ps count None = picks_bring at now s ps (counts_of (length ps) count) (record { picked = refl; deleted = refl; failed = refl }) refl

    -- ---- the boundary moves up

    -- an advance goes on, or is done
    abbrev Moved : Store → AdvanceGoes → Type 0
    Moved t (Stay advance) = AdvanceCan own db t advance
    Moved t (End advance (Ok done)) = Unit {0}
    Moved t (End advance (Err e)) = ⊥

    got_step : (k : ℕ) (o : Option StoredObject) → object_at (boundary_path own db) s ≡ o → boundary_got o ≡ Some fine.own.bound → Moved s (to_bound k o)
    got_step k None at read = by_zero (k == 0)
      where
        by_zero : (b : Bool) → Moved s (if b then End advancing.Over (Ok tt) else Stay (advancing.Creating k))
        by_zero true = tt
        by_zero false = at
    got_step k (Some object) at read = subst (λ (o : Option ℕ). Moved s (read_goes_to k object.e_tag o)) (sym read) (by_reached (nat_le k fine.own.bound))
      where
        own_tag : (i : ℕ) → (i == i) ≡ true
        own_tag i = grind (arith, nat_tests)

        by_reached : (b : Bool) → Moved s (if b then End advancing.Over (Ok tt) else Stay (advancing.Replacing k object.e_tag))
        by_reached true = tt
        by_reached false = ap (has_tag object.e_tag) at ∙ own_tag object.e_tag

    move_step : (advance : AdvancePhase) → AdvanceCan own db s advance → Moved (whole (advance_asks db own advance) moment s).store (advance_goes advance (whole (advance_asks db own advance) moment s).answer)
    move_step (advancing.Bounding k) h = got_step k (object_at (boundary_path own db) s) refl fine.own.read
    move_step (advancing.Creating k) h =
        subst (λ (o : Option StoredObject). Moved (put_new o (boundary_path own db) (decimal k) moment s).store (advance_goes (advancing.Creating k) (put_new o (boundary_path own db) (decimal k) moment s).answer)) (sym h) tt
    move_step (advancing.Replacing k tag) h =
        subst (λ (b : Bool). Moved (replace b (boundary_path own db) (decimal k) moment s).store (advance_goes (advancing.Replacing k tag) (replace b (boundary_path own db) (decimal k) moment s).answer)) (sym h) tt
    move_step advancing.Over h = absurd h

    moved_brings : (at : Option ℤ) (now : ℤ) (t : Store) (ps : List ObjectMetadata) (counts : PassCounts) → IsFirst ps counts → found_in t ≡ found_in s → (g : AdvanceGoes) → Moved t g
        → Brings t (λ answers r u. EndsWith own db ps (found_in s) r u) (collect_on at now (advanced_goes ps counts g))
    moved_brings at now t ps counts first same (Stay advance) h = ((h, first), λ answers r u e. subst (λ (found : List ObjectMetadata). EndsWith own db ps found r u) same e)
    moved_brings at now t ps counts first same (End advance (Ok done)) h = picks_bring at now t ps counts first same
    moved_brings at now t ps counts first same (End advance (Err e)) h = absurd h

    -- ---- a delete

    delete_step : (at : Option ℤ) (now : ℤ) (left : List ObjectMetadata) (counts : PassCounts) → Knows own db s (Collecting at (passing.Deleting left counts))
        → Brings (whole (pass_asks db pass (passing.Deleting left counts)) moment s).store (λ answers r t. DeletesEnd own db left counts (found_in s) r t)
        (collect_on at now (pass_goes (pass_ways word) settings now (passing.Deleting left counts) (whole (pass_asks db pass (passing.Deleting left counts)) moment s).answer))
    delete_step at now [] counts h = absurd (cc (h.0))
    delete_step at now (p ∷ []) counts h = record {
      replied = refl;
      left = delete_listed own db p s fine.ordered;
    }
    delete_step at now (p ∷ q ∷ ps) counts h = (
      (refl, count_small counts.deleted),
      λ answers r t e. record {
        replied = e.replied ∙ ap (λ (i : ℕ). reply.Pass counts.picked i counts.failed) (more_deleted counts.deleted (length (q ∷ ps)) (length (p ∷ q ∷ ps)) (omega arith));
        left = e.left ∙ (ap (without (q ∷ ps)) (delete_listed own db p s fine.ordered) ∙ without_one p (q ∷ ps) (found_in s));
      },
    )

-- ---- the steps after the list of manifests

module _ (facts : Facts) (call : Call) (db : List ℕ) (options : GarbageCollectorDirectoryOptions) (word : FilterWord) (s : Store) (fine : IsFine ManifestLog db s) (moment : ℤ) where
  abbrev over_manifests : PassSettings
  over_manifests = bounded_pass of.Manifest options

  abbrev found_manifests : List ObjectMetadata
  found_manifests = listed (folder ManifestLog db) s

  abbrev ManifestsBring : (List Answered → Reply → Store → Type 0) → GcGoes → Type 0
  ManifestsBring P g = Brings facts call db of.Manifest options word s P g

  manifest_list : ManifestsBring (λ answers r t. RemovalEnds ManifestLog db over_manifests word ((Found found_manifests, moment) ∷ answers) r t)
      (collect_on None moment (manifests_goes options.min_age moment found_manifests (greatest ManifestLog found_manifests)))
  manifest_list = by_greatest (greatest ManifestLog found_manifests) refl (sym fine.greatest)
    where
      by_greatest : (o : Option ℕ) → greatest ManifestLog found_manifests ≡ o → Some fine.top ≡ greatest ManifestLog found_manifests
          → ManifestsBring (λ answers r t. RemovalEnds ManifestLog db over_manifests word ((Found found_manifests, moment) ∷ answers) r t) (collect_on None moment (manifests_goes options.min_age moment found_manifests o))
      by_greatest None is top = absurd cc
      by_greatest (Some n) is top =
          let same : fine.top ≡ n = cc in (
            (refl, subst (λ (i : ℕ). (v : Manifest) × IsLatest db s i v × IsUp db s i) same (fine.value, fine.latest, top_up facts call db of.Manifest options word refl s fine moment)),
            λ answers r t e. Lists found_manifests moment answers refl
                (subst (λ (ps : List ObjectMetadata). EndsWith ManifestLog db ps found_manifests r t) (sym (picks_same over_manifests word ((Found found_manifests, moment) ∷ answers)))
                (subst (λ (o : Option ℕ). EndsWith ManifestLog db (listed_picks over_manifests word moment found_manifests o answers) found_manifests r t) (sym is) e)),
          )

  get_step : (at : Option ℤ) (now : ℤ) (n count : ℕ) (found : List ObjectMetadata) → Knows ManifestLog db s (Collecting at (passing.Getting n count found))
      → ManifestsBring (λ answers r t. EndsWith ManifestLog db (get_picks over_manifests word n found ((Got (object_at (version_path ManifestLog db n) s), moment) ∷ answers)) found_manifests r t)
      (collect_on at now (got_goes decoded_manifest n count found (object_at (version_path ManifestLog db n) s)))
  get_step at now n count found h =
      subst (λ (o : Option StoredObject). ManifestsBring (λ answers r t. EndsWith ManifestLog db (get_picks over_manifests word n found ((Got o, moment) ∷ answers)) found_manifests r t) (collect_on at now (got_goes decoded_manifest n count found o)))
      (sym h.1.1.at)
      (subst (λ (res : Result Manifest SlateDBError). ManifestsBring (λ answers r t. EndsWith ManifestLog db (decoded_picks over_manifests word n found res answers) found_manifests r t) (collect_on at now (decoded_goes n count found res)))
      (sym h.1.1.value)
      ((refl, h.1.2), λ answers r t e. e))

  bound_step : (at : Option ℤ) (now : ℤ) (n count : ℕ) (candidates : List ObjectMetadata) → Knows ManifestLog db s (Collecting at (passing.Bounding n count candidates))
      → ManifestsBring (λ answers r t. EndsWith ManifestLog db (bounded_picks over_manifests word n candidates (boundary_got (object_at (boundary_path ManifestLog db) s))) found_manifests r t)
      (collect_on at now (bounded_goes (pass_ways word).allows over_manifests n count candidates (boundary_got (object_at (boundary_path ManifestLog db) s))))
  bound_step at now n count candidates h =
      subst (λ (o : Option ℕ). ManifestsBring (λ answers r t. EndsWith ManifestLog db (bounded_picks over_manifests word n candidates o) found_manifests r t) (collect_on at now (bounded_goes (pass_ways word).allows over_manifests n count candidates o))) (sym fine.read)
      (subst (λ (b : Bool). ManifestsBring (λ answers r t. EndsWith ManifestLog db (if b then [] else of_candidates over_manifests word candidates) found_manifests r t)
      (collect_on at now (if b then End passing.Over (Err (ManifestMissing n)) else chosen_goes (pass_ways word).allows over_manifests count candidates)))
      (sym (above_test facts call db of.Manifest options word refl s fine moment n h.1))
      (chosen_bring facts call db of.Manifest options word refl s fine moment at now (of_candidates over_manifests word candidates) count (greatest ManifestLog candidates)))

-- ---- the step after the list of records

module _ (facts : Facts) (call : Call) (db : List ℕ) (options : GarbageCollectorDirectoryOptions) (word : FilterWord) (s : Store) (fine : IsFine RecordLog db s) (moment : ℤ) where
  abbrev over_records : PassSettings
  over_records = bounded_pass of.Compactions options

  abbrev found_records : List ObjectMetadata
  found_records = listed (folder RecordLog db) s

  abbrev old : List ObjectMetadata
  old = old_records options.min_age moment found_records (greatest RecordLog found_records)

  abbrev ListEnds : List Answered → Reply → Store → Type 0
  ListEnds answers r t = RemovalEnds RecordLog db over_records word ((Found found_records, moment) ∷ answers) r t

  record_list : Brings facts call db of.Compactions options word s ListEnds (collect_on None moment (chosen_goes (pass_ways word).allows over_records (length found_records) old))
  record_list =
      brings_so facts call db of.Compactions options word s (λ answers r t. EndsWith RecordLog db (of_candidates over_records word old) found_records r t) ListEnds (λ answers r t e. Lists found_records moment answers refl e)
      (collect_on None moment (chosen_goes (pass_ways word).allows over_records (length found_records) old))
      (chosen_bring facts call db of.Compactions options word refl s fine moment None moment (of_candidates over_records word old) (length found_records) (greatest RecordLog old))

-- ---- any step without a fault

module _ (facts : Facts) (call : Call) (db : List ℕ) (options : GarbageCollectorDirectoryOptions) (word : FilterWord) (s : Store) (moment : ℤ) where
  abbrev BringsHere : GcMessage → (List Answered → Reply → Store → Type 0) → GcGoes → Type 0
  BringsHere pass P g = Brings facts call db pass options word s P g

  -- the list of a pass
  list_step : (pass : GcMessage) → IsOfLog pass → IsFine (pass_log pass) db s → (heads : Heads) (versions : List (ℕ × Manifest))
      → BringsHere pass (λ answers r t. RemovalEnds (pass_log pass) db (bounded_pass pass options) word ((Found (listed (folder_of pass db) s), moment) ∷ answers) r t)
      (collect_on None moment (list_goes (pass_ways word).allows (pass_ways word).files (bounded_pass pass options) moment heads versions (Found (listed (folder_of pass db) s))))
  list_step of.Manifest log fine heads versions = manifest_list facts call db options word s fine moment
  list_step of.Compactions log fine heads versions = record_list facts call db options word s fine moment
  list_step _ log fine heads versions = absurd (cc (log))

  -- the gets of the greatest manifest and of the boundary
  get_brings : (pass : GcMessage) → IsOfLog pass → IsFine (pass_log pass) db s → (at : Option ℤ) (now : ℤ) (n count : ℕ) (found : List ObjectMetadata) → Knows (pass_log pass) db s (Collecting at (passing.Getting n count found))
      → BringsHere pass (λ answers r t. EndsWith (pass_log pass) db (get_picks (bounded_pass pass options) word n found ((Got (object_at (version_path ManifestLog db n) s), moment) ∷ answers)) (listed (folder (pass_log pass) db) s) r t)
      (collect_on at now (got_goes decoded_manifest n count found (object_at (version_path ManifestLog db n) s)))
  get_brings of.Manifest log fine at now n count found h = get_step facts call db options word s fine moment at now n count found h
  get_brings of.Compactions log fine at now n count found h = absurd (cc (h.0))
  get_brings _ log fine at now n count found h = absurd (cc (log))

  bound_brings : (pass : GcMessage) → IsOfLog pass → IsFine (pass_log pass) db s → (at : Option ℤ) (now : ℤ) (n count : ℕ) (candidates : List ObjectMetadata) → Knows (pass_log pass) db s (Collecting at (passing.Bounding n count candidates))
      → BringsHere pass (λ answers r t. EndsWith (pass_log pass) db (bounded_picks (bounded_pass pass options) word n candidates (boundary_got (object_at (boundary_path ManifestLog db) s))) (listed (folder (pass_log pass) db) s) r t)
      (collect_on at now (bounded_goes (pass_ways word).allows (bounded_pass pass options) n count candidates (boundary_got (object_at (boundary_path ManifestLog db) s))))
  bound_brings of.Manifest log fine at now n count candidates h = bound_step facts call db options word s fine moment at now n count candidates h
  bound_brings of.Compactions log fine at now n count candidates h = absurd (cc (h.0))
  bound_brings _ log fine at now n count candidates h = absurd (cc (log))

  module _ (pass : GcMessage) (log : IsOfLog pass) (fine : IsFine (pass_log pass) db s) where
    pub step_brings : is_db_path db ≡ true → (phase : GcPhase) → Knows (pass_log pass) db s phase
        → Brings facts call db pass options word (whole (gc_asks db pass phase) moment s).store (λ answers r t. Ends facts call db pass options word phase s (((whole (gc_asks db pass phase) moment s).answer, moment) ∷ answers) r t)
        (gc_goes (pass_ways word) (bounded_pass pass options) moment phase (whole (gc_asks db pass phase) moment s).answer)
    step_brings named (Removing (Reading phase)) h =
        removal_brings facts call db pass options word (whole (read_asks db ManifestLog phase) moment s).store (read_on encoded pass moment (read_goes ManifestLog decoded_manifest phase (whole (read_asks db ManifestLog phase) moment s).answer))
        (subst (λ (t : Store). Removed facts call db pass options word t (read_on encoded pass moment (read_goes ManifestLog decoded_manifest phase (whole (read_asks db ManifestLog phase) moment s).answer))) (read_same phase) (read_step facts call db pass options word log s fine moment phase h))
      where
        read_same : (p : ReadPhase Manifest) → s ≡ (whole (read_asks db ManifestLog p) moment s).store
        read_same reading.Listing = refl
        read_same (reading.Getting n) = refl
        read_same (reading.Bounding n v) = refl
        read_same reading.Over = refl
    step_brings named (Removing (Committing since phase)) h =
        removal_brings facts call db pass options word (whole (commit_asks db ManifestLog phase) moment s).store (commit_on pass since (commit_goes phase (whole (commit_asks db ManifestLog phase) moment s).answer))
        (commit_step facts call db pass options word log s fine moment named since phase h)
    step_brings named (Collecting at (passing.ReadingRecord phase)) h = absurd h
    step_brings named (Collecting at (passing.ReadingManifest least phase)) h = absurd h
    step_brings named (Collecting at (passing.Fetching heads phase)) h = absurd h
    step_brings named (Collecting None (passing.Listing heads versions)) h = list_step pass log fine heads versions
    step_brings named (Collecting (Some now) (passing.Listing heads versions)) h = absurd h
    step_brings named (Collecting at (passing.Getting n count found)) h = get_brings pass log fine at (moment_of_pass at moment) n count found h
    step_brings named (Collecting at (passing.Bounding n count candidates)) h = bound_brings pass log fine at (moment_of_pass at moment) n count candidates h
    step_brings named (Collecting at (passing.Advancing advance left counts)) h =
        moved_brings facts call db pass options word log s fine moment at (moment_of_pass at moment) (whole (advance_asks db (pass_log pass) advance) moment s).store left counts h.1 (advance_listed (pass_log pass) db named moment s fine.tidy advance) _
        (move_step facts call db pass options word log s fine moment advance h.0)
    step_brings named (Collecting at (passing.Deleting left counts)) h = delete_step facts call db pass options word log s fine moment at (moment_of_pass at moment) left counts h
    step_brings named (Collecting at passing.Over) h = absurd h
