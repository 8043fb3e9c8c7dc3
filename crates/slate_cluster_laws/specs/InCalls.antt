-- What holds of a party in a call at the end of a run.
use Rattle.std.specs.Prelude.{◌≡◌, ◌⊎◌, ℕ, ℤ, ◌<◌, ◌≤◌, List, [], ◌∷◌, ◌++◌, Some, None, Ok}
use Rattle.slate_ids.specs.declared.gc_message.GcMessage.{GcMessage}
use Rattle.slate_ids.specs.declared.object_path.ObjectPath.{ObjectPath}
use Rattle.slate_store.specs.Machines.{End}
use Rattle.slate_store.specs.Store.{effect}
use Rattle.slate_store.specs.declared.mark.Mark.{Mark}
use Rattle.slate_store.specs.declared.store_answer.StoreAnswer.TheVariants.{Created}
use Rattle.slate_txn_log.specs.CommitPhase.{commit_asks, commit_goes}
use Rattle.slate_txn_log.specs.LogPaths.{version_path}
use Rattle.slate_txn_log.specs.ReadPhase.{read_asks, read_goes}
use Rattle.slate_txn_log.specs.declared.commit_phase.CommitPhase.{CommitPhase}
use Rattle.slate_txn_log.specs.declared.commit_phase.CommitPhase.TheVariants.{Putting, Bounding}
use Rattle.slate_txn_log.specs.declared.log_kind.LogKind.{LogKind}
use Rattle.slate_txn_log.specs.declared.read_phase.ReadPhase.{ReadPhase}
use Rattle.slate_txn_log.specs.declared.log_kind.LogKind.TheVariants as logs
use Rattle.slate_gc_passes.specs.Rows.{log_of_pass}
use Rattle.slate_gc_passes.specs.declared.heads.Heads.{Heads}
use Rattle.slate_gc_passes.specs.declared.pass_phase.PassPhase.{PassPhase}
use Rattle.slate_gc_passes.specs.declared.pass_phase.PassPhase.TheVariants as passing
use Rattle.slate_model.specs.declared.manifest.Manifest.{Manifest}
use Rattle.slate_state_referenced.specs.declared.referenced_phase.ReferencedPhase.TheVariants as fetching
use Rattle.slate_script_events.specs.declared.db_spec.DbSpec.{DbSpec}
use Rattle.slate_script_events.specs.declared.event.Event.{Event}
use Rattle.slate_cluster_protocol.specs.Chains.{bound_in}
use Rattle.slate_cluster_protocol.specs.Holding.{IsIn, IsPutBy, IsVersion, IsMadeOf, Each, IsRefused, picks_in, due_in, IsOfLog, IsVersionThat, pass_log}
use Rattle.slate_cluster_protocol.specs.Lawful.{chains_at_end, gone_after, world_at_end}
use Rattle.slate_cluster_protocol.specs.Logs.{Held, Puts, log_of, phrase_of}
use Rattle.slate_cluster_protocol.specs.Logs.Phrase.{Reads, Commits, Fetches, Collects}
use Rattle.slate_cluster_protocol.specs.Reach.{IsSpare}
use Rattle.slate_cluster_protocol.specs.Referenced.{IsReferenced}
use Rattle.slate_cluster_protocol.specs.Rows.{moved}
use Rattle.slate_cluster_protocol.specs.Works.{asks}
use Rattle.slate_cluster_protocol.specs.World.{party_of}
use Rattle.slate_cluster_protocol.specs.declared.party.Party.{Party}
use Rattle.slate_cluster_protocol.specs.declared.party.State.TheVariants.{Busy}
use Rattle.slate_cluster_protocol.specs.declared.party.Task.{Task}

-- where this party is in this call, that holds
abbrev pub InCall : List DbSpec → List Event → ℕ → Party → Task → Type 0 → Type 0
InCall specs events n p task Holds = party_of n (world_at_end specs events).parties ≡ Some p → p.state ≡ Busy task → Holds

-- a version that is about to be committed is what the party makes of the committed version before, by what it puts
abbrev pub CommitsHold : List DbSpec → List Event → ℕ → Task → Type 0
CommitsHold specs events n task =
    (k : LogKind) (db : List ℕ) (puts : Puts) (now : ℤ) (number : ℕ) (bytes : List ℕ) (v : Held k) → phrase_of task.work ≡ Commits k db puts now (Putting number bytes v)
    → IsMadeOf k (chains_at_end specs events k db) (record { party = n; puts = puts; now = now }) number v

-- what a party has put, with the boundary to be read next, is the committed version of its number, by this party, where the boundary is below it
abbrev pub PutsStand : List DbSpec → List Event → ℕ → Task → Type 0
PutsStand specs events n task =
    (k : LogKind) (db : List ℕ) (puts : Puts) (now : ℤ) (number : ℕ) (v : Held k) (bound : ℕ) → phrase_of task.work ≡ Commits k db puts now (Bounding number v)
    → bound_in (log_of k) db (world_at_end specs events).store ≡ Some bound → bound < number
    → IsPutBy (log_of k) (chains_at_end specs events k db) (record { party = n; puts = puts; now = now }) number v

-- the step of a put that is answered created leads to the read of the boundary
abbrev pub CreatedGoOn : Party → Task → Type 0
CreatedGoOn p task =
    (k : LogKind) (db : List ℕ) (puts : Puts) (now : ℤ) (number : ℕ) (bytes : List ℕ) (v : Held k) (tag : ℕ) (moment : ℤ) → phrase_of task.work ≡ Commits k db puts now (Putting number bytes v)
    → IsIn (Commits k db puts now (Bounding number v)) (moved p.facts task.call task.work moment (Created (Some tag))).next

-- a version with which the step of a commit ends it is the committed one of its number, by this party, whatever the step was marked
abbrev pub CommitsEnd : List DbSpec → List Event → ℕ → Task → Type 0
CommitsEnd specs events n task =
    (k : LogKind) (db : List ℕ) (puts : Puts) (now : ℤ) (phase : CommitPhase (Held k)) (mark : Mark) (moment : ℤ)
    → (to : CommitPhase (Held k)) (number : ℕ) (v : Held k) → phrase_of task.work ≡ Commits k db puts now phase
    → commit_goes phase (effect mark (commit_asks db k phase) moment (world_at_end specs events).store).answer ≡ End to (Ok (number, v))
    → IsPutBy (log_of k) (chains_at_end specs events k db) (record { party = n; puts = puts; now = now }) number v

-- the step that reads the boundary to commit a number ends the call with a refusal, or what was put is the committed version of the number, by this party
abbrev pub OwnOrRefused : List DbSpec → List Event → ℕ → Party → Task → Type 0
OwnOrRefused specs events n p task =
    (k : LogKind) (db : List ℕ) (puts : Puts) (now : ℤ) (number : ℕ) (v : Held k) (mark : Mark) (moment : ℤ) → phrase_of task.work ≡ Commits k db puts now (Bounding number v)
    → IsRefused (moved p.facts task.call task.work moment (effect mark (asks task.work) moment (world_at_end specs events).store).answer).next
    ⊎ IsPutBy (log_of k) (chains_at_end specs events k db) (record { party = n; puts = puts; now = now }) number v

-- a version that the end of a read answers is a committed one, whatever the step was marked
abbrev pub ReadsAnswer : List DbSpec → List Event → Task → Type 0
ReadsAnswer specs events task =
    (k : LogKind) (db : List ℕ) (phase : ReadPhase (Held k)) (mark : Mark) (moment : ℤ) (to : ReadPhase (Held k)) (number : ℕ) (v : Held k) → phrase_of task.work ≡ Reads k db phase
    → read_goes k (log_of k).decoded phase (effect mark (read_asks db k phase) moment (world_at_end specs events).store).answer ≡ End to (Ok (Some (number, v)))
    → IsVersion (chains_at_end specs events k db) number v

-- what a pass over a log picked, and what is left of it, are versions of that log, below the greatest committed one, which names none of them
abbrev pub PicksSpare : List DbSpec → List Event → Task → Type 0
PicksSpare specs events task =
    (db : List ℕ) (pass : GcMessage) (phase : PassPhase) → IsOfLog pass → phrase_of task.work ≡ Collects db pass phase
    → Each (IsVersionThat (pass_log pass) db (IsSpare (log_of (pass_log pass)) (chains_at_end specs events (pass_log pass) db))) (picks_in phase)

-- what is left of the picks of a pass over a log is at or below the boundary of that log
abbrev pub DueBounded : List DbSpec → List Event → Task → Type 0
DueBounded specs events task =
    (db : List ℕ) (pass : GcMessage) (phase : PassPhase) (bound : ℕ) → IsOfLog pass → phrase_of task.work ≡ Collects db pass phase
    → bound_in (log_of (pass_log pass)) db (world_at_end specs events).store ≡ Some bound → Each (IsVersionThat (pass_log pass) db (λ number. number ≤ bound)) (due_in phase)

-- what a pass has read of the versions that the checkpoints of a manifest name, while some are left to be got
abbrev pub FetchedStand : List DbSpec → List Event → Task → Type 0
FetchedStand specs events task =
    (db : List ℕ) (n : ℕ) (left : List ℕ) (found : List (ℕ × Manifest)) → phrase_of task.work ≡ Fetches db n (fetching.Getting left found)
    → IsReferenced (chains_at_end specs events logs.Manifest db) n left found

-- and once all of them were got, when a pass over no log lists
abbrev pub AllStand : List DbSpec → List Event → Task → Type 0
AllStand specs events task =
    (db : List ℕ) (pass : GcMessage) (heads : Heads) (versions : List (ℕ × Manifest)) → log_of_pass pass ≡ None
    → phrase_of task.work ≡ Collects db pass (passing.Listing heads versions)
    → IsReferenced (chains_at_end specs events logs.Manifest db) heads.latest [] versions

-- where the object of a number was removed, the step that reads the boundary to commit this number ends the call with a refusal, whatever the mark
abbrev pub LatePutsAreRefused : List DbSpec → List Event → Party → Task → Type 0
LatePutsAreRefused specs events p task =
    (k : LogKind) (db : List ℕ) (puts : Puts) (now : ℤ) (number : ℕ) (v : Held k) (front back : List ObjectPath) (mark : Mark) (moment : ℤ)
    → phrase_of task.work ≡ Commits k db puts now (Bounding number v) → gone_after specs events ≡ front ++ version_path k db number ∷ back
    → IsRefused (moved p.facts task.call task.work moment (effect mark (asks task.work) moment (world_at_end specs events).store).answer).next
