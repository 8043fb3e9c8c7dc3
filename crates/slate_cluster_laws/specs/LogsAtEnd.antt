-- The chain and the boundary of a log at the end of a run.
use Rattle.std.specs.Prelude.{◌≡◌, ℕ, ℤ, ◌+◌, ◌<◌, ◌≤◌, true, List, ◌∷◌, Option, Some}
use Rattle.slate_store.specs.Store.{Store, effect, listed}
use Rattle.slate_store.specs.declared.mark.Mark.{Mark}
use Rattle.slate_txn_log.specs.Boundary.{greatest}
use Rattle.slate_txn_log.specs.LogPaths.{folder}
use Rattle.slate_txn_log.specs.declared.commit_phase.CommitPhase.TheVariants.{Putting}
use Rattle.slate_txn_log.specs.declared.log_kind.LogKind.{LogKind}
use Rattle.slate_script_events.specs.declared.db_spec.DbSpec.{DbSpec}
use Rattle.slate_script_events.specs.declared.event.Event.{Event}
use Rattle.slate_script_events.specs.declared.event.Event.TheVariants.{Step}
use Rattle.slate_cluster_protocol.specs.ByRows.{party_in}
use Rattle.slate_cluster_protocol.specs.Chains.{Link, Log, bound_in, top, AgreesAt, Changed}
use Rattle.slate_cluster_protocol.specs.Lawful.{chains_at_end, world_at_end}
use Rattle.slate_cluster_protocol.specs.Logs.{Held, Puts, chains_after, log_of, phrase_of}
use Rattle.slate_cluster_protocol.specs.Logs.Phrase.{Commits}
use Rattle.slate_cluster_protocol.specs.Works.{asks}
use Rattle.slate_cluster_protocol.specs.World.{wrote}
use Rattle.slate_cluster_protocol.specs.declared.party.Task.{Task}

-- the greatest number that a list of a log gives
abbrev pub greatest_listed : List DbSpec → List Event → LogKind → List ℕ → Option ℕ
greatest_listed specs events k db = greatest k (listed (folder k db) (world_at_end specs events).store)

-- the boundary of a log, where it can be read
abbrev pub bound_at_end : List DbSpec → List Event → LogKind → List ℕ → Option ℕ
bound_at_end specs events k db = bound_in (log_of k) db (world_at_end specs events).store

-- the store has at a number what was committed there
abbrev pub AgreesAtEnd : List DbSpec → List Event → LogKind → List ℕ → ℕ → Type 0
AgreesAtEnd specs events k db number = AgreesAt (log_of k) db (world_at_end specs events).store (chains_at_end specs events k db) number

-- what a put that wrote does to the chain of its log, whatever its mark: its number is above the boundary and the next one, and the chain has it on
-- top; or its number is at or below the boundary, and the chain stays
pub data HasWritten {V A : Type 0} (log : Log V A) (db : List ℕ) (s : Store) (l : Link V A) (c c' : List (Link V A)) : Type 0 where
  Joins : (bound : ℕ) → bound_in log db s ≡ Some bound → bound < l.number → l.number ≡ top c + 1 → c' ≡ l ∷ c → HasWritten log db s l c c'
  ComesLate : (bound : ℕ) → bound_in log db s ≡ Some bound → l.number ≤ bound → c' ≡ c → HasWritten log db s l c c'

-- what a party puts that is about to commit a version, where the step that makes the put writes
abbrev pub WrittenPuts : List DbSpec → List Event → ℕ → Task → Type 0
WrittenPuts specs events n task =
    (k : LogKind) (db : List ℕ) (puts : Puts) (now : ℤ) (number : ℕ) (bytes : List ℕ) (v : Held k) (mark : Mark) (moment : ℤ) → phrase_of task.work ≡ Commits k db puts now (Putting number bytes v)
    → wrote (world_at_end specs events).store (effect mark (asks task.work) moment (world_at_end specs events).store).store ≡ true
    → HasWritten (log_of k) db (world_at_end specs events).store (record { number = number; bytes = bytes; value = (log_of k).normal v; by = Some (record { party = n; puts = puts; now = now }) }) (chains_at_end specs events k db)
    (chains_after (world_at_end specs events) (Step n moment mark) (chains_at_end specs events) k db)

-- one event more leaves the chain of a log, or puts one version on top, by its party
abbrev pub ChangedBy : List DbSpec → List Event → Event → LogKind → List ℕ → Type 0
ChangedBy specs events event k db =
    Changed (λ author. author.party ≡ party_in event) (chains_at_end specs events k db) (chains_after (world_at_end specs events) event (chains_at_end specs events) k db)
