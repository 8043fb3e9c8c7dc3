-- What holds of every run of databases and events, at each moment of it.
use Rattle.std.specs.Prelude.{◌≡◌, ℕ, ◌≤◌, ◌<◌, ◌^◌, true, List, ◌++◌, length, min, Some, None, Ok}
use Rattle.std.specs.List.{list_all}
use Rattle.slate_ids.specs.Limits.{last_number}
use Rattle.slate_ids.specs.declared.object_path.ObjectPath.{ObjectPath}
use Rattle.slate_txn_log.specs.declared.log_kind.LogKind.{LogKind}
use Rattle.slate_txn_log.specs.declared.log_kind.LogKind.TheVariants as logs
use Rattle.slate_state_updates.specs.RuleLaws.{NothingFalls}
use Rattle.slate_script_events.specs.declared.db_spec.DbSpec.{DbSpec}
use Rattle.slate_script_events.specs.declared.event.Event.{Event}
use Rattle.slate_cluster_protocol.specs.Alone.{PassesAlone}
use Rattle.slate_cluster_protocol.specs.ByRows.{nobody, trail_by}
use Rattle.slate_cluster_protocol.specs.Chains.{Link, link_at, top, IsChain, bound_in, AgreesAt}
use Rattle.slate_cluster_protocol.specs.Fenced.{IsFenced, IsRecordFenced}
use Rattle.slate_cluster_protocol.specs.Known.{IsAsTold}
use Rattle.slate_cluster_protocol.specs.Logs.{Author, Chain, Chains, Held, log_of, chains_of, opening_chains, world_after}
use Rattle.slate_cluster_protocol.specs.Passes.{ExactPasses}
use Rattle.slate_cluster_protocol.specs.Rising.{NeverFalls, RecordRises, NameKnown}
use Rattle.slate_cluster_protocol.specs.Runs.{Course, opening, run}
use Rattle.slate_cluster_protocol.specs.Safe.{gone, IsSafe}
use Rattle.slate_cluster_protocol.specs.Specs.{is_named_spec, cause_of_specs, opening_world}
use Rattle.slate_cluster_protocol.specs.Trails.{numbers_of, store_of, told}
use Rattle.slate_cluster_protocol.specs.World.{World, number_in, party_of, tally_of, HasDb}

-- accepted databases: no cause refuses them, each has a name, and the ids of their tables are ids
pub record IsAccepted (specs : List DbSpec) : Type 0 where
  pub accepted : cause_of_specs specs ≡ None
  pub named : list_all is_named_spec specs ≡ true

-- where events lead that begin on these databases, up to the first bad one
abbrev pub course_after : List DbSpec → List Event → Course
course_after specs events = (run events 0 (opening specs)).course

-- the state after events on these databases, up to the first bad one
abbrev pub world_at_end : List DbSpec → List Event → World
world_at_end specs events = world_after events (opening_world specs)

-- the chains after them
abbrev pub chains_at_end : List DbSpec → List Event → Chains
chains_at_end specs events = chains_of events (opening_world specs) (opening_chains specs)

-- none of the events is bad
abbrev pub AreGood : List DbSpec → List Event → Type 0
AreGood specs events = (run events 0 (opening specs)).bad ≡ None

-- what was removed after events
abbrev pub gone_after : List DbSpec → List Event → List ObjectPath
gone_after specs events = gone (course_after specs events).trail (opening_world specs).store

-- what holds of a log of a database at a moment: the chain, the store and the report's number are one
pub record IsLawfulLog (w : World) (k : LogKind) (db : List ℕ) (c : Chain k) : Type 0 where
  -- the committed numbers go from 1 up without a gap; each value is what its author makes of the one before, and the rules and the fence let it
  pub chain : IsChain (log_of k) c
  -- each value is that of its bytes
  pub values : (n : ℕ) (l : Link (Held k) Author) → link_at n c ≡ Some l → (log_of k).decoded l.bytes ≡ Ok l.value
  -- the greatest of them is the one that the report tells
  pub greatest : (t : _) → tally_of db w.tallies ≡ Some t → number_in k t ≡ top c
  -- the boundary can be read, and is below the greatest where there is one
  pub bound : ℕ
  pub read : bound_in (log_of k) db w.store ≡ Some bound
  pub below : 0 < top c → bound < top c
  -- at each number above it the store has the committed bytes, and nothing where none is committed
  pub stands : (n : ℕ) → bound < n → n < 2 ^ 64 → AgreesAt (log_of k) db w.store c n

-- what holds after events
pub record LawfulAt (specs : List DbSpec) (events : List Event) : Type 0 where
  -- each event has one entry
  pub entries : length (course_after specs events).trail ≡ length events
  -- each step of a party made the one store call that its row names, and each reply is the row's
  pub rows : (course_after specs events).trail ≡ trail_by events nobody (opening_world specs).store
  -- what is known of each party is what its events and their entries tell
  pub known : (n : ℕ) → IsAsTold n events (course_after specs events).trail (party_of n (course_after specs events).world.parties)
  -- each pass, over a log or over tables, has deleted a front of what its rule picks of what it read, and all of it where it ended without a refusal
  pub passes : ExactPasses events nobody (opening_world specs).store
  -- the store is what the calls of the trail left
  pub store : (course_after specs events).world.store ≡ store_of (course_after specs events).trail (opening_world specs).store
  -- what is committed is what the trail alone tells: the first put of each number
  pub told : (k : LogKind) (db : List ℕ) → told (course_after specs events).trail (opening_world specs).store (numbers_of (opening_chains specs)) k db ≡ numbers_of (chains_at_end specs events) k db
  -- the count of deletes is that of the removals in the trail
  pub deleted : (course_after specs events).world.deleted ≡ min (length (gone_after specs events)) last_number
  -- nothing that was removed is reachable, and all that is reachable stands
  pub safe : IsSafe (course_after specs events).world (chains_at_end specs events) (gone_after specs events)
  -- each log is one chain, which the store bears out
  pub each_log : (k : LogKind) (db : List ℕ) → HasDb (course_after specs events).world db → IsLawfulLog (course_after specs events).world k db (chains_at_end specs events k db)
  -- no chain of manifests is empty
  pub begun : (db : List ℕ) → HasDb (course_after specs events).world db → 0 < top (chains_at_end specs events logs.Manifest db)
  -- no writer and no compactor committed below the epoch of its kind in an earlier version
  pub fenced : (db : List ℕ) → HasDb (course_after specs events).world db → IsFenced (chains_at_end specs events logs.Manifest db)
  pub records_fenced : (db : List ℕ) → HasDb (course_after specs events).world db → IsRecordFenced (chains_at_end specs events logs.Compactions db)
  -- along each chain of manifests no epoch, no floor and no last file without replay falls
  pub rising : (db : List ℕ) → HasDb (course_after specs events).world db → NeverFalls NothingFalls (chains_at_end specs events logs.Manifest db)
  -- along each chain of records the epoch and the least id don't fall, and a record with compactions never becomes empty
  pub records_rising : (db : List ℕ) → HasDb (course_after specs events).world db → NeverFalls RecordRises (chains_at_end specs events logs.Compactions db)
  -- and each number that a manifest names is its own, or is named by the one before, all the way down
  pub names : (db : List ℕ) → HasDb (course_after specs events).world db → NameKnown (chains_at_end specs events logs.Manifest db)

-- what holds of a run of events, at each moment up to the first bad one
pub record Lawful (specs : List DbSpec) (events : List Event) : Type 0 where
  pub always : (front back : List Event) → events ≡ front ++ back → AreGood specs front → LawfulAt specs front
  -- no boundary falls between two moments
  pub rises : (front middle back : List Event) → events ≡ (front ++ middle) ++ back → AreGood specs (front ++ middle) → (k : LogKind) (db : List ℕ) → HasDb (course_after specs front).world db
      → (before now : ℕ) → bound_in (log_of k) db (course_after specs front).world.store ≡ Some before
      → bound_in (log_of k) db (course_after specs (front ++ middle)).world.store ≡ Some now → before ≤ now
  -- between two moments: a pass that nobody disturbs leaves what its list found, less what it picks
  pub alone : (front middle back : List Event) → events ≡ (front ++ middle) ++ back → AreGood specs (front ++ middle)
      → PassesAlone specs front (course_after specs front) (course_after specs (front ++ middle))
