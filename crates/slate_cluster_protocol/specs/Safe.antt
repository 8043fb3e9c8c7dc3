-- The safe trail: what a delete removed is not reachable from then on, and what is reachable stands.
use Rattle.std.specs.Prelude.{◌≡◌, ℕ, ◌≤◌, Bool, true, false, not, ◌&&◌, List, [], ◌∷◌, ◌++◌, Some}
use Rattle.slate_ids.specs.declared.object_path.ObjectPath.{ObjectPath}
use Rattle.slate_ids.specs.declared.object_path.ObjectPath.TheVariants.{Table}
use Rattle.slate_store.specs.Store.{Store, object_at, stands_at, effect}
use Rattle.slate_store.specs.declared.store_call.StoreCall.{StoreCall}
use Rattle.slate_store.specs.declared.store_call.StoreCall.TheVariants.{Delete}
use Rattle.slate_script_events.specs.declared.entry.Entry.{Entry}
use Rattle.slate_script_events.specs.declared.entry.Entry.TheVariants.{Called}
use Rattle.slate_txn_log.specs.LogPaths.{version_path}
use Rattle.slate_txn_log.specs.declared.log_kind.LogKind.{LogKind}
use Rattle.slate_cluster_protocol.specs.ByRows.{entry_store}
use Rattle.slate_cluster_protocol.specs.Chains.{Link, link_at, bytes_of, bound_in}
use Rattle.slate_cluster_protocol.specs.Logs.{Author, Chains, Held, log_of}
use Rattle.slate_cluster_protocol.specs.Reach.{IsNeeded, IsSpare, Reachable}
use Rattle.slate_cluster_protocol.specs.Spares.{IsSpareTable}
use Rattle.slate_cluster_protocol.specs.World.{World, HasDb}

-- ---- what was removed

-- whether a call took away the object of a path: one stood there before, and none stands there after
abbrev pub took_away : ObjectPath → Store → Store → Bool
took_away path before after = stands_at path before && not (stands_at path after)

-- the path, where it is so
abbrev pub path_if : Bool → ObjectPath → List ObjectPath
path_if true path = path ∷ []
path_if false path = []

-- what a delete took away between two stores
abbrev pub removed_by_call : StoreCall → Store → Store → List ObjectPath
removed_by_call (Delete path) before after = path_if (took_away path before after) path
removed_by_call _ before after = []

-- what an entry removed of a store
abbrev pub removed_by : Entry → Store → List ObjectPath
removed_by (Called n call moment mark answer reply) s = removed_by_call call s (effect mark call moment s).store
removed_by _ s = []

-- what the entries of a trail removed, which begins at a store
abbrev pub gone : List Entry → Store → List ObjectPath
gone [] s = []
gone (x ∷ xs) s = removed_by x s ++ gone xs (entry_store x s)

-- ---- safe

-- each of these paths has it
abbrev pub EachPath : (ObjectPath → Type 0) → List ObjectPath → Type 0
EachPath P [] = Unit {0}
EachPath P (path ∷ paths) = P path × EachPath P paths

-- none of these paths is reachable
abbrev pub NoneReachable : World → Chains → List ObjectPath → Type 0
NoneReachable w chains paths = EachPath (λ path. Reachable w chains path → ⊥) paths

-- a path is the version of a log at a number that is spare, and at or below the boundary of its log
pub record IsCollectedVersion (w : World) (chains : Chains) (path : ObjectPath) : Type 0 where
  pub log : LogKind
  pub db : List ℕ
  pub number : ℕ
  pub is : path ≡ version_path log db number
  pub has : HasDb w db
  pub spare : IsSpare (log_of log) (chains log db) number
  pub bounded : (bound : ℕ) → bound_in (log_of log) db w.store ≡ Some bound → number ≤ bound

-- a path is that of a spare table
pub record IsCollectedTable (w : World) (chains : Chains) (path : ObjectPath) : Type 0 where
  pub db : List ℕ
  pub id : ℕ × ℕ
  pub is : path ≡ Table db id
  pub has : HasDb w db
  pub spare : IsSpareTable chains db id

-- what a pass may have removed: a version of a log, or a table
pub data IsCollected (w : World) (chains : Chains) (path : ObjectPath) : Type 0 where
  OfLog : IsCollectedVersion w chains path → IsCollected w chains path
  OfTables : IsCollectedTable w chains path → IsCollected w chains path

-- each of these paths
abbrev pub AllCollected : World → Chains → List ObjectPath → Type 0
AllCollected w chains paths = EachPath (IsCollected w chains) paths

-- a version that is needed was committed, and is there with the bytes that were committed
pub record IsPresent (w : World) (chains : Chains) (k : LogKind) (db : List ℕ) (n : ℕ) : Type 0 where
  pub link : Link (Held k) Author
  pub committed : link_at n (chains k db) ≡ Some link
  pub stands : bytes_of (object_at (version_path k db n) w.store) ≡ Some link.bytes

-- what holds at a moment, of what was removed up to then
pub record IsSafe (w : World) (chains : Chains) (removed : List ObjectPath) : Type 0 where
  -- nothing that was removed is reachable
  pub unreachable : NoneReachable w chains removed
  -- each version that is reachable stands with its committed bytes
  pub stands : (k : LogKind) (db : List ℕ) (n : ℕ) → HasDb w db → IsNeeded (log_of k) (chains k db) n → IsPresent w chains k db n
  -- each version that was removed is spare, and at or below the boundary of its log; each table that was is spare
  pub collected : AllCollected w chains removed
