-- Calls that leave a log's objects alone.
use Rattle.std.specs.Prelude.{◌≢◌, ℕ, List, [], ◌∷◌}
use Rattle.slate_ids.specs.FinePath.{IsFine}
use Rattle.slate_ids.specs.declared.object_path.ObjectPath.{ObjectPath}
use Rattle.slate_store.specs.declared.made.Made.{Made}
use Rattle.slate_store.specs.declared.store_call.StoreCall.{StoreCall}
use Rattle.slate_store.specs.declared.store_call.StoreCall.TheVariants.{List as ListCall, Get, PutNew, Replace, Put, Delete}
use Rattle.slate_txn_log.specs.LogPaths.{version_path, boundary_path}
use Rattle.slate_txn_log.specs.declared.log_kind.LogKind.{LogKind}
use Rattle.slate_store.specs.StoreCalls.{Told}
use Rattle.slate_txn_laws.specs.Ready.{LeavesReady}

-- a path that there is, and that is neither of a version of the log nor of its boundary
pub record IsAside (db : List ℕ) (log : LogKind) (path : ObjectPath) : Type 0 where
  pub fine : IsFine path
  pub version : (n : ℕ) → path ≢ version_path log db n
  pub boundary : path ≢ boundary_path log db

-- a call that only reads, or writes or deletes at such a path
abbrev pub IsElsewhere : List ℕ → LogKind → StoreCall → Type 0
IsElsewhere db log (ListCall dir) = Unit {0}
IsElsewhere db log (Get path) = Unit {0}
IsElsewhere db log (PutNew path bytes) = IsAside db log path
IsElsewhere db log (Replace path tag bytes) = IsAside db log path
IsElsewhere db log (Put path bytes) = IsAside db log path
IsElsewhere db log (Delete path) = IsAside db log path

-- each of these calls is such a one
abbrev pub AllElsewhere : List ℕ → LogKind → List Made → Type 0
AllElsewhere db log [] = Unit {0}
AllElsewhere db log (m ∷ ms) = IsElsewhere db log m.call × AllElsewhere db log ms

-- where the log was ready before, it is so after
abbrev pub StaysReady : List ℕ → LogKind → Told → Told → Type 0
StaysReady db log old new = LeavesReady db log old → LeavesReady db log new
