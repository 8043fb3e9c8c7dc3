-- A log of which the latest version can be read and followed.
use Rattle.std.specs.Prelude.{◌≡◌, ◌<◌, ◌≤◌, ℕ, true, List, [], ◌∷◌, Option, Some, None, IfSome}
use Rattle.slate_ids.specs.FinePath.{IsFine}
use Rattle.slate_ids.specs.declared.object_path.ObjectPath.{ObjectPath}
use Rattle.slate_store.specs.StoreCalls.{Told}
use Rattle.slate_store.specs.Store.{Store, object_at, stands_at, listed}
use Rattle.slate_store.specs.declared.object.StoredObject.{StoredObject}
use Rattle.slate_txn_log.specs.Advance.{boundary_at}
use Rattle.slate_txn_log.specs.Boundary.{greatest}
use Rattle.slate_txn_log.specs.LogPaths.{folder, version_path}
use Rattle.slate_txn_log.specs.declared.log_kind.LogKind.{LogKind}

-- the greatest number of a version of a log
abbrev pub top_of : List ℕ → LogKind → Store → Option ℕ
top_of db log s = greatest log (listed (folder log db) s)

-- a boundary below the greatest number; where there is no version it is 0
abbrev pub IsBelow : ℕ → Option ℕ → Type 0
IsBelow boundary None = boundary ≡ 0
IsBelow boundary (Some n) = boundary < n

-- each object stands at a path that there is
abbrev pub AreFine : List (ObjectPath × StoredObject) → Type 0
AreFine [] = Unit {0}
AreFine (o ∷ os) = IsFine o.0 × AreFine os

-- objects stand at paths that there are, and a boundary that can be read is below the greatest number
pub record IsReady (db : List ℕ) (log : LogKind) (s : Store) : Type 0 where
  pub fine : AreFine s.objects
  pub below : IfSome (boundary_at db log s) (λ boundary. IsBelow boundary (top_of db log s))

-- a store without objects, whose last tag is this
abbrev pub nothing : ℕ → Store
nothing tag = record { objects = []; last_tag = tag }

-- a call leaves contents in which the log is ready
pub record LeavesReady (db : List ℕ) (log : LogKind) (new : Told) : Type 0 where
  pub left : Store
  pub contents : new.contents ≡ Some left
  pub ready : IsReady db log left

-- every number above the boundary up to the greatest has a version
abbrev pub IsGapless : List ℕ → LogKind → Store → Type 0
IsGapless db log s = IfSome (boundary_at db log s) (λ boundary. IfSome (top_of db log s) (λ n. (k : ℕ) → boundary < k → k ≤ n → stands_at (version_path log db k) s ≡ true))

abbrev pub bytes_of : Option StoredObject → Option (List ℕ)
bytes_of (Some object) = Some object.bytes
bytes_of None = None

-- the bytes of a version
abbrev pub version_at : List ℕ → LogKind → ℕ → Store → Option (List ℕ)
version_at db log n s = bytes_of (object_at (version_path log db n) s)

-- the latest version: its number and its bytes
pub record IsLatest (db : List ℕ) (log : LogKind) (s : Store) (n : ℕ) (bytes : List ℕ) : Type 0 where
  pub top : top_of db log s ≡ Some n
  pub stands : version_at db log n s ≡ Some bytes
