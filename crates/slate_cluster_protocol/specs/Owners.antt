-- Whose a path is: each object belongs to one owner of one database.
use Rattle.std.specs.Prelude.{◌≡◌, ℕ, ◌<◌, ◌^◌, Bool, true, false, List}
use Rattle.slate_ids.specs.declared.object_path.ObjectPath.{ObjectPath}
use Rattle.slate_ids.specs.declared.object_path.ObjectPath.TheVariants as paths
use Rattle.slate_store.specs.Store.{Store, object_at}
use Rattle.slate_txn_log.specs.LogPaths.{version_path, boundary_path}
use Rattle.slate_txn_log.specs.declared.log_kind.LogKind.{LogKind}
use Rattle.slate_txn_log.specs.declared.log_kind.LogKind.TheVariants as logs

pub data Owner : Type 0 where
  -- a number of a log of a database
  Version : LogKind → List ℕ → ℕ → Owner
  -- the boundary of a log
  Boundary : LogKind → List ℕ → Owner
  -- a table
  Table : List ℕ → ℕ × ℕ → Owner
  -- a file of the write-ahead log
  File : List ℕ → ℕ → Owner
  -- nobody who is spoken of
  Nobody : List ℕ → Owner

-- the owner of a path
abbrev pub owner_of : ObjectPath → Owner
owner_of (paths.Manifest db n) = Version logs.Manifest db n
owner_of (paths.Record db n) = Version logs.Compactions db n
owner_of (paths.ManifestBoundary db) = Boundary logs.Manifest db
owner_of (paths.RecordBoundary db) = Boundary logs.Compactions db
owner_of (paths.Table db id) = Table db id
owner_of (paths.Wal db n) = File db n
owner_of (paths.Marker db) = Nobody db
owner_of (paths.Other db rest) = Nobody db

-- whether an owner is a log: one of its numbers, or its boundary
abbrev pub is_log : Owner → Bool
is_log (Version k db n) = true
is_log (Boundary k db) = true
is_log _ = false

-- the objects of a log of a database are as they were: each version, and the boundary
pub record LogStays (k : LogKind) (db : List ℕ) (old new : Store) : Type 0 where
  pub versions : (n : ℕ) → n < 2 ^ 64 → object_at (version_path k db n) new ≡ object_at (version_path k db n) old
  pub boundary : object_at (boundary_path k db) new ≡ object_at (boundary_path k db) old
