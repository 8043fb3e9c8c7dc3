-- Which paths a folder lists.
use Rattle.std.specs.Prelude.{ℕ, List, Bool, false, bytes_eq}
use Rattle.std.specs.declared.ops.Bound.{Bound}
use Rattle.std.specs.declared.ops.Bound.TheVariants.{Included, Excluded, Unbounded}
use Rattle.slate_ids.specs.PathText.{db_of, front_of, past_of}
use Rattle.slate_ids.specs.declared.folder.Folder.{Folder}
use Rattle.slate_ids.specs.declared.folder.Folder.TheVariants as folders
use Rattle.slate_ids.specs.declared.object_path.ObjectPath.{ObjectPath}
use Rattle.slate_ids.specs.declared.object_path.ObjectPath.TheVariants.{Manifest, Record, Table, Wal, Other}
use Rattle.slate_store.specs.declared.list_dir.ListDir.{ListDir}
use Rattle.slate_store.specs.declared.list_dir.ListDir.TheVariants.{Manifests, Records, Tables, Wals, All}

-- whether a folder lists a path
abbrev pub is_in : ListDir → ObjectPath → Bool
is_in (Manifests db) (Manifest of n) = bytes_eq db of
is_in (Records db) (Record of n) = bytes_eq db of
is_in (Tables db) (Table of id) = bytes_eq db of
is_in (Wals db) (Wal of n) = bytes_eq db of
is_in (All db) path = bytes_eq db (db_of path)
is_in _ _ = false

-- between which paths, in the order of texts, those of a folder stand
abbrev pub from_to : List ℕ → Folder → Bound ObjectPath × Bound ObjectPath
from_to db folder = (Included (Other db (front_of folder)), Excluded (Other db (past_of folder)))

-- between which paths those of a list stand
abbrev pub bounds_of : ListDir → Bound ObjectPath × Bound ObjectPath
bounds_of (Manifests db) = from_to db folders.Manifests
bounds_of (Records db) = from_to db folders.Records
bounds_of (Tables db) = from_to db folders.Tables
bounds_of (Wals db) = from_to db folders.Wals
bounds_of (All db) = (Unbounded, Unbounded)
