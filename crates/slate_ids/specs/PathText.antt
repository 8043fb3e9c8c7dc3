-- The texts of paths, and their order.
use Rattle.std.specs.Prelude.{ℕ, List, ◌∷◌, ◌++◌, codes}
use Rattle.std.specs.declared.cmp.Ordering.{Ordering}
use Rattle.std.specs.Ordering.{nat_cmp, on}
use Rattle.std.specs.Cmp.Lexicographic.{slice_cmp}
pub use Rattle.slate_ids.specs.Twenty.{twenty}
use Rattle.slate_ids.specs.UlidText.{ulid_text}
use Rattle.slate_ids.specs.declared.folder.Folder.{Folder}
use Rattle.slate_ids.specs.declared.folder.Folder.TheVariants.{Manifests, Records, Tables, Wals}
use Rattle.slate_ids.specs.declared.path_kind.PathKind.{PathKind}
use Rattle.slate_ids.specs.declared.path_kind.PathKind.TheVariants as kind
use Rattle.slate_ids.specs.declared.object_path.ObjectPath.{ObjectPath}
use Rattle.slate_ids.specs.declared.object_path.ObjectPath.TheVariants.{Manifest, Record, ManifestBoundary, RecordBoundary, Table, Wal, Marker, Other}

-- what stands before the names in a folder
abbrev pub front_of : Folder → List ℕ
front_of Manifests = codes "manifest/"
front_of Records = codes "compactions/"
front_of Tables = codes "compacted/"
front_of Wals = codes "wal/"

-- the first text past all that begin so: `0` comes next after `/`
abbrev pub past_of : Folder → List ℕ
past_of Manifests = codes "manifest0"
past_of Records = codes "compactions0"
past_of Tables = codes "compacted0"
past_of Wals = codes "wal0"

-- what ends the names in a folder
abbrev pub suffix_of : Folder → List ℕ
suffix_of Manifests = codes ".manifest"
suffix_of Records = codes ".compactions"
suffix_of Tables = codes ".sst"
suffix_of Wals = codes ".sst"

-- a name in its folder
abbrev pub in_folder : Folder → List ℕ → List ℕ
in_folder folder name = front_of folder ++ (name ++ suffix_of folder)

-- what stands after a database and `/` in the paths of the kinds with a name
abbrev pub kind_text : PathKind → List ℕ
kind_text (kind.Manifest n) = in_folder Manifests (twenty n)
kind_text (kind.Record n) = in_folder Records (twenty n)
kind_text (kind.Table id) = in_folder Tables (ulid_text id)
kind_text (kind.Wal n) = in_folder Wals (twenty n)
kind_text kind.ManifestBoundary = codes "gc/manifest.boundary"
kind_text kind.RecordBoundary = codes "gc/compactions.boundary"
kind_text kind.Marker = codes ".deleting"

-- a text after a database and `/`
abbrev pub behind : List ℕ → List ℕ → List ℕ
behind db rest = db ++ 47 ∷ rest

-- the text of a path
abbrev pub path_text : ObjectPath → List ℕ
path_text (Manifest db n) = behind db (kind_text (kind.Manifest n))
path_text (Record db n) = behind db (kind_text (kind.Record n))
path_text (ManifestBoundary db) = behind db (kind_text kind.ManifestBoundary)
path_text (RecordBoundary db) = behind db (kind_text kind.RecordBoundary)
path_text (Table db id) = behind db (kind_text (kind.Table id))
path_text (Wal db n) = behind db (kind_text (kind.Wal n))
path_text (Marker db) = behind db (kind_text kind.Marker)
path_text (Other db rest) = behind db rest

-- the database of a path
abbrev pub db_of : ObjectPath → List ℕ
db_of (Manifest db n) = db
db_of (Record db n) = db
db_of (ManifestBoundary db) = db
db_of (RecordBoundary db) = db
db_of (Table db id) = db
db_of (Wal db n) = db
db_of (Marker db) = db
db_of (Other db rest) = db

-- paths are ordered as their texts, byte by byte
abbrev pub path_cmp : ObjectPath → ObjectPath → Ordering
path_cmp = on path_text (slice_cmp nat_cmp)
