-- A path's text in pieces.
use Rattle.std.specs.Prelude.{ℕ, List, [], ◌++◌}
use Rattle.slate_ids.specs.PathText.{behind, twenty}
use Rattle.slate_ids.specs.UlidText.{ulid_text}
use Rattle.slate_ids.specs.declared.object_path.ObjectPath.{ObjectPath}
use Rattle.slate_ids.specs.declared.object_path.ObjectPath.TheVariants.{Manifest, Record, ManifestBoundary, RecordBoundary, Table, Wal, Marker, Other}
use Rattle.slate_ids.specs.declared.path_pieces.Name.{Name}
use Rattle.slate_ids.specs.declared.path_pieces.Name.TheVariants.{Number, Id, Nothing}
use Rattle.slate_ids.specs.declared.path_pieces.Pieces.{Pieces}

-- the digits of a path's number or id
abbrev pub name_of : ObjectPath → List ℕ
name_of (Manifest db n) = twenty n
name_of (Record db n) = twenty n
name_of (ManifestBoundary db) = []
name_of (RecordBoundary db) = []
name_of (Table db id) = ulid_text id
name_of (Wal db n) = twenty n
name_of (Marker db) = []
name_of (Other db rest) = []

-- the letters that a block keeps
abbrev pub name_letters : Name → List ℕ
name_letters (Number letters) = letters
name_letters (Id letters) = letters
name_letters Nothing = []

-- the whole text
abbrev pub joined : Pieces → List ℕ
joined p = behind p.db.now (p.front.now ++ (p.name.now ++ p.suffix.now))
