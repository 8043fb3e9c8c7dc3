-- The paths of objects that there are.
use Rattle.std.specs.Prelude.{◌≡◌, ◌<◌, ◌^◌, true, Some}
use Rattle.slate_ids.specs.Ids.{is_db_path}
use Rattle.slate_ids.specs.PathKind.{is_rest}
use Rattle.slate_ids.specs.UlidText.{ulid_text, ulid_of}
use Rattle.slate_ids.specs.declared.object_path.ObjectPath.{ObjectPath}
use Rattle.slate_ids.specs.declared.object_path.ObjectPath.TheVariants.{Manifest, Record, ManifestBoundary, RecordBoundary, Table, Wal, Marker, Other}

-- a path of an object: its database has a name, its number or id fits, and it is of a kind of its own where its text is
abbrev pub IsFine : ObjectPath → Type 0
IsFine (Manifest db n) = (is_db_path db ≡ true) × (n < 2 ^ 64)
IsFine (Record db n) = (is_db_path db ≡ true) × (n < 2 ^ 64)
IsFine (ManifestBoundary db) = is_db_path db ≡ true
IsFine (RecordBoundary db) = is_db_path db ≡ true
IsFine (Table db id) = (is_db_path db ≡ true) × (ulid_of (ulid_text id) ≡ Some id)
IsFine (Wal db n) = (is_db_path db ≡ true) × (n < 2 ^ 64)
IsFine (Marker db) = is_db_path db ≡ true
IsFine (Other db rest) = (is_db_path db ≡ true) × (is_rest rest ≡ true)
