-- What stands as a run begins, in the words of the databases.
use Rattle.std.specs.Prelude.{◌≡◌, ℕ, ◌+◌, ◌==◌, List, [], ◌∷◌, Option, Some, None, bytes_eq, if◌then◌else◌}
use Rattle.std.specs.Map.{lookup}
use Rattle.std.specs.BTreeMap.{is_at}
use Rattle.std.specs.declared.cmp.Ordering.TheVariants.{Less}
use Rattle.slate_ids.specs.PathText.{path_cmp}
use Rattle.slate_ids.specs.Ulids.{id_cmp as ulid_cmp}
use Rattle.slate_ids.specs.declared.object_path.ObjectPath.{ObjectPath}
use Rattle.slate_ids.specs.declared.object_path.ObjectPath.TheVariants as paths
use Rattle.slate_model_records.specs.Records.{Record}
use Rattle.slate_model_tables.specs.declared.ss_table_info.SsTableInfo.{SsTableInfo}
use Rattle.slate_store.specs.declared.object.StoredObject.{StoredObject}
use Rattle.slate_script_events.specs.declared.db_spec.DbSpec.{DbSpec}
use Rattle.slate_cluster_protocol.specs.Specs.{First, first_bytes, listed_or_none, record_bytes, table_bytes}

-- the database of a path
abbrev pub spec_of : List ℕ → List DbSpec → Option DbSpec
spec_of d [] = None
spec_of d (spec ∷ specs) = if bytes_eq d spec.path then Some spec else spec_of d specs

-- an object of a database with these bytes, which was written when the database says
abbrev pub written_with : DbSpec → Option (List ℕ) → First
written_with spec bytes = (listed_or_none bytes, spec.modified)

-- its first manifest
abbrev pub manifest_of : Option DbSpec → Option First
manifest_of None = None
manifest_of (Some spec) = Some (written_with spec (first_bytes spec.manifest))

-- its first record, where it has one
abbrev pub record_in : DbSpec → Option Record → Option First
record_in spec None = None
record_in spec (Some r) = Some (written_with spec (record_bytes r))

abbrev pub record_of : Option DbSpec → Option First
record_of None = None
record_of (Some spec) = record_in spec spec.compactions

-- a table that is present there
abbrev pub table_in : DbSpec → Option SsTableInfo → Option First
table_in spec None = None
table_in spec (Some info) = Some (written_with spec (table_bytes info))

abbrev pub table_of : ℕ × ℕ → Option DbSpec → Option First
table_of id None = None
table_of id (Some spec) = table_in spec (lookup (is_at (ulid_cmp id)) spec.tables)

-- what the databases bring at a path: the first manifest of one, its first record, or a table that is present there; nothing elsewhere
abbrev pub brought : List DbSpec → ObjectPath → Option First
brought specs (paths.Manifest db n) = if n == 1 then manifest_of (spec_of db specs) else None
brought specs (paths.Record db n) = if n == 1 then record_of (spec_of db specs) else None
brought specs (paths.Table db id) = table_of id (spec_of db specs)
brought specs _ = None

-- the bytes of an object, and the moment at which it was written
abbrev pub put_value : StoredObject → First
put_value object = (object.bytes, object.last_modified)

-- ---- tags

-- each of these is at a path above this one
abbrev pub IsAbove : {X : Type 0} → ObjectPath → List (ObjectPath × X) → Type 0
IsAbove p [] = Unit {0}
IsAbove p (e ∷ es) = (path_cmp p e.0 ≡ Less) × IsAbove p es

-- each is below those after it
abbrev pub IsOrdered : {X : Type 0} → List (ObjectPath × X) → Type 0
IsOrdered [] = Unit {0}
IsOrdered (e ∷ es) = IsAbove e.0 es × IsOrdered es

-- the objects have one tag after the other, the first of them the one after this number
abbrev pub AreTagged : ℕ → List (ObjectPath × StoredObject) → Type 0
AreTagged n [] = Unit {0}
AreTagged n (o ∷ os) = (o.1.e_tag ≡ n + 1) × AreTagged (n + 1) os

-- tags go by path: from 1 on, in the order of the paths
pub record GoByPath (objects : List (ObjectPath × StoredObject)) : Type 0 where
  pub ordered : IsOrdered objects
  pub tagged : AreTagged 0 objects
