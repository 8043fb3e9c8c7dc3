-- Objects of tables that nobody needs, nor will.
use Rattle.std.specs.Prelude.{◌≡◌, ℕ, List}
use Rattle.slate_ids.specs.declared.object_path.ObjectPath.TheVariants.{Table}
use Rattle.slate_store.specs.declared.object.ObjectMetadata.{ObjectMetadata}
use Rattle.slate_cluster_protocol.specs.Logs.{Chains}
use Rattle.slate_cluster_protocol.specs.Spares.{IsSpareTable}

-- an object is that of a spare table of a database
pub record IsSpareObject (chains : Chains) (db : List ℕ) (m : ObjectMetadata) : Type 0 where
  pub id : ℕ × ℕ
  pub is : m.location ≡ Table db id
  pub spare : IsSpareTable chains db id
