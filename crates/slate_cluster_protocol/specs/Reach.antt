-- What may not be deleted: the versions that a log needs, the tables that a needed manifest has, and the paths in reach of a database.
use Rattle.std.specs.Prelude.{◌≡◌, ℕ, ◌<◌, Bool, true, false, List, [], ◌∷◌, Some}
use Rattle.slate_ids.specs.declared.object_path.ObjectPath.{ObjectPath}
use Rattle.slate_ids.specs.declared.object_path.ObjectPath.TheVariants as paths
use Rattle.slate_model.specs.Externals.{owned}
use Rattle.slate_model.specs.declared.manifest.Manifest.{Manifest}
use Rattle.slate_model_tables.specs.declared.ss_table_id.SsTableId.TheVariants.{Compacted}
use Rattle.slate_state_updates.specs.TableSets.{is_among}
use Rattle.slate_txn_log.specs.LogPaths.{version_path}
use Rattle.slate_txn_log.specs.declared.log_kind.LogKind.{LogKind}
use Rattle.slate_txn_log.specs.declared.log_kind.LogKind.TheVariants as logs
use Rattle.slate_cluster_protocol.specs.Chains.{Link, Log, link_at, top}
use Rattle.slate_cluster_protocol.specs.Logs.{Author, Chain, Chains, log_of, manifests}
use Rattle.slate_cluster_protocol.specs.World.{World, HasDb}

-- whether the greatest version of a chain names a number
abbrev pub names_top : {V A : Type 0} → Log V A → List (Link V A) → ℕ → Bool
names_top log [] n = false
names_top log (l ∷ c) n = log.names l.value n

-- a version that is needed: the greatest, or one that the greatest names
pub data IsNeeded {V A : Type 0} (log : Log V A) (c : List (Link V A)) (n : ℕ) : Type 0 where
  Greatest : 0 < n → n ≡ top c → IsNeeded log c n
  Named : names_top log c n ≡ true → IsNeeded log c n

-- a version that nobody needs, nor will: it is below the greatest, which doesn't name it
pub record IsSpare {V A : Type 0} (log : Log V A) (c : List (Link V A)) (n : ℕ) : Type 0 where
  pub below : n < top c
  pub unnamed : names_top log c n ≡ false

-- a table of a manifest's trees that no entry of another database lists
abbrev pub HasOwn : Manifest → ℕ × ℕ → Type 0
HasOwn m id = is_among (owned m) (Compacted id) ≡ true

-- a needed version of a chain of manifests has a table of its own
pub record NeedsTable (c : Chain logs.Manifest) (id : ℕ × ℕ) : Type 0 where
  pub number : ℕ
  pub link : Link Manifest Author
  pub needed : IsNeeded manifests c number
  pub at : link_at number c ≡ Some link
  pub own : HasOwn link.value id

-- a path in reach of a database, by kind of path: the version of a log that is needed; a table at the database's own place that a needed manifest has
pub data InReach (chains : Chains) (db : List ℕ) (path : ObjectPath) : Type 0 where
  OfVersion : (k : LogKind) (n : ℕ) → path ≡ version_path k db n → IsNeeded (log_of k) (chains k db) n → InReach chains db path
  OfTable : (id : ℕ × ℕ) → path ≡ paths.Table db id → NeedsTable (chains logs.Manifest db) id → InReach chains db path

-- a path that may not be deleted: one in reach of a database of the cluster
pub record Reachable (w : World) (chains : Chains) (path : ObjectPath) : Type 0 where
  pub db : List ℕ
  pub has : HasDb w db
  pub reach : InReach chains db path
