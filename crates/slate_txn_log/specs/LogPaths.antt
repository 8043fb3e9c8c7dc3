-- Where the versions of a log lie.
use Rattle.std.specs.Prelude.{ℕ, List, Option, Some, None}
use Rattle.slate_ids.specs.declared.object_path.ObjectPath.{ObjectPath}
use Rattle.slate_ids.specs.declared.object_path.ObjectPath.TheVariants as paths
use Rattle.slate_store.specs.declared.list_dir.ListDir.{ListDir}
use Rattle.slate_store.specs.declared.list_dir.ListDir.TheVariants as folders
use Rattle.slate_txn_log.specs.declared.log_kind.LogKind.{LogKind}
use Rattle.slate_txn_log.specs.declared.log_kind.LogKind.TheVariants.{Manifest, Compactions}

-- where a version lies
abbrev pub version_path : LogKind → List ℕ → ℕ → ObjectPath
version_path Manifest db n = paths.Manifest db n
version_path Compactions db n = paths.Record db n

-- where the boundary lies
abbrev pub boundary_path : LogKind → List ℕ → ObjectPath
boundary_path Manifest db = paths.ManifestBoundary db
boundary_path Compactions db = paths.RecordBoundary db

-- the folder of the versions
abbrev pub folder : LogKind → List ℕ → ListDir
folder Manifest db = folders.Manifests db
folder Compactions db = folders.Records db

-- the number of a version of this log
abbrev pub number_of : LogKind → ObjectPath → Option ℕ
number_of Manifest (paths.Manifest db n) = Some n
number_of Compactions (paths.Record db n) = Some n
number_of _ _ = None
