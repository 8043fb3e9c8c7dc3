-- The two logs of a database.
use Rattle.std.specs.Prelude.{List, ℕ}
use Rattle.slate_store.specs.Store.{Store}
use Rattle.slate_txn_laws.specs.Ready.{IsReady}
use Rattle.slate_txn_log.specs.declared.log_kind.LogKind.TheVariants as logs

-- both logs of a database are ready
pub record AreReady (db : List ℕ) (s : Store) : Type 0 where
  pub manifests : IsReady db logs.Manifest s
  pub records : IsReady db logs.Compactions s
