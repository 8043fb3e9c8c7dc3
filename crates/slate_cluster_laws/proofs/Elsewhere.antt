-- A put at a path that no log has leaves the objects of each log.
use Rattle.std.proofs.Common.{◌≡◌, ℕ, ℤ, true, false, true≢false, List, refl, sym, ap, ◌∙◌}
use Rattle.slate_ids.specs.FinePath.{IsFine}
use Rattle.slate_ids.specs.Ids.{is_db_path}
use Rattle.slate_ids.specs.declared.object_path.ObjectPath.{ObjectPath}
use Rattle.slate_store.specs.Store.{Store, under, whole, taken, effect}
use Rattle.slate_store.specs.declared.mark.Mark.{Mark}
use Rattle.slate_store.specs.declared.mark.Mark.TheVariants.{Good, Fail, Lost}
use Rattle.slate_store.specs.declared.store_call.StoreCall.TheVariants.{Put}
use Rattle.slate_txn_log.specs.LogPaths.{version_path, boundary_path}
use Rattle.slate_txn_log.specs.declared.log_kind.LogKind.{LogKind}
use Rattle.slate_cluster_protocol.specs.Owners.{owner_of, is_log, LogStays}
use Rattle.slate_cluster_laws.proofs.Paths.{IsElsewhere, elsewhere}
use Rattle.slate_store.proofs.LookUps.{at_else}

module _ (k : LogKind) (db : List ℕ) (path : ObjectPath) (bytes : List ℕ) (moment : ℤ) (s : Store) (away : IsElsewhere k db path) where
  stays : (mark : Mark) → LogStays k db s (under mark (whole (Put path bytes) moment s) s).store
  stays Good = record { versions = λ n small. at_else path (version_path k db n) bytes moment s (away.version n small); boundary = at_else path (boundary_path k db) bytes moment s away.boundary }
  stays Fail = record { versions = λ n small. refl; boundary = refl }
  stays Lost = record { versions = λ n small. at_else path (version_path k db n) bytes moment s (away.version n small); boundary = at_else path (boundary_path k db) bytes moment s away.boundary }

pub put_elsewhere : (k : LogKind) (db : List ℕ) (path : ObjectPath) (bytes : List ℕ) (moment : ℤ) (mark : Mark) (s : Store) → is_db_path db ≡ true → IsFine path → is_log (owner_of path) ≡ false
    → LogStays k db s (effect mark (Put path bytes) moment s).store
put_elsewhere k db path bytes moment mark s named fine other =
    stays k db path bytes moment s
    (elsewhere k db path named fine (record {
      version = λ n e. true≢false (sym (ap is_log e) ∙ other);
      boundary = λ e. true≢false (sym (ap is_log e) ∙ other);
    }))
    (taken mark (Put path bytes) s)
