-- The plain call that changes a log's latest version, over a store that serves it.
use Rattle.std.proofs.Common.{◌≡◌, ℕ, ℤ, ◌<◌, true, false, List, Result, inl, inr, refl}
use Rattle.slate_ids.specs.Ids.{is_db_path}
use Rattle.slate_ids.specs.declared.error.SlateDBError.{SlateDBError}
use Rattle.slate_store.specs.Machines.{Stay, End}
use Rattle.slate_store.specs.Store.{Store}
use Rattle.slate_store.specs.StoreCalls.{Told}
use Rattle.slate_txn_changes.specs.Latest as latest
use Rattle.slate_txn_changes.specs.LogWorks.{WorkGoes, work_asks, work_goes, work_start}
use Rattle.slate_txn_changes.specs.declared.log_work.LogEnd.{LogEnd}
use Rattle.slate_txn_changes.specs.declared.log_work.LogWork.{LogWork}
use Rattle.slate_txn_changes_laws.proofs.ChangeSteps.{WorkAt, WorkEndsSo, WorkLeads, work_leads}
use Rattle.slate_txn_changes_laws.proofs.Served.{LeadsOn, turns_served}
use Rattle.slate_txn_changes_laws.specs.ChangeEnds.{ChangeEnds, Commit}
use Rattle.slate_txn_changes_laws.specs.Works.{PlainWork}
use Rattle.slate_txn_laws.specs.Ready.{IsReady}
use Rattle.slate_txn_laws.specs.Serving.{Serves}
use Rattle.slate_txn_log.specs.declared.log_kind.LogKind.{LogKind}

module _ {V : Type 0} (decoded : List ℕ → Result V SlateDBError) (commit : Commit V) (plain : PlainWork decoded commit) (db : List ℕ) (log : LogKind) (named : is_db_path db ≡ true) (moment : ℤ) (s : Store) (ready : IsReady db log s) where
  abbrev Leads : LogWork V → Store → WorkGoes V → Type 0
  Leads = LeadsOn (work_asks db log) (work_goes log decoded commit moment) latest.lists_again latest.begins_again moment (WorkAt decoded commit plain db log named moment s ready) (WorkEndsSo decoded commit plain db log named moment s ready)

  leads : (work : LogWork V) (t : Store) (g : WorkGoes V) → WorkLeads decoded commit plain db log named moment s ready t g → Leads work t g
  leads work t (Stay q) h = h
  leads work t (End q r) h = (h.calm, h)

  pub change_ends : (tries : ℕ) (old new : Told) (result : Result (LogEnd V) SlateDBError) → latest.Changes db log decoded commit moment tries old new result → 0 < tries → Serves old new s → ChangeEnds decoded commit db log moment s new result
  change_ends tries old new result (inl ran) some serves =
      let end = turns_served (work_asks db log) (work_goes log decoded commit moment) latest.lists_again latest.begins_again moment (WorkAt decoded commit plain db log named moment s ready) (WorkEndsSo decoded commit plain db log named moment s ready)
      (λ t work h. leads work _ _ (work_leads decoded commit plain db log named moment s ready t work h))
      tries old new s work_start false ran.0 result ran.1 some serves (refl, tt) in
      inl (record { left = end.left; contents = end.contents; answers = end.ends.answers; inside = end.ends.calm; ready = end.ends.ready_then })
  change_ends tries old new result (inr held) some serves = inr held.0
