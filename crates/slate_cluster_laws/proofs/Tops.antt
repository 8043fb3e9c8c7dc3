-- What a list of a log gives, at each moment of a run.
use Rattle.std.proofs.Common.{◌≡◌, ℕ, ◌<◌, List, [], ◌∷◌, Option, Some, None, refl}
use Rattle.slate_store.specs.Store.{listed}
use Rattle.slate_txn_log.specs.Boundary.{greatest}
use Rattle.slate_txn_log.specs.LogPaths.{folder}
use Rattle.slate_txn_log.specs.declared.log_kind.LogKind.{LogKind}
use Rattle.slate_txn_log.specs.declared.log_kind.LogKind.TheVariants as logs
use Rattle.slate_script_events.specs.declared.db_spec.DbSpec.{DbSpec}
use Rattle.slate_script_events.specs.declared.event.Event.{Event}
use Rattle.slate_cluster_protocol.specs.Chains.{top}
use Rattle.slate_cluster_protocol.specs.Lawful.{IsAccepted, chains_at_end}
use Rattle.slate_cluster_protocol.specs.Logs.{Chains, log_of, chains_after, world_after, opening_chains}
use Rattle.slate_cluster_protocol.specs.Specs.{opening_world}
use Rattle.slate_cluster_protocol.specs.World.{World, Transition, HasDb, happens}
use Rattle.slate_cluster_laws.proofs.AfterEvents.{after_inv}
use Rattle.slate_cluster_laws.proofs.Listed.{list_top, list_none}
use Rattle.slate_cluster_laws.proofs.Opening.{opening_inv, no_zero}
use Rattle.slate_cluster_laws.proofs.Runs.{Inv, event_inv}
use Rattle.slate_cluster_laws.proofs.Safety.{event_after}
use Rattle.slate_cluster_laws.proofs.Zeros.{NoZero}

-- nothing stands at the number 0 after events
run_zero : (es : List Event) (w : World) (chains : Chains) → Inv w chains → NoZero w → NoZero (world_after es w)
run_zero [] w chains i h = h
run_zero (e ∷ es) w chains i h = went (happens w e) refl (λ d at. run_zero es d.world (chains_after w e chains) (event_inv w chains e d at i) ((event_after w chains e d i at).zero h))
  where
    went : (o : Option Transition) → happens w e ≡ o → ((d : Transition) → happens w e ≡ Some d → NoZero (world_after es d.world)) → NoZero (elim o as (λ _. World) [ None ↦ w | Some d ↦ world_after es d.world ])
    went None at f = h
    went (Some d) at f = f d at

module _ (specs : List DbSpec) (events : List Event) where
  abbrev w : World
  w = world_after events (opening_world specs)

  abbrev chains : Chains
  chains = chains_at_end specs events

  zeros : IsAccepted specs → NoZero w
  zeros accepted = run_zero events (opening_world specs) (opening_chains specs) (opening_inv specs accepted) (no_zero specs accepted)

  -- the greatest number of the list is the greatest committed one
  pub top_listed : (k : LogKind) (db : List ℕ) → IsAccepted specs → HasDb w db → 0 < top (chains k db) → greatest k (listed (folder k db) w.store) ≡ Some (top (chains k db))
  top_listed logs.Manifest db accepted has some = let i = after_inv specs events accepted in list_top (log_of logs.Manifest) db (i.named db has) w.store (chains logs.Manifest db) (i.logs logs.Manifest db (i.named db has)) some i.tidy
  top_listed logs.Compactions db accepted has some = let i = after_inv specs events accepted in list_top (log_of logs.Compactions) db (i.named db has) w.store (chains logs.Compactions db) (i.logs logs.Compactions db (i.named db has)) some i.tidy

  -- where none is committed it has none
  pub none_listed : (k : LogKind) (db : List ℕ) → IsAccepted specs → HasDb w db → top (chains k db) ≡ 0 → greatest k (listed (folder k db) w.store) ≡ None
  none_listed logs.Manifest db accepted has empty =
      let i = after_inv specs events accepted in
      list_none (log_of logs.Manifest) db (i.named db has) w.store (chains logs.Manifest db) (i.logs logs.Manifest db (i.named db has)) empty (zeros accepted logs.Manifest db has) i.tidy
  none_listed logs.Compactions db accepted has empty =
      let i = after_inv specs events accepted in
      list_none (log_of logs.Compactions) db (i.named db has) w.store (chains logs.Compactions db) (i.logs logs.Compactions db (i.named db has)) empty (zeros accepted logs.Compactions db has) i.tidy
