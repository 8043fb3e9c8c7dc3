-- What is kept from event to event holds after any events on accepted databases.
use Rattle.std.proofs.Common.{List, sym, subst}
use Rattle.slate_script_events.specs.declared.db_spec.DbSpec.{DbSpec}
use Rattle.slate_script_events.specs.declared.event.Event.{Event}
use Rattle.slate_cluster_protocol.specs.ByRows.{nobody}
use Rattle.slate_cluster_protocol.specs.Lawful.{IsAccepted, AreGood, chains_at_end, course_after, gone_after}
use Rattle.slate_cluster_protocol.specs.Logs.{chains_after, world_after, opening_chains}
use Rattle.slate_cluster_protocol.specs.Runs.{opening}
use Rattle.slate_cluster_protocol.specs.Safe.{EachPath, removed_by}
use Rattle.slate_cluster_protocol.specs.Specs.{opening_world}
use Rattle.slate_cluster_protocol.specs.World.{World}
use Rattle.slate_cluster_laws.proofs.Along.{Moment, Kept, along_good}
use Rattle.slate_cluster_laws.proofs.GoingOn.{run_world}
use Rattle.slate_cluster_laws.proofs.Opening.{opening_inv}
use Rattle.slate_cluster_laws.proofs.Removals.{good_run}
use Rattle.slate_cluster_laws.proofs.Rows.{AllMatch}
use Rattle.slate_cluster_laws.proofs.Runs.{Inv, run_inv}
use Rattle.slate_cluster_laws.proofs.Safety.{IsGone, all_stay, each_both, event_after, event_gone}

-- no party has come as a run begins
pub none_come : (specs : List DbSpec) → AllMatch nobody (opening_world specs)
none_come specs n = tt

-- the state after events on accepted databases
pub after_inv : (specs : List DbSpec) (events : List Event) → IsAccepted specs → Inv (world_after events (opening_world specs)) (chains_at_end specs events)
after_inv specs events accepted = run_inv events (opening_world specs) (opening_chains specs) (opening_inv specs accepted)

-- so the state where events lead of which none is bad
pub course_inv : (specs : List DbSpec) (events : List Event) → IsAccepted specs → AreGood specs events → Inv (course_after specs events).world (chains_at_end specs events)
course_inv specs events accepted good =
    subst (λ (w : World). Inv w (chains_at_end specs events)) (sym (run_world events 0 (opening specs) (course_after specs events) (good_run specs events good))) (after_inv specs events accepted)

-- each event keeps that what was removed is a collected version, or of no log
keeps_gone : Kept (λ m. EachPath (IsGone m.world m.chains) m.removed) (λ m n p. Unit {0})
keeps_gone = record {
  whole = λ m e q m' d t h.
      let chains = chains_after m.world e m.chains in
      let grows = event_after m.world m.chains e t.done t.inv t.is in
      subst (λ (x : Moment). EachPath (IsGone x.world x.chains) x.removed) (sym t.to)
      (each_both (IsGone t.done.world chains) m.removed (removed_by t.done.entry m.world.store) (all_stay m.world m.chains t.done.world chains grows m.removed h.whole) (event_gone m.world m.chains t.done.world chains grows e t.done t.inv t.is));
  own = λ m e q m' d t h w. tt;
  others = λ m e q m' d t h w k ne p at o. tt;
}

-- and so is what they removed
pub course_gone : (specs : List DbSpec) (events : List Event) → IsAccepted specs → AreGood specs events → EachPath (IsGone (course_after specs events).world (chains_at_end specs events)) (gone_after specs events)
course_gone specs events accepted good =
    subst (λ (w : World). EachPath (IsGone w (chains_at_end specs events)) (gone_after specs events)) (sym (run_world events 0 (opening specs) (course_after specs events) (good_run specs events good)))
    (along_good (λ m. EachPath (IsGone m.world m.chains) m.removed) (λ m n p. Unit {0}) keeps_gone specs events accepted good tt).whole
