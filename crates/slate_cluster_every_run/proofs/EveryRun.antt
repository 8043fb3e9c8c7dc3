-- What holds of every run, at each moment of it.
use Rattle.std.proofs.Common.{◌≡◌, ◌≢◌, ℕ, ◌≤◌, ◌<◌, zero, suc, List, [], ◌++◌, None, Some, refl, sym, ap, ◌∙◌, subst, arith}
use Rattle.slate_model_records.specs.Records.{Record}
use Rattle.slate_state_record_updates.specs.RecordRules.{KeepsLeast, record_refusal_of}
use Rattle.slate_txn_log.specs.declared.right.Right.{Right}
use Rattle.slate_txn_log.specs.declared.log_kind.LogKind.{LogKind}
use Rattle.slate_txn_log.specs.declared.log_kind.LogKind.TheVariants as logs
use Rattle.slate_script_events.specs.declared.entry.Entry.{Entry}
use Rattle.slate_script_events.specs.declared.db_spec.DbSpec.{DbSpec}
use Rattle.slate_script_events.specs.declared.event.Event.{Event}
use Rattle.slate_cluster_protocol.specs.ByRows.{nobody}
use Rattle.slate_cluster_protocol.specs.Chains.{bound_in}
use Rattle.slate_cluster_protocol.specs.Lawful.{IsAccepted, AreGood, IsLawfulLog, LawfulAt, Lawful, chains_at_end, course_after, gone_after}
use Rattle.slate_cluster_protocol.specs.Logs.{Chains, log_of, opening_chains}
use Rattle.slate_cluster_protocol.specs.Runs.{opening}
use Rattle.slate_cluster_protocol.specs.Safe.{IsSafe}
use Rattle.slate_cluster_protocol.specs.Specs.{opening_world}
use Rattle.slate_cluster_protocol.specs.Trails.{numbers_of, store_of, told}
use Rattle.slate_cluster_protocol.specs.World.{World, HasDb}
use Rattle.slate_cluster_laws.proofs.AfterEvents.{none_come, after_inv, course_inv}
use Rattle.slate_cluster_laws.proofs.GoingOn.{run_world, run_split}
use Rattle.slate_cluster_chain_laws.proofs.Epochs.{chain_fenced, chain_record_fenced}
use Rattle.slate_cluster_pass_laws.proofs.ExactByRule.{exact_passes}
use Rattle.slate_cluster_known_laws.proofs.Known.{known_as_told}
use Rattle.slate_cluster_chain_laws.proofs.Links.{decodes}
use Rattle.slate_cluster_chain_laws.proofs.Manifests.{log_laws}
use Rattle.slate_cluster_chain_laws.proofs.Rising.{never_falls, records_never_fall, name_known}
use Rattle.slate_cluster_laws.proofs.Removals.{good_run, one_entry, removals_counted}
use Rattle.slate_cluster_laws.proofs.Rows.{rows_run}
use Rattle.slate_cluster_laws.proofs.Runs.{Inv}
use Rattle.slate_cluster_laws.proofs.Safety.{is_safe, run_rises}
use Rattle.slate_cluster_laws.proofs.Trails.{run_tells}
use Rattle.slate_cluster_pass_laws.proofs.Undisturbed.{manifests_begun, passes_alone}
use Rattle.slate_cluster_spare_laws.proofs.RemovedTables.{course_collected}

-- a boundary that isn't 0 is below the greatest number; so each is, where there is a number
below_some : (bound most : ℕ) → (0 < bound → bound < most) → 0 < most → bound < most
below_some zero most h some = some
below_some (suc n) most h some = h (omega arith)

log_lawful : (w : World) (chains : Chains) → Inv w chains → (k : LogKind) (db : List ℕ) → HasDb w db → IsLawfulLog w k db (chains k db)
log_lawful w chains i k db has =
    let log = i.logs k db (i.named db has) in
    record {
      chain = log.chain;
      values = λ n l at. decodes (log_of k) (log_laws k) n l (chains k db) log.chain at;
      greatest = i.told k db;
      bound = log.bound;
      read = log.read;
      below = below_some log.bound _ log.below;
      stands = log.above;
    }

-- what the rules keep of the compactions of a record
abbrev pub Keep : Type 0
Keep = (n : ℕ) (old new : Record) (right : Right) → record_refusal_of n old new right ≡ None → old.entries ≢ [] → KeepsLeast old.entries new.entries

module _ (keep : Keep) (specs : List DbSpec) (accepted : IsAccepted specs) (events : List Event) (good : AreGood specs events) where
  -- what a run removed is not reachable at its end
  run_safe : IsSafe (course_after specs events).world (chains_at_end specs events) (gone_after specs events)
  run_safe = is_safe (course_after specs events).world (chains_at_end specs events) (course_inv specs events accepted good) (gone_after specs events) (course_collected specs accepted events good)

  lawful_at : LawfulAt specs events
  lawful_at =
      let h = good_run specs events good in
      let i = course_inv specs events accepted good in
      let v = course_after specs events in
      let rows = rows_run events 0 (opening specs) v nobody (none_come specs) h in
      let tells = run_tells events 0 (opening specs) v nobody (numbers_of (opening_chains specs)) (opening_chains specs) (none_come specs) (λ k d. refl) h in
      record {
        entries = one_entry specs events good;
        rows = rows;
        known = known_as_told specs events accepted good;
        passes = exact_passes events nobody (opening_world specs).store;
        store = tells.store ∙ ap (λ (xs : List Entry). store_of xs (opening_world specs).store) (sym rows);
        told = λ k db. ap (λ (xs : List Entry). told xs (opening_world specs).store (numbers_of (opening_chains specs)) k db) rows ∙ tells.told k db;
        deleted = removals_counted specs events good;
        safe = run_safe;
        each_log = λ k db has. log_lawful v.world (chains_at_end specs events) i k db has;
        begun = manifests_begun specs events accepted good;
        fenced = λ db has. chain_fenced (chains_at_end specs events logs.Manifest db) (i.logs logs.Manifest db (i.named db has)).chain;
        records_fenced = λ db has. chain_record_fenced (chains_at_end specs events logs.Compactions db) (i.logs logs.Compactions db (i.named db has)).chain;
        records_rising = λ db has. records_never_fall keep (chains_at_end specs events logs.Compactions db) (i.logs logs.Compactions db (i.named db has)).chain;
        rising = λ db has. never_falls (chains_at_end specs events logs.Manifest db) (i.logs logs.Manifest db (i.named db has)).chain;
        names = λ db has. name_known (chains_at_end specs events logs.Manifest db) (i.logs logs.Manifest db (i.named db has)).chain;
      }

-- no boundary falls between two moments
bounds_rise : (specs : List DbSpec) → IsAccepted specs → (front back : List Event) → AreGood specs (front ++ back) → (k : LogKind) (db : List ℕ) → HasDb (course_after specs front).world db
    → (before now : ℕ) → bound_in (log_of k) db (course_after specs front).world.store ≡ Some before → bound_in (log_of k) db (course_after specs (front ++ back)).world.store ≡ Some now → before ≤ now
bounds_rise specs accepted front back good k db has before now was read =
    let v = course_after specs (front ++ back) in
    let split = run_split front back 0 (opening specs) v (good_run specs (front ++ back) good) in
    let c = course_after specs front in
    let i = subst (λ (w : World). Inv w (chains_at_end specs front)) (sym (run_world front 0 (opening specs) c split.first)) (after_inv specs front accepted) in
    run_rises k back 0 c v (chains_at_end specs front) db i has split.second before now was read

pub lawful : Keep → (specs : List DbSpec) (events : List Event) → IsAccepted specs → Lawful specs events
lawful keep specs events accepted = record {
  always = λ front back is good. lawful_at keep specs accepted front good;
  rises = λ front middle back is good k db has before now was read. bounds_rise specs accepted front middle good k db has before now was read;
  alone = λ front middle back is good. passes_alone specs front middle accepted good;
}
