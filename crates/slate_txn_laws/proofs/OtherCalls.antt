-- Calls elsewhere leave a log ready.
use Rattle.std.proofs.Common.{◌≡◌, ◌≢◌, ℕ, ℤ, ◌<◌, ◌^◌, Bool, true, false, List, [], ◌∷◌, Option, Some, None, refl, sym, ap, ◌∙◌, subst}
use Rattle.slate_ids.specs.Ids.{is_db_path}
use Rattle.slate_store.specs.StoreCalls.{Told, Makes, contents_after, moment_of}
use Rattle.slate_store.specs.Machines.{Goes, Stay, End}
use Rattle.slate_store.specs.CallRuns.{Run}
use Rattle.slate_store.specs.Store.{Store, object_at, has_tag, put_new, replace, whole, under, taken}
use Rattle.slate_store.specs.declared.made.Made.{Made}
use Rattle.slate_store.specs.declared.mark.Mark.{Mark}
use Rattle.slate_store.specs.declared.mark.Mark.TheVariants.{Good, Fail, Lost}
use Rattle.slate_store.specs.declared.object.StoredObject.{StoredObject}
use Rattle.slate_store.specs.declared.store_answer.StoreAnswer.{StoreAnswer}
use Rattle.slate_store.specs.declared.store_call.StoreCall.{StoreCall}
use Rattle.slate_store.specs.declared.store_call.StoreCall.TheVariants.{List as ListCall, Get, PutNew, Replace, Put, Delete}
use Rattle.slate_txn_log.specs.LogPaths.{version_path, boundary_path}
use Rattle.slate_txn_log.specs.declared.log_kind.LogKind.{LogKind}
use Rattle.slate_txn_log.specs.declared.log_kind.LogKind.TheVariants.{Manifest, Compactions}
use Rattle.slate_txn_laws.specs.Elsewhere.{IsAside, IsElsewhere, AllElsewhere}
use Rattle.slate_txn_laws.specs.Ready.{IsReady, LeavesReady}
use Rattle.slate_txn_laws.proofs.Asides.{stored_ready, removed_ready}
use Rattle.slate_txn_laws.proofs.Entries.{version_fine, boundary_fine}

module _ (db : List ℕ) (log : LogKind) (named : is_db_path db ≡ true) where
  whole_ready : (call : StoreCall) (moment : ℤ) (s : Store) → IsElsewhere db log call → IsReady db log s → IsReady db log (whole call moment s).store
  whole_ready (ListCall dir) moment s aside ready = ready
  whole_ready (Get path) moment s aside ready = ready
  whole_ready (PutNew path bytes) moment s aside ready = by_object (object_at path s)
    where
      by_object : (o : Option StoredObject) → IsReady db log (put_new o path bytes moment s).store
      by_object (Some x) = ready
      by_object None = stored_ready db log named path aside bytes moment s ready
  whole_ready (Replace path tag bytes) moment s aside ready = by_tag (has_tag tag (object_at path s))
    where
      by_tag : (b : Bool) → IsReady db log (replace b path bytes moment s).store
      by_tag true = stored_ready db log named path aside bytes moment s ready
      by_tag false = ready
  whole_ready (Put path bytes) moment s aside ready = stored_ready db log named path aside bytes moment s ready
  whole_ready (Delete path) moment s aside ready = removed_ready db log named path aside s ready

  under_ready : (mark : Mark) (call : StoreCall) (moment : ℤ) (s : Store) → IsElsewhere db log call → IsReady db log s → IsReady db log (under mark (whole call moment s) s).store
  under_ready Good call moment s aside ready = whole_ready call moment s aside ready
  under_ready Fail call moment s aside ready = ready
  under_ready Lost call moment s aside ready = whole_ready call moment s aside ready

  pub call_ready : (old new : Told) (call : StoreCall) (moment : ℤ) (answer : StoreAnswer) → Makes old new call moment answer → IsElsewhere db log call → LeavesReady db log old → LeavesReady db log new
  call_ready old new call moment answer makes aside before = record {
    left = (under (taken makes.mark call before.left) (whole call moment before.left) before.left).store;
    contents = makes.contents ∙ ap (contents_after makes.mark call moment) before.contents;
    ready = under_ready (taken makes.mark call before.left) call moment before.left aside before.ready;
  }

  pub run_ready : {P R : Type 0} (asks : P → StoreCall) (goes : P → StoreAnswer → Goes P R) (moment : ℤ) (old new : Told) (ms : List Made) (from out : Goes P R) → Run asks goes moment old new ms from out → AllElsewhere db log ms → LeavesReady db log old → LeavesReady db log new
  run_ready asks goes moment old new [] from out run all before = subst (λ (t : Told). LeavesReady db log t) (sym run.1) before
  run_ready asks goes moment old new (m ∷ ms) (Stay p) out run all before = run_ready asks goes moment run.0 new ms (goes p m.answer) out run.3 all.1 (call_ready old run.0 m.call (moment_of m.call moment) m.answer run.2 all.0 before)
  run_ready asks goes moment old new (m ∷ ms) (End p r) out run all before = absurd run

-- ---- the paths of another log

no_version : (log other_log : LogKind) (db other : List ℕ) (n k : ℕ) → (db ≡ other → log ≡ other_log → ⊥) → version_path other_log other k ≢ version_path log db n
no_version Manifest Manifest db other n k apart e = let same : db ≡ other = cc in apart same refl
no_version Manifest Compactions db other n k apart e = cc
no_version Compactions Manifest db other n k apart e = cc
no_version Compactions Compactions db other n k apart e = let same : db ≡ other = cc in apart same refl

no_bound : (log other_log : LogKind) (db other : List ℕ) → (db ≡ other → log ≡ other_log → ⊥) → boundary_path other_log other ≢ boundary_path log db
no_bound Manifest Manifest db other apart e = let same : db ≡ other = cc in apart same refl
no_bound Manifest Compactions db other apart e = cc
no_bound Compactions Manifest db other apart e = cc
no_bound Compactions Compactions db other apart e = let same : db ≡ other = cc in apart same refl

mixed : (log other_log : LogKind) (db other : List ℕ) (n : ℕ) → version_path other_log other n ≢ boundary_path log db
mixed Manifest Manifest db other n e = cc
mixed Manifest Compactions db other n e = cc
mixed Compactions Manifest db other n e = cc
mixed Compactions Compactions db other n e = cc

pub version_aside : (db : List ℕ) (log : LogKind) (other : List ℕ) (other_log : LogKind) (n : ℕ) → is_db_path other ≡ true → n < 2 ^ 64 → (db ≡ other → log ≡ other_log → ⊥) → IsAside db log (version_path other_log other n)
version_aside db log other other_log n named small apart = record { fine = version_fine other named other_log n small; version = λ k. no_version log other_log db other k n apart; boundary = mixed log other_log db other n }

pub boundary_aside : (db : List ℕ) (log : LogKind) (other : List ℕ) (other_log : LogKind) → is_db_path other ≡ true → (db ≡ other → log ≡ other_log → ⊥) → IsAside db log (boundary_path other_log other)
boundary_aside db log other other_log named apart = record { fine = boundary_fine other named other_log; version = λ k e. mixed other_log log other db k (sym e); boundary = no_bound log other_log db other apart }
