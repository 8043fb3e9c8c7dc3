-- The removal of expired checkpoints is due where it is committed, and no fault refuses it.
use Rattle.std.specs.Prelude.{◌≡◌, ◌≢◌, ℕ, ◌+◌, ◌==◌, ℤ, Bool, true, false, List, Option, Some, None, Result, Ok, Err, if◌then◌else◌, refl}
use Rattle.std.specs.List.{list_any}
use Rattle.std.proofs.Common.{ap, sym, ◌∙◌}
use Rattle.slate_txn_changes.proofs.WorkFaults.{MayPut}
use Rattle.slate_ids.specs.Limits.{last_number}
use Rattle.slate_ids.specs.declared.error.SlateDBError.{SlateDBError}
use Rattle.slate_ids.specs.declared.error.SlateDBError.TheVariants.{StoreFault, Exhausted}
use Rattle.slate_txn_log.specs.CommitPhase.{prepared, checked_commit, encoded_commit}
use Rattle.slate_txn_log.specs.Change.{wanted, some_commit}
use Rattle.slate_txn_log.specs.Due.{NoFault}
use Rattle.slate_txn_log.specs.declared.right.Right.TheVariants.{Plain}
use Rattle.slate_model.specs.declared.manifest.Manifest.{Manifest}
use Rattle.slate_state_updates.specs.ManifestChanges.{commit_of, floored, with_floor}
use Rattle.slate_state_updates.specs.Checkpoints.{is_expired}
use Rattle.slate_state_updates.specs.Rules.{manifest_refusal}
use Rattle.slate_state_updates.specs.RuleLaws.{IsOfRules, is_of_rules}
use Rattle.slate_state_updates.proofs.Lawful.{causes}
use Rattle.slate_state_updates.specs.declared.manifest_change.ManifestChange.TheVariants.{DropExpired}

encoded_well : (n : ℕ) (m : Manifest) (bytes : Result (List ℕ) SlateDBError) → bytes ≢ Err StoreFault → MayPut (some_commit (encoded_commit n m bytes))
encoded_well n m (Ok bytes) h = refl
encoded_well n m (Err e) h = λ same. h (ap (λ (k : SlateDBError). Err k) same)

checked_well : (refusal : Option SlateDBError) (n : ℕ) (m : Manifest) (bytes : Result (List ℕ) SlateDBError) → IsOfRules refusal → bytes ≢ Err StoreFault → MayPut (some_commit (checked_commit refusal n m bytes))
checked_well None n m bytes own h = encoded_well n m bytes h
checked_well (Some e) n m bytes own h = λ same. let clash : false ≡ true = sym (ap is_of_rules same) ∙ own in cc

numbered_well : (last : Bool) (n : ℕ) (refusal : Option SlateDBError) (m : Manifest) (bytes : Result (List ℕ) SlateDBError) → IsOfRules refusal → bytes ≢ Err StoreFault
    → MayPut (some_commit (if last then Err (Exhausted n) else checked_commit refusal (n + 1) m bytes))
numbered_well true n refusal m bytes own h = λ same. absurd cc
numbered_well false n refusal m bytes own h = checked_well refusal (n + 1) m bytes own h

wanted_well : (encoded : Manifest → Result (List ℕ) SlateDBError) → NoFault encoded → (n floor : ℕ) (old new : Manifest) (has : Bool)
    → MayPut (wanted (λ new. prepared manifest_refusal encoded n old new Plain) (floored floor (if has then Ok (Some new) else Ok None)))
wanted_well encoded good n floor old new false = tt
wanted_well encoded good n floor old new true = numbered_well (n == last_number) n _ _ _ (causes n old (with_floor floor new) Plain) (good _)

pub removal_well : (encoded : Manifest → Result (List ℕ) SlateDBError) → NoFault encoded → (now : ℤ) (n : ℕ) (m : Manifest) → MayPut (commit_of encoded DropExpired now n m)
removal_well encoded good now n m = wanted_well encoded good n m.core.floor m _ (list_any (is_expired now) m.core.checkpoints)
