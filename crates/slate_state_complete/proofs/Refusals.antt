-- A change of a manifest that is handed in doesn't refuse as others or the store do.
use Rattle.std.specs.Prelude.{◌≡◌, ℕ, ℤ, true, false, Result, Err}
use Rattle.std.proofs.Common.{◌∙◌, sym}
use Rattle.slate_ids.specs.declared.error.SlateDBError.{SlateDBError}
use Rattle.slate_txn_log.specs.declared.right.Right.TheVariants.{Plain}
use Rattle.slate_model.specs.declared.manifest.Manifest.{Manifest}
use Rattle.slate_state_updates.specs.ManifestChanges.{made}
use Rattle.slate_state_updates.specs.Writers.{epoch_of}
use Rattle.slate_state_updates.specs.declared.epochs.ManifestEpochs.{ManifestEpochs}
use Rattle.slate_state_updates.specs.declared.manifest_change.ManifestChange.{ManifestChange}
use Rattle.slate_txn_laws.specs.Outside.{is_outside, NotOutside, WaysInside}
use Rattle.slate_txn_laws.proofs.PlainInside as plain
use Rattle.slate_txn_laws.proofs.PlainInside.{told}
use Rattle.slate_state_logs.specs.ManifestLog.{manifest_decoded, manifest_encoded, manifest_rules}
use Rattle.slate_state_logs.proofs.ChangesPlain.{change_so}
use Rattle.slate_state_logs.specs.laws.ManifestsPlain.{manifests_plain}
use Rattle.slate_state_complete.specs.ChangeWays.{change_ways, fenced_ways}

-- a refusal that isn't from outside isn't one
pub not_both : {X : Type 0} (r : Result X SlateDBError) (e : SlateDBError) → NotOutside r → r ≡ Err e → is_outside e ≡ true → ⊥
not_both r e inside same outside = let told = inside e same in (let both : true ≡ false = sym outside ∙ told in absurd cc)

-- ---- changes of a manifest

change_inside : (change : ManifestChange) (moment : ℤ) (n : ℕ) (m : Manifest) → NotOutside (made change moment n m)
change_inside change moment n m = told (made change moment n m) (change_so change moment n m)

pub changes_inside : (change : ManifestChange) (moment : ℤ) → WaysInside (change_ways change moment)
changes_inside change moment = plain.ways_inside manifest_decoded manifest_encoded manifest_rules manifests_plain (made change moment) Plain (change_inside change moment)

pub all_fenced_inside : (kind : ManifestEpochs) (own : ℕ) (change : ManifestChange) (moment : ℤ) → WaysInside (fenced_ways kind own change moment)
all_fenced_inside kind own change moment = plain.fences_inside manifest_decoded manifest_encoded manifest_rules manifests_plain epoch_of kind own (made change moment) Plain (change_inside change moment)
