-- The codec of manifests and the rules on them refuse a manifest for what it is.
use Rattle.std.specs.Prelude.{◌≡◌, ℕ, ◌==◌, Bool, true, List, Option, Some, None, Result, Ok, Err, refl}
use Rattle.slate_layout_encodable.specs.Unencodable.{early_field}
use Rattle.slate_ids.specs.declared.error.SlateDBError.{SlateDBError}
use Rattle.slate_ids.specs.declared.error.SlateDBError.TheVariants.{ManifestMissing, Corrupt, InvalidClockTick, InvalidSegmentPrefix, StoreFault, UpdateRefused}
use Rattle.slate_ids.specs.declared.error.FieldName.{FieldName}
use Rattle.slate_ids.specs.declared.error.FormatName.TheVariants as format
use Rattle.slate_layout.specs.Codec.{encoded, if_typed}
use Rattle.slate_layout_encoding.specs.Encoding.{encoded_manifest, encoded_with, unless_early}
use Rattle.slate_layout_manifests.specs.Decoding.{or_corrupt, by_version, after_version, decoded_manifest}
use Rattle.slate_layout_manifests.specs.Gathered.{ById}
use Rattle.slate_layout_manifests.specs.ManifestParts.{second_version}
use Rattle.slate_layout_manifests.specs.OldManifests.{first_version}
use Rattle.slate_layout_manifests.specs.TypedManifests.{is_manifest}
use Rattle.slate_model.specs.declared.manifest.Manifest.{Manifest}
use Rattle.slate_layout_parts.specs.InfoCodec.{unless_field}
use Rattle.slate_layout_parts.specs.Reading.{u16_in}
use Rattle.slate_txn_laws.specs.Plain.{is_plain, refuses_plainly, Plainly, PlainLog}
use Rattle.slate_txn_laws.specs.Replies.{MissingIsPlain}
use Rattle.slate_txn_log.specs.Due.{NoFault}
use Rattle.slate_txn_laws.proofs.PlainCommits.{apart, either}
use Rattle.slate_state_updates.specs.RuleLaws.{IsOfRules, is_of_rules}
use Rattle.slate_state_updates.specs.Rules.{manifest_refusal}
use Rattle.slate_state_updates.proofs.Lawful.{causes}
use Rattle.slate_state_logs.specs.ManifestLog.{manifest_decoded, manifest_encoded, manifest_rules}

corrupt_so : (m : Option Manifest) → Plainly (or_corrupt m)
corrupt_so (Some m) = refl
corrupt_so None = refl

version_so : (version : ℕ) (bytes : List ℕ) → Plainly (by_version version bytes)
version_so version bytes = either (version == 1) _ _ (corrupt_so (first_version bytes)) (either (version == 2) _ _ (corrupt_so (second_version bytes)) refl)

after_so : (p : Option (ℕ × List ℕ)) → Plainly (after_version p)
after_so None = refl
after_so (Some p) = version_so p.0 p.1

decoded_so : (bytes : List ℕ) → Plainly (decoded_manifest bytes)
decoded_so bytes = after_so (u16_in bytes)

late_fine : (field : Option FieldName) (bytes : List ℕ) → Plainly (unless_field field bytes)
late_fine None bytes = refl
late_fine (Some field) bytes = refl

with_fine : (tables : Option ById) (m : Manifest) → Plainly (encoded_with tables m)
with_fine None m = refl
with_fine (Some tables) m = late_fine _ _

early_fine : (field : Option FieldName) (m : Manifest) → Plainly (unless_early field m)
early_fine None m = with_fine _ m
early_fine (Some field) m = refl

typed_fine : (typed : Bool) (bytes : Result (List ℕ) SlateDBError) → Plainly bytes → Plainly (if_typed format.Manifest typed bytes)
typed_fine typed (Ok bytes) h = either typed (Ok bytes) (Err (Corrupt format.Manifest)) refl refl
typed_fine typed (Err e) h = h

encoded_so : (m : Manifest) → Plainly (encoded m)
encoded_so m = typed_fine (is_manifest m) (encoded_manifest m) (early_fine (early_field m) m)

rules_so : (e : SlateDBError) → is_of_rules e ≡ true → is_plain e ≡ true
rules_so (UpdateRefused rule) h = refl
rules_so (InvalidClockTick last next) h = refl
rules_so (InvalidSegmentPrefix prefix conflict) h = refl
rules_so _ h = absurd cc

refused_so : (refusal : Option SlateDBError) → IsOfRules refusal → refuses_plainly refusal ≡ true
refused_so None rules = refl
refused_so (Some e) rules = rules_so e rules

pub manifests_plain : PlainLog manifest_decoded manifest_encoded manifest_rules
manifests_plain = record {
  decodes = λ codec bytes. decoded_so bytes;
  encodes = λ codec m. encoded_so m;
  refuses = λ rules id old new right. refused_so (manifest_refusal id old new right) (causes id old new right);
}

pub manifest_missing : MissingIsPlain ManifestMissing
manifest_missing = record { memory = λ n. refl; fault = λ n same. absurd cc }

-- the bytes of a manifest are read, and made, without a fault of the store
pub decoding_fine : NoFault decoded_manifest
decoding_fine bytes = apart StoreFault _ refl (decoded_so bytes)

pub encoding_fine : NoFault encoded
encoding_fine m = apart StoreFault _ refl (encoded_so m)
