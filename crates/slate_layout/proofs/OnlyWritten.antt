-- Bytes of version 2 that were decoded to a manifest are those that it is encoded to.
use Rattle.std.specs.Prelude.{◌≡◌, ℕ, List, ◌∷◌, Some, Ok}
use Rattle.std.proofs.Common.{ap, sym, ◌∙◌, subst}
use Rattle.slate_ids.specs.declared.error.SlateDBError.TheVariants.{Corrupt}
use Rattle.slate_ids.specs.declared.error.FormatName.TheVariants as format
use Rattle.slate_model.specs.declared.manifest.Manifest.{Manifest}
use Rattle.slate_layout_parts.specs.Reads.{AreBytes}
use Rattle.slate_layout_parts.specs.laws.Parts.{AreBytes-rest}
use Rattle.slate_layout_parts.proofs.InfoTrip.{ok_only}
use Rattle.slate_layout_manifests.specs.ManifestParts.{second_version}
use Rattle.slate_layout_manifests.specs.Decoding.{after_version, decoded_manifest}
use Rattle.slate_layout_encoding.specs.Encoding.{encoded_manifest}
use Rattle.slate_layout_encoding.proofs.RoundTrip.{version_of}
use Rattle.slate_layout_encoding.proofs.Written.{only_second}
use Rattle.slate_layout.specs.Written.{OnlyWritten}

decoded_by : (rest : List ℕ) (m : Manifest) → decoded_manifest (0 ∷ 2 ∷ rest) ≡ Ok m → second_version rest ≡ Some m
decoded_by rest m e = ok_only (second_version rest) (Corrupt format.Manifest) m (sym (ap after_version (version_of rest)) ∙ e)

pub only_written : (bytes : List ℕ) (m : Manifest) → AreBytes bytes → decoded_manifest bytes ≡ Ok m → OnlyWritten bytes m
only_written bytes m small e rest is =
    let all : AreBytes (0 ∷ 2 ∷ rest) = subst (λ (l : List ℕ). AreBytes l) is small in
    let left = AreBytes-rest 2 rest (AreBytes-rest 0 (2 ∷ rest) all) in
    only_second rest m left (decoded_by rest m (subst (λ (l : List ℕ). decoded_manifest l ≡ Ok m) is e)) ∙ ap (λ (l : List ℕ). Ok l) (sym is)
