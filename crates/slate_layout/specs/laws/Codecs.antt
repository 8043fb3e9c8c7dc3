-- What was encoded is read back as its normal form.
use Rattle.std.specs.Prelude.{◌≡◌, Bool, true, false, List, ℕ, Result, Ok, Err, refl}
use Rattle.slate_ids.specs.declared.error.SlateDBError.{SlateDBError}
use Rattle.slate_ids.specs.declared.error.FormatName.{FormatName}
use Rattle.slate_ids.specs.declared.error.FormatName.TheVariants as format
use Rattle.slate_model.specs.declared.manifest.Manifest.{Manifest}
use Rattle.slate_layout_manifests.specs.Decoding.{decoded_manifest}
use Rattle.slate_layout_encodable.specs.Normal.{normal_manifest}
use Rattle.slate_layout_manifests.specs.TypedManifests.{is_manifest}
use Rattle.slate_layout_encoding.specs.Encoding.{encoded_manifest}
use Rattle.slate_layout_encoding.proofs.RoundTrip.{round_trip}
use Rattle.slate_model_records.specs.Records.{Record}
use Rattle.slate_layout.specs.Codec.{if_typed, encoded}
use Rattle.slate_layout_records.specs.RecordBytes.{decoded_record}
use Rattle.slate_layout_records.specs.RecordNormal.{normal_record}
use Rattle.slate_layout_records.specs.RecordFields.{is_record, encoded_record}
use Rattle.slate_layout_records.proofs.RecordTrip.{record_trip}
use Rattle.slate_layout.specs.RecordCodec.{record_encoded}

pub both_told : (name : FormatName) (typed : Bool) (r : Result (List ℕ) SlateDBError) (bytes : List ℕ) → if_typed name typed r ≡ Ok bytes → (typed ≡ true) × (r ≡ Ok bytes)
both_told name true (Ok l) bytes h = (refl, h)
both_told name false (Ok l) bytes h = absurd cc
both_told name typed (Err e) bytes h = absurd cc

-- decoding what was encoded gives the normal form
pub codec_round_trip : (m : Manifest) (bytes : List ℕ) → encoded m ≡ Ok bytes → decoded_manifest bytes ≡ Ok (normal_manifest m)
codec_round_trip m bytes h = let p = both_told format.Manifest (is_manifest m) (encoded_manifest m) bytes h in round_trip m bytes p.0 p.1

-- decoding what was encoded gives the normal form
pub record_codec_trip : (r : Record) (bytes : List ℕ) → record_encoded r ≡ Ok bytes → decoded_record bytes ≡ Ok (normal_record r)
record_codec_trip r bytes h = let p = both_told format.Compactions (is_record r) (encoded_record r) bytes h in record_trip r bytes p.0 p.1
