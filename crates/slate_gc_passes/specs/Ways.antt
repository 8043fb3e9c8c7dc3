-- What a pass goes by beside its settings: how bytes are read and written, and what its caller handed in.
use Rattle.std.specs.Prelude.{ℕ, ℤ, List, Result}
use Rattle.slate_ids.specs.declared.error.SlateDBError.{SlateDBError}
use Rattle.slate_ids.specs.declared.number_range.NumberRange.{NumberRange}
use Rattle.slate_model.specs.declared.manifest.Manifest.{Manifest}
use Rattle.slate_model_records.specs.Records.{Record}
use Rattle.slate_gc_passes.specs.declared.logs.Logs.{Logs}
use Rattle.slate_store.specs.declared.object.ObjectMetadata.{ObjectMetadata}

-- how a manifest is read and written, how a record is read, which candidates the filter allows, and which files of the write-ahead log
-- may go, by ranges, listed files, a least age and a moment
pub record Ways : Type 0 where
  pub manifest_of : List ℕ → Result Manifest SlateDBError
  pub bytes_of : Manifest → Result (List ℕ) SlateDBError
  pub record_of : List ℕ → Result Record SlateDBError
  pub allows : List ObjectMetadata → List ObjectMetadata
  pub files : List NumberRange → List ObjectMetadata → ℕ → ℤ → List ObjectMetadata

abbrev pub ways : (List ℕ → Result Manifest SlateDBError) → (Manifest → Result (List ℕ) SlateDBError) → (List ℕ → Result Record SlateDBError)
    → (List ObjectMetadata → List ObjectMetadata) → (List NumberRange → List ObjectMetadata → ℕ → ℤ → List ObjectMetadata) → Ways
ways manifest_of bytes_of record_of allows files = record { manifest_of = manifest_of; bytes_of = bytes_of; record_of = record_of; allows = allows; files = files }

-- the ways of a pass over logs with these codecs
abbrev pub ways_over : {C R : Type 0} → (C → List ℕ → Result Manifest SlateDBError) → (C → Manifest → Result (List ℕ) SlateDBError) → (R → List ℕ → Result Record SlateDBError)
    → Logs C R → (List ObjectMetadata → List ObjectMetadata) → (List NumberRange → List ObjectMetadata → ℕ → ℤ → List ObjectMetadata) → Ways
ways_over manifest_of bytes_of record_of logs allows files = ways (manifest_of logs.manifests) (bytes_of logs.manifests) (record_of logs.records) allows files
