-- The bytes that a record was written as.
use Rattle.std.specs.Prelude.{◌≡◌, ℕ, List, ◌∷◌, map, Ok}
use Rattle.slate_model_records.specs.Records.{Record}
use Rattle.slate_layout_records.specs.RecordBytes.{Raw, compaction_of, entries_bytes}
use Rattle.slate_layout_records.specs.RecordFields.{record_bytes, encoded_record}

-- bytes of version 2 are those of a record but for outputs that aren't kept: of an epoch, and of parts that are the compactions once
-- those outputs are let go; and the record has bytes
pub record IsWrittenAs (r : Record) (bytes : List ℕ) : Type 0 where
  pub raws : List Raw
  pub are_entries : map compaction_of raws ≡ r.entries
  pub is : 0 ∷ 2 ∷ entries_bytes (r.compactor_epoch, raws) ≡ bytes
  pub has_bytes : encoded_record r ≡ Ok (record_bytes r)

-- bytes of version 2 that were decoded to a record are those that it was written as
abbrev pub OnlyWritten : List ℕ → Record → Type 0
OnlyWritten bytes r = (rest : List ℕ) → bytes ≡ 0 ∷ 2 ∷ rest → IsWrittenAs r bytes
