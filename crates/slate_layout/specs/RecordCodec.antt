-- The codec of records.
use Rattle.std.specs.Prelude.{ℕ, List, Result}
use Rattle.slate_ids.specs.declared.error.SlateDBError.{SlateDBError}
use Rattle.slate_ids.specs.declared.error.FormatName.TheVariants as format
use Rattle.slate_model_records.specs.Records.{Record}
use Rattle.slate_layout.specs.Codec.{if_typed}
use Rattle.slate_layout_records.specs.RecordFields.{is_record, encoded_record}

-- the bytes of a record, or why it has none
abbrev pub record_encoded : Record → Result (List ℕ) SlateDBError
record_encoded r = if_typed format.Compactions (is_record r) (encoded_record r)
