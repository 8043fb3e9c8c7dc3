-- What is known of a table, as bytes: which have none, and what bytes stand for.
use Rattle.std.specs.Prelude.{◌≡◌, ℕ, ◌^◌, ◌&&◌, nat_lt, Bool, true, not, List, length, Option, Some, None, Result, Ok, Err, ok_or, if◌then◌else◌}
use Rattle.slate_ids.specs.declared.error.SlateDBError.{SlateDBError}
use Rattle.slate_ids.specs.declared.error.SlateDBError.TheVariants.{Corrupt, Unencodable}
use Rattle.slate_ids.specs.declared.error.FieldName.{FieldName}
use Rattle.slate_ids.specs.declared.error.FieldName.TheVariants.{NoKeys, Length}
use Rattle.slate_ids.specs.declared.error.FormatName.TheVariants.{Info}
use Rattle.slate_model_tables.specs.declared.ss_table_info.SsTableInfo.{SsTableInfo}
use Rattle.slate_layout_parts.specs.Bytes.{is_u64}
use Rattle.slate_layout_parts.specs.Reading.{whole}
use Rattle.slate_layout_parts.specs.InfoParts.{are_entries, info_bytes, info_in}

-- ---- definitions

-- bytes, or the refusal of a field that has none
abbrev pub unless_field : Option FieldName → List ℕ → Result (List ℕ) SlateDBError
unless_field None bytes = Ok bytes
unless_field (Some field) bytes = Err (Unencodable field)

-- whether a key, where there is one, has 32 bits of length
abbrev pub is_short : Option (List ℕ) → Bool
is_short None = true
is_short (Some key) = nat_lt (length key) (2 ^ 32)

-- the first field that has no bytes, with the answers to the questions in their order
abbrev pub first_field : Bool → Bool → Option FieldName
first_field entries short = if not entries then Some NoKeys else if not short then Some Length else None

-- the first field of what is known of a table that has no bytes
abbrev pub info_field : SsTableInfo → Option FieldName
info_field i = first_field (are_entries i.first_entry i.last_entry) (is_short i.first_entry && is_short i.last_entry)

-- the bytes of what is known of a table, or the field that has none
abbrev pub encoded_info : SsTableInfo → Result (List ℕ) SlateDBError
encoded_info i = unless_field (info_field i) (info_bytes i)

-- what is known of a table, of its bytes
abbrev pub decoded_info : List ℕ → Result SsTableInfo SlateDBError
decoded_info bytes = ok_or (whole (info_in bytes)) (Corrupt Info)

-- ---- laws

-- the numbers have 64 bits
pub record IsTyped (i : SsTableInfo) : Type 0 where
  pub index_offset : is_u64 i.index_offset ≡ true
  pub index_len : is_u64 i.index_len ≡ true
  pub filter_offset : is_u64 i.filter_offset ≡ true
  pub filter_len : is_u64 i.filter_len ≡ true
  pub stats_offset : is_u64 i.stats_offset ≡ true
  pub stats_len : is_u64 i.stats_len ≡ true
