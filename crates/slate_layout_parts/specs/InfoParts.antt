-- The bytes of what is known of a table, and of its handle.
use Rattle.std.specs.Prelude.{◌≡◌, ℕ, ◌<◌, ◌^◌, ◌==◌, Bool, true, false, List, Option, Some, None, if◌then◌else◌}
use Rattle.slate_ids.specs.Keys.{key_le}
use Rattle.slate_model_tables.specs.declared.ss_table_id.SsTableId.{SsTableId}
use Rattle.slate_model_tables.specs.declared.ss_table_id.SsTableId.TheVariants.{Compacted}
use Rattle.slate_model_tables.specs.declared.ss_table_info.SsTableInfo.{SsTableInfo}
use Rattle.slate_model_tables.specs.declared.ss_table_handle.SsTableHandle.{SsTableHandle}
use Rattle.slate_model_tables.specs.declared.table_tags.CompressionTag.{CompressionTag}
use Rattle.slate_model_tables.specs.declared.table_tags.CompressionTag.TheVariants as compressed
use Rattle.slate_model_tables.specs.declared.table_tags.SstType.{SstType}
use Rattle.slate_model_tables.specs.declared.table_tags.SstType.TheVariants as type
use Rattle.slate_model_tables.specs.declared.table_tags.FilterFormat.{FilterFormat}
use Rattle.slate_model_tables.specs.declared.table_tags.FilterFormat.TheVariants as format
use Rattle.slate_layout_parts.specs.TablesOfViews.{table_id}
use Rattle.slate_layout_parts.specs.Bytes.{is_u64, byte_bytes, u16_bytes, u64_bytes, counted_bytes, option_bytes, pair_bytes}
use Rattle.slate_layout_parts.specs.Reading.{byte_in, u16_in, u64_in, counted_in, option_in, pair_in, made_in}
use Rattle.slate_layout_parts.specs.Reads.{OptionFits, PairFits, MadeFits}
use Rattle.slate_layout_parts.specs.Texts.{IsShort, id_bytes, id_in, IdFits}

-- ---- tags, of one byte each

-- how blocks are compressed, by its number
abbrev pub codec_of : ℕ → Option CompressionTag
codec_of n = if n == 0 then Some compressed.None else if n == 1 then Some compressed.Snappy else if n == 2 then Some compressed.Lz4
    else if n == 3 then Some compressed.Zlib else if n == 4 then Some compressed.Zstd else None

abbrev pub codec_number : CompressionTag → ℕ
codec_number compressed.None = 0
codec_number compressed.Snappy = 1
codec_number compressed.Lz4 = 2
codec_number compressed.Zlib = 3
codec_number compressed.Zstd = 4

-- what wrote a table, by its number
abbrev pub type_of : ℕ → Option SstType
type_of n = if n == 0 then Some type.Compacted else if n == 1 then Some type.Wal else None

abbrev pub type_number : SstType → ℕ
type_number type.Compacted = 0
type_number type.Wal = 1

-- the form of filters, by its number
abbrev pub format_of : ℕ → Option FilterFormat
format_of n = if n == 0 then Some format.Legacy else if n == 1 then Some format.Composite else None

abbrev pub format_number : FilterFormat → ℕ
format_number format.Legacy = 0
format_number format.Composite = 1

-- a tag by its number
abbrev pub tag_in : {C : Type 0} → (ℕ → Option C) → List ℕ → Option (C × List ℕ)
tag_in tag = made_in tag byte_in

abbrev pub TagFits : {C : Type 0} → (ℕ → Option C) → (C → ℕ) → C → Type 0
TagFits tag number = MadeFits tag number (λ n. Unit {0})

-- ---- what is known of a table

-- the first and the last key
abbrev pub Entries : Type 0
Entries = Option (List ℕ) × Option (List ℕ)

-- two numbers
abbrev pub Two : Type 0
Two = ℕ × ℕ

-- index and filters; codec and type; statistics and the form of filters
abbrev pub Places : Type 0
Places = (Two × Two) × ((CompressionTag × SstType) × (Two × FilterFormat))

-- the parts of what is known, in the order of their bytes: keys, and places
abbrev pub Parts : Type 0
Parts = Entries × Places

-- whether a last key is there only after a first one, and isn't below it
abbrev pub are_entries : Option (List ℕ) → Option (List ℕ) → Bool
are_entries None None = true
are_entries None (Some last) = false
are_entries (Some first) None = true
are_entries (Some first) (Some last) = key_le first last

-- what is known, of its parts
abbrev pub joined : Parts → SsTableInfo
joined ((first, last), ((index, filters), ((codec, written_by), (statistics, form)))) = record {
  first_entry = first;
  last_entry = last;
  index_offset = index.0;
  index_len = index.1;
  filter_offset = filters.0;
  filter_len = filters.1;
  compression_codec = codec;
  sst_type = written_by;
  stats_offset = statistics.0;
  stats_len = statistics.1;
  filter_format = form;
}

-- the same, where the keys are in order
abbrev pub info_of : Parts → Option SsTableInfo
info_of p = if are_entries p.0.0 p.0.1 then Some (joined p) else None

abbrev pub parts_of : SsTableInfo → Parts
parts_of i = ((i.first_entry, i.last_entry), (((i.index_offset, i.index_len), (i.filter_offset, i.filter_len)), ((i.compression_codec, i.sst_type), ((i.stats_offset, i.stats_len), i.filter_format))))

-- ---- the bytes of the parts

abbrev pub entries_in : List ℕ → Option (Entries × List ℕ)
entries_in = pair_in (option_in counted_in) (option_in counted_in)

abbrev pub entries_bytes : Entries → List ℕ
entries_bytes = pair_bytes (option_bytes counted_bytes) (option_bytes counted_bytes)

abbrev pub EntriesFit : Entries → Type 0
EntriesFit = PairFits (OptionFits IsShort) (OptionFits IsShort)

abbrev IsU64 : ℕ → Type 0
IsU64 n = is_u64 n ≡ true

abbrev pub two_in : List ℕ → Option (Two × List ℕ)
two_in = pair_in u64_in u64_in

abbrev pub two_bytes : Two → List ℕ
two_bytes = pair_bytes u64_bytes u64_bytes

abbrev pub TwoFit : Two → Type 0
TwoFit = PairFits IsU64 IsU64

abbrev pub tags_in : List ℕ → Option ((CompressionTag × SstType) × List ℕ)
tags_in = pair_in (tag_in codec_of) (tag_in type_of)

abbrev pub tags_bytes : CompressionTag × SstType → List ℕ
tags_bytes = pair_bytes (λ c. byte_bytes (codec_number c)) (λ t. byte_bytes (type_number t))

abbrev pub TagsFit : CompressionTag × SstType → Type 0
TagsFit = PairFits (TagFits codec_of codec_number) (TagFits type_of type_number)

abbrev pub parts_in : List ℕ → Option (Parts × List ℕ)
parts_in = pair_in entries_in (pair_in (pair_in two_in two_in) (pair_in tags_in (pair_in two_in (tag_in format_of))))

abbrev pub parts_bytes : Parts → List ℕ
parts_bytes = pair_bytes entries_bytes (pair_bytes (pair_bytes two_bytes two_bytes) (pair_bytes tags_bytes (pair_bytes two_bytes (λ f. byte_bytes (format_number f)))))

abbrev pub PartsFit : Parts → Type 0
PartsFit = PairFits EntriesFit (PairFits (PairFits TwoFit TwoFit) (PairFits TagsFit (PairFits TwoFit (TagFits format_of format_number))))

-- ---- the bytes of what is known

abbrev pub info_bytes : SsTableInfo → List ℕ
info_bytes i = parts_bytes (parts_of i)

abbrev pub info_in : List ℕ → Option (SsTableInfo × List ℕ)
info_in = made_in info_of parts_in

abbrev pub InfoFits : SsTableInfo → Type 0
InfoFits = MadeFits info_of parts_of PartsFit

-- ---- a table's handle

-- the id, the version of the format, and what is known
abbrev pub HandleParts : Type 0
HandleParts = (ℕ × ℕ) × (ℕ × SsTableInfo)

abbrev pub handle_of : HandleParts → Option SsTableHandle
handle_of p = Some (record { id = Compacted p.0; format_version = p.1.0; info = p.1.1 })

abbrev pub handle_parts : SsTableHandle → HandleParts
handle_parts h = (table_id h.id, (h.format_version, h.info))

abbrev pub handle_bytes : SsTableHandle → List ℕ
handle_bytes h = pair_bytes id_bytes (pair_bytes u16_bytes info_bytes) (handle_parts h)

abbrev pub handle_in : List ℕ → Option (SsTableHandle × List ℕ)
handle_in = made_in handle_of (pair_in id_in (pair_in u16_in info_in))

abbrev pub HandleFits : SsTableHandle → Type 0
HandleFits = MadeFits handle_of handle_parts (PairFits IdFits (PairFits (λ n. n < 2 ^ 16) InfoFits))

-- ---- ids of tables

-- the compacted table of an id
abbrev pub table_of : ℕ × ℕ → Option SsTableId
table_of id = Some (Compacted id)

abbrev pub table_bytes : SsTableId → List ℕ
table_bytes t = id_bytes (table_id t)

abbrev pub table_in : List ℕ → Option (SsTableId × List ℕ)
table_in = made_in table_of id_in

abbrev pub TableFits : SsTableId → Type 0
TableFits = MadeFits table_of table_id IdFits
