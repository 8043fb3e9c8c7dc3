-- What is known of a table is read back as it was written, and only that is read.
use Rattle.std.specs.Prelude.{◌≡◌, ℕ, ◌++◌, ◌&&◌, Bool, true, false, List, [], ◌∷◌, Option, Some, None, Ok, ok_or, if◌then◌else◌, refl}
use Rattle.std.proofs.Common.{ap, sym, ◌∙◌, arith}
use Rattle.std.proofs.lemmas.List.{append-nil}
use Rattle.std.proofs.lemmas.Bool.{and_parts}
use Rattle.std.proofs.lemmas.Bool.Decides.{nat_tests}
use Rattle.slate_ids.specs.declared.error.SlateDBError.{SlateDBError}
use Rattle.slate_ids.specs.declared.error.SlateDBError.TheVariants.{Corrupt}
use Rattle.slate_ids.specs.declared.error.FormatName.TheVariants.{Info}
use Rattle.slate_model_tables.specs.declared.ss_table_info.SsTableInfo.{SsTableInfo}
use Rattle.slate_layout_parts.specs.Reading.{whole}
use Rattle.slate_layout_parts.specs.Reads.{AreBytes, IsFront, OptionFits}
use Rattle.slate_layout_parts.specs.Texts.{IsShort}
use Rattle.slate_model_tables.specs.declared.table_tags.CompressionTag.{CompressionTag}
use Rattle.slate_model_tables.specs.declared.table_tags.CompressionTag.TheVariants as compressed
use Rattle.slate_model_tables.specs.declared.table_tags.SstType.{SstType}
use Rattle.slate_model_tables.specs.declared.table_tags.SstType.TheVariants as type
use Rattle.slate_model_tables.specs.declared.table_tags.FilterFormat.{FilterFormat}
use Rattle.slate_model_tables.specs.declared.table_tags.FilterFormat.TheVariants as format
use Rattle.slate_layout_parts.specs.InfoParts.{Parts, TagFits, codec_of, codec_number, type_of, type_number, format_of, format_number, are_entries, joined, parts_of, InfoFits, info_bytes, info_in}
use Rattle.slate_layout_parts.specs.laws.Infos.{info_reads}
use Rattle.slate_layout_parts.specs.InfoCodec.{is_short, first_field, info_field, encoded_info, decoded_info, IsTyped}

none_missing : (entries short : Bool) → first_field entries short ≡ None → (entries ≡ true) × (short ≡ true)
none_missing true true h = (refl, refl)
none_missing true false h = absurd cc
none_missing false short h = absurd cc

short_fits : (o : Option (List ℕ)) → is_short o ≡ true → OptionFits IsShort o
short_fits None h = tt
short_fits (Some key) h = grind (arith, nat_tests)

fits_short : (o : Option (List ℕ)) → OptionFits IsShort o → is_short o ≡ true
fits_short None h = refl
fits_short (Some key) h = grind (arith, nat_tests)

pub codec_fits : (c : CompressionTag) → TagFits codec_of codec_number c
codec_fits compressed.None = record { fits = tt; is_made = refl }
codec_fits compressed.Snappy = record { fits = tt; is_made = refl }
codec_fits compressed.Lz4 = record { fits = tt; is_made = refl }
codec_fits compressed.Zlib = record { fits = tt; is_made = refl }
codec_fits compressed.Zstd = record { fits = tt; is_made = refl }

pub type_fits : (t : SstType) → TagFits type_of type_number t
type_fits type.Compacted = record { fits = tt; is_made = refl }
type_fits type.Wal = record { fits = tt; is_made = refl }

pub format_fits : (f : FilterFormat) → TagFits format_of format_number f
format_fits format.Legacy = record { fits = tt; is_made = refl }
format_fits format.Composite = record { fits = tt; is_made = refl }

-- what is known of a table fits where no field is without bytes
pub info_fits : (i : SsTableInfo) → IsTyped i → info_field i ≡ None → InfoFits i
info_fits i typed none =
    let both = none_missing (are_entries i.first_entry i.last_entry) (is_short i.first_entry && is_short i.last_entry) none in
    let short = and_parts (is_short i.first_entry) (is_short i.last_entry) both.1 in
    record {
      fits = (
        (short_fits i.first_entry short.0, short_fits i.last_entry short.1),
        (
          ((typed.index_offset, typed.index_len), (typed.filter_offset, typed.filter_len)),
          ((codec_fits i.compression_codec, type_fits i.sst_type), ((typed.stats_offset, typed.stats_len), format_fits i.filter_format)),
        ),
      );
      is_made = rw both.0 refl;
    }

made_entries : (b : Bool) (p : Parts) (i : SsTableInfo) → (if b then Some (joined p) else None) ≡ Some i → b ≡ true
made_entries true p i h = refl
made_entries false p i h = absurd cc

pub no_field : (i : SsTableInfo) → InfoFits i → info_field i ≡ None
no_field i h =
    let entries : are_entries i.first_entry i.last_entry ≡ true = made_entries (are_entries i.first_entry i.last_entry) (parts_of i) i h.is_made in
    let keys = h.fits.0 in
    rw (entries, fits_short i.first_entry keys.0, fits_short i.last_entry keys.1) refl

-- what is known of a table that fits has its entries in order
pub has_entries_of : (i : SsTableInfo) → InfoFits i → are_entries i.first_entry i.last_entry ≡ true
has_entries_of i h = made_entries (are_entries i.first_entry i.last_entry) (parts_of i) i h.is_made

-- and its keys are short
pub has_short_of : (i : SsTableInfo) → InfoFits i → (is_short i.first_entry && is_short i.last_entry) ≡ true
has_short_of i h = rw (fits_short i.first_entry h.fits.0.0, fits_short i.last_entry h.fits.0.1) refl

-- what is read of all the bytes of a value
pub whole_back : {X : Type 0} (read : List ℕ → Option (X × List ℕ)) (bytes : List ℕ) (x : X) → read (bytes ++ []) ≡ Some (x, []) → whole (read bytes) ≡ Some x
whole_back {X} read bytes x h = ap (λ (l : List ℕ). whole (read l)) (sym (append-nil bytes)) ∙ ap whole h

-- what was read of all the bytes left none
pub whole_only : {X : Type 0} (o : Option (X × List ℕ)) (x : X) → whole o ≡ Some x → o ≡ Some (x, [])
whole_only None x h = absurd cc
whole_only (Some (y, [])) x h = let same : y ≡ x = cc in rw same refl
whole_only (Some (y, (b ∷ rest))) x h = absurd cc

-- the bytes in front of nothing are all of them
pub all_of : (front bytes : List ℕ) → IsFront front bytes [] → front ≡ bytes
all_of front bytes h = sym (append-nil front) ∙ h.is

-- what was encoded is read back
pub info_back : (i : SsTableInfo) → IsTyped i → info_field i ≡ None → decoded_info (info_bytes i) ≡ Ok i
info_back i typed none = ap (λ (o : Option SsTableInfo). ok_or o (Corrupt Info)) (whole_back info_in (info_bytes i) i (info_reads.back i [] (info_fits i typed none)))

pub ok_only : {X : Type 0} (o : Option X) (e : SlateDBError) (x : X) → ok_or o e ≡ Ok x → o ≡ Some x
ok_only None e x h = absurd cc
ok_only (Some y) e x h = cc

-- only what was encoded is read
pub info_only : (bytes : List ℕ) (i : SsTableInfo) → AreBytes bytes → decoded_info bytes ≡ Ok i → encoded_info i ≡ Ok bytes
info_only bytes i small h =
    let found = whole_only (info_in bytes) i (ok_only (whole (info_in bytes)) (Corrupt Info) i h) in
    let one = info_reads.only bytes i [] small found in
    rw (no_field i one.fits) (ap (λ (l : List ℕ). Ok l) (all_of (info_bytes i) bytes one.front_is))
