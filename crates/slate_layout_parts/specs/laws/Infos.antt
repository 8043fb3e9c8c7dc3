-- What is known of a table, and its handle, give back what was written, and find only that.
use Rattle.std.specs.Prelude.{◌≡◌, ℕ, ◌<◌, ◌^◌, ◌==◌, Bool, true, false, Option, Some, None, if◌then◌else◌, refl}
use Rattle.std.proofs.Common.{ap, sym, ◌∙◌, arith}
use Rattle.std.proofs.lemmas.Bool.Decides.{nat_tests}
use Rattle.slate_model_tables.specs.declared.ss_table_id.SsTableId.{SsTableId}
use Rattle.slate_model_tables.specs.declared.ss_table_id.SsTableId.TheVariants.{Compacted}
use Rattle.slate_model_tables.specs.declared.ss_table_info.SsTableInfo.{SsTableInfo}
use Rattle.slate_model_tables.specs.declared.ss_table_handle.SsTableHandle.{SsTableHandle}
use Rattle.slate_model_tables.specs.declared.table_tags.CompressionTag.{CompressionTag}
use Rattle.slate_model_tables.specs.declared.table_tags.CompressionTag.TheVariants as compressed
use Rattle.slate_model_tables.specs.declared.table_tags.SstType.{SstType}
use Rattle.slate_model_tables.specs.declared.table_tags.SstType.TheVariants as type
use Rattle.slate_model_tables.specs.declared.table_tags.FilterFormat.{FilterFormat}
use Rattle.slate_model_tables.specs.declared.table_tags.FilterFormat.TheVariants as format
use Rattle.slate_layout_parts.specs.TablesOfViews.{table_id}
use Rattle.slate_layout_parts.specs.Bytes.{byte_bytes, u16_bytes, counted_bytes, option_bytes}
use Rattle.slate_layout_parts.specs.Reading.{byte_in, u16_in, counted_in, option_in}
use Rattle.slate_layout_parts.specs.Reads.{Reads, OptionFits}
use Rattle.slate_layout_parts.specs.laws.Groups.{option_reads, pair_reads, made_reads}
use Rattle.slate_layout_parts.specs.laws.Atoms.{byte_reads, u16_reads, u64_reads, counted_reads}
use Rattle.slate_layout_parts.specs.Texts.{IsShort, id_bytes, id_in, IdFits}
use Rattle.slate_layout_parts.specs.laws.Texts.{id_reads}
use Rattle.slate_layout_parts.specs.InfoParts.{codec_of, codec_number, type_of, type_number, format_of, format_number, tag_in, TagFits, Parts, are_entries, joined, info_of, parts_of, entries_in, entries_bytes, EntriesFit, two_in, two_bytes, TwoFit, tags_in, tags_bytes, TagsFit, parts_in, parts_bytes, PartsFit, info_bytes, info_in, InfoFits, HandleParts, handle_of, handle_parts, handle_bytes, handle_in, HandleFits, table_of, table_bytes, table_in, TableFits}

-- ---- tags, of one byte each

-- one number more of a tag
pub word_back : {C : Type 0} (number : C → ℕ) (k : ℕ) (x : C) (n : ℕ) (t : Bool) (rest : Option C) (c : C) → number x ≡ k → n == k ≡ t
    → (rest ≡ Some c → number c ≡ n) → (if t then Some x else rest) ≡ Some c → number c ≡ n
word_back number k x n true rest c is e more h =
    let same : x ≡ c = cc in
    let there : n ≡ k = grind (arith, nat_tests) in
    sym (ap number same) ∙ is ∙ sym there
word_back number k x n false rest c is e more h = more h

pub no_number : {C : Type 0} (number : C → ℕ) (n : ℕ) (c : C) → (let o : Option C = None in o) ≡ Some c → number c ≡ n
no_number number n c h = absurd cc

codec_back : (n : ℕ) (c : CompressionTag) → codec_of n ≡ Some c → codec_number c ≡ n
codec_back n c h =
    word_back codec_number 0 compressed.None n (n == 0) _ c refl refl (λ h. word_back codec_number 1 compressed.Snappy n (n == 1) _ c refl refl
    (λ h. word_back codec_number 2 compressed.Lz4 n (n == 2) _ c refl refl
    (λ h. word_back codec_number 3 compressed.Zlib n (n == 3) _ c refl refl
    (λ h. word_back codec_number 4 compressed.Zstd n (n == 4) _ c refl refl (λ h. no_number codec_number n c h) h) h) h) h) h

type_back : (n : ℕ) (c : SstType) → type_of n ≡ Some c → type_number c ≡ n
type_back n c h = word_back type_number 0 type.Compacted n (n == 0) _ c refl refl (λ h. word_back type_number 1 type.Wal n (n == 1) _ c refl refl (λ h. no_number type_number n c h) h) h

format_back : (n : ℕ) (c : FilterFormat) → format_of n ≡ Some c → format_number c ≡ n
format_back n c h = word_back format_number 0 format.Legacy n (n == 0) _ c refl refl (λ h. word_back format_number 1 format.Composite n (n == 1) _ c refl refl (λ h. no_number format_number n c h) h) h

pub tag_reads : {C : Type 0} (tag : ℕ → Option C) (number : C → ℕ) → ((n : ℕ) (c : C) → tag n ≡ Some c → number c ≡ n) → Reads (tag_in tag) (λ c. byte_bytes (number c)) (TagFits tag number) 1
tag_reads tag number back = made_reads byte_in byte_bytes (λ n. Unit {0}) 1 byte_reads tag number (λ x y fits e. back x y e)

pub codec_reads : Reads (tag_in codec_of) (λ c. byte_bytes (codec_number c)) (TagFits codec_of codec_number) 1
codec_reads = tag_reads codec_of codec_number codec_back

pub type_reads : Reads (tag_in type_of) (λ c. byte_bytes (type_number c)) (TagFits type_of type_number) 1
type_reads = tag_reads type_of type_number type_back

pub format_reads : Reads (tag_in format_of) (λ c. byte_bytes (format_number c)) (TagFits format_of format_number) 1
format_reads = tag_reads format_of format_number format_back

-- ---- the bytes of the parts

entry_reads : Reads (option_in counted_in) (option_bytes counted_bytes) (OptionFits IsShort) 1
entry_reads = option_reads counted_in counted_bytes IsShort 4 counted_reads

entries_reads : Reads entries_in entries_bytes EntriesFit 1
entries_reads = pair_reads _ _ _ 1 entry_reads _ _ _ 1 entry_reads

two_reads : Reads two_in two_bytes TwoFit 8
two_reads = pair_reads _ _ _ 8 u64_reads _ _ _ 8 u64_reads

tags_reads : Reads tags_in tags_bytes TagsFit 1
tags_reads = pair_reads _ _ _ 1 codec_reads _ _ _ 1 type_reads

pub parts_reads : Reads parts_in parts_bytes PartsFit 1
parts_reads = pair_reads _ _ _ 1 entries_reads _ _ _ 8 (pair_reads _ _ _ 8 (pair_reads _ _ _ 8 two_reads _ _ _ 8 two_reads) _ _ _ 1
    (pair_reads _ _ _ 1 tags_reads _ _ _ 8 (pair_reads _ _ _ 8 two_reads _ _ _ 1 format_reads)))

-- ---- the bytes of what is known

apart : (b : Bool) (p : Parts) (i : SsTableInfo) → (if b then Some (joined p) else None) ≡ Some i → parts_of i ≡ p
apart true p i h = let same : joined p ≡ i = cc in sym (ap parts_of same)
apart false p i h = absurd cc

pub info_reads : Reads info_in info_bytes InfoFits 1
info_reads = made_reads parts_in parts_bytes PartsFit 1 parts_reads info_of parts_of (λ x y fits e. apart (are_entries x.0.0 x.0.1) x y e)

-- ---- a table's handle

handle_apart : (p : HandleParts) (h : SsTableHandle) → handle_of p ≡ Some h → handle_parts h ≡ p
handle_apart p h e =
    let same : (let k : SsTableHandle = record { id = Compacted p.0; format_version = p.1.0; info = p.1.1 } in k) ≡ h = cc in
    sym (ap handle_parts same)

pub handle_reads : Reads handle_in handle_bytes HandleFits 8
handle_reads = made_reads _ _ _ 8 (pair_reads id_in id_bytes IdFits 8 id_reads _ _ _ 2
    (pair_reads u16_in u16_bytes (λ n. n < 2 ^ 16) 2 u16_reads info_in info_bytes InfoFits 1 info_reads)) handle_of handle_parts
    (λ x y fits e. handle_apart x y e)

-- ---- ids of tables

table_apart : (x : ℕ × ℕ) (y : SsTableId) → table_of x ≡ Some y → table_id y ≡ x
table_apart x y e = let same : Compacted x ≡ y = cc in sym (ap table_id same)

pub table_reads : Reads table_in table_bytes TableFits 8
table_reads = made_reads id_in id_bytes IdFits 8 id_reads table_of table_id (λ x y fits e. table_apart x y e)
