-- Handles that are told equal are equal.
use Rattle.std.specs.Prelude.{◌≡◌, ℕ, ◌==◌, true, List, Option, Some, None, refl}
use Rattle.std.proofs.Common.{ap, sym, ◌∙◌, arith}
use Rattle.std.proofs.lemmas.Bool.{and_parts}
use Rattle.std.proofs.lemmas.Bool.Decides.{nat_tests}
use Rattle.std.proofs.lemmas.Slice.Eq.{bytes_eq-Decides}
use Rattle.slate_model_tables.specs.declared.ss_table_id.SsTableId.{SsTableId}
use Rattle.slate_model_tables.specs.declared.ss_table_id.SsTableId.TheVariants.{Wal, Compacted}
use Rattle.slate_model_tables.specs.declared.ss_table_info.SsTableInfo.{SsTableInfo}
use Rattle.slate_model_tables.specs.declared.ss_table_handle.SsTableHandle.{SsTableHandle}
use Rattle.slate_model_tables.specs.declared.table_tags.CompressionTag.{CompressionTag}
use Rattle.slate_model_tables.specs.declared.table_tags.SstType.{SstType}
use Rattle.slate_model_tables.specs.declared.table_tags.FilterFormat.{FilterFormat}
use Rattle.slate_model.specs.Externals.{same_table}
use Rattle.slate_layout_parts.specs.InfoParts.{joined, parts_of, codec_of, codec_number, type_of, type_number, format_of, format_number}
use Rattle.slate_layout_parts.proofs.InfoTrip.{codec_fits, type_fits, format_fits}
use Rattle.slate_layout_manifests.specs.Gathered.{same_key, same_info, same_handle}

number_is : (a b : ℕ) → a == b ≡ true → a ≡ b
number_is a b h = grind (arith, nat_tests)

key_is : (a b : Option (List ℕ)) → same_key a b ≡ true → a ≡ b
key_is None None h = refl
key_is (Some a) (Some b) h = ap (λ (l : List ℕ). Some l) ((bytes_eq-Decides a b).0 h)
key_is None (Some b) h = absurd cc
key_is (Some a) None h = absurd cc

by_number : {C : Type 0} (tag : ℕ → Option C) (number : C → ℕ) (c d : C) → tag (number c) ≡ Some c → tag (number d) ≡ Some d → number c ≡ number d → c ≡ d
by_number tag number c d f g e = let same : Some c ≡ Some d = sym f ∙ ap tag e ∙ g in cc

codec_is : (c d : CompressionTag) → codec_number c == codec_number d ≡ true → c ≡ d
codec_is c d h = by_number codec_of codec_number c d (codec_fits c).is_made (codec_fits d).is_made (number_is (codec_number c) (codec_number d) h)

type_is : (c d : SstType) → type_number c == type_number d ≡ true → c ≡ d
type_is c d h = by_number type_of type_number c d (type_fits c).is_made (type_fits d).is_made (number_is (type_number c) (type_number d) h)

format_is : (c d : FilterFormat) → format_number c == format_number d ≡ true → c ≡ d
format_is c d h = by_number format_of format_number c d (format_fits c).is_made (format_fits d).is_made (number_is (format_number c) (format_number d) h)

-- the tests, one after the other from the last
info_is : (i j : SsTableInfo) → same_info i j ≡ true → i ≡ j
info_is i j h =
    let k = and_parts _ (format_number i.filter_format == format_number j.filter_format) h in
    let s = and_parts _ (i.stats_len == j.stats_len) k.0 in
    let r = and_parts _ (i.stats_offset == j.stats_offset) s.0 in
    let t = and_parts _ (type_number i.sst_type == type_number j.sst_type) r.0 in
    let c = and_parts _ (codec_number i.compression_codec == codec_number j.compression_codec) t.0 in
    let g = and_parts _ (i.filter_len == j.filter_len) c.0 in
    let f = and_parts _ (i.filter_offset == j.filter_offset) g.0 in
    let n = and_parts _ (i.index_len == j.index_len) f.0 in
    let x = and_parts _ (i.index_offset == j.index_offset) n.0 in
    let e = and_parts (same_key i.first_entry j.first_entry) (same_key i.last_entry j.last_entry) x.0 in
    let parts : parts_of i ≡ parts_of j = rw (key_is i.first_entry j.first_entry e.0, key_is i.last_entry j.last_entry e.1, number_is i.index_offset j.index_offset x.1, number_is i.index_len j.index_len n.1, number_is i.filter_offset j.filter_offset f.1, number_is i.filter_len j.filter_len g.1, codec_is i.compression_codec j.compression_codec c.1, type_is i.sst_type j.sst_type t.1, number_is i.stats_offset j.stats_offset r.1, number_is i.stats_len j.stats_len s.1, format_is i.filter_format j.filter_format k.1) refl in
    ap joined parts

table_is : (a b : SsTableId) → same_table a b ≡ true → a ≡ b
table_is (Wal a) (Wal b) h = ap (λ (n : ℕ). Wal n) (number_is a b h)
table_is (Compacted a) (Compacted b) h =
    let both = and_parts (a.0 == b.0) (a.1 == b.1) h in
    let first = number_is a.0 b.0 both.0 in
    let second = number_is a.1 b.1 both.1 in
    ap (λ (id : ℕ × ℕ). Compacted id) (rw (first, second) refl)
table_is (Wal a) (Compacted b) h = absurd cc
table_is (Compacted a) (Wal b) h = absurd cc

abbrev HandleFields : Type 0
HandleFields = SsTableId × (ℕ × SsTableInfo)

made : HandleFields → SsTableHandle
made f = record { id = f.0; format_version = f.1.0; info = f.1.1 }

pub handle_is : (h k : SsTableHandle) → same_handle h k ≡ true → h ≡ k
unfolding made
handle_is h k e =
    let i = and_parts _ (same_info h.info k.info) e in
    let f = and_parts (same_table h.id k.id) (h.format_version == k.format_version) i.0 in
    let fields : (let a : HandleFields = (h.id, (h.format_version, h.info)) in a) ≡ (k.id, (k.format_version, k.info)) = rw (table_is h.id k.id f.0, number_is h.format_version k.format_version f.1, info_is h.info k.info i.1) refl in
    ap made fields

-- ---- a handle is told equal to itself

number_itself : (n : ℕ) → n == n ≡ true
number_itself n = grind (arith, nat_tests)

key_itself : (o : Option (List ℕ)) → same_key o o ≡ true
key_itself None = refl
key_itself (Some key) = (bytes_eq-Decides key key).1 refl

table_itself : (t : SsTableId) → same_table t t ≡ true
table_itself (Wal n) = number_itself n
table_itself (Compacted id) = rw (number_itself id.0, number_itself id.1) refl

info_itself : (i : SsTableInfo) → same_info i i ≡ true
info_itself i =
    rw (key_itself i.first_entry, key_itself i.last_entry, number_itself i.index_offset, number_itself i.index_len, number_itself i.filter_offset, number_itself i.filter_len, number_itself (codec_number i.compression_codec), number_itself (type_number i.sst_type), number_itself i.stats_offset, number_itself i.stats_len, number_itself (format_number i.filter_format)) refl

pub handle_itself : (h : SsTableHandle) → same_handle h h ≡ true
handle_itself h = rw (table_itself h.id, number_itself h.format_version, info_itself h.info) refl
