-- Values of their types that have bytes fit.
use Rattle.std.specs.Prelude.{◌≡◌, ℕ, ◌<◌, ◌^◌, ◌*◌, ◌+◌, ◌/◌, ◌%◌, ◌&&◌, nat_lt, Bool, true, false, List, [], ◌∷◌, length, Option, Some, None, refl}
use Rattle.std.specs.List.{list_all}
use Rattle.std.specs.Str.{is_utf8}
use Rattle.std.specs.declared.ops.Bound.{Bound}
use Rattle.std.specs.declared.ops.Bound.TheVariants.{Included, Excluded, Unbounded}
use Rattle.std.proofs.Common.{ap, arith, ltb-true}
use Rattle.std.proofs.lemmas.Bool.{and_parts}
use Rattle.std.proofs.lemmas.Bool.Decides.{nat_tests}
use Rattle.slate_ids.specs.KeyRange.{KeyRange, is_proper}
use Rattle.slate_model_tables.specs.declared.ss_table_id.SsTableId.{SsTableId}
use Rattle.slate_model_tables.specs.declared.ss_table_id.SsTableId.TheVariants.{Wal, Compacted}
use Rattle.slate_model_tables.specs.declared.ss_table_info.SsTableInfo.{SsTableInfo}
use Rattle.slate_model_tables.specs.declared.ss_table_handle.SsTableHandle.{SsTableHandle}
use Rattle.slate_model_tables.specs.Tables.{is_compacted}
use Rattle.slate_layout_parts.specs.TablesOfViews.{table_id}
use Rattle.slate_layout_parts.specs.Bytes.{is_u64}
use Rattle.slate_layout_parts.specs.laws.Parts.{u64_is}
use Rattle.slate_layout_parts.specs.Reads.{OptionFits, EachFits, PairFits}
use Rattle.slate_layout_parts.specs.Texts.{TextFits, IdFits}
use Rattle.slate_layout_parts.specs.RangeParts.{BoundFits, RangeFits}
use Rattle.slate_layout_parts.specs.InfoParts.{are_entries, InfoFits, HandleFits, TableFits}
use Rattle.slate_layout_parts.specs.InfoCodec.{IsTyped, is_short, first_field}
use Rattle.slate_layout_parts.proofs.InfoTrip.{info_fits}
use Rattle.slate_layout_parts.specs.Typed.{none_or, is_u16, is_sixteen, are_two, is_info, is_handle, is_table}
use Rattle.slate_ids.specs.Ulids.{is_id}
use Rattle.slate_layout_parts.specs.Lengths.{few, short_bound, short_range}

-- ---- groups

pub option_fits : {X : Type 0} (test : X → Bool) (Fits : X → Type 0) → ((x : X) → test x ≡ true → Fits x) → (o : Option X) → none_or test o ≡ true → OptionFits Fits o
option_fits test Fits fit None h = tt
option_fits test Fits fit (Some x) h = fit x h

pub each_fits : {X : Type 0} (test : X → Bool) (Fits : X → Type 0) → ((x : X) → test x ≡ true → Fits x) → (xs : List X) → list_all test xs ≡ true → EachFits Fits xs
each_fits test Fits fit [] h = tt
each_fits test Fits fit (x ∷ xs) h = let p = and_parts (test x) (list_all test xs) h in (fit x p.0, each_fits test Fits fit xs p.1)

-- the same of values of which two things are told
pub each_of_two : {X : Type 0} (test also : X → Bool) (Fits : X → Type 0) → ((x : X) → test x ≡ true → also x ≡ true → Fits x) → (xs : List X) → list_all test xs ≡ true → list_all also xs ≡ true → EachFits Fits xs
each_of_two test also Fits fit [] h g = tt
each_of_two test also Fits fit (x ∷ xs) h g =
    let p = and_parts (test x) (list_all test xs) h in
    let q = and_parts (also x) (list_all also xs) g in
    (fit x p.0 q.0, each_of_two test also Fits fit xs p.1 q.1)

-- ---- numbers, ids and texts

pub below : (n k : ℕ) → nat_lt n k ≡ true → n < k
below n k h = ltb-true n k h

pub few_is : (n : ℕ) → few n ≡ true → n < 2 ^ 32
few_is n h = below n (2 ^ 32) h

halves : (a b : ℕ) → a < 2 ^ 48 → b < 2 ^ 80 → ((a * 2 ^ 80 + b) / 2 ^ 64 < 2 ^ 64) × ((a * 2 ^ 80 + b) % 2 ^ 64 < 2 ^ 64)
halves a b h g = (omega arith, omega arith)

joined_halves : (a b : ℕ) → a < 2 ^ 48 → b < 2 ^ 80 → (((a * 2 ^ 80 + b) / 2 ^ 64 * 2 ^ 64 + (a * 2 ^ 80 + b) % 2 ^ 64) / 2 ^ 80 ≡ a) × (((a * 2 ^ 80 + b) / 2 ^ 64 * 2 ^ 64 + (a * 2 ^ 80 + b) % 2 ^ 64) % 2 ^ 80 ≡ b)
joined_halves a b h g = (omega arith, omega arith)

pub id_fits : (id : ℕ × ℕ) → is_id id ≡ true → IdFits id
id_fits (a, b) h =
    let p = and_parts (nat_lt a (2 ^ 48)) (nat_lt b (2 ^ 80)) h in
    let first = below a (2 ^ 48) p.0 in
    let second = below b (2 ^ 80) p.1 in
    let numbers = halves a b first second in
    let whole = joined_halves a b first second in
    record {
      fits = (u64_is ((a * 2 ^ 80 + b) / 2 ^ 64) numbers.0, u64_is ((a * 2 ^ 80 + b) % 2 ^ 64) numbers.1);
      is_made = ap (λ (i : ℕ × ℕ). Some i) (rw (whole.0, whole.1) refl);
    }

pub text_fits : (text : List ℕ) → is_utf8 text ≡ true → length text < 2 ^ 32 → TextFits text
text_fits text h short = record { fits = short; is_made = rw h refl }

-- a name that may be missing
pub name_fits : (name : Option (List ℕ)) → none_or is_utf8 name ≡ true → is_short name ≡ true → OptionFits TextFits name
name_fits None h short = tt
name_fits (Some text) h short = text_fits text h (below (length text) (2 ^ 32) short)

pub two_fit : (p : ℕ × ℕ) → are_two p ≡ true → PairFits (λ n. is_u64 n ≡ true) (λ n. is_u64 n ≡ true) p
two_fit p h = and_parts (is_u64 p.0) (is_u64 p.1) h

pub sixteen : (bytes : List ℕ) → is_sixteen bytes ≡ true → length bytes ≡ 16
sixteen bytes h = grind (arith, nat_tests)

-- ---- tables

pub info_typed : (i : SsTableInfo) → is_info i ≡ true → IsTyped i
info_typed i h =
    let all = and_parts (are_two (i.index_offset, i.index_len) && are_two (i.filter_offset, i.filter_len)) _ h in
    let places = and_parts (are_two (i.index_offset, i.index_len)) (are_two (i.filter_offset, i.filter_len)) all.0 in
    let index = two_fit (i.index_offset, i.index_len) places.0 in
    let filter = two_fit (i.filter_offset, i.filter_len) places.1 in
    let rest = and_parts (are_two (i.stats_offset, i.stats_len)) true all.1 in
    let stats = two_fit (i.stats_offset, i.stats_len) rest.0 in
    record { index_offset = index.0; index_len = index.1; filter_offset = filter.0; filter_len = filter.1; stats_offset = stats.0; stats_len = stats.1 }

no_first_field : (entries short : Bool) → entries ≡ true → short ≡ true → first_field entries short ≡ None
no_first_field true true e s = refl
no_first_field true false e s = absurd cc
no_first_field false short e s = absurd cc

-- whether what is known of a table has bytes
abbrev pub has_bytes : SsTableInfo → Bool
has_bytes i = are_entries i.first_entry i.last_entry && (is_short i.first_entry && is_short i.last_entry)

pub info_with_bytes : (i : SsTableInfo) → is_info i ≡ true → has_bytes i ≡ true → InfoFits i
info_with_bytes i typed h =
    let p = and_parts (are_entries i.first_entry i.last_entry) (is_short i.first_entry && is_short i.last_entry) h in
    info_fits i (info_typed i typed) (no_first_field (are_entries i.first_entry i.last_entry) (is_short i.first_entry && is_short i.last_entry) p.0 p.1)

pub is_table_id : (t : SsTableId) → is_compacted t ≡ true → Compacted (table_id t) ≡ t
is_table_id (Compacted id) h = refl
is_table_id (Wal n) h = absurd cc

-- whether a table is compacted and what is known of it has bytes
abbrev pub is_writable : SsTableHandle → Bool
is_writable h = is_compacted h.id && has_bytes h.info

pub handle_fits : (h : SsTableHandle) → is_handle h ≡ true → is_writable h ≡ true → HandleFits h
handle_fits h typed e =
    let p = and_parts (is_id (table_id h.id)) (is_u16 h.format_version && is_info h.info) typed in
    let q = and_parts (is_u16 h.format_version) (is_info h.info) p.1 in
    let w = and_parts (is_compacted h.id) (has_bytes h.info) e in
    record {
      fits = (id_fits (table_id h.id) p.0, (below h.format_version (2 ^ 16) q.0, info_with_bytes h.info q.1 w.1));
      is_made = ap (λ (t : SsTableId). Some (let k : SsTableHandle = record { id = t; format_version = h.format_version; info = h.info } in k)) (is_table_id h.id w.0);
    }

pub table_fits : (t : SsTableId) → is_table t ≡ true → is_compacted t ≡ true → TableFits t
table_fits t typed e = record { fits = id_fits (table_id t) typed; is_made = ap (λ (u : SsTableId). Some u) (is_table_id t e) }

-- ---- ranges

bound_fits : (b : Bound (List ℕ)) → short_bound b ≡ true → BoundFits b
bound_fits Unbounded h = tt
bound_fits (Included key) h = few_is (length key) h
bound_fits (Excluded key) h = few_is (length key) h

pub range_fits : (r : KeyRange) → is_proper r ≡ true → short_range (Some r) ≡ true → RangeFits r
range_fits r proper h =
    let p = and_parts (short_bound r.start) (short_bound r.end) h in
    record { fits = (bound_fits r.start p.0, bound_fits r.end p.1); is_made = rw proper refl }
