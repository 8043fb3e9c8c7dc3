-- Texts, paths and ids give back what was written, and find only that.
use Rattle.std.specs.Prelude.{◌≡◌, ℕ, ◌+◌, ◌*◌, ◌/◌, ◌%◌, ◌<◌, ◌^◌, Bool, true, false, List, Some, None, if◌then◌else◌, refl}
use Rattle.std.specs.Str.{is_utf8}
use Rattle.std.proofs.Common.{ap, sym, ◌∙◌, arith, ltb-true}
use Rattle.slate_ids.specs.Ids.{is_db_path}
use Rattle.slate_layout_parts.specs.Bytes.{u64_bytes, is_u64, pair_bytes, counted_bytes}
use Rattle.slate_layout_parts.specs.Reading.{counted_in, u64_in, pair_in}
use Rattle.slate_layout_parts.specs.Reads.{Reads}
use Rattle.slate_layout_parts.specs.laws.Groups.{pair_reads, made_reads}
use Rattle.slate_layout_parts.specs.laws.Atoms.{u64_reads, counted_reads}
use Rattle.slate_layout_parts.specs.Texts.{tested, IsShort, text_in, TextFits, path_in, PathFits, id_halves, id_of, id_bytes, id_in, AreU64, IdFits}

some_same : (b : Bool) (bytes other : List ℕ) → (if b then Some bytes else None) ≡ Some other → other ≡ bytes
some_same true bytes other e = cc
some_same false bytes other e = absurd cc

pub text_reads : Reads text_in counted_bytes TextFits 4
text_reads = made_reads counted_in counted_bytes IsShort 4 counted_reads (tested is_utf8) (λ l. l) (λ x y fits e. some_same (is_utf8 x) x y e)

pub path_reads : Reads path_in counted_bytes PathFits 4
path_reads = made_reads text_in counted_bytes TextFits 4 text_reads (tested is_db_path) (λ l. l) (λ x y fits e. some_same (is_db_path x) x y e)

halved : (hi lo : ℕ) → lo < 2 ^ 64 → (((hi * 2 ^ 64 + lo) / 2 ^ 80 * 2 ^ 80 + (hi * 2 ^ 64 + lo) % 2 ^ 80) / 2 ^ 64 ≡ hi)
    × (((hi * 2 ^ 64 + lo) / 2 ^ 80 * 2 ^ 80 + (hi * 2 ^ 64 + lo) % 2 ^ 80) % 2 ^ 64 ≡ lo)
halved hi lo l = (omega arith, omega arith)

halves_back : (x y : ℕ × ℕ) → AreU64 x → id_of x ≡ Some y → id_halves y ≡ x
halves_back x y fits e =
    let same : ((x.0 * 2 ^ 64 + x.1) / 2 ^ 80, (x.0 * 2 ^ 64 + x.1) % 2 ^ 80) ≡ y = cc in
    let h = halved x.0 x.1 (ltb-true x.1 (2 ^ 64) fits.1) in
    sym (ap id_halves same) ∙ rw (h.0, h.1) refl

pub id_reads : Reads id_in id_bytes IdFits 8
id_reads = made_reads (pair_in u64_in u64_in) (pair_bytes u64_bytes u64_bytes) AreU64 8
    (pair_reads u64_in u64_bytes (λ n. is_u64 n ≡ true) 8 u64_reads u64_in u64_bytes (λ n. is_u64 n ≡ true) 8 u64_reads) id_of id_halves halves_back
