-- Numbers, flags and bytes give back what was written, and find only that.
use Rattle.std.specs.Prelude.{◌≡◌, ℕ, ◌<◌, ◌≤◌, ◌^◌, ◌++◌, nat_le, Bool, true, false, List, [], ◌∷◌, length, take, drop, get_or, Some, None, if◌then◌else◌, refl}
use Rattle.std.specs.Int.{w16, from_be_bytes, to_be_bytes}
use Rattle.std.proofs.Common.{arith, ap, sym, subst, ◌∙◌}
use Rattle.std.proofs.lemmas.Nat.{be_bytes_2, from_be_bytes-to_be_bytes_2}
use Rattle.std.proofs.lemmas.List.{append_assoc, length-take-le, take-append-drop}
use Rattle.std.proofs.lemmas.Bool.Decides.{nat_tests}
use Rattle.slate_layout_parts.specs.Bytes.{is_u64, is_i64, byte_bytes, u16_bytes, u32_bytes, u64_bytes, i64_bytes, flag_bytes, counted_bytes}
use Rattle.slate_layout_parts.specs.Reading.{byte_in, u16_in, u32_in, u64_in, i64_in, flag_in, bytes_in, counted_in}
use Rattle.slate_layout_parts.specs.Reads.{AreBytes, IsFront, Reads, IsRead}
use Rattle.slate_layout_parts.specs.laws.Parts.{AreBytes-rest, AreBytes-drop, steps, bind_at, found, same_found, join_fronts, small_take, u32_back, u32_only, u32_small, u64_back, u64_only, i64_back, i64_only, flag_back, flag_only, bytes_back, bytes_only}

-- ---- bytes, flags and numbers

byte_only : (bytes : List ℕ) (n : ℕ) (rest : List ℕ) → AreBytes bytes → byte_in bytes ≡ Some (n, rest) → IsRead byte_bytes (λ k. Unit {0}) n bytes rest
byte_only [] n rest small e = absurd cc
byte_only (b ∷ bytes) n rest small e =
    let same = same_found b n bytes rest e in
    record { fits = tt; front_is = record { is = rw (same.0, same.1) refl; rest_small = subst AreBytes same.1 (AreBytes-rest b bytes small) } }

pub byte_reads : Reads byte_in byte_bytes (λ n. Unit {0}) 1
byte_reads = record { back = λ n rest fits. refl; only = byte_only; long = λ n fits. omega arith }

flag_long : (flag : Bool) → 1 ≤ length (flag_bytes flag)
flag_long true = omega arith
flag_long false = omega arith

pub flag_reads : Reads flag_in flag_bytes (λ flag. Unit {0}) 1
flag_reads = record {
  back = λ flag rest fits. flag_back flag rest;
  only = λ bytes flag rest small e. record { fits = tt; front_is = flag_only bytes flag rest small e };
  long = λ flag fits. flag_long flag;
}

long_two : (n : ℕ) → 2 ≤ n → nat_le 2 n ≡ true
long_two n l = grind (arith, nat_tests)

u16_back : (n : ℕ) (rest : List ℕ) → n < 2 ^ 16 → u16_in (u16_bytes n ++ rest) ≡ Some (n, rest)
unfolding u16_in u16_bytes
u16_back n rest fits = ap (λ (t : Bool). if t then found rest (from_be_bytes w16 (to_be_bytes w16 n)) else None)
    (long_two (length (to_be_bytes w16 n ++ rest)) (omega arith)) ∙ ap (λ (k : ℕ). found rest k) (from_be_bytes-to_be_bytes_2 n fits)

below_16 : (bytes : List ℕ) → ((i : ℕ) → get_or bytes i 0 < 256) → from_be_bytes w16 bytes < 2 ^ 16
below_16 bytes small = let a = small 0 in let b = small 1 in omega arith

u16_by_test : (bytes : List ℕ) (n : ℕ) (rest : List ℕ) (t : Bool) → AreBytes bytes → nat_le 2 (length bytes) ≡ t
    → (if t then found (drop 2 bytes) (from_be_bytes w16 (take 2 bytes)) else None) ≡ Some (n, rest)
    → IsRead (to_be_bytes w16) (λ k. k < 2 ^ 16) n bytes rest
u16_by_test bytes n rest false small e h = absurd cc
u16_by_test bytes n rest true small e h =
    let same = same_found _ _ _ _ h in
    let long : 2 ≤ length bytes = grind (arith, nat_tests) in
    let few = small_take 2 bytes small.small in
    let front : to_be_bytes w16 n ≡ take 2 bytes = be_bytes_2 (take 2 bytes) n (length-take-le 2 bytes long) few (sym same.0) in
    record {
      fits = subst (λ (k : ℕ). k < 2 ^ 16) same.0 (below_16 (take 2 bytes) few);
      front_is = record {
        is = ap (λ (l : List ℕ). l ++ rest) front ∙ ap (λ (l : List ℕ). take 2 bytes ++ l) (sym same.1) ∙ take-append-drop 2 bytes;
        rest_small = subst (λ (l : List ℕ). AreBytes l) same.1 (AreBytes-drop 2 bytes small);
      };
    }

u16_only : (bytes : List ℕ) (n : ℕ) (rest : List ℕ) → AreBytes bytes → u16_in bytes ≡ Some (n, rest) → IsRead u16_bytes (λ k. k < 2 ^ 16) n bytes rest
unfolding u16_in u16_bytes
u16_only bytes n rest small h = u16_by_test bytes n rest (nat_le 2 (length bytes)) small refl h

two_long : (n : ℕ) → 2 ≤ length (u16_bytes n)
unfolding u16_bytes
two_long n = omega arith

pub u16_reads : Reads u16_in u16_bytes (λ n. n < 2 ^ 16) 2
u16_reads = record { back = u16_back; only = u16_only; long = λ n fits. two_long n }

four_long : (n : ℕ) → 4 ≤ length (u32_bytes n)
unfolding u32_bytes
four_long n = omega arith

pub u32_reads : Reads u32_in u32_bytes (λ n. n < 2 ^ 32) 4
u32_reads = record {
  back = u32_back;
  only = λ bytes n rest small e. record { fits = u32_small bytes n rest small e; front_is = u32_only bytes n rest small e };
  long = λ n fits. four_long n;
}

eight_long : (n : ℕ) → 8 ≤ length (u64_bytes n)
unfolding u64_bytes
eight_long n = omega arith

pub u64_reads : Reads u64_in u64_bytes (λ n. is_u64 n ≡ true) 8
u64_reads = record {
  back = u64_back;
  only = λ bytes n rest small e. let found = u64_only bytes n rest small e in record { fits = found.fits; front_is = found.front_is };
  long = λ n fits. eight_long n;
}

pub i64_reads : Reads i64_in i64_bytes (λ z. is_i64 z ≡ true) 8
i64_reads = record {
  back = i64_back;
  only = λ bytes z rest small e. let found = i64_only bytes z rest small e in record { fits = found.fits; front_is = found.front_is };
  long = λ z fits. eight_long _;
}

-- ---- bytes with their length

counted_back : (front rest : List ℕ) → length front < 2 ^ 32 → counted_in (counted_bytes front ++ rest) ≡ Some (front, rest)
counted_back front rest fits =
    ap counted_in (append_assoc (u32_bytes (length front)) front rest)
    ∙ bind_at (λ (count : ℕ × List ℕ). bytes_in count.0 count.1) (u32_back (length front) (front ++ rest) fits)
    ∙ bytes_back front rest

counted_only : (bytes front rest : List ℕ) → AreBytes bytes → counted_in bytes ≡ Some (front, rest) → IsRead counted_bytes (λ l. length l < 2 ^ 32) front bytes rest
counted_only bytes front rest small e =
    let s = steps (u32_in bytes) (λ count. bytes_in count.0 count.1) (front, rest) e in
    let n = u32_only bytes s.value.0 s.value.1 small s.at_first in
    let below = u32_small bytes s.value.0 s.value.1 small s.at_first in
    let taken = bytes_only s.value.0 s.value.1 front rest n.rest_small s.at_next in
    record {
      fits = subst (λ (k : ℕ). k < 2 ^ 32) (sym taken.counted) below;
      front_is = join_fronts (subst (λ (k : ℕ). IsFront (u32_bytes k) bytes s.value.1) (sym taken.counted) n) taken.front_is;
    }

counted_long : (n : ℕ) (front : List ℕ) → 4 ≤ length (u32_bytes n ++ front)
unfolding u32_bytes
counted_long n front = omega arith

pub counted_reads : Reads counted_in counted_bytes (λ l. length l < 2 ^ 32) 4
counted_reads = record { back = counted_back; only = counted_only; long = λ l fits. counted_long (length l) l }

-- ---- sixteen bytes

sixteen_back : (front rest : List ℕ) → length front ≡ 16 → bytes_in 16 (front ++ rest) ≡ Some (front, rest)
sixteen_back front rest fits = sym (ap (λ n. bytes_in n (front ++ rest)) fits) ∙ bytes_back front rest

pub sixteen_reads : Reads (bytes_in 16) (λ l. l) (λ l. length l ≡ 16) 16
sixteen_reads = record {
  back = sixteen_back;
  only = λ bytes front rest small e. let taken = bytes_only 16 bytes front rest small e in record { fits = taken.counted; front_is = taken.front_is };
  long = λ l fits. omega (arith, fits);
}
