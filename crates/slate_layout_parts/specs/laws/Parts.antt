-- Reading what was written, part by part.
use Rattle.std.specs.Prelude.{◌≡◌, ℕ, zero, suc, ℤ, pos, negsuc, ◌<◌, ◌≤◌, ◌^◌, ◌-◌, ◌++◌, ◌==◌, nat_le, nat_lt, Bool, true, false, List, [], ◌∷◌, length, take, drop, get_or, Option, Some, None, if◌then◌else◌, refl, FitsSigned}
use Rattle.std.proofs.Common.{ap, ◌∙◌, sym, subst, arith, ltb-true}
use Rattle.std.specs.Int.{w32, w64, from_be_bytes, to_be_bytes, cast_signed, cast_unsigned}
use Rattle.std.proofs.lemmas.List.{append_assoc, length-append, get_or-drop, take-append-drop, length-take-le}
use Rattle.std.proofs.Math.Seq.{take-append_seam, drop-append_seam}
use Rattle.std.proofs.lemmas.Nat.{be_bytes_8, be_bytes_4, from_be_bytes-to_be_bytes_8, from_be_bytes-to_be_bytes_4}
use Rattle.std.proofs.lemmas.Int.{to_z-of_z, of_z-to_z}
use Rattle.std.proofs.lemmas.Bool.Decides.{nat_tests}
use Rattle.slate_layout_parts.specs.Bytes.{is_u64, is_i64, u32_bytes, u64_bytes, i64_bytes, flag_bytes}
use Rattle.slate_layout_parts.specs.Reading.{◌>>=◌, flag_in, u32_in, u64_in, i64_in, bytes_in}
use Rattle.slate_layout_parts.specs.Reads.{AreBytes, IsFront}

pub small_take : (n : ℕ) (bytes : List ℕ) → ((i : ℕ) → get_or bytes i 0 < 256) → (i : ℕ) → get_or (take n bytes) i 0 < 256
small_take zero bytes h i = omega arith
small_take (suc n) [] h i = omega arith
small_take (suc n) (b ∷ bytes) h zero = h zero
small_take (suc n) (b ∷ bytes) h (suc i) = small_take n bytes (λ k. h (suc k)) i

pub AreBytes-drop : (n : ℕ) (bytes : List ℕ) → AreBytes bytes → AreBytes (drop n bytes)
AreBytes-drop n bytes h = record { small = λ i. rw (get_or-drop n bytes i 0) (h.small _) }

pub AreBytes-rest : (b : ℕ) (bytes : List ℕ) → AreBytes (b ∷ bytes) → AreBytes bytes
AreBytes-rest b bytes h = record { small = λ i. h.small (suc i) }

-- what a reading of two steps found
pub record Steps {A B : Type 0} (first : Option A) (next : A → Option B) (found : B) : Type 0 where
  pub value : A
  pub at_first : first ≡ Some value
  pub at_next : next value ≡ Some found

pub steps : {A B : Type 0} (first : Option A) (next : A → Option B) (found : B) → (first >>= next) ≡ Some found → Steps first next found
steps (Some a) next found h = record { value = a; at_first = refl; at_next = h }
steps None next found h = absurd (cc)

-- a reading of two steps, where the first found a value
pub bind_at : {A B : Type 0} (next : A → Option B) {first : Option A} {value : A} → first ≡ Some value → (first >>= next) ≡ next value
bind_at {A} {B} next {first} {value} h = ap (λ (o : Option A). o >>= next) h

pub join_fronts : {a b bytes mid rest : List ℕ} → IsFront a bytes mid → IsFront b mid rest → IsFront (a ++ b) bytes rest
join_fronts {a} {b} {bytes} {mid} {rest} h g = record { is = append_assoc a b rest ∙ ap (λ (l : List ℕ). a ++ l) g.is ∙ h.is; rest_small = g.rest_small }

-- a value and the rest
abbrev pub found : {X : Type 0} → List ℕ → X → Option (X × List ℕ)
found rest x = Some (x, rest)

value_or : {X : Type 0} → X → Option (X × List ℕ) → X
value_or x None = x
value_or x (Some p) = p.0

rest_or : {X : Type 0} → List ℕ → Option (X × List ℕ) → List ℕ
rest_or rest None = rest
rest_or rest (Some p) = p.1

pub same_found : {X : Type 0} (x y : X) (r s : List ℕ) → found r x ≡ found s y → (x ≡ y) × (r ≡ s)
unfolding value_or rest_or
same_found {X} x y r s h = (ap (λ (o : Option (X × List ℕ)). value_or x o) h, ap (λ (o : Option (X × List ℕ)). rest_or r o) h)

-- ---- flags

pub flag_back : (flag : Bool) (rest : List ℕ) → flag_in (flag_bytes flag ++ rest) ≡ Some (flag, rest)
flag_back true rest = refl
flag_back false rest = refl

flag_by_test : (t u : Bool) (b : ℕ) (bytes : List ℕ) (flag : Bool) (rest : List ℕ) → AreBytes bytes → b == 0 ≡ t → b == 1 ≡ u
    → ((if t then Some false else (if u then Some true else None)) >>= λ f. found bytes f) ≡ found rest flag
    → IsFront (flag_bytes flag) (b ∷ bytes) rest
flag_by_test true u b bytes flag rest small e f h =
    let is_b : b ≡ 0 = grind (arith, nat_tests) in
    let same = same_found _ _ _ _ h in
    subst (λ (g : Bool). IsFront (flag_bytes g) (b ∷ bytes) rest) same.0 (record { is = cc (same.1); rest_small = subst (λ (l : List ℕ). AreBytes l) same.1 small })
flag_by_test false true b bytes flag rest small e f h =
    let is_b : b ≡ 1 = grind (arith, nat_tests) in
    let same = same_found _ _ _ _ h in
    subst (λ (g : Bool). IsFront (flag_bytes g) (b ∷ bytes) rest) same.0 (record { is = cc (same.1); rest_small = subst (λ (l : List ℕ). AreBytes l) same.1 small })
flag_by_test false false b bytes flag rest small e f h = absurd (cc)

pub flag_only : (bytes : List ℕ) (flag : Bool) (rest : List ℕ) → AreBytes bytes → flag_in bytes ≡ Some (flag, rest) → IsFront (flag_bytes flag) bytes rest
flag_only [] flag rest small h = absurd (cc)
flag_only (b ∷ bytes) flag rest small h = flag_by_test (b == 0) (b == 1) b bytes flag rest (AreBytes-rest b bytes small) refl refl h

-- ---- numbers

pub long : (m n : ℕ) → m ≤ n → nat_le m n ≡ true
long m n h = grind (arith, nat_tests)

-- a number that fits passes the test
pub u64_is : (n : ℕ) → n < 2 ^ 64 → is_u64 n ≡ true
u64_is n h = grind (arith, nat_tests)

pub u64_back : (n : ℕ) (rest : List ℕ) → is_u64 n ≡ true → u64_in (u64_bytes n ++ rest) ≡ Some (n, rest)
unfolding u64_in u64_bytes
u64_back n rest fits = ap (λ (t : Bool). if t then found rest (from_be_bytes w64 (to_be_bytes w64 n)) else None)
    (long 8 (length (to_be_bytes w64 n ++ rest)) (omega arith)) ∙ ap (λ (k : ℕ). found rest k)
    (from_be_bytes-to_be_bytes_8 n (ltb-true n (2 ^ 64) fits))

pub u32_back : (n : ℕ) (rest : List ℕ) → n < 2 ^ 32 → u32_in (u32_bytes n ++ rest) ≡ Some (n, rest)
unfolding u32_in u32_bytes
u32_back n rest fits = ap (λ (t : Bool). if t then found rest (from_be_bytes w32 (to_be_bytes w32 n)) else None)
    (long 4 (length (to_be_bytes w32 n ++ rest)) (omega arith)) ∙ ap (λ (k : ℕ). found rest k) (from_be_bytes-to_be_bytes_4 n fits)

pub length-u64_bytes : (n : ℕ) → length (u64_bytes n) ≡ 8
unfolding u64_bytes
length-u64_bytes n = refl

below_64 : (bytes : List ℕ) → ((i : ℕ) → get_or bytes i 0 < 256) → from_be_bytes w64 bytes < 2 ^ 64
below_64 bytes small =
    let a = small 0 in let b = small 1 in let c = small 2 in let d = small 3 in let e = small 4 in let f = small 5 in let g = small 6 in let h = small 7 in omega arith

pub record IsNumber (n : ℕ) (front bytes rest : List ℕ) : Type 0 where
  pub fits : is_u64 n ≡ true
  pub front_is : IsFront front bytes rest

u64_parts : (bytes : List ℕ) (n : ℕ) (rest : List ℕ) → AreBytes bytes → 8 ≤ length bytes → from_be_bytes w64 (take 8 bytes) ≡ n → drop 8 bytes ≡ rest → IsNumber n (to_be_bytes w64 n) bytes rest
u64_parts bytes n rest small long is_n is_rest =
    let few = small_take 8 bytes small.small in
    let below : n < 2 ^ 64 = subst (λ (k : ℕ). k < 2 ^ 64) is_n (below_64 (take 8 bytes) few) in
    let front : to_be_bytes w64 n ≡ take 8 bytes = be_bytes_8 (take 8 bytes) n (length-take-le 8 bytes long) few (sym is_n) in
    record {
      fits = grind (arith, nat_tests);
      front_is = record {
        is = ap (λ (l : List ℕ). l ++ rest) front ∙ ap (λ (l : List ℕ). take 8 bytes ++ l) (sym is_rest) ∙ take-append-drop 8 bytes;
        rest_small = subst (λ (l : List ℕ). AreBytes l) is_rest (AreBytes-drop 8 bytes small);
      };
    }

u64_by_test : (bytes : List ℕ) (n : ℕ) (rest : List ℕ) (t : Bool) → AreBytes bytes → nat_le 8 (length bytes) ≡ t
    → (if t then found (drop 8 bytes) (from_be_bytes w64 (take 8 bytes)) else None) ≡ Some (n, rest) → IsNumber n (to_be_bytes w64 n) bytes rest
u64_by_test bytes n rest true small long h = let e = same_found _ _ _ _ h in u64_parts bytes n rest small (grind (arith, nat_tests)) e.0 e.1
u64_by_test bytes n rest false small long h = absurd (cc)

pub u64_only : (bytes : List ℕ) (n : ℕ) (rest : List ℕ) → AreBytes bytes → u64_in bytes ≡ Some (n, rest) → IsNumber n (u64_bytes n) bytes rest
unfolding u64_in u64_bytes
u64_only bytes n rest small h = u64_by_test bytes n rest (nat_le 8 (length bytes)) small refl h

u32_parts : (bytes : List ℕ) (n : ℕ) (rest : List ℕ) → AreBytes bytes → 4 ≤ length bytes → from_be_bytes w32 (take 4 bytes) ≡ n → drop 4 bytes ≡ rest → IsFront (to_be_bytes w32 n) bytes rest
u32_parts bytes n rest small long is_n is_rest =
    let few = small_take 4 bytes small.small in
    let front : to_be_bytes w32 n ≡ take 4 bytes = be_bytes_4 (take 4 bytes) n (length-take-le 4 bytes long) few (sym is_n) in
    record {
      is = ap (λ (l : List ℕ). l ++ rest) front ∙ ap (λ (l : List ℕ). take 4 bytes ++ l) (sym is_rest) ∙ take-append-drop 4 bytes;
      rest_small = subst (λ (l : List ℕ). AreBytes l) is_rest (AreBytes-drop 4 bytes small);
    }

u32_by_test : (bytes : List ℕ) (n : ℕ) (rest : List ℕ) (t : Bool) → AreBytes bytes → nat_le 4 (length bytes) ≡ t
    → (if t then found (drop 4 bytes) (from_be_bytes w32 (take 4 bytes)) else None) ≡ Some (n, rest) → IsFront (to_be_bytes w32 n) bytes rest
u32_by_test bytes n rest true small long h = let e = same_found _ _ _ _ h in u32_parts bytes n rest small (grind (arith, nat_tests)) e.0 e.1
u32_by_test bytes n rest false small long h = absurd (cc)

pub u32_only : (bytes : List ℕ) (n : ℕ) (rest : List ℕ) → AreBytes bytes → u32_in bytes ≡ Some (n, rest) → IsFront (u32_bytes n) bytes rest
unfolding u32_in u32_bytes
u32_only bytes n rest small h = u32_by_test bytes n rest (nat_le 4 (length bytes)) small refl h

below_32 : (bytes : List ℕ) → ((i : ℕ) → get_or bytes i 0 < 256) → from_be_bytes w32 bytes < 2 ^ 32
below_32 bytes small =
    let a = small 0 in let b = small 1 in let c = small 2 in let d = small 3 in omega arith

u32_small_by : (bytes : List ℕ) (n : ℕ) (rest : List ℕ) (t : Bool) → AreBytes bytes → (if t then found (drop 4 bytes) (from_be_bytes w32 (take 4 bytes)) else None) ≡ Some (n, rest) → n < 2 ^ 32
u32_small_by bytes n rest true small h = subst (λ (k : ℕ). k < 2 ^ 32) (same_found _ _ _ _ h).0 (below_32 (take 4 bytes) (small_take 4 bytes small.small))
u32_small_by bytes n rest false small h = absurd (cc)

pub u32_small : (bytes : List ℕ) (n : ℕ) (rest : List ℕ) → AreBytes bytes → u32_in bytes ≡ Some (n, rest) → n < 2 ^ 32
unfolding u32_in
u32_small bytes n rest small h = u32_small_by bytes n rest (nat_le 4 (length bytes)) small h

-- ---- bytes

pub bytes_back : (front rest : List ℕ) → bytes_in (length front) (front ++ rest) ≡ Some (front, rest)
bytes_back front rest =
    ap (λ (t : Bool). if t then found (drop (length front) (front ++ rest)) (take (length front) (front ++ rest)) else None)
    (long (length front) (length (front ++ rest)) (omega (arith, length-append front rest)))
    ∙ ap (λ (l : List ℕ). found (drop (length front) (front ++ rest)) l) (take-append_seam front rest)
    ∙ ap (λ (l : List ℕ). found l front) (drop-append_seam front rest)

-- a front of so many bytes
pub record IsTaken (n : ℕ) (front bytes rest : List ℕ) : Type 0 where
  pub counted : length front ≡ n
  pub front_is : IsFront front bytes rest
  pub front_small : AreBytes front

taken_by : (n : ℕ) (bytes front rest : List ℕ) (t : Bool) → AreBytes bytes → nat_le n (length bytes) ≡ t
    → (if t then found (drop n bytes) (take n bytes) else None) ≡ Some (front, rest) → IsTaken n front bytes rest
taken_by n bytes front rest true small long h =
    let e = same_found _ _ _ _ h in
    let within : n ≤ length bytes = grind (arith, nat_tests) in
    subst (λ (l : List ℕ). IsTaken n l bytes rest) e.0 (subst (λ (l : List ℕ). IsTaken n (take n bytes) bytes l) e.1 (record {
      counted = length-take-le n bytes within;
      front_is = record { is = take-append-drop n bytes; rest_small = AreBytes-drop n bytes small };
      front_small = record { small = small_take n bytes small.small };
    }))
taken_by n bytes front rest false small long h = absurd (cc)

pub bytes_only : (n : ℕ) (bytes front rest : List ℕ) → AreBytes bytes → bytes_in n bytes ≡ Some (front, rest) → IsTaken n front bytes rest
bytes_only n bytes front rest small h = taken_by n bytes front rest (nat_le n (length bytes)) small refl h

-- ---- signed numbers

pub signed_fits : (z : ℤ) → is_i64 z ≡ true → FitsSigned w64 z
signed_fits (pos n) h = record { sfits = grind (arith, nat_tests) }
signed_fits (negsuc n) h = record { sfits = grind (arith, nat_tests) }

pub signed_is : (z : ℤ) → FitsSigned w64 z → is_i64 z ≡ true
signed_is (pos n) h = let s = h.sfits in grind (arith, nat_tests)
signed_is (negsuc n) h = let s = h.sfits in grind (arith, nat_tests)

pub bits_fit : (z : ℤ) → is_i64 z ≡ true → is_u64 (cast_unsigned w64 z) ≡ true
bits_fit (pos n) h = grind (arith, nat_tests)
bits_fit (negsuc n) h = grind (arith, nat_tests)

signed_of_bits : (n : ℕ) (t : Bool) → n < 2 ^ 64 → nat_lt n (2 ^ 63) ≡ t → is_i64 (if t then pos n else negsuc (2 ^ 64 - suc n)) ≡ true
signed_of_bits n true below e = e
signed_of_bits n false below e = grind (arith, nat_tests)

pub i64_back : (z : ℤ) (rest : List ℕ) → is_i64 z ≡ true → i64_in (i64_bytes z ++ rest) ≡ Some (z, rest)
i64_back z rest fits =
    ap (λ (o : Option (ℕ × List ℕ)). o >>= λ n. Some (cast_signed w64 n.0, n.1)) (u64_back (cast_unsigned w64 z) rest (bits_fit z fits))
    ∙ ap (λ (y : ℤ). found rest y) (to_z-of_z w64 z (signed_fits z fits))

pub record IsSigned (z : ℤ) (front bytes rest : List ℕ) : Type 0 where
  pub fits : is_i64 z ≡ true
  pub front_is : IsFront front bytes rest

pub i64_only : (bytes : List ℕ) (z : ℤ) (rest : List ℕ) → AreBytes bytes → i64_in bytes ≡ Some (z, rest) → IsSigned z (i64_bytes z) bytes rest
i64_only bytes z rest small h =
    let s = steps (u64_in bytes) (λ n. Some (cast_signed w64 n.0, n.1)) (z, rest) h in
    let n = u64_only bytes s.value.0 s.value.1 small s.at_first in
    let below : s.value.0 < 2 ^ 64 = ltb-true s.value.0 (2 ^ 64) n.fits in
    let e = same_found _ _ _ _ s.at_next in
    let is_z : cast_signed w64 s.value.0 ≡ z = e.0 in
    let is_rest : s.value.1 ≡ rest = e.1 in
    let bits : s.value.0 ≡ cast_unsigned w64 z = sym (of_z-to_z w64 s.value.0 below) ∙ ap (cast_unsigned w64) is_z in
    record {
      fits = subst (λ (y : ℤ). is_i64 y ≡ true) is_z (signed_of_bits s.value.0 (nat_lt s.value.0 (2 ^ 63)) below refl);
      front_is = subst (λ (k : ℕ). IsFront (u64_bytes k) bytes rest) bits (subst (λ (l : List ℕ). IsFront (u64_bytes s.value.0) bytes l) is_rest n.front_is);
    }
