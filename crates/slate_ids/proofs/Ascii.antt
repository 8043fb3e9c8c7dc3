-- Letters below 128 are text.
use Rattle.std.proofs.Common.{◌≡◌, ℕ, ◌<◌, ◌&&◌, nat_lt, nat_le, Bool, true, List, [], ◌∷◌, length, codes, refl, arith}
use Rattle.std.proofs.lemmas.Bool.Decides.{nat_tests}
use Rattle.std.proofs.lemmas.Str.{IsUtf8-from_ascii, IsAscii-append}
use Rattle.std.proofs.lemmas.Str.Ascii.{IsAscii-cons}
use Rattle.std.specs.List.{list_all}
use Rattle.std.specs.Str.{IsAscii, IsUtf8}
use Rattle.slate_ids.specs.Ids.{is_db_path, is_path_char}
use Rattle.slate_ids.specs.Numerals.{numeral}
use Rattle.slate_ids.specs.UlidText.{id_letters, ulid_text}
use Rattle.slate_ids.proofs.Numerals.{numeral-IsAscii}

low : (b : Bool) (c : ℕ) → nat_lt c 128 && b ≡ true → c < 128
low b c h = grind (arith, nat_tests)

low_rest : (b : Bool) (c : ℕ) → nat_lt c 128 && b ≡ true → b ≡ true
low_rest b c h = grind (arith, nat_tests)

IsAscii-from_all : (s : List ℕ) → list_all (λ c. nat_lt c 128) s ≡ true → IsAscii s
IsAscii-from_all [] h = λ i. omega arith
IsAscii-from_all (c ∷ s) h = IsAscii-cons c s (low (list_all (λ c. nat_lt c 128) s) c h) (IsAscii-from_all s (low_rest (list_all (λ c. nat_lt c 128) s) c h))

name_char : (b : Bool) (c : ℕ) → is_path_char c && b ≡ true → c < 128
name_char b c h = grind (arith, nat_tests)

name_rest : (t b : Bool) → t && b ≡ true → b ≡ true
name_rest t b h = grind (arith, nat_tests)

IsAscii-from_name : (s : List ℕ) → list_all is_path_char s ≡ true → IsAscii s
IsAscii-from_name [] h = λ i. omega arith
IsAscii-from_name (c ∷ s) h = IsAscii-cons c s (name_char (list_all is_path_char s) c h) (IsAscii-from_name s (name_rest (is_path_char c) (list_all is_path_char s) h))

-- the name of a database is text
pub name_utf8 : (s : List ℕ) → is_db_path s ≡ true → IsUtf8 s
name_utf8 s h = IsUtf8-from_ascii s (IsAscii-from_name s (name_rest (nat_lt 0 (length s) && nat_le (length s) 64) (list_all is_path_char s) (grind (arith, nat_tests))))

-- the text of an id is text
pub id_utf8 : (u : ℕ × ℕ) → IsUtf8 (ulid_text u)
unfolding ulid_text
id_utf8 u = IsUtf8-from_ascii _ (IsAscii-append _ _ (numeral-IsAscii id_letters 10 u.0 (IsAscii-from_all id_letters refl)) (numeral-IsAscii id_letters 16 u.1 (IsAscii-from_all id_letters refl)))

-- the digits of a number are text
pub digits_utf8 : (k n : ℕ) → IsUtf8 (numeral (codes "0123456789") k n)
digits_utf8 k n = IsUtf8-from_ascii _ (numeral-IsAscii (codes "0123456789") k n (IsAscii-from_all (codes "0123456789") refl))
