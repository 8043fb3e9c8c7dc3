-- The text of an id.
use Rattle.std.specs.Prelude.{ℕ, ◌^◌, List, ◌++◌, length, take, drop, Option, Some, None, option_and_then, if◌then◌else◌, ◌==◌, nat_lt, codes}
use Rattle.slate_ids.specs.Numerals.{numeral, number_of}

-- the letters of ids, which are the digits of base 32
abbrev pub id_letters : List ℕ
id_letters = codes "0123456789ABCDEFGHJKMNPQRSTVWXYZ"

-- an id's text: 10 digits of the milliseconds and 16 of the tail, which are the 26 digits of ms * 2^80 + tail
unfoldable pub ulid_text : ℕ × ℕ → List ℕ
ulid_text u = numeral id_letters 10 u.0 ++ numeral id_letters 16 u.1

-- the id of milliseconds and a tail: the first letter is at most 7 where the milliseconds are below 2^48
abbrev pub id_of : ℕ → ℕ → Option (ℕ × ℕ)
id_of ms tail = if nat_lt ms (2 ^ 48) then Some (ms, tail) else None

-- the id of a text: 26 letters of ids, of which the first is at most 7
unfoldable pub ulid_of : List ℕ → Option (ℕ × ℕ)
ulid_of text = if length text == 26 then option_and_then (λ ms. option_and_then (λ tail. id_of ms tail) (number_of id_letters (drop 10 text))) (number_of id_letters (take 10 text)) else None
