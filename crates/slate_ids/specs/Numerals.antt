-- Numerals in an alphabet: its size is the base, and a letter's place is its digit.
use Rattle.std.specs.Prelude.{ℕ, zero, suc, ◌+◌, ◌*◌, ◌/◌, ◌%◌, List, [], ◌∷◌, ◌++◌, length, get_or, Option, Some, None, option_and_then, if◌then◌else◌, ◌==◌, nat_lt}
use Rattle.std.specs.List.{position_or_len}

-- the last k digits of n, the highest first
unfoldable pub numeral : List ℕ → ℕ → ℕ → List ℕ
numeral alphabet zero n = []
numeral alphabet (suc k) n = numeral alphabet k (n / length alphabet) ++ get_or alphabet (n % length alphabet) 0 ∷ []

-- the place of a letter, where the alphabet has it
unfoldable pub digit_of : List ℕ → ℕ → Option ℕ
digit_of alphabet c = if nat_lt (position_or_len (λ d. d == c) alphabet) (length alphabet) then Some (position_or_len (λ d. d == c) alphabet) else None

-- the number whose digits are those of a and then these letters, where the alphabet has them all
unfoldable pub number_after : List ℕ → ℕ → List ℕ → Option ℕ
number_after alphabet a [] = Some a
number_after alphabet a (c ∷ cs) = option_and_then (λ d. number_after alphabet (a * length alphabet + d) cs) (digit_of alphabet c)

-- the number that letters write
unfoldable pub number_of : List ℕ → List ℕ → Option ℕ
number_of alphabet letters = number_after alphabet 0 letters
