-- Bytes that are a text, an id or a path.
use Rattle.std.specs.Prelude.{◌≡◌, ℕ, ◌+◌, ◌*◌, ◌/◌, ◌%◌, ◌<◌, ◌^◌, Bool, true, List, length, Option, Some, None, if◌then◌else◌}
use Rattle.std.specs.Str.{is_utf8}
use Rattle.slate_ids.specs.Ids.{is_db_path}
use Rattle.slate_layout_parts.specs.Bytes.{u64_bytes, is_u64, pair_bytes}
use Rattle.slate_layout_parts.specs.Reading.{counted_in, u64_in, pair_in, made_in}
use Rattle.slate_layout_parts.specs.Reads.{PairFits, MadeFits}

-- the bytes, where the test holds of them
abbrev pub tested : (List ℕ → Bool) → List ℕ → Option (List ℕ)
tested test bytes = if test bytes then Some bytes else None

-- bytes have 32 bits of length
abbrev pub IsShort : List ℕ → Type 0
IsShort l = length l < 2 ^ 32

-- a text, with its length
abbrev pub text_in : List ℕ → Option (List ℕ × List ℕ)
text_in = made_in (tested is_utf8) counted_in

abbrev pub TextFits : List ℕ → Type 0
TextFits = MadeFits (tested is_utf8) (λ l. l) IsShort

-- the path of a database, as a text
abbrev pub path_in : List ℕ → Option (List ℕ × List ℕ)
path_in = made_in (tested is_db_path) text_in

abbrev pub PathFits : List ℕ → Type 0
PathFits = MadeFits (tested is_db_path) (λ l. l) TextFits

-- the two halves of an id's number
abbrev pub id_halves : ℕ × ℕ → ℕ × ℕ
id_halves id = ((id.0 * 2 ^ 80 + id.1) / 2 ^ 64, (id.0 * 2 ^ 80 + id.1) % 2 ^ 64)

-- the id of two halves of its number
abbrev pub id_of : ℕ × ℕ → Option (ℕ × ℕ)
id_of halves = Some ((halves.0 * 2 ^ 64 + halves.1) / 2 ^ 80, (halves.0 * 2 ^ 64 + halves.1) % 2 ^ 80)

-- the bytes of an id: its number, the highest byte first
abbrev pub id_bytes : ℕ × ℕ → List ℕ
id_bytes id = pair_bytes u64_bytes u64_bytes (id_halves id)

abbrev pub id_in : List ℕ → Option ((ℕ × ℕ) × List ℕ)
id_in = made_in id_of (pair_in u64_in u64_in)

-- two numbers of 64 bits
abbrev pub AreU64 : ℕ × ℕ → Type 0
AreU64 = PairFits (λ n. is_u64 n ≡ true) (λ n. is_u64 n ≡ true)

abbrev pub IdFits : ℕ × ℕ → Type 0
IdFits = MadeFits id_of id_halves AreU64
