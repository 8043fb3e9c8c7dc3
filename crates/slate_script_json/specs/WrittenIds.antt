-- Ids of tables and views as scripts write them: milliseconds and tail in decimal, with a colon between them.
use Rattle.std.specs.Prelude.{ℕ, ◌+◌, ◌^◌, ◌==◌, List, take, drop, Option, Some}
use Rattle.std.specs.List.{position}
use Rattle.serde_json.specs.Data.{Data}
use Rattle.serde_json.specs.Find.{as_str}
use Rattle.slate_ids.specs.Decimals.{number_below}
use Rattle.slate_script_json.specs.Fields.{◌>>=◌}

-- the id of these milliseconds, below 2^48, and this tail, below 2^80; zeros may lead
abbrev pub id_of_parts : List ℕ → List ℕ → Option (ℕ × ℕ)
id_of_parts ms tail = number_below (2 ^ 48) ms >>= λ m. number_below (2 ^ 80) tail >>= λ t. Some (m, t)

-- where the first colon stands
abbrev pub colon_in : List ℕ → Option ℕ
colon_in s = position (λ c. c == 58) s

-- the id that a text writes, by what stands before and after the first colon
abbrev pub written_id : List ℕ → Option (ℕ × ℕ)
written_id s = colon_in s >>= λ i. id_of_parts (take i s) (drop (i + 1) s)

-- a text that writes an id
abbrev pub id_in : Data → Option (ℕ × ℕ)
id_in d = as_str d >>= written_id
