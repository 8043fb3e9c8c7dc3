-- Reading the items of an array one after the other.
use Rattle.std.proofs.Common.{List, ◌++◌, Option, Some}
use Rattle.slate_script_json.specs.Fields.{◌>>=◌}

-- what was read before, and what is still read
abbrev pub with_front : {X : Type 0} → List X → Option (List X) → Option (List X)
with_front front read = read >>= λ xs. Some (front ++ xs)
