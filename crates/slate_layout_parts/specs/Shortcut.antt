-- Lists that are read item by item, without a look at how many bytes are left.
use Rattle.std.specs.Prelude.{ℕ, List, Option}
use Rattle.slate_layout_parts.specs.Reading.{◌>>=◌, u32_in, items_in}

-- a count, and as many values
abbrev pub counted_items_in : {X : Type 0} → (List ℕ → Option (X × List ℕ)) → List ℕ → Option (List X × List ℕ)
counted_items_in read bytes = u32_in bytes >>= λ n. items_in read n.0 n.1
