-- What holds of each version of a chain.
use Rattle.std.specs.Prelude.{List, [], ◌∷◌}
use Rattle.slate_cluster_protocol.specs.Chains.{Link}
use Rattle.slate_cluster_protocol.specs.Logs.{Author}

-- it holds of the value of each version
abbrev pub EachValue : {V : Type 0} → (V → Type 0) → List (Link V Author) → Type 0
EachValue P [] = Unit {0}
EachValue P (l ∷ c) = P l.value × EachValue P c
