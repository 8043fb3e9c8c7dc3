-- What holds from each version of a chain to the next, by who put that.
use Rattle.std.specs.Prelude.{◌≡◌, List, [], ◌∷◌, Option, Some}
use Rattle.slate_cluster_protocol.specs.Chains.{Link}
use Rattle.slate_cluster_protocol.specs.Logs.{Author}

-- there is an author, and of it that holds
pub record IsBy (P : Author → Type 0) (by : Option Author) : Type 0 where
  pub author : Author
  pub is : by ≡ Some author
  pub has : P author

-- each version but the first has an author, of whom that holds with the version before
abbrev pub EachStep : {V : Type 0} → (Author → V → V → Type 0) → List (Link V Author) → Type 0
EachStep P [] = Unit {0}
EachStep P (first ∷ []) = Unit {0}
EachStep P (new ∷ old ∷ c) = IsBy (λ author. P author old.value new.value) new.by × EachStep P (old ∷ c)
