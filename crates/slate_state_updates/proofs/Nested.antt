-- Whether a key begins with bytes, as a slice tells it.
use Rattle.std.specs.Prelude.{ℕ, ◌&&◌, List, [], ◌∷◌, length, take, nat_eq}
use Rattle.std.proofs.Common.{◌≡◌, refl, ap}
use Rattle.std.specs.Cmp.Lexicographic.{pointwise}
use Rattle.slate_ids.specs.Keys.{begins_with}

pub starts : (prefix key : List ℕ) → pointwise nat_eq prefix (take (length prefix) key) ≡ begins_with prefix key
unfolding begins_with
starts [] key = refl
starts (b ∷ bs) [] = refl
starts (b ∷ bs) (k ∷ key) = ap (λ t. nat_eq b k && t) (starts bs key)
