-- How many views show one key.
use Rattle.std.specs.Prelude.{◌≡◌, ◌⊎◌, ◌<◌, ◌≤◌, ◌+◌, ◌-◌, ℕ, List, [], ◌∷◌, length, get_or, count_by}
use Rattle.std.specs.List.{flat_map}
use Rattle.std.specs.declared.ops.Bound.{Bound}
use Rattle.std.specs.declared.ops.Bound.TheVariants.{Included, Excluded, Unbounded}
use Rattle.slate_ids.specs.Keys.{key_lt, key_le}
use Rattle.slate_ids.specs.KeyRange.{has_key}
use Rattle.slate_model_tables.specs.Views.{View, effective_range}

-- how many views' effective ranges have a key
abbrev pub showing : List ℕ → List View → ℕ
showing key views = count_by (λ v. has_key (effective_range v) key) views

-- the greatest number of effective ranges that have one key: some key is in so many, and none is in more
pub record IsGreatestOverlap (views : List View) (n : ℕ) : Type 0 where
  pub key : List ℕ
  pub reached : showing key views ≡ n
  pub greatest : (k : List ℕ) → showing k views ≤ n

-- the key of an included bound
abbrev pub included_in : Bound (List ℕ) → List (List ℕ)
included_in (Included k) = k ∷ []
included_in (Excluded k) = []
included_in Unbounded = []

-- the key of an excluded bound
abbrev pub excluded_in : Bound (List ℕ) → List (List ℕ)
excluded_in (Included k) = []
excluded_in (Excluded k) = k ∷ []
excluded_in Unbounded = []

-- the keys that views start at, and those that they end at, and before
abbrev pub start_keys : List View → List (List ℕ)
start_keys views = flat_map (λ v. included_in (effective_range v).start) views

abbrev pub end_keys : List View → List (List ℕ)
end_keys views = flat_map (λ v. included_in (effective_range v).end) views

abbrev pub limit_keys : List View → List (List ℕ)
limit_keys views = flat_map (λ v. excluded_in (effective_range v).end) views

-- how many of these ends a key is past
abbrev pub closed_at : List (List ℕ) → List (List ℕ) → List ℕ → ℕ
closed_at ends limits key = count_by (λ e. key_lt e key) ends + count_by (λ e. key_le e key) limits

-- how many have started at the start of a place, less the ends that it is past
abbrev pub open_at : List (List ℕ) → List (List ℕ) → List (List ℕ) → ℕ → List ℕ → ℕ
open_at starts ends limits i d = i + 1 - closed_at ends limits (get_or starts i d)

-- the most that are open at a start, and 0 without starts
pub record IsMostOpen (starts ends limits : List (List ℕ)) (n : ℕ) : Type 0 where
  pub greatest : (i : ℕ) (d : List ℕ) → i < length starts → open_at starts ends limits i d ≤ n
  pub reached : (n ≡ 0) ⊎ ((i : ℕ) × (i < length starts) × ((d : List ℕ) → n ≡ open_at starts ends limits i d))
