-- Keys, which are byte strings in the order of their bytes, and the bounds of their ranges.
use Rattle.std.specs.Prelude.{ℕ, ◌+◌, ◌&&◌, ◌==◌, Bool, true, false, List, [], ◌∷◌, Option, Some, None, if◌then◌else◌}
use Rattle.std.specs.Ordering.{nat_cmp, is_lt, is_le}
use Rattle.std.specs.Cmp.Lexicographic.{slice_cmp}
use Rattle.std.specs.Borrow.{Bor}
use Rattle.std.specs.Range.Bound.{bound_map}
use Rattle.std.specs.declared.ops.Bound.{Bound}
use Rattle.std.specs.declared.ops.Bound.TheVariants.{Included, Excluded, Unbounded}

-- whether a key stands before another
abbrev pub key_lt : List ℕ → List ℕ → Bool
key_lt a b = is_lt (slice_cmp nat_cmp a b)

-- whether a key stands before another, or is it
abbrev pub key_le : List ℕ → List ℕ → Bool
key_le a b = is_le (slice_cmp nat_cmp a b)

-- a bound at the key that it points to
abbrev pub pointed : Bound (Bor (List ℕ)) → Bound (List ℕ)
pointed = bound_map (λ k. k.now)

-- whether a key is at or past a start
unfoldable pub is_past : Bound (List ℕ) → List ℕ → Bool
is_past (Included k) key = key_le k key
is_past (Excluded k) key = key_lt k key
is_past Unbounded key = true

-- whether a key is at or before an end
unfoldable pub is_up_to : Bound (List ℕ) → List ℕ → Bool
is_up_to (Included k) key = key_le key k
is_up_to (Excluded k) key = key_lt key k
is_up_to Unbounded key = true

-- whether a start and an end make a proper range: a side is unbounded, both are included and the start is at most the end, or
-- the start is below the end
unfoldable pub is_ordered : Bound (List ℕ) → Bound (List ℕ) → Bool
is_ordered (Included s) (Included e) = key_le s e
is_ordered (Included s) (Excluded e) = key_lt s e
is_ordered (Excluded s) (Included e) = key_lt s e
is_ordered (Excluded s) (Excluded e) = key_lt s e
is_ordered (Included s) Unbounded = true
is_ordered (Excluded s) Unbounded = true
is_ordered Unbounded e = true

-- whether a start stands before another: it lets in more keys
unfoldable pub starts_before : Bound (List ℕ) → Bound (List ℕ) → Bool
starts_before (Included a) (Included b) = key_lt a b
starts_before (Included a) (Excluded b) = key_le a b
starts_before (Excluded a) (Included b) = key_lt a b
starts_before (Excluded a) (Excluded b) = key_lt a b
starts_before Unbounded (Included b) = true
starts_before Unbounded (Excluded b) = true
starts_before a Unbounded = false

-- whether an end stands before another: it lets in fewer keys
unfoldable pub ends_before : Bound (List ℕ) → Bound (List ℕ) → Bool
ends_before (Included a) (Included b) = key_lt a b
ends_before (Included a) (Excluded b) = key_lt a b
ends_before (Excluded a) (Included b) = key_le a b
ends_before (Excluded a) (Excluded b) = key_lt a b
ends_before (Included a) Unbounded = true
ends_before (Excluded a) Unbounded = true
ends_before Unbounded b = false

-- the later of two starts
abbrev pub later : Bound (List ℕ) → Bound (List ℕ) → Bound (List ℕ)
later a b = if starts_before a b then b else a

-- the earlier of two ends
abbrev pub earlier : Bound (List ℕ) → Bound (List ℕ) → Bound (List ℕ)
earlier a b = if ends_before b a then b else a

-- whether a key begins with these bytes
unfoldable pub begins_with : List ℕ → List ℕ → Bool
begins_with [] key = true
begins_with (b ∷ bs) [] = false
begins_with (b ∷ bs) (k ∷ key) = (b == k) && begins_with bs key

-- one byte less than its end, one higher there
abbrev pub raised : ℕ → Option (List ℕ) → Option (List ℕ)
raised b (Some rest) = Some (b ∷ rest)
raised b None = if b == 255 then None else Some ((b + 1) ∷ [])

-- the least key above all that begin with these bytes; none where all are 255
unfoldable pub successor : List ℕ → Option (List ℕ)
successor [] = None
successor (b ∷ bs) = raised b (successor bs)

-- an end before a key, and none without it
abbrev pub end_before : Option (List ℕ) → Bound (List ℕ)
end_before (Some key) = Excluded key
end_before None = Unbounded
