-- The segments that a range of keys meets.
use Rattle.std.specs.Prelude.{◌&&◌, Bool, true, not, List, [], ◌∷◌, filter, Option, Some, None, ℕ}
use Rattle.slate_ids.specs.Keys.{begins_with}
use Rattle.slate_ids.specs.KeyRange.{KeyRange, ranges_meet, prefix_range}
use Rattle.slate_model.specs.Segments.{Prefixed}

-- whether no segment's prefix begins with this one
abbrev pub none_begins : List ℕ → List Prefixed → Bool
none_begins prefix [] = true
none_begins prefix (s ∷ segments) = not (begins_with prefix s.prefix) && none_begins prefix segments

-- whether no segment's prefix begins with an earlier one's; as they ascend, none begins with a later one's
abbrev pub are_apart : List Prefixed → Bool
are_apart [] = true
are_apart (s ∷ segments) = none_begins s.prefix segments && are_apart segments

-- whether the keys of a segment and a range meet
abbrev pub meets : KeyRange → Prefixed → Bool
meets r s = ranges_meet (prefix_range s.prefix) r

-- the segments whose keys meet the range; none to choose from, where there are no segments
abbrev pub selected : KeyRange → List Prefixed → Option (List Prefixed)
selected r [] = None
selected r (s ∷ segments) = Some (filter (meets r) (s ∷ segments))
