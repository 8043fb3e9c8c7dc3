-- Prefixes that nest: one begins with the other.
use Rattle.std.specs.Prelude.{ℕ, zero, suc, List, Option, Some, None, is_some, option_map, slice_get, if◌then◌else◌}
use Rattle.slate_ids.specs.Keys.{begins_with}
use Rattle.slate_ids.specs.declared.error.SlateDBError.{SlateDBError}
use Rattle.slate_ids.specs.declared.error.SlateDBError.TheVariants.{InvalidSegmentPrefix}
use Rattle.slate_model.specs.Segments.{Prefixed, segment_at, place_of}

-- the segment right before a place
abbrev pub before_place : ℕ → List Prefixed → Option Prefixed
before_place zero segments = None
before_place (suc i) segments = slice_get segments i

-- the prefix of a segment, where it begins with this one
abbrev pub longer_in : List ℕ → Option Prefixed → Option (List ℕ)
longer_in prefix None = None
longer_in prefix (Some s) = if begins_with prefix s.prefix then Some s.prefix else None

-- the prefix of a segment, where this one begins with it
abbrev pub shorter_in : List ℕ → Option Prefixed → Option (List ℕ)
shorter_in prefix None = None
shorter_in prefix (Some s) = if begins_with s.prefix prefix then Some s.prefix else None

-- the first that is there
abbrev pub first_of : Option (List ℕ) → Option (List ℕ) → Option (List ℕ)
first_of (Some a) b = Some a
first_of None b = b

-- the prefix beside this one that nests with it: the next one, which begins with it, or the one before, with which it begins
abbrev pub nested : List ℕ → List Prefixed → Option (List ℕ)
nested prefix segments = first_of (longer_in prefix (slice_get segments (place_of prefix segments))) (shorter_in prefix (before_place (place_of prefix segments) segments))

-- the prefix that keeps this one from standing among the segments; none where it stands there
abbrev pub conflict : List ℕ → List Prefixed → Option (List ℕ)
conflict prefix segments = if is_some (segment_at prefix segments) then None else nested prefix segments

-- what the check of a prefix answers
abbrev pub nesting_refusal : List ℕ → List Prefixed → Option SlateDBError
nesting_refusal prefix segments = option_map (InvalidSegmentPrefix prefix) (conflict prefix segments)
