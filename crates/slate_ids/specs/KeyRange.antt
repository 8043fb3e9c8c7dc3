-- Ranges of keys, as sets of keys.
use Rattle.std.specs.Prelude.{◌≡◌, ◌⊎◌, ℕ, ◌&&◌, Bool, true, List, [], Option, Some, None, if◌then◌else◌}
use Rattle.std.specs.declared.ops.Bound.{Bound}
use Rattle.std.specs.declared.ops.Bound.TheVariants.{Included, Excluded}
use Rattle.slate_ids.specs.Keys.{is_past, is_up_to, is_ordered, later, earlier, successor, end_before}

-- the keys from a start to an end
pub record KeyRange : Type 0 where
  pub start : Bound (List ℕ)
  pub end : Bound (List ℕ)

-- whether a range has a key
abbrev pub has_key : KeyRange → List ℕ → Bool
has_key r key = is_past r.start key && is_up_to r.end key

-- whether a range's start and end are those of a proper range
abbrev pub is_proper : KeyRange → Bool
is_proper r = is_ordered r.start r.end

-- the range without keys: it starts after the first key and ends before it
abbrev pub no_keys : KeyRange
no_keys = record { start = Excluded []; end = Excluded [] }

-- what two ranges have in common: from the later start to the earlier end
unfoldable pub common : KeyRange → KeyRange → KeyRange
common a b = record { start = later a.start b.start; end = earlier a.end b.end }

-- whether what two ranges have in common is proper
abbrev pub ranges_meet : KeyRange → KeyRange → Bool
ranges_meet a b = is_proper (common a b)

-- what two ranges have in common, where it is proper
abbrev pub intersection : KeyRange → KeyRange → Option KeyRange
intersection a b = if is_proper (common a b) then Some (common a b) else None

-- the keys that begin with these bytes: from the bytes to their successor
abbrev pub prefix_range : List ℕ → KeyRange
prefix_range prefix = record { start = Included prefix; end = end_before (successor prefix) }

-- the ranges that there are: proper ones, and the one without keys
abbrev pub IsRange : KeyRange → Type 0
IsRange r = (is_proper r ≡ true) ⊎ (r ≡ no_keys)
