-- Segments: trees of the keys that begin with a prefix.
use Rattle.std.specs.Prelude.{◌≡◌, ℕ, ◌&&◌, Bool, true, List, [], ◌∷◌, Option, Some, None, bytes_eq, if◌then◌else◌}
use Rattle.std.specs.List.{find, prefix_len}
use Rattle.slate_ids.specs.Keys.{key_lt}
use Rattle.slate_model.specs.declared.lsm_tree_state.LsmTreeState.{LsmTreeState}

-- a segment: the prefix of its keys, and its tree
pub record Prefixed : Type 0 where
  pub prefix : List ℕ
  pub tree : LsmTreeState

-- whether the prefixes ascend strictly, from above this one
abbrev pub ascend_from : List ℕ → List Prefixed → Bool
ascend_from last [] = true
ascend_from last (s ∷ segments) = key_lt last s.prefix && ascend_from s.prefix segments

-- whether no prefix is empty and the prefixes ascend strictly: the empty prefix stands before all others
abbrev pub are_ascending : List Prefixed → Bool
are_ascending segments = ascend_from [] segments

-- the same as a fact
abbrev pub IsAscending : List Prefixed → Type 0
IsAscending segments = are_ascending segments ≡ true

-- the segment, where its prefix is exactly this one
abbrev pub exactly : List ℕ → Option Prefixed → Option Prefixed
exactly prefix None = None
exactly prefix (Some s) = if bytes_eq s.prefix prefix then Some s else None

-- the segment of exactly this prefix
abbrev pub segment_at : List ℕ → List Prefixed → Option Prefixed
segment_at prefix segments = find (λ s. bytes_eq s.prefix prefix) segments

-- how many segments stand before this prefix
abbrev pub place_of : List ℕ → List Prefixed → ℕ
place_of prefix segments = prefix_len (λ s. key_lt s.prefix prefix) segments
