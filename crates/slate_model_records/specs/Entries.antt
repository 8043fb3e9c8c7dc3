-- Compactions in a map, by their ids.
use Rattle.std.specs.Prelude.{◌≡◌, ℕ, List, [], ◌∷◌, map}
use Rattle.slate_model_records.specs.declared.compaction.Compaction.{Compaction}

-- the compactions of a map's entries
abbrev pub compactions_of : List ((ℕ × ℕ) × Compaction) → List Compaction
compactions_of entries = map (λ e. e.1) entries

-- each compaction stands under its own id
abbrev pub UnderOwnIds : List ((ℕ × ℕ) × Compaction) → Type 0
UnderOwnIds [] = Unit {0}
UnderOwnIds (e ∷ entries) = (e.0 ≡ e.1.id) × UnderOwnIds entries
