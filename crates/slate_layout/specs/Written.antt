-- The bytes that a manifest was written as.
use Rattle.std.specs.Prelude.{◌≡◌, ℕ, List, ◌∷◌, Ok}
use Rattle.slate_model.specs.declared.manifest.Manifest.{Manifest}
use Rattle.slate_layout_encoding.specs.Encoding.{encoded_manifest}

-- bytes of version 2 that were decoded to a manifest are those that it is encoded to
abbrev pub OnlyWritten : List ℕ → Manifest → Type 0
OnlyWritten bytes m = (rest : List ℕ) → bytes ≡ 0 ∷ 2 ∷ rest → encoded_manifest m ≡ Ok bytes
