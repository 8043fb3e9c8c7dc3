-- The versions that a manifest's checkpoints name.
use Rattle.std.specs.Prelude.{◌||◌, ◌&&◌, ◌==◌, ℕ, Bool, true, not, List, [], ◌∷◌, ◌++◌, if◌then◌else◌}
use Rattle.std.specs.List.{list_any}
use Rattle.slate_model.specs.declared.checkpoint.Checkpoint.{Checkpoint}

-- whether a number is among others
abbrev pub has_number : ℕ → List ℕ → Bool
has_number n kept = list_any (λ k. k == n) kept

-- whether each number is there once
abbrev pub each_once : List ℕ → Bool
each_once [] = true
each_once (n ∷ ns) = not (has_number n ns) && each_once ns

-- with a number that is named, unless it is the own one or is there
abbrev pub with_name : ℕ → List ℕ → ℕ → List ℕ
with_name own kept n = if (n == own) || has_number n kept then kept else kept ++ n ∷ []

-- with those that checkpoints name
abbrev pub named_from : ℕ → List ℕ → List Checkpoint → List ℕ
named_from own kept [] = kept
named_from own kept (c ∷ cs) = named_from own (with_name own kept c.manifest_id) cs

-- the numbers that a manifest's checkpoints name, other than its own, each once, in the checkpoints' order
abbrev pub named_numbers : ℕ → List Checkpoint → List ℕ
named_numbers own cs = named_from own [] cs
