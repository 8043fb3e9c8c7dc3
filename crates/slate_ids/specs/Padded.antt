-- How the name of a database is kept: a block of 64 bytes, of which the rest are zeros.
use Rattle.std.specs.Prelude.{◌≡◌, ℕ, ◌-◌, ◌≤◌, List, ◌++◌, length, take, replicate, true}
use Rattle.std.proofs.Common.{◌∙◌, ap}
use Rattle.slate_ids.specs.Ids.{is_db_path}
use Rattle.slate_ids.specs.declared.db_path.DbPath.TheInside.{Inside}

-- the letters, and zeros up to the end of the block
abbrev pub padded : List ℕ → List ℕ
padded letters = letters ++ replicate (64 - length letters) 0

abbrev pub letters_of : Inside → List ℕ
letters_of a = take a.used a.block

-- the letters are a name, and the rest of the block is zeros
pub record IsPadded (a : Inside) : Type 0 where
  pub room : a.used ≤ 64
  pub count : length (take a.used a.block) ≡ a.used
  pub rest : padded (take a.used a.block) ≡ a.block
  pub name : is_db_path (take a.used a.block) ≡ true

abbrev pub inside_of : List ℕ → Inside
inside_of letters = record { block = padded letters; used = length letters }

pub inside_of-ok : (a : Inside) → IsPadded a → inside_of (letters_of a) ≡ a
inside_of-ok a h = ap (λ (p : List ℕ). record { block = p; used = length (take a.used a.block) }) h.rest ∙ ap (λ (n : ℕ). record { block = a.block; used = n }) h.count
