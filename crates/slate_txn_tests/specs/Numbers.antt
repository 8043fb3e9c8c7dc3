-- Pairs of an epoch and a value, both below 256: the values of the logs that tests keep.
use Rattle.std.specs.Prelude.{◌≡◌, ℕ, ◌&&◌, nat_lt, Bool, true, false, List, [], ◌∷◌, Option, Some, None, Result, Ok, Err, if◌then◌else◌, refl}
use Rattle.std.proofs.Common.{subst}
use Rattle.slate_ids.specs.declared.error.SlateDBError.{SlateDBError}
use Rattle.slate_ids.specs.declared.error.SlateDBError.TheVariants.{Corrupt, UpdateRefused}
use Rattle.slate_ids.specs.declared.error.FormatName.TheVariants.{Info}
use Rattle.slate_ids.specs.declared.error.UpdateRule.TheVariants.{U1}

-- two bytes
abbrev pub encoded : ℕ × ℕ → Result (List ℕ) SlateDBError
encoded v = if nat_lt v.0 256 && nat_lt v.1 256 then Ok (v.0 ∷ v.1 ∷ []) else Err (Corrupt Info)

-- and back
abbrev pub decoded : List ℕ → Result (ℕ × ℕ) SlateDBError
decoded (a ∷ b ∷ []) = Ok (a, b)
decoded _ = Err (Corrupt Info)

-- values don't fall
abbrev pub refusal : ℕ × ℕ → ℕ × ℕ → Option SlateDBError
refusal old new = if nat_lt new.1 old.1 then Some (UpdateRefused U1) else None

by_test : (v : ℕ × ℕ) (bytes : List ℕ) (b : Bool) → (if b then Ok (v.0 ∷ v.1 ∷ []) else Err (Corrupt Info)) ≡ Ok bytes → decoded bytes ≡ Ok v
by_test v bytes true h = let same : v.0 ∷ v.1 ∷ [] ≡ bytes = cc in subst (λ (bs : List ℕ). decoded bs ≡ Ok v) same refl
by_test v bytes false h = absurd cc

pub round_trip : (v : ℕ × ℕ) (bytes : List ℕ) → encoded v ≡ Ok bytes → decoded bytes ≡ Ok v
round_trip v bytes h = by_test v bytes (nat_lt v.0 256 && nat_lt v.1 256) h
