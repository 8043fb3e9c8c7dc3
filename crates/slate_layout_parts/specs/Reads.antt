-- What it is that a reading gives back what was written, and finds only that.
use Rattle.std.specs.Prelude.{◌≡◌, ℕ, ◌<◌, ◌≤◌, ◌^◌, ◌++◌, List, [], ◌∷◌, length, get_or, Option, Some, None}

-- each is below 256
pub record AreBytes (bytes : List ℕ) : Type 0 where
  pub small : (i : ℕ) → get_or bytes i 0 < 256

-- the bytes are those of a value, and the rest
pub record IsFront (front bytes rest : List ℕ) : Type 0 where
  pub is : front ++ rest ≡ bytes
  pub rest_small : AreBytes rest

-- what was read of bytes fits, and its bytes stand in front of the rest
pub record IsRead {X : Type 0} (write : X → List ℕ) (Fits : X → Type 0) (x : X) (bytes rest : List ℕ) : Type 0 where
  pub fits : Fits x
  pub front_is : IsFront (write x) bytes rest

-- what fits is read as it was written, what is read fits and was written so, and has at least so many bytes
pub record Reads {X : Type 0} (read : List ℕ → Option (X × List ℕ)) (write : X → List ℕ) (Fits : X → Type 0) (least : ℕ) : Type 0 where
  pub back : (x : X) (rest : List ℕ) → Fits x → read (write x ++ rest) ≡ Some (x, rest)
  pub only : (bytes : List ℕ) (x : X) (rest : List ℕ) → AreBytes bytes → read bytes ≡ Some (x, rest) → IsRead write Fits x bytes rest
  pub long : (x : X) → Fits x → least ≤ length (write x)

-- ---- options

-- a value that fits, where there is one
abbrev pub OptionFits : {X : Type 0} → (X → Type 0) → Option X → Type 0
OptionFits Fits None = Unit {0}
OptionFits Fits (Some x) = Fits x

-- ---- lists

-- each value fits
abbrev pub EachFits : {X : Type 0} → (X → Type 0) → List X → Type 0
EachFits Fits [] = Unit {0}
EachFits Fits (x ∷ xs) = Fits x × EachFits Fits xs

-- each value fits, and their count has 32 bits
pub record ListFits {X : Type 0} (Fits : X → Type 0) (xs : List X) : Type 0 where
  pub each : EachFits Fits xs
  pub few : length xs < 2 ^ 32

-- ---- one after the other

-- both fit
abbrev pub PairFits : {X Y : Type 0} → (X → Type 0) → (Y → Type 0) → X × Y → Type 0
PairFits Fits Next p = Fits p.0 × Next p.1

-- ---- values made of others

-- what it is made of fits, and it is what is made of that
pub record MadeFits {X Y : Type 0} (make : X → Option Y) (parts : Y → X) (Fits : X → Type 0) (y : Y) : Type 0 where
  pub fits : Fits (parts y)
  pub is_made : make (parts y) ≡ Some y
