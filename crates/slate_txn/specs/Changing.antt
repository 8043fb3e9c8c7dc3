-- What a function makes of a version.
use Rattle.std.specs.Prelude.{◌≡◌, ℕ, Option, Result}
use denote.Ref.{Bor}
use Rattle.slate_ids.specs.Answers.{Gives}
use Rattle.slate_ids.specs.declared.error.SlateDBError.{SlateDBError}

-- what a function makes of the number and the value of a version: a new value, nothing, or a refusal
abbrev pub Making : Type 0 → Type 0
Making T = ℕ → T → Result (Option T) SlateDBError

-- a function whose answers these are computes made, of the number and the value of a version, unless memory runs out
abbrev pub Computes : {T : Type 0} → (ℕ → Bor T → Result (Option T) SlateDBError → Type 0) → (ℕ → T → Result (Option T) SlateDBError) → Type 0
Computes answers made = (id : ℕ) (value : Bor _) (reply : Result (Option _) SlateDBError) → answers id value reply → Gives reply (made id value.now)

-- the same of one that is given the log's codec too
abbrev pub ComputesWith : {C T : Type 0} → (Bor C → ℕ → Bor T → Result (Option T) SlateDBError → Type 0) → (ℕ → T → Result (Option T) SlateDBError) → Type 0
ComputesWith answers made = (codec : Bor _) (id : ℕ) (value : Bor _) (reply : Result (Option _) SlateDBError) → answers codec id value reply → Gives reply (made id value.now)

-- the answers that a function may give of the number and the value of a version
pub record May {T : Type 0} (answers : ℕ → Bor T → Result (Option T) SlateDBError → Type 0) (id : ℕ) (value : T) (reply : Result (Option T) SlateDBError) : Type 0 where
  pub shown : Bor T
  pub shows : shown.now ≡ value
  pub says : answers id shown reply

-- the same of one that is given the log's codec too
pub record MayWith {C T : Type 0} (answers : Bor C → ℕ → Bor T → Result (Option T) SlateDBError → Type 0) (id : ℕ) (value : T) (reply : Result (Option T) SlateDBError) : Type 0 where
  pub codec : Bor C
  pub shown : Bor T
  pub shows : shown.now ≡ value
  pub says : answers codec id shown reply
