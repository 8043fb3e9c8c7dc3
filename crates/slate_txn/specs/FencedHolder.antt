-- What a fenced holder holds.
use Rattle.std.specs.Prelude.{ℕ}
use Rattle.slate_txn.specs.Holder.{Holder, at_version}

-- the holder, how epochs are read, and the epoch that it committed
pub record FencedHolder (T C R E : Type 0) : Type 0 where
  pub holder : Holder T C R
  pub epochs : E
  pub epoch : ℕ

-- the fenced holder of a version: its epoch is the version's
abbrev pub fenced_at : {T C R E : Type 0} → (E → T → ℕ) → Holder T C R → E → FencedHolder T C R E
fenced_at epoch holder epochs = record { holder = holder; epochs = epochs; epoch = epoch epochs holder.object }

-- the fenced holder at another version: its own epoch stays
abbrev pub fenced_version : {T C R E : Type 0} → FencedHolder T C R E → ℕ → T → FencedHolder T C R E
fenced_version fenced id value = record fenced { holder = at_version fenced.holder id value }

-- the state of the machine within, as one of the fenced holder
abbrev pub state_within : {P T C R E : Type 0} → FencedHolder T C R E → P × Holder T C R → P × FencedHolder T C R E
state_within fenced state = (state.0, record fenced { holder = state.1 })
