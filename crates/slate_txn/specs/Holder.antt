-- What a holder holds.
use Rattle.std.specs.Prelude.{ℕ}
use Rattle.slate_txn_log.specs.declared.sequenced.Sequenced.{Sequenced}

-- the log, its rules, and the version that was read or committed
pub record Holder (T C R : Type 0) : Type 0 where
  pub sequenced : Sequenced T C
  pub rules : R
  pub id : ℕ
  pub object : T

-- the holder at another version
abbrev pub at_version : {T C R : Type 0} → Holder T C R → ℕ → T → Holder T C R
at_version holder id value = record holder { id = id; object = value }

-- the holder of a version of a log
abbrev pub holder_of : {T C R : Type 0} → Sequenced T C → R → ℕ × T → Holder T C R
holder_of sequenced rules version = record { sequenced = sequenced; rules = rules; id = version.0; object = version.1 }
