-- What the writer of a compactor's state holds.
use Rattle.std.specs.Prelude.{◌≡◌, ℕ, List, Result, Ok, Err}
use Rattle.slate_state_compactor.specs.declared.local_state.LocalState.{LocalState}
use Rattle.slate_state_calls.specs.Compactors.{with_local}
use Rattle.slate_state_calls.specs.declared.compactor.Compactor.{Compactor}
use Rattle.slate_ids.specs.declared.error.SlateDBError.{SlateDBError}

-- the database, and what a compactor holds of it
pub record Writer : Type 0 where
  pub db : List ℕ
  pub compactor : Compactor

-- after the end of a compaction it has this local state
abbrev pub ended : LocalState → Writer → Writer
ended local w = record w { compactor = with_local local w.compactor }

-- the writer of a compactor that was opened
abbrev pub held_by : List ℕ → Result Compactor SlateDBError → Result Writer SlateDBError
held_by db (Ok c) = Ok (record { db = db; compactor = c })
held_by db (Err e) = Err e

-- the database and the epoch stay
pub record KeepsOwn (old new : Writer) : Type 0 where
  pub db : new.db ≡ old.db
  pub epoch : new.compactor.epoch ≡ old.compactor.epoch
