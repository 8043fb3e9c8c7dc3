-- The plain call that reads the latest version.
use Rattle.std.specs.Prelude.{ℕ, List, Option, Result, pos}
use Rattle.slate_ids.specs.declared.error.SlateDBError.{SlateDBError}
use Rattle.slate_store.specs.StoreCalls.{Told}
use Rattle.slate_store.specs.CallRuns.{Ran, Began}
use Rattle.slate_txn_log.specs.ReadPhase.{read_asks, read_goes, is_listing}
use Rattle.slate_txn_log.specs.declared.read_phase.ReadPhase.{ReadPhase}
use Rattle.slate_txn_log.specs.declared.read_phase.ReadPhase.TheVariants.{Listing}
use Rattle.slate_txn_log.specs.declared.sequenced.Sequenced.{Sequenced}

-- the read ran, with so many tries
abbrev pub Read : {T C : Type 0} → (C → List ℕ → Result T SlateDBError) → Sequenced T C → ℕ → Told → Told → Result (Option (ℕ × T)) SlateDBError → Type 0
Read decoded sequenced tries old new result =
    (to : ReadPhase _) × Ran is_listing (read_asks sequenced.db sequenced.log) (read_goes sequenced.log (decoded sequenced.codec)) (pos 0) tries old new Listing to result

-- memory ran out within the read
abbrev pub ReadBegan : {T C : Type 0} → (C → List ℕ → Result T SlateDBError) → Sequenced T C → ℕ → Told → Told → Type 0
ReadBegan decoded sequenced tries old new =
    (to : ReadPhase _) × Began is_listing (read_asks sequenced.db sequenced.log) (read_goes sequenced.log (decoded sequenced.codec)) (pos 0) tries old new Listing to
