-- The plain call that moves the boundary up.
use Rattle.std.specs.Prelude.{ℕ, ℤ, ◌≤◌, List, Option, Some, None, Result}
use Rattle.slate_ids.specs.declared.error.SlateDBError.{SlateDBError}
use Rattle.slate_store.specs.StoreCalls.{Told}
use Rattle.slate_store.specs.CallRuns.{Ran, Began}
use Rattle.slate_store.specs.Store.{Store, object_at}
use Rattle.slate_txn_log.specs.AdvancePhase.{advance_asks, advance_goes, is_bounding}
use Rattle.slate_txn_log.specs.Boundary.{boundary_got}
use Rattle.slate_txn_log.specs.LogPaths.{boundary_path}
use Rattle.slate_txn_log.specs.declared.advance_phase.AdvancePhase.{AdvancePhase}
use Rattle.slate_txn_log.specs.declared.advance_phase.AdvancePhase.TheVariants.{Bounding}
use Rattle.slate_txn_log.specs.declared.log_kind.LogKind.{LogKind}
use Rattle.slate_txn_log.specs.declared.sequenced.Sequenced.{Sequenced}

-- the advance ran, with so many tries
abbrev pub Advanced : {T C : Type 0} → Sequenced T C → ℕ → ℤ → ℕ → Told → Told → Result (Unit {0}) SlateDBError → Type 0
Advanced sequenced n moment tries old new result =
    (to : AdvancePhase) × Ran is_bounding (advance_asks sequenced.db sequenced.log) advance_goes moment tries old new (Bounding n) to result

-- memory ran out within the advance
abbrev pub AdvanceBegan : {T C : Type 0} → Sequenced T C → ℕ → ℤ → ℕ → Told → Told → Type 0
AdvanceBegan sequenced n moment tries old new =
    (to : AdvancePhase) × Began is_bounding (advance_asks sequenced.db sequenced.log) advance_goes moment tries old new (Bounding n) to

-- the boundary of a log in a store, where it can be read
abbrev pub boundary_at : List ℕ → LogKind → Store → Option ℕ
boundary_at db log s = boundary_got (object_at (boundary_path log db) s)

-- a boundary that can be read, and is at least this number
abbrev pub AtLeast : ℕ → Option ℕ → Type 0
AtLeast n None = ⊥
AtLeast n (Some boundary) = n ≤ boundary

-- the boundary in these contents is at least this number
abbrev pub ReachedIn : List ℕ → LogKind → ℕ → Option Store → Type 0
ReachedIn db log n None = Unit {0}
ReachedIn db log n (Some s) = AtLeast n (boundary_at db log s)

-- where contents are told, the boundary can be read and is at least this number
abbrev pub BoundaryReached : List ℕ → LogKind → ℕ → Told → Type 0
BoundaryReached db log n told = ReachedIn db log n told.contents

-- a boundary that could be read can be read, and is no lower
abbrev pub NoLower : Option ℕ → Option ℕ → Type 0
NoLower None new = Unit {0}
NoLower (Some boundary) new = AtLeast boundary new

-- from contents to contents the boundary is no lower
abbrev pub KeptIn : List ℕ → LogKind → Option Store → Option Store → Type 0
KeptIn db log None new = Unit {0}
KeptIn db log (Some s) None = ⊥
KeptIn db log (Some s) (Some t) = NoLower (boundary_at db log s) (boundary_at db log t)

-- where contents are told, a boundary that could be read can be read afterwards, and is no lower
abbrev pub BoundaryKept : List ℕ → LogKind → Told → Told → Type 0
BoundaryKept db log old new = KeptIn db log old.contents new.contents
