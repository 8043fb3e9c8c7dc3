-- When a call is due, and where a fault comes from.
use Rattle.std.specs.Prelude.{◌≡◌, ◌≢◌, Bool, true, false, Result, Err}
use Rattle.slate_ids.specs.Answers.{ran_out}
use Rattle.slate_ids.specs.declared.error.SlateDBError.{SlateDBError}
use Rattle.slate_ids.specs.declared.error.SlateDBError.TheVariants.{StoreFault}
use Rattle.slate_store.specs.StoreCalls.{Told, Rose}
use Rattle.slate_store.specs.declared.step.Step.{Step}
use Rattle.slate_store.specs.declared.step.Step.TheVariants.{Again, Done}

-- a call is due after Again, and after Done just where memory ran out
abbrev pub StillDue : {R : Type 0} → Step R → Bool → Type 0
StillDue Again due = due ≡ true
StillDue (Done r) due = due ≡ ran_out r

-- a result is a fault only where the store's count of faults rose
abbrev pub FaultOf : {R : Type 0} → Told → Told → Result R SlateDBError → Type 0
FaultOf old new result = result ≡ Err StoreFault → Rose old.faults new.faults

-- the same of a step
abbrev pub FaultRose : {R : Type 0} → Told → Told → Step R → Type 0
FaultRose old new step = step ≡ Done (Err StoreFault) → Rose old.faults new.faults

-- bytes are refused for what they are, never as a fault of the store
abbrev pub NoFault : {X Y : Type 0} → (X → Result Y SlateDBError) → Type 0
NoFault f = (x : _) → f x ≢ Err StoreFault

-- where memory runs out
abbrev pub WhereOut : {R : Type 0} → Step R → Type 0 → Type 0
WhereOut Again fact = Unit {0}
WhereOut (Done r) fact = ran_out r ≡ true → fact

-- memory runs out only before the step's one store call: none was made, and the store is as it was
abbrev pub OutBefore : {R : Type 0} → Told → Told → Step R → Type 0
OutBefore old new step = WhereOut step (new ≡ old)

-- memory never runs out
abbrev pub NeverOut : {R : Type 0} → Step R → Type 0
NeverOut Again = Unit {0}
NeverOut (Done r) = ran_out r ≡ false
