-- A plain call over a machine: which of its steps use a turn. A conflict does, and the machine begins again; so does a list that begins again.
use Rattle.std.specs.Prelude.{Bool, true, Ok, Err, if◌then◌else◌}
use Rattle.slate_ids.specs.Answers.{is_conflict}
use Rattle.slate_store.specs.Machines.{Goes, Stay, End}
use Rattle.slate_store.specs.declared.store_answer.StoreAnswer.{StoreAnswer}
use Rattle.slate_store.specs.declared.store_call.StoreCall.{StoreCall}

-- a phase, and whether the last step used a turn
abbrev pub Turn : Type 0 → Type 0
Turn P = P × Bool

abbrev pub is_turned : {P : Type 0} → Turn P → Bool
is_turned turn = turn.1

-- the one call of each phase
abbrev pub turn_asks : {P : Type 0} → (P → StoreCall) → Turn P → StoreCall
turn_asks asks turn = asks turn.0

-- after a step: by which steps lead back to a list, and where a phase begins again
abbrev pub turned_on : {P R : Type 0} → (P → P → Bool) → (P → P) → Turn P → Goes P R → Goes (Turn P) R
turned_on again restart from (Stay to) = Stay (to, again from.0 to)
turned_on again restart from (End to (Ok r)) = End (to, from.1) (Ok r)
turned_on again restart from (End to (Err e)) = if is_conflict e then Stay (restart to, true) else End (to, from.1) (Err e)

-- how the plain call goes on
abbrev pub turn_goes : {P R : Type 0} → (P → P → Bool) → (P → P) → (P → StoreAnswer → Goes P R) → Turn P → StoreAnswer → Goes (Turn P) R
turn_goes again restart goes turn answer = turned_on again restart turn (goes turn.0 answer)
