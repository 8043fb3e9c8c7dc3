-- A store in memory.
use Rattle.std.specs.Prelude.{◌≡◌, ℕ, ◌+◌, nat_lt, not, if◌then◌else◌, Option, Some, None, Result, Ok, Err, List, ◌∷◌, map, drop}
use Rattle.slate_ids.specs.Limits.{last_number, next_count}
use Rattle.slate_ids.specs.declared.object_path.ObjectPath.{ObjectPath}
use Rattle.slate_store.specs.Store.{Store}
use Rattle.slate_store.specs.StoreCalls.{Told, next_mark}
use Rattle.slate_store.specs.declared.mark.Mark.{Mark}
use Rattle.slate_store.specs.declared.mark.Mark.TheVariants.{Good, Fail, Lost}
use Rattle.slate_store.specs.declared.store.StoreError.{StoreError}
use Rattle.slate_store.specs.declared.store.StoreError.TheVariants.{Fault, OutOfMemory}

-- a store in memory: the objects with the last tag, the marks of the calls to come, and the count of faults
pub record Memory : Type 0 where
  pub store : Store
  pub marks : List Mark
  pub faults : ℕ

-- what a store in memory tells of itself
abbrev pub told_of : Memory → Told
told_of m = record { faults = m.faults; contents = Some m.store; marks = Some m.marks; calls = None }

-- the paths of all objects, ascending by their text
abbrev pub paths_of : Store → List ObjectPath
paths_of s = map (λ o. o.0) s.objects

-- the marks to come: the one that was set stands in the place of the first of the others
abbrev pub marks_of : Option Mark → List Mark → List Mark
marks_of None marks = marks
marks_of (Some mark) marks = mark ∷ drop 1 marks

-- the count of faults after a call under a mark
abbrev pub faults_after : Mark → ℕ → ℕ
faults_after Good faults = faults
faults_after Fail faults = next_count faults
faults_after Lost faults = next_count faults

-- an answer under a mark
abbrev pub answer_under : {X : Type 0} → Mark → X → Result X StoreError
answer_under Good x = Ok x
answer_under Fail x = Err Fault
answer_under Lost x = Err Fault

-- with the first mark taken, and its fault counted
abbrev pub answered : Memory → Memory
answered m = record { store = m.store; marks = drop 1 m.marks; faults = faults_after (next_mark m.marks) m.faults }

-- with the first mark taken, and a fault counted
abbrev pub faulted : Memory → Memory
faulted m = record { store = m.store; marks = drop 1 m.marks; faults = next_count m.faults }

-- the mark by which a write goes: where no tag is left it fails
abbrev pub write_mark : Memory → Mark
write_mark m = if not (nat_lt m.store.last_tag last_number) then Fail else next_mark m.marks

-- the tag of a write under a mark, where it writes
abbrev pub tag_under : Mark → ℕ → Option ℕ
tag_under Good tag = Some tag
tag_under Fail tag = None
tag_under Lost tag = Some tag

-- what a call leaves under a mark: Fail leaves the old
abbrev pub left_under : {X : Type 0} → Mark → X → X → X
left_under Good old new = new
left_under Fail old new = old
left_under Lost old new = new

-- with a write made under a mark
abbrev pub written : Mark → Store → Memory → Memory
written mark new m = record { store = left_under mark m.store new; marks = drop 1 m.marks; faults = faults_after mark m.faults }

-- a write was made under a mark, or memory ran out and nothing changed
abbrev pub Writes : Mark → Store → Memory → Memory → Result ℕ StoreError → Type 0
Writes mark store old new (Ok tag) = (Ok tag ≡ answer_under mark (old.store.last_tag + 1)) × (new ≡ written mark store old)
Writes mark store old new (Err Fault) = (Err Fault ≡ answer_under mark (old.store.last_tag + 1)) × (new ≡ written mark store old)
Writes mark store old new (Err OutOfMemory) = new ≡ old
