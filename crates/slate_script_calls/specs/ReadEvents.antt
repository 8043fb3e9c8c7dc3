-- The events that an item of a script stands for.
use Rattle.std.specs.Prelude.{ℕ, ◌&&◌, nat_le, Bool, List, [], ◌∷◌, replicate, Option, Some, None, is_some, codes, if◌then◌else◌}
use Rattle.serde_json.specs.Data.{Data}
use Rattle.serde_json.specs.Find.{get}
use Rattle.slate_store.specs.declared.mark.Mark.TheVariants.{Good}
use Rattle.slate_script_json.specs.Fields.{◌>>=◌, only, required, defaulted, u32_in, i64_in, db_path_in}
use Rattle.slate_script_json.specs.Words.{kind_in, mark_in}
use Rattle.slate_script_calls.specs.ReadCalls.{call_in}
use Rattle.slate_script_events.specs.declared.event.Event.{Event}
use Rattle.slate_script_events.specs.declared.event.Event.TheVariants.{Open, Start, Step, Stop}
use Rattle.slate_script_calls.specs.declared.items.EventItem.{EventItem}
use Rattle.slate_script_calls.specs.declared.items.EventItem.TheVariants.{Once, Steps}

-- a new party
unfoldable pub open_in : Data → Option EventItem
open_in d = do
  _ ← only (codes "open" ∷ codes "kind" ∷ codes "db" ∷ []) d
  party ← required u32_in (codes "open") d
  kind ← required kind_in (codes "kind") d
  db ← required db_path_in (codes "db") d
  Some (Once (Open party kind db))

-- a call that is started
unfoldable pub start_in : Data → Option EventItem
start_in d = do
  party ← required u32_in (codes "start") d
  call ← call_in d
  Some (Once (Start party call))

-- 1 to 1,000
abbrev pub is_times : ℕ → Option (Unit {0})
is_times n = if nat_le 1 n && nat_le n 1000 then Some tt else None

-- store calls at one moment and under one mark
unfoldable pub step_in : Data → Option EventItem
step_in d = do
  _ ← only (codes "step" ∷ codes "at" ∷ codes "mark" ∷ codes "times" ∷ []) d
  party ← required u32_in (codes "step") d
  moment ← required i64_in (codes "at") d
  mark ← defaulted Good mark_in (codes "mark") d
  times ← defaulted 1 u32_in (codes "times") d
  _ ← is_times times
  Some (Steps party moment mark times)

-- the end of a party
unfoldable pub stop_in : Data → Option EventItem
stop_in d = do
  _ ← only (codes "stop" ∷ []) d
  party ← required u32_in (codes "stop") d
  Some (Once (Stop party))

-- whether the field is there
abbrev pub has : List ℕ → Data → Bool
has name d = is_some (get name d)

-- an item is what the first of these fields says
unfoldable pub event_item_in : Data → Option EventItem
event_item_in d = if has (codes "open") d then open_in d else (if has (codes "start") d then start_in d else (if has (codes "step") d then step_in d else stop_in d))

-- the events, with `times` written out
abbrev pub expand : EventItem → List Event
expand (Once e) = e ∷ []
expand (Steps party moment mark times) = replicate times (Step party moment mark)

-- how many they are
abbrev pub count_of : EventItem → ℕ
count_of (Once e) = 1
count_of (Steps party moment mark times) = times
