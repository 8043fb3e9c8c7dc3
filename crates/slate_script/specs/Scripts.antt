-- The script that bytes stand for, or the first place at which they stand for none.
use Rattle.std.specs.Prelude.{◌≡◌, ℕ, ◌+◌, nat_lt, List, [], ◌∷◌, ◌++◌, Option, Some, None, Result, Ok, Err, codes, if◌then◌else◌}
use Rattle.std.specs.Str.{is_utf8}
use Rattle.serde_json.specs.Data.{Data, Items, no_items, item}
use Rattle.serde_json.specs.Read.{read}
use Rattle.slate_script_json.specs.Fields.{◌>>=◌, only, array_in}
use Rattle.slate_script_databases.specs.DatabaseFields.{database_in}
use Rattle.slate_script_events.specs.declared.event.Event.{Event}
use Rattle.slate_script_calls.specs.declared.items.EventItem.{EventItem}
use Rattle.slate_script_events.specs.declared.db_spec.DbSpec.{DbSpec}
use Rattle.slate_script_events.specs.declared.script.Script.{Script}
use Rattle.slate_script_events.specs.declared.script.ScriptPlace.{ScriptPlace}
use Rattle.slate_script_events.specs.declared.script.ScriptPlace.TheVariants as place
use Rattle.slate_script_events.specs.declared.script.ScriptError.{ScriptError}
use Rattle.slate_script_events.specs.declared.script.ScriptError.TheVariants as errors
use Rattle.slate_script_calls.specs.ReadEvents.{event_item_in, expand, count_of}

-- A reader answers what the bytes stand for, or the first place, unless memory runs out.
abbrev pub Fails : {Y : Type 0} → ScriptError → Result Y ScriptPlace → Type 0
Fails errors.OutOfMemory read = Unit {0}
Fails (errors.BadScript p) read = read ≡ Err p

-- as `Gives`, with the place
abbrev pub Reads : {Y : Type 0} → Result Y ScriptError → Result Y ScriptPlace → Type 0
Reads (Ok x) read = read ≡ Ok x
Reads (Err e) read = Fails e read

-- the second part is read where the first was
abbrev pub and_then : {A B : Type 0} → Result A ScriptPlace → (A → Result B ScriptPlace) → Result B ScriptPlace
and_then (Ok x) f = f x
and_then (Err p) f = Err p

-- what an item stands for, or its place
abbrev pub at_place : {X : Type 0} → ScriptPlace → Option X → Result X ScriptPlace
at_place p None = Err p
at_place p (Some x) = Ok x

-- the items read so far, and the rest
abbrev pub with_front : {X : Type 0} → List X → Result (List X) ScriptPlace → Result (List X) ScriptPlace
with_front front read = and_then read (λ xs. Ok (front ++ xs))

-- ---- databases

-- the databases of the items from place i on
abbrev pub databases_from : ℕ → Items → Result (List DbSpec) ScriptPlace
databases_from i no_items = Ok []
databases_from i (item d ds) = and_then (at_place (place.Database i) (database_in d)) (λ db. with_front (db ∷ []) (databases_from (i + 1) ds))

-- ---- events

-- the most events of a script
abbrev pub event_limit : ℕ
event_limit = 1000000

-- An item's events, unless they go past the limit: then the event at the limit is no script.
abbrev pub fitting : ℕ → EventItem → Result EventItem ScriptPlace
fitting i w = if nat_lt event_limit (i + count_of w) then Err (place.Event event_limit) else Ok w

-- an item whose first event is at place i
abbrev pub event_item_at : ℕ → Data → Result EventItem ScriptPlace
event_item_at i d = and_then (at_place (place.Event i) (event_item_in d)) (fitting i)

-- the events of the items, of which the first is at place i
abbrev pub events_from : ℕ → Items → Result (List Event) ScriptPlace
events_from i no_items = Ok []
events_from i (item d ds) = and_then (event_item_at i d) (λ w. with_front (expand w) (events_from (i + count_of w) ds))

-- ---- the whole

-- exactly the two arrays
unfoldable pub top_in : Data → Option (Items × Items)
top_in d = do
  _ ← only (codes "databases" ∷ codes "events" ∷ []) d
  ds ← array_in (codes "databases") d
  es ← array_in (codes "events") d
  Some (ds, es)

-- the databases, then the events
abbrev pub parts_in : Items × Items → Result Script ScriptPlace
parts_in p = and_then (databases_from 0 p.0) (λ ds. and_then (events_from 0 p.1) (λ es. Ok (record { databases = ds; events = es })))

-- the script of a JSON value
unfoldable pub script_in : Data → Result Script ScriptPlace
script_in d = and_then (at_place place.Top (top_in d)) parts_in

-- the JSON value of the bytes
unfoldable pub json_of : List ℕ → Option Data
json_of bytes = if is_utf8 bytes then read bytes else None

-- the script of the bytes, or the first place: JSON, the whole, the databases, the events
unfoldable pub script_of : List ℕ → Result Script ScriptPlace
script_of bytes = and_then (at_place place.Json (json_of bytes)) script_in
