-- What the databases of a run and the events done say alone, without a state: which parties came, which ids were named, and which event
-- is bad.
use Rattle.std.specs.Prelude.{ℕ, ◌==◌, Bool, true, false, not, ◌||◌, List, [], ◌∷◌, ◌++◌, Option, Some, None, is_some, bytes_eq, if◌then◌else◌}
use Rattle.std.specs.List.{list_any}
use Rattle.slate_ids.specs.Ulids.{same_id}
use Rattle.slate_model.specs.declared.external_db.ExternalDb.{ExternalDb}
use Rattle.slate_script_events.specs.declared.call.Call.{Call}
use Rattle.slate_script_events.specs.declared.db_spec.DbSpec.{DbSpec}
use Rattle.slate_script_events.specs.declared.event.Event.{Event}
use Rattle.slate_script_events.specs.declared.event.Event.TheVariants.{Open, Start, Step, Stop}
use Rattle.slate_script_events.specs.declared.party_kind.PartyKind.{PartyKind}
use Rattle.slate_cluster_protocol.specs.Calls.{has_call, fresh_checkpoints, named_checkpoints, fresh_ulids, named_ulids}
use Rattle.slate_cluster_protocol.specs.Specs.{spec_ulids}

-- ---- parties and databases

-- as which kind of party a number was opened, where it was
abbrev pub kind_opened : ℕ → List Event → Option PartyKind
kind_opened n [] = None
kind_opened n (Open m kind db ∷ events) = if n == m then Some kind else kind_opened n events
kind_opened n (e ∷ events) = kind_opened n events

-- whether a number was opened
abbrev pub was_opened : ℕ → List Event → Bool
was_opened n events = is_some (kind_opened n events)

-- whether there is a database at a path
abbrev pub is_database : List ℕ → List DbSpec → Bool
is_database db specs = list_any (λ spec. bytes_eq db spec.path) specs

-- ---- ids of checkpoints

-- whether the pin, where there is one, is this id
abbrev pub is_pin : List ℕ → Option (List ℕ) → Bool
is_pin id None = false
is_pin id (Some pin) = bytes_eq id pin

-- whether a database's entry of another database names an id: as its source, or as its pin
abbrev pub entry_names : List ℕ → ExternalDb → Bool
entry_names id entry = bytes_eq id entry.source_checkpoint_id || is_pin id entry.final_checkpoint_id

-- whether the first manifest of a database names an id: as that of a checkpoint, or in an entry of another database
abbrev pub opening_names : List ℕ → DbSpec → Bool
opening_names id spec = list_any (λ c. bytes_eq id c.id) spec.manifest.core.checkpoints || list_any (entry_names id) spec.manifest.external_dbs

-- whether a call names an id
abbrev pub call_names : List ℕ → Call → Bool
call_names id call = list_any (bytes_eq id) (fresh_checkpoints call ++ named_checkpoints call)

-- whether an event is a start of a call that names an id
abbrev pub start_names : List ℕ → Event → Bool
start_names id (Start n call) = call_names id call
start_names id _ = false

-- whether an opening value or an event done named an id
abbrev pub was_named : List DbSpec → List Event → List ℕ → Bool
was_named specs events id = list_any (opening_names id) specs || list_any (start_names id) events

-- ---- ids of tables, views and compactions

-- whether an opening value of a database names an id
abbrev pub opening_names_ulid : ℕ × ℕ → DbSpec → Bool
opening_names_ulid id spec = list_any (same_id id) (spec_ulids spec)

-- whether a call names an id
abbrev pub call_names_ulid : ℕ × ℕ → Call → Bool
call_names_ulid id call = list_any (same_id id) (fresh_ulids call ++ named_ulids call)

-- whether an event is a start of a call that names an id
abbrev pub start_names_ulid : ℕ × ℕ → Event → Bool
start_names_ulid id (Start n call) = call_names_ulid id call
start_names_ulid id _ = false

-- whether an opening value or an event done named an id
abbrev pub was_ulid_named : List DbSpec → List Event → ℕ × ℕ → Bool
was_ulid_named specs events id = list_any (opening_names_ulid id) specs || list_any (start_names_ulid id) events

-- ---- bad events

-- whether one of these ids comes again, among themselves or the others
abbrev pub comes_again : {K : Type 0} → (K → K → Bool) → List K → List K → Bool
comes_again is [] others = false
comes_again is (id ∷ ids) others = list_any (is id) (ids ++ others) || comes_again is ids others

-- whether an id that a call brings anew was named before, or comes again in the call
abbrev pub is_old : List DbSpec → List Event → Call → Bool
is_old specs events call =
    (list_any (was_named specs events) (fresh_checkpoints call) || comes_again bytes_eq (fresh_checkpoints call) (named_checkpoints call))
    || (list_any (was_ulid_named specs events) (fresh_ulids call) || comes_again same_id (fresh_ulids call) (named_ulids call))

-- whether a party lacks a call: it never came, or came as a kind that hasn't it
abbrev pub lacks_call : Option PartyKind → Call → Bool
lacks_call None call = true
lacks_call (Some kind) call = not (has_call kind call)

-- whether an event is bad after these: it opens a number that was opened before, or at no database; it is of a party that never came; or it
-- starts a call that the party's kind lacks, or one whose fresh id isn't fresh
abbrev pub is_bad_after : List DbSpec → List Event → Event → Bool
is_bad_after specs events (Open n kind db) = was_opened n events || not (is_database db specs)
is_bad_after specs events (Start n call) = lacks_call (kind_opened n events) call || is_old specs events call
is_bad_after specs events (Step n moment mark) = not (was_opened n events)
is_bad_after specs events (Stop n) = not (was_opened n events)
