-- The state of a cluster, and what an event does to it.
use Rattle.std.specs.Prelude.{◌≡◌, ℕ, ℤ, Bool, true, not, ◌&&◌, ◌||◌, List, Option, Some, None, is_some, is_none, [], length, nat_lt, max, if◌then◌else◌}
use Rattle.std.specs.Map.{lookup, set_value}
use Rattle.std.specs.BTreeMap.{is_at, insert_entry}
use Rattle.std.specs.Ordering.{nat_cmp}
use Rattle.std.specs.Cmp.Lexicographic.{slice_cmp}
use Rattle.std.specs.declared.cmp.Ordering.{Ordering}
use Rattle.slate_ids.specs.Limits.{next_count}
use Rattle.slate_ids.specs.declared.object_path.ObjectPath.{ObjectPath}
use Rattle.slate_ids.specs.declared.object_path.ObjectPath.TheVariants as paths
use Rattle.slate_store.specs.Store.{Store, effect}
use Rattle.slate_store.specs.declared.mark.Mark.{Mark}
use Rattle.slate_store.specs.declared.store_call.StoreCall.{StoreCall}
use Rattle.slate_store.specs.declared.store_call.StoreCall.TheVariants.{PutNew, Delete}
use Rattle.slate_script_events.specs.declared.call.Call.{Call}
use Rattle.slate_script_events.specs.declared.party_kind.PartyKind.{PartyKind}
use Rattle.slate_script_events.specs.declared.event.Event.{Event}
use Rattle.slate_script_events.specs.declared.event.Event.TheVariants.{Open, Start, Step, Stop}
use Rattle.slate_script_events.specs.declared.entry.Entry.{Entry}
use Rattle.slate_script_events.specs.declared.entry.Entry.TheVariants.{Opened, Started, Called, Stopped, Idle}
use Rattle.slate_script_events.specs.declared.reply.Reply.{Reply}
use Rattle.slate_txn_log.specs.declared.log_kind.LogKind.{LogKind}
use Rattle.slate_txn_log.specs.declared.log_kind.LogKind.TheVariants as logs
use Rattle.slate_cluster_protocol.specs.Calls.{has_call, Next, Go, Finish}
use Rattle.slate_cluster_protocol.specs.Ids.{Carried, is_stale, with_call}
use Rattle.slate_cluster_protocol.specs.Rows.{Standing, begin, moved}
use Rattle.slate_cluster_protocol.specs.Works.{asks}
use Rattle.slate_cluster_protocol.specs.declared.party.Facts.{Facts}
use Rattle.slate_cluster_protocol.specs.declared.party.Party.{Party}
use Rattle.slate_cluster_protocol.specs.declared.party.State.{State}
use Rattle.slate_cluster_protocol.specs.declared.party.State.TheVariants.{Resting, Busy, Halted}
use Rattle.slate_cluster_protocol.specs.declared.party.Task.{Task}
use Rattle.slate_cluster_protocol.specs.declared.tally.Tally.{Tally}

-- the databases by path with their greatest committed numbers, how many deletes removed an object, the store, the parties by
-- number, and the ids that were carried
pub record World : Type 0 where
  pub tallies : List (List ℕ × Tally)
  pub deleted : ℕ
  pub store : Store
  pub parties : List (ℕ × Party)
  pub carried : Carried

-- the order of databases: by the bytes of their paths
abbrev pub db_cmp : List ℕ → List ℕ → Ordering
db_cmp = slice_cmp nat_cmp

-- the greatest committed numbers of a database
abbrev pub tally_of : List ℕ → List (List ℕ × Tally) → Option Tally
tally_of db tallies = lookup (is_at (db_cmp db)) tallies

-- whether the cluster has a database
abbrev pub HasDb : World → List ℕ → Type 0
HasDb w db = is_some (tally_of db w.tallies) ≡ true

-- the party of a number
abbrev pub party_of : ℕ → List (ℕ × Party) → Option Party
party_of n parties = lookup (is_at (nat_cmp n)) parties

-- the parties with another one in the place of the one of this number
abbrev pub with_party : ℕ → Party → List (ℕ × Party) → List (ℕ × Party)
with_party n party parties = set_value (is_at (nat_cmp n)) parties party

-- the greatest committed number of a log
abbrev pub number_in : LogKind → Tally → ℕ
number_in logs.Manifest tally = tally.manifest
number_in logs.Compactions tally = tally.compactions

-- ---- what a store call counts for

-- the databases with another tally of one of them, where it is there
abbrev pub raise_tally : Option Tally → List ℕ → (Tally → Tally) → List (List ℕ × Tally) → List (List ℕ × Tally)
raise_tally None db f tallies = tallies
raise_tally (Some tally) db f tallies = set_value (is_at (db_cmp db)) tallies (f tally)

-- a tally with a manifest of this number
abbrev pub to_manifest : ℕ → Tally → Tally
to_manifest n tally = record { manifest = max tally.manifest n; compactions = tally.compactions }

-- a tally with a record of this number
abbrev pub to_record : ℕ → Tally → Tally
to_record n tally = record { manifest = tally.manifest; compactions = max tally.compactions n }

-- a new object was put at this path
abbrev pub committed : ObjectPath → List (List ℕ × Tally) → List (List ℕ × Tally)
committed (paths.Manifest db n) tallies = raise_tally (tally_of db tallies) db (to_manifest n) tallies
committed (paths.Record db n) tallies = raise_tally (tally_of db tallies) db (to_record n) tallies
committed _ tallies = tallies

-- whether a write had its effect: it got a tag
abbrev pub wrote : Store → Store → Bool
wrote before now = nat_lt before.last_tag now.last_tag

-- whether an object was removed
abbrev pub lost_one : Store → Store → Bool
lost_one before now = nat_lt (length now.objects) (length before.objects)

-- the greatest committed numbers after a call, by whether it wrote: a put of a new object that had its effect counts
abbrev pub tallied : StoreCall → Bool → List (List ℕ × Tally) → List (List ℕ × Tally)
tallied (PutNew path bytes) true tallies = committed path tallies
tallied _ _ tallies = tallies

-- the count of deletes that removed an object, by whether the call removed one
abbrev pub counted : StoreCall → Bool → ℕ → ℕ
counted (Delete path) true deleted = next_count deleted
counted _ _ deleted = deleted

-- ---- what an event does

-- what an event left: its entry, and the state after it
pub record Transition : Type 0 where
  pub entry : Entry
  pub world : World

-- an event that did nothing is noted
abbrev pub noted : ℕ → World → Transition
noted n w = record { entry = Idle n; world = w }

-- what a party does where its call stands so: a reply ends the call
abbrev pub state_after : Call → Next → State
state_after call (Go work) = Busy (record { call = call; work = work })
state_after call (Finish reply) = Resting

-- the party where its call stands so
abbrev pub settled : Call → Standing → Party
settled call standing = record { facts = standing.facts; state = state_after call standing.next }

-- the reply, where the call has ended
abbrev pub reply_of : Next → Option Reply
reply_of (Go work) = None
reply_of (Finish reply) = Some reply

-- what is known of a party that comes
abbrev pub first_facts : ℕ → PartyKind → List ℕ → Facts
first_facts n kind db = record { number = n; kind = kind; db = db; epoch = None; uploads = []; compactor = None }

-- a party that comes
abbrev pub newcomer : ℕ → PartyKind → List ℕ → Party
newcomer n kind db = record { facts = first_facts n kind db; state = Resting }

-- the one store call of a step, which the work asks
abbrev pub stepped : World → ℕ → Facts → Task → ℤ → Mark → Transition
stepped w n facts task moment mark =
    let asked = asks task.work in
    let outcome = effect mark asked moment w.store in
    let standing = moved facts task.call task.work moment outcome.answer in
    record {
      entry = Called n asked moment mark outcome.answer (reply_of standing.next);
      world = record {
        tallies = tallied asked (wrote w.store outcome.store) w.tallies;
        deleted = counted asked (lost_one w.store outcome.store) w.deleted;
        store = outcome.store;
        parties = with_party n (settled task.call standing) w.parties;
        carried = w.carried;
      };
    }

-- a step of a party with no call is noted idle, and so is one of a party that was stopped
abbrev pub step_state : World → ℕ → Facts → State → ℤ → Mark → Transition
step_state w n facts Resting moment mark = noted n w
step_state w n facts (Busy task) moment mark = stepped w n facts task moment mark
step_state w n facts Halted moment mark = noted n w

-- a start of a party that has a call, or was stopped, is noted idle
abbrev pub start_state : World → ℕ → Facts → State → Call → Transition
start_state w n facts Resting call =
    let standing = begin facts call in
    record { entry = Started n (reply_of standing.next); world = record w { parties = with_party n (settled call standing) w.parties } }
start_state w n facts (Busy task) call = noted n w
start_state w n facts Halted call = noted n w

-- a party that was stopped
abbrev pub halted : Facts → Party
halted facts = record { facts = facts; state = Halted }

-- a stop of a party that was stopped is noted idle
abbrev pub stop_state : World → ℕ → Facts → State → Transition
stop_state w n facts Halted = noted n w
stop_state w n facts _ = record { entry = Stopped n; world = record w { parties = with_party n (halted facts) w.parties } }

-- the state in which a start's ids were carried
abbrev pub carrying : ℕ → Call → World → World
carrying n call w = record w { carried = with_call n call w.carried }

-- an open, by whether the number came before and the database is there
abbrev pub open_at : World → ℕ → PartyKind → List ℕ → Option Party → Option Tally → Option Transition
open_at w n kind db None (Some tally) = Some (record { entry = Opened n; world = record w { parties = insert_entry nat_cmp w.parties n (newcomer n kind db) } })
open_at w n kind db _ _ = None

-- whether a party may start a call: its kind has it, and the call's fresh id is one
abbrev pub may_start : World → Call → Party → Bool
may_start w call party = has_call party.facts.kind call && not (is_stale w.carried call)

-- a start, by the party that is there
abbrev pub start_at : World → ℕ → Call → Option Party → Option Transition
start_at w n call None = None
start_at w n call (Some party) = if may_start w call party then Some (start_state (carrying n call w) n party.facts party.state call) else None

-- a step, by the party that is there
abbrev pub step_at : World → ℕ → ℤ → Mark → Option Party → Option Transition
step_at w n moment mark None = None
step_at w n moment mark (Some party) = Some (step_state w n party.facts party.state moment mark)

-- a stop, by the party that is there
abbrev pub stop_at : World → ℕ → Option Party → Option Transition
stop_at w n None = None
stop_at w n (Some party) = Some (stop_state w n party.facts party.state)

-- what an event does; none where it is bad
abbrev pub happens : World → Event → Option Transition
happens w (Open n kind db) = open_at w n kind db (party_of n w.parties) (tally_of db w.tallies)
happens w (Start n call) = start_at w n call (party_of n w.parties)
happens w (Step n moment mark) = step_at w n moment mark (party_of n w.parties)
happens w (Stop n) = stop_at w n (party_of n w.parties)

-- whether a start is bad, by the party that is there
abbrev pub refuses_start : World → Call → Option Party → Bool
refuses_start w call None = true
refuses_start w call (Some party) = not (has_call party.facts.kind call) || is_stale w.carried call

-- whether an event is bad: it opens a number that was opened before or an unknown database, names an unknown party, or
-- starts a call that the party's kind lacks, or one whose fresh id was carried before or comes twice in it
abbrev pub is_bad : World → Event → Bool
is_bad w (Open n kind db) = is_some (party_of n w.parties) || is_none (tally_of db w.tallies)
is_bad w (Start n call) = refuses_start w call (party_of n w.parties)
is_bad w (Step n moment mark) = is_none (party_of n w.parties)
is_bad w (Stop n) = is_none (party_of n w.parties)
