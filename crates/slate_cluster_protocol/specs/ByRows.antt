-- The trail that the rows give: what each event brings, said by the row of the party's call after its answers so far.
use Rattle.std.specs.Prelude.{ℕ, ◌==◌, ℤ, List, [], ◌∷◌, ◌++◌, Option, Some, None, if◌then◌else◌}
use Rattle.slate_store.specs.Store.{Store, effect}
use Rattle.slate_store.specs.declared.mark.Mark.{Mark}
use Rattle.slate_script_events.specs.declared.call.Call.{Call}
use Rattle.slate_script_events.specs.declared.event.Event.{Event}
use Rattle.slate_script_events.specs.declared.event.Event.TheVariants.{Open, Start, Step, Stop}
use Rattle.slate_script_events.specs.declared.entry.Entry.{Entry}
use Rattle.slate_script_events.specs.declared.entry.Entry.TheVariants.{Opened, Started, Called, Stopped, Idle}
use Rattle.slate_script_events.specs.declared.reply.Reply.{Reply}
use Rattle.slate_cluster_protocol.specs.Rows.{Answered, Row, Asks, Replies, row, stands_after}
use Rattle.slate_cluster_protocol.specs.World.{first_facts}
use Rattle.slate_cluster_protocol.specs.declared.party.Facts.{Facts}

-- what the trail says that a party does: it has no call, it has this one with these answers so far, or it was stopped
pub data Doing : Type 0 where
  Rests : Doing
  Answers : Call → List Answered → Doing
  Stays : Doing

-- what the events and their entries say of a party: its facts, which are those at the start of its call where it has one, and those at its stop where
-- it was stopped; and what it does
pub record Told : Type 0 where
  pub facts : Facts
  pub doing : Doing

-- of each party, by its number
abbrev pub AllTold : Type 0
AllTold = ℕ → Option Told

-- no party has come
abbrev pub nobody : AllTold
nobody n = None

-- the reply with which a row ends
abbrev pub reply_in : Row → Option Reply
reply_in (Asks call) = None
reply_in (Replies reply) = Some reply

-- the one store call that the row names, with the store's answer to it; the reply is the row's, after this answer too
abbrev pub asked_entry : ℕ → ℤ → Mark → Store → Facts → Call → List Answered → Row → Entry
asked_entry n moment mark s facts call answers (Asks asked) =
    let answer = (effect mark asked moment s).answer in
    Called n asked moment mark answer (reply_in (row facts call (answers ++ (answer, moment) ∷ [])))
asked_entry n moment mark s facts call answers (Replies reply) = Idle n

-- a step: of a party without a call it is idle
abbrev pub step_entry : ℕ → ℤ → Mark → Store → Facts → Doing → Entry
step_entry n moment mark s facts (Answers call answers) = asked_entry n moment mark s facts call answers (row facts call answers)
step_entry n moment mark s facts _ = Idle n

-- a start: of a party with a call, or one that was stopped, it is idle
abbrev pub start_entry : ℕ → Call → Facts → Doing → Entry
start_entry n call facts Rests = Started n (reply_in (row facts call []))
start_entry n call facts _ = Idle n

-- a stop: of a party that was stopped it is idle
abbrev pub stop_entry : ℕ → Doing → Entry
stop_entry n Stays = Idle n
stop_entry n _ = Stopped n

-- the entry of an event, by what is said of its party and the store
abbrev pub entry_by : Event → Option Told → Store → Entry
entry_by (Open n kind db) told s = Opened n
entry_by (Start n call) (Some told) s = start_entry n call told.facts told.doing
entry_by (Step n moment mark) (Some told) s = step_entry n moment mark s told.facts told.doing
entry_by (Stop n) (Some told) s = stop_entry n told.doing
entry_by (Start n call) None s = Idle n
entry_by (Step n moment mark) None s = Idle n
entry_by (Stop n) None s = Idle n

-- ---- what is said after an entry

-- a call with these answers, where it has no reply yet; and after its reply the facts that its row leaves
abbrev pub told_call : Facts → Call → List Answered → Option Reply → Told
told_call facts call answers None = record { facts = facts; doing = Answers call answers }
told_call facts call answers (Some reply) = record { facts = (stands_after facts call answers).facts; doing = Rests }

-- one answer more to the call under way
abbrev pub told_answer : Facts → Doing → Answered → Option Reply → Told
told_answer facts (Answers call answers) answer reply = told_call facts call (answers ++ answer ∷ []) reply
told_answer facts doing answer reply = record { facts = facts; doing = doing }

-- the facts of a party now: of a call under way those to which its row has come
abbrev pub facts_then : Facts → Doing → Facts
facts_then facts (Answers call answers) = (stands_after facts call answers).facts
facts_then facts _ = facts

-- what is said of the party of an event after its entry
abbrev pub told_after : Event → Entry → Option Told → Option Told
told_after (Open n kind db) (Opened k) told = Some (record { facts = first_facts n kind db; doing = Rests })
told_after (Start n call) (Started k reply) (Some told) = Some (told_call told.facts call [] reply)
told_after (Step n moment mark) (Called k asked at by answer reply) (Some told) = Some (told_answer told.facts told.doing (answer, at) reply)
told_after (Stop n) (Stopped k) (Some told) = Some (record { facts = facts_then told.facts told.doing; doing = Stays })
told_after _ _ told = told

-- the party of an event
abbrev pub party_in : Event → ℕ
party_in (Open n kind db) = n
party_in (Start n call) = n
party_in (Step n moment mark) = n
party_in (Stop n) = n

-- what is said of each party after an event
abbrev pub all_told_after : Event → Entry → AllTold → AllTold
all_told_after e x all = λ n. if n == party_in e then told_after e x (all n) else all n

-- the store after an entry
abbrev pub entry_store : Entry → Store → Store
entry_store (Called n call moment mark answer reply) s = (effect mark call moment s).store
entry_store _ s = s

-- the entries of events, of which none is bad
abbrev pub trail_by : List Event → AllTold → Store → List Entry
trail_by [] all s = []
trail_by (e ∷ es) all s =
    let x = entry_by e (all (party_in e)) s in
    x ∷ trail_by es (all_told_after e x all) (entry_store x s)
