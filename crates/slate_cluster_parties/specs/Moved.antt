-- What an event did to a party.
use Rattle.std.specs.Prelude.{◌≡◌, ℕ, ℤ, Bool, true, false, Option, Some, None}
use Rattle.slate_store.specs.Store.{Store}
use Rattle.slate_store.specs.declared.mark.Mark.{Mark}
use Rattle.slate_store.specs.declared.made.Made.{Made}
use Rattle.slate_script_events.specs.declared.call.Call.{Call}
use Rattle.slate_script_events.specs.declared.entry.Entry.{Entry}
use Rattle.slate_script_events.specs.declared.entry.Entry.TheVariants.{Started, Idle}
use Rattle.slate_script_events.specs.declared.reply.Reply.{Reply}
use Rattle.slate_cluster_protocol.specs.Calls.{Next, Finish}
use Rattle.slate_cluster_protocol.specs.Rows.{Standing, begin}
use Rattle.slate_cluster_protocol.specs.World.{settled, state_after, reply_of, halted}
use Rattle.slate_cluster_protocol.specs.declared.party.Facts.{Facts}
use Rattle.slate_cluster_protocol.specs.declared.party.Party.{Party}
use Rattle.slate_cluster_protocol.specs.declared.party.State.{State}
use Rattle.slate_cluster_protocol.specs.declared.party.State.TheVariants.{Resting, Busy, Halted}
use Rattle.slate_cluster_protocol.specs.declared.party.Task.{Task}
use Rattle.slate_cluster_steps.specs.declared.party_steps.PartyStep.{PartyStep}
use Rattle.slate_cluster_steps.specs.PartySteps.{IsPartyStep}
use Rattle.slate_cluster_parties.specs.declared.parties.Begun.{Begun}

-- ---- a start

-- a call that begins so leaves its party so, with this reply
abbrev pub Begins : Call → Next → State → Option Reply → Type 0
Begins call next state reply = (state ≡ state_after call next) × (reply ≡ reply_of next)

-- a start of a party: none where it has a call, or was stopped
abbrev pub begins_at : Facts → State → Call → Option Begun → Type 0
begins_at facts Resting call (Some b) = Begins call (begin facts call).next b.state b.reply × ((begin facts call).facts ≡ facts)
begins_at facts Resting call None = ⊥
begins_at facts (Busy task) call o = o ≡ None
begins_at facts Halted call o = o ≡ None

-- the entry of a start
abbrev pub start_entry : ℕ → Option Begun → Entry
start_entry n None = Idle n
start_entry n (Some b) = Started n b.reply

-- the party after a start
abbrev pub after_start : Party → Option Begun → Party
after_start party None = party
after_start party (Some b) = record { facts = party.facts; state = b.state }

-- the end of a compaction by a party: it replies at once, unless the party has a call, or was stopped
abbrev pub ends_in : ℕ → Facts → State → Call → Entry → Party → Type 0
ends_in n facts Resting call entry new = (reply : Reply) × (begin facts call ≡ record { facts = new.facts; next = Finish reply }) × (entry ≡ Started n (Some reply)) × (new.state ≡ Resting)
ends_in n facts state call entry new = (entry ≡ Idle n) × (new ≡ record { facts = facts; state = state })

abbrev pub ends_at : ℕ → Party → Call → Entry → Party → Type 0
ends_at n old call entry new = ends_in n old.facts old.state call entry new

-- ---- a stop

-- whether a party can be stopped
abbrev pub is_up : State → Bool
is_up Halted = false
is_up _ = true

-- a stop of a party, which it was up for or not
abbrev pub Stops : Party → Bool → Party → Type 0
Stops party was_up stopped = (was_up ≡ is_up party.state) × (stopped ≡ halted party.facts)

-- ---- a step

-- a party after a step of its call: a reply ends the call
abbrev pub after_reply : Party → Option Reply → Party
after_reply party None = party
after_reply party (Some reply) = record { facts = party.facts; state = Resting }

-- a party's call went one step, and the party stands there
pub record Moves (facts : Facts) (task : Task) (moment : ℤ) (mark : Mark) (old new : Store) (made : Made) (reply : Option Reply) (party : Party) : Type 0 where
  pub to : Standing
  pub stepped : IsPartyStep facts task moment mark old new made to
  pub replied : reply ≡ reply_of to.next
  pub stands : party ≡ settled task.call to

-- a step of a party that has a call
abbrev pub StateMoves : Facts → State → ℤ → Mark → Store → Store → PartyStep → Party → Type 0
StateMoves facts (Busy task) moment mark old new s party = Moves facts task moment mark old new s.made s.reply party
StateMoves facts _ moment mark old new s party = ⊥

-- whether a party has a call
abbrev pub is_busy : State → Bool
is_busy Resting = false
is_busy (Busy task) = true
is_busy Halted = false

-- a step of a party: it moves, or it has no call and nothing changes
abbrev pub StateStepped : Party → ℤ → Mark → Store → Store → Option PartyStep → Party → Type 0
StateStepped old moment mark before now None new = (is_busy old.state ≡ false) × (new ≡ old) × (now ≡ before)
StateStepped old moment mark before now (Some s) new = StateMoves old.facts old.state moment mark before now s new
