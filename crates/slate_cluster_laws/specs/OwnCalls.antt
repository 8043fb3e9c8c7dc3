-- What the calls of a run have put, where they ended without a refusal.
use Rattle.std.specs.Prelude.{◌≡◌, ℕ, List, [], ◌∷◌, ◌++◌, Option, Some, None}
use Rattle.slate_script_events.specs.declared.call.Call.{Call}
use Rattle.slate_script_events.specs.declared.entry.Entry.{Entry}
use Rattle.slate_script_events.specs.declared.entry.Entry.TheVariants.{Called}
use Rattle.slate_script_events.specs.declared.event.Event.{Event}
use Rattle.slate_script_events.specs.declared.reply.Reply.{Reply}
use Rattle.slate_script_events.specs.declared.reply.Reply.TheVariants.{Refused}
use Rattle.slate_store.specs.declared.store_answer.StoreAnswer.{StoreAnswer}
use Rattle.slate_store.specs.declared.store_answer.StoreAnswer.TheVariants.{Created}
use Rattle.slate_store.specs.declared.store_call.StoreCall.{StoreCall}
use Rattle.slate_store.specs.declared.store_call.StoreCall.TheVariants.{PutNew}
use Rattle.slate_txn_log.specs.LogPaths.{version_path}
use Rattle.slate_txn_log.specs.declared.log_kind.LogKind.{LogKind}
use Rattle.slate_cluster_protocol.specs.ByRows.{Doing, Answers, Told, AllTold, all_told_after, party_in}
use Rattle.slate_cluster_protocol.specs.Calls.{Next, Go, Finish}
use Rattle.slate_cluster_protocol.specs.Chains.{Link, link_at}
use Rattle.slate_cluster_protocol.specs.Logs.{Author, Held, Chain, Chains, chains_after}
use Rattle.slate_cluster_protocol.specs.Rows.{Answered, Standing, answered, begin}
use Rattle.slate_cluster_protocol.specs.Works.{asks}
use Rattle.slate_cluster_protocol.specs.World.{World, happens}
use Rattle.slate_cluster_protocol.specs.declared.party.Facts.{Facts}

-- a version of a chain has these bytes, and was put by this party
pub record IsOwn (k : LogKind) (c : Chain k) (n number : ℕ) (bytes : List ℕ) : Type 0 where
  pub link : Link (Held k) Author
  pub at : link_at number c ≡ Some link
  pub same : link.bytes ≡ bytes
  pub author : Author
  pub by : link.by ≡ Some author
  pub party : author.party ≡ n

-- the store call of a standing, with the answer to it, has it
abbrev pub OfNext : (StoreCall → StoreAnswer → Type 0) → Next → StoreAnswer → Type 0
OfNext P (Go work) answer = P (asks work) answer
OfNext P (Finish reply) answer = Unit {0}

-- so has each store call of a call along its answers
abbrev pub EachCall : (StoreCall → StoreAnswer → Type 0) → Call → Standing → List Answered → Type 0
EachCall P call standing [] = Unit {0}
EachCall P call standing (a ∷ answers) = OfNext P standing.next a.0 × EachCall P call (answered call standing.facts standing.next a) answers

-- where it put a version, and was answered created, what it put is the chain's, by this party
abbrev pub OwnPut : Chains → ℕ → StoreCall → StoreAnswer → Type 0
OwnPut chains n asked answer =
    (k : LogKind) (db : List ℕ) (number : ℕ) (bytes : List ℕ) (tag : ℕ) → asked ≡ PutNew (version_path k db number) bytes → answer ≡ Created (Some tag)
    → IsOwn k (chains k db) n number bytes

-- of all that a call has put which ended with this reply, where that isn't a refusal
abbrev pub OwnEnd : Chains → ℕ → Facts → Call → List Answered → Reply → Type 0
OwnEnd chains n facts call answers (Refused e) = Unit {0}
OwnEnd chains n facts call answers _ = EachCall (OwnPut chains n) call (begin facts call) answers

-- of what is said of a party, by the answer after which its call replied so
abbrev pub OwnDoing : Chains → ℕ → Facts → Doing → Answered → Reply → Type 0
OwnDoing chains n facts (Answers call answers) a reply = OwnEnd chains n facts call (answers ++ a ∷ []) reply
OwnDoing chains n facts _ a reply = Unit {0}

-- of an entry with a reply, by what is said of its party before it
abbrev pub OwnEntry : Chains → Option Told → Entry → Type 0
OwnEntry chains (Some told) (Called n asked moment mark answer (Some reply)) = OwnDoing chains n told.facts told.doing (answer, moment) reply
OwnEntry chains _ _ = Unit {0}

-- of each entry of a run, up to the first bad event
abbrev pub OwnCalls : List Event → AllTold → World → Chains → Type 0
OwnCalls [] all w chains = Unit {0}
OwnCalls (e ∷ es) all w chains = elim (happens w e) as (λ _. Type 0) [
  | None ↦ Unit {0}
  | Some d ↦ OwnEntry (chains_after w e chains) (all (party_in e)) d.entry × OwnCalls es (all_told_after e d.entry all) d.world (chains_after w e chains)
]
