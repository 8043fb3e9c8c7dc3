-- What is known of a party, in the words of its events and of their entries: its facts and its call, its epoch and its uploads.
use Rattle.std.specs.Prelude.{◌≡◌, ℕ, ◌==◌, ◌&&◌, Bool, false, List, [], ◌∷◌, Option, Some, None, is_some, if◌then◌else◌}
use Rattle.std.specs.List.{list_any}
use Rattle.std.specs.Option.{option_or}
use Rattle.slate_ids.specs.Ulids.{same_id}
use Rattle.slate_ids.specs.declared.object_path.ObjectPath.TheVariants as paths
use Rattle.slate_store.specs.declared.store_call.StoreCall.{StoreCall}
use Rattle.slate_store.specs.declared.store_call.StoreCall.TheVariants.{Put}
use Rattle.slate_script_events.specs.declared.entry.Entry.{Entry}
use Rattle.slate_script_events.specs.declared.entry.Entry.TheVariants.{Started, Called}
use Rattle.slate_script_events.specs.declared.event.Event.{Event}
use Rattle.slate_script_events.specs.declared.party_kind.PartyKind.{PartyKind}
use Rattle.slate_script_events.specs.declared.party_kind.PartyKind.TheVariants.{Compactor as CompactorKind}
use Rattle.slate_script_events.specs.declared.reply.Reply.{Reply}
use Rattle.slate_script_events.specs.declared.reply.Reply.TheVariants.{Done, Epoch}
use Rattle.slate_state_calls.specs.declared.compactor.Compactor.{Compactor}
use Rattle.slate_cluster_protocol.specs.ByRows.{Doing, Rests, Answers, Stays, Told, facts_then, party_in, told_after}
use Rattle.slate_cluster_protocol.specs.Rows.{stands_after}
use Rattle.slate_cluster_protocol.specs.Uploaded.{info_of}
use Rattle.slate_cluster_protocol.specs.World.{state_after}
use Rattle.slate_cluster_protocol.specs.declared.party.Facts.{Facts}
use Rattle.slate_cluster_protocol.specs.declared.party.Party.{Party}
use Rattle.slate_cluster_protocol.specs.declared.party.State.{State}
use Rattle.slate_cluster_protocol.specs.declared.party.State.TheVariants.{Resting, Halted}

-- what is known of a party, where it came
abbrev pub known_of : Option Party → Option Facts
known_of None = None
known_of (Some p) = Some p.facts

-- ---- its facts and its call

-- what events and their entries say of the party of a number, after what was said before
abbrev pub told_by : ℕ → List Event → List Entry → Option Told → Option Told
told_by n [] trail told = told
told_by n (e ∷ events) [] told = told
told_by n (e ∷ events) (x ∷ trail) told = told_by n events trail (if n == party_in e then told_after e x told else told)

-- what a party does of which this is said: it has no call; or it has this one, which stands where its row has come by the answers so far; or it was stopped
abbrev pub state_told : Facts → Doing → State
state_told facts Rests = Resting
state_told facts (Answers call answers) = state_after call (stands_after facts call answers).next
state_told facts Stays = Halted

-- the party of which this is said, where something is: its facts are those to which its row has come, where it has a call
abbrev pub party_told : Option Told → Option Party
party_told None = None
party_told (Some told) = Some (record { facts = facts_then told.facts told.doing; state = state_told told.facts told.doing })

-- ---- its epoch

-- the epoch of a compactor that is held
abbrev pub compactor_epoch : Option Compactor → Option ℕ
compactor_epoch None = None
compactor_epoch (Some compactor) = Some compactor.epoch

-- with which epoch a party of this kind is open: a compactor with that of the compactor that it holds
abbrev pub open_epoch : PartyKind → Option ℕ → Option Compactor → Option ℕ
open_epoch CompactorKind epoch compactor = compactor_epoch compactor
open_epoch _ epoch compactor = epoch

abbrev pub epoch_of : Option Facts → Option ℕ
epoch_of None = None
epoch_of (Some facts) = open_epoch facts.kind facts.epoch facts.compactor

-- the reply in an entry of the party of this number, where there is one
abbrev pub replied : ℕ → Entry → Option Reply
replied n (Started k reply) = if n == k then reply else None
replied n (Called k asked moment mark answer reply) = if n == k then reply else None
replied n _ = None

-- the epoch that a reply tells
abbrev pub epoch_in : Option Reply → Option ℕ
epoch_in (Some (Epoch e)) = Some e
epoch_in _ = None

-- the epoch of the last reply `epoch` in the entries of the party of this number; opens alone reply so
abbrev pub last_epoch : ℕ → List Entry → Option ℕ
last_epoch n [] = None
last_epoch n (x ∷ trail) = option_or (last_epoch n trail) (epoch_in (replied n x))

-- ---- its uploads

-- the table whose object a store call puts
abbrev pub table_put : StoreCall → Option (ℕ × ℕ)
table_put (Put (paths.Table db table) bytes) = Some table
table_put _ = None

-- whether a put of a table was answered done
abbrev pub is_done : ℕ × ℕ → Option (ℕ × ℕ) → Option Reply → Bool
is_done table (Some put) (Some Done) = same_id table put
is_done table _ _ = false

-- whether an entry is of the upload of a table by the party of this number, which was answered done
abbrev pub uploads : ℕ → ℕ × ℕ → Entry → Bool
uploads n table (Called k asked moment mark answer reply) = (n == k) && is_done table (table_put asked) reply
uploads n table _ = false

-- whether one of the entries is
abbrev pub was_uploaded : ℕ → ℕ × ℕ → List Entry → Bool
was_uploaded n table trail = list_any (uploads n table) trail

-- whether a table is among the uploads that are known
abbrev pub has_upload : ℕ × ℕ → Option Facts → Bool
has_upload table None = false
has_upload table (Some facts) = is_some (info_of table facts.uploads)

-- ---- all of it

-- what is known of the party of a number is what events and their entries tell
pub record IsAsTold (n : ℕ) (events : List Event) (trail : List Entry) (party : Option Party) : Type 0 where
  -- its facts, and what it does, are those that are said of it
  pub said : party ≡ party_told (told_by n events trail None)
  -- its epoch is that of the last reply `epoch`, and it has none where there is no such reply
  pub epoch : epoch_of (known_of party) ≡ last_epoch n trail
  -- a table is among its uploads exactly where its upload was answered done
  pub uploads : (table : ℕ × ℕ) → has_upload table (known_of party) ≡ was_uploaded n table trail
