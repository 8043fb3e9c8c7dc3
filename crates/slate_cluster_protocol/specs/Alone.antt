-- A pass over a log that nobody disturbs: the versions that it leaves are those that its list found, less what it picks.
use Rattle.std.specs.Prelude.{◌≡◌, ℕ, ℤ, ◌==◌, ◌&&◌, not, Bool, true, false, List, [], ◌∷◌, ◌++◌, map, filter, length, min, Option, Some, None, is_none}
use Rattle.std.specs.List.{list_all}
use Rattle.slate_ids.specs.Limits.{last_number}
use Rattle.slate_ids.specs.PathText.{path_text}
use Rattle.slate_ids.specs.declared.error.SlateDBError.TheVariants.{Exhausted}
use Rattle.slate_ids.specs.declared.gc_message.GcMessage.{GcMessage}
use Rattle.slate_store.specs.Store.{Store, listed}
use Rattle.slate_txn_log.specs.LogPaths.{folder}
use Rattle.slate_store.specs.declared.object.ObjectMetadata.{ObjectMetadata}
use Rattle.slate_store.specs.declared.store_answer.StoreAnswer.{StoreAnswer}
use Rattle.slate_store.specs.declared.store_answer.StoreAnswer.TheVariants.{Found, Fault}
use Rattle.slate_gc_passes.specs.declared.pass_settings.PassSettings.{PassSettings}
use Rattle.slate_script_events.specs.WrittenFilters.{lies_at}
use Rattle.slate_script_events.specs.declared.filter_word.FilterWord.{FilterWord}
use Rattle.slate_script_events.specs.declared.call.Call.{Call}
use Rattle.slate_script_events.specs.declared.call.Call.TheVariants.{Pass}
use Rattle.slate_script_events.specs.declared.db_spec.DbSpec.{DbSpec}
use Rattle.slate_script_events.specs.declared.entry.Entry.{Entry}
use Rattle.slate_script_events.specs.declared.entry.Entry.TheVariants.{Called}
use Rattle.slate_script_events.specs.declared.event.Event.{Event}
use Rattle.slate_script_events.specs.declared.reply.Reply.{Reply}
use Rattle.slate_script_events.specs.declared.reply.Reply.TheVariants.{Refused}
use Rattle.slate_script_events.specs.declared.reply.Reply.TheVariants as reply
use Rattle.slate_cluster_protocol.specs.ByRows.{Answers, AllTold, nobody, entry_by, party_in, all_told_after, entry_store}
use Rattle.slate_cluster_protocol.specs.Calls.{pass_settings}
use Rattle.slate_cluster_protocol.specs.Holding.{IsOfLog, pass_log}
use Rattle.slate_cluster_protocol.specs.Passes.{pass_answers, picked}
use Rattle.slate_cluster_protocol.specs.Rows.{Answered, begin}
use Rattle.slate_cluster_protocol.specs.Runs.{Course}
use Rattle.slate_cluster_protocol.specs.Specs.{opening_world}
use Rattle.slate_cluster_protocol.specs.declared.party.Facts.{Facts}

-- ---- nobody disturbs it

-- what is said of each party after these events, of which none is bad
abbrev pub all_told : List Event → AllTold → Store → AllTold
all_told [] all s = all
all_told (e ∷ es) all s =
    let x = entry_by e (all (party_in e)) s in
    all_told es (all_told_after e x all) (entry_store x s)

-- whether an answer is no fault
abbrev pub is_answer : StoreAnswer → Bool
is_answer Fault = false
is_answer _ = true

-- whether an entry leaves a party undisturbed: it makes no store call, or it is the party's own, which didn't fault
abbrev pub is_quiet : ℕ → Entry → Bool
is_quiet n (Called k asked moment mark answer reply) = k == n && is_answer answer
is_quiet n _ = true

-- the reply that a store call's entry has
abbrev pub reply_at : Entry → Option Reply
reply_at (Called n asked moment mark answer reply) = reply
reply_at _ = None

-- the answers that the store calls of these entries had, each with its moment
abbrev pub answers_in : List Entry → List Answered
answers_in [] = []
answers_in (Called n asked moment mark answer reply ∷ xs) = (answer, moment) ∷ answers_in xs
answers_in (_ ∷ xs) = answers_in xs

-- after these events a party has started this call and made no store call of it yet; then come these entries, none of which disturbs it,
-- and with the last of them, and not before, it has its reply
pub record IsUndisturbed (specs : List DbSpec) (front : List Event) (n : ℕ) (facts : Facts) (call : Call) (between : List Entry) (last : Entry) (r : Reply) : Type 0 where
  pub begins : all_told front nobody (opening_world specs).store n ≡ Some (record { facts = facts; doing = Answers call [] })
  pub quiet : list_all (is_quiet n) (between ++ last ∷ []) ≡ true
  pub goes_on : list_all (λ x. is_none (reply_at x)) between ≡ true
  pub ends : reply_at last ≡ Some r

-- ---- what it leaves

-- these objects without those that lie where picks do
abbrev pub without : List ObjectMetadata → List ObjectMetadata → List ObjectMetadata
without picks found = filter (λ m. not (lies_at (map (λ p. path_text p.location) picks) m)) found

-- the pass listed, and ended with the reply of a pass: all that it picked is deleted, and nothing failed. The versions of its log that are left at its
-- database are those that it listed, less what it picked
pub record HasCollected (facts : Facts) (call : Call) (settings : PassSettings) (filter : FilterWord) (answers : List Answered) (r : Reply) (s : Store) : Type 0 where
  pub found : List ObjectMetadata
  pub moment : ℤ
  pub later : List Answered
  pub lists : pass_answers call (begin facts call) answers ≡ (Found found, moment) ∷ later
  pub replied : r ≡ reply.Pass (length (picked facts call settings filter answers)) (min (length (picked facts call settings filter answers)) last_number) 0
  pub left : listed (folder (pass_log settings.pass) facts.db) s ≡ without (picked facts call settings filter answers) found

-- what a pass that nobody disturbs leaves: it has collected; or the removal of expired checkpoints had no number left for its version, and
-- ended the pass before its list
pub data Leaves (facts : Facts) (call : Call) (settings : PassSettings) (filter : FilterWord) (answers : List Answered) (r : Reply) (s : Store) : Type 0 where
  Collects : HasCollected facts call settings filter answers r s → Leaves facts call settings filter answers r s
  Exhausts : pass_answers call (begin facts call) answers ≡ [] → r ≡ Refused (Exhausted last_number) → Leaves facts call settings filter answers r s

-- of each pass over a log that nobody disturbs from the moment after a front of events, where the first course stands, to a later one
abbrev pub PassesAlone : List DbSpec → List Event → Course → Course → Type 0
PassesAlone specs front before after =
    (n : ℕ) (facts : Facts) (pass : GcMessage) (min_age : ℕ) (dry_run : Bool) (filter : FilterWord) (between : List Entry) (last : Entry) (r : Reply)
    → IsOfLog pass → after.trail ≡ before.trail ++ (between ++ last ∷ [])
    → IsUndisturbed specs front n facts (Pass pass min_age dry_run filter) between last r
    → Leaves facts (Pass pass min_age dry_run filter) (pass_settings pass min_age dry_run) filter (answers_in (between ++ last ∷ [])) r after.world.store
