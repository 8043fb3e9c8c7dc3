-- What a call has put with the answer created, and that ended without a refusal, is the chain's: along each run.
use Rattle.std.proofs.Common.{◌≡◌, ◌≢◌, ℕ, ℤ, ◌==◌, Bool, true, false, List, [], ◌∷◌, ◌++◌, Option, Some, None, Ok, ◌⊎◌, inl, inr, ⊎_elim, refl, sym, ap, ◌∙◌, subst}
use Rattle.std.specs.Prelude.{if◌then◌else◌, bytes_eq}
use Rattle.slate_ids.specs.declared.error.SlateDBError.{SlateDBError}
use Rattle.slate_ids.specs.declared.gc_message.GcMessage.{GcMessage}
use Rattle.slate_store.specs.Store.{Store, effect}
use Rattle.slate_store.specs.declared.mark.Mark.{Mark}
use Rattle.slate_store.specs.declared.store_answer.StoreAnswer.{StoreAnswer}
use Rattle.slate_store.specs.declared.store_answer.StoreAnswer.TheVariants.{Created}
use Rattle.slate_store.specs.declared.store_call.StoreCall.{StoreCall}
use Rattle.slate_store.specs.declared.store_call.StoreCall.TheVariants.{PutNew}
use Rattle.slate_script_events.specs.declared.call.Call.{Call}
use Rattle.slate_script_events.specs.declared.entry.Entry.{Entry}
use Rattle.slate_script_events.specs.declared.entry.Entry.TheVariants.{Called}
use Rattle.slate_script_events.specs.declared.event.Event.{Event}
use Rattle.slate_script_events.specs.declared.event.Event.TheVariants.{Open, Start, Step, Stop}
use Rattle.slate_script_events.specs.declared.reply.Reply.{Reply}
use Rattle.slate_script_events.specs.declared.reply.Reply.TheVariants.{Refused}
use Rattle.slate_script_events.specs.declared.db_spec.DbSpec.{DbSpec}
use Rattle.slate_state_referenced.specs.Referenced.{referenced_asks}
use Rattle.slate_state_referenced.specs.declared.referenced_phase.ReferencedPhase.{ReferencedPhase}
use Rattle.slate_state_referenced.specs.declared.referenced_phase.ReferencedPhase.TheVariants as fetching
use Rattle.slate_txn_log.specs.AdvancePhase.{advance_asks}
use Rattle.slate_txn_log.specs.LogPaths.{version_path}
use Rattle.slate_txn_log.specs.ReadPhase.{read_asks}
use Rattle.slate_txn_log.specs.declared.advance_phase.AdvancePhase.{AdvancePhase}
use Rattle.slate_txn_log.specs.declared.advance_phase.AdvancePhase.TheVariants as advancing
use Rattle.slate_txn_log.specs.declared.commit_phase.CommitPhase.TheVariants.{Putting, Bounding, Over}
use Rattle.slate_txn_log.specs.declared.log_kind.LogKind.{LogKind}
use Rattle.slate_txn_log.specs.declared.log_kind.LogKind.TheVariants as logs
use Rattle.slate_txn_log.specs.declared.read_phase.ReadPhase.{ReadPhase}
use Rattle.slate_txn_log.specs.declared.read_phase.ReadPhase.TheVariants as reading
use Rattle.slate_gc_passes.specs.Pass.{pass_asks}
use Rattle.slate_gc_passes.specs.Rows.{log_of_pass, log_or_manifests}
use Rattle.slate_gc_passes.specs.declared.pass_phase.PassPhase.{PassPhase}
use Rattle.slate_gc_passes.specs.declared.pass_phase.PassPhase.TheVariants as passing
use Rattle.slate_cluster_protocol.specs.ByRows.{Doing, Rests, Answers, Stays, Told, AllTold, nobody, reply_in, start_entry, stop_entry, entry_by, told_call, told_answer, told_after, all_told_after, party_in}
use Rattle.slate_cluster_protocol.specs.Calls.{Next, Go, Finish}
use Rattle.slate_cluster_protocol.specs.Chains.{Link, link_at, if_new, with_link}
use Rattle.slate_cluster_protocol.specs.Holding.{IsIn, IsPutBy, IsRefused}
use Rattle.slate_cluster_protocol.specs.Lawful.{IsAccepted}
use Rattle.slate_cluster_protocol.specs.Logs.{Author, Held, Chain, Chains, Phrase, Puts, Put, Reads, Commits, Uploads, Fetches, Collects, log_of, phrase_of, chain_with, chains_put, put_by, chains_stepped, chains_state, chains_at, chains_after, opening_chains}
use Rattle.slate_cluster_protocol.specs.Rows.{Answered, Standing, answered, after_answers, stands_after, begin, moved, row}
use Rattle.slate_cluster_protocol.specs.Specs.{opening_world}
use Rattle.slate_cluster_protocol.specs.Works.{asks}
use Rattle.slate_cluster_protocol.specs.World.{World, HasDb, Transition, party_of, wrote, reply_of, stepped, step_state, step_at, happens}
use Rattle.slate_cluster_protocol.specs.declared.party.Facts.{Facts}
use Rattle.slate_cluster_protocol.specs.declared.party.Party.{Party}
use Rattle.slate_cluster_protocol.specs.declared.party.State.{State}
use Rattle.slate_cluster_protocol.specs.declared.party.State.TheVariants.{Resting, Busy, Halted}
use Rattle.slate_cluster_protocol.specs.declared.party.Task.{Task}
use Rattle.slate_cluster_protocol.specs.declared.work.Work.{Work}
use Rattle.slate_cluster_laws.specs.OwnCalls.{IsOwn, OfNext, EachCall, OwnPut, OwnEnd, OwnDoing, OwnEntry, OwnCalls}
use Rattle.slate_cluster_laws.proofs.AfterEvents.{none_come}
use Rattle.slate_cluster_laws.proofs.Holding.{after_put, refused_or_own, work_created}
use Rattle.slate_cluster_chain_laws.proofs.Links.{link_there}
use Rattle.slate_cluster_laws.proofs.Opening.{opening_inv}
use Rattle.slate_cluster_laws.proofs.Rows.{AllMatch, CallIs, Matches, all_after, event_brings, more_answers, same_number}
use Rattle.slate_cluster_laws.proofs.Runs.{Inv, StateKnows, event_inv}
use Rattle.slate_cluster_laws.proofs.Steps.{PhraseKnows, author_of, db_in, phrase_asks, work_asks, work_db}
use Rattle.slate_cluster_laws.proofs.Tallies.{its_kind}

-- ---- chains keep their versions

with_kept : {V A : Type 0} (l : Link V A) (c : List (Link V A)) (n : ℕ) (m : Link V A) → link_at n c ≡ Some m → link_at n (with_link l c) ≡ Some m
with_kept l c n m at = by_link (link_at l.number c) refl
  where
    by_link : (o : Option (Link _ _)) → link_at l.number c ≡ o → link_at n (if_new o l c) ≡ Some m
    by_link (Some old) e = at
    by_link None e = link_there n l c (λ (same : l.number ≡ n). cc (ap (λ j. link_at j c) same, e, at)) ∙ at

chain_kept : (k j : LogKind) (l : Link (Held j) Author) (c : Chain k) (n : ℕ) (m : Link (Held k) Author) → link_at n c ≡ Some m → link_at n (chain_with k j l c) ≡ Some m
chain_kept logs.Manifest logs.Manifest l c n m at = with_kept l c n m at
chain_kept logs.Compactions logs.Compactions l c n m at = with_kept l c n m at
chain_kept logs.Manifest logs.Compactions l c n m at = at
chain_kept logs.Compactions logs.Manifest l c n m at = at

-- chains keep their versions from one moment to another
abbrev Kept : Chains → Chains → Type 0
Kept chains chains' = (k : LogKind) (d : List ℕ) (n : ℕ) (m : Link (Held k) Author) → link_at n (chains k d) ≡ Some m → link_at n (chains' k d) ≡ Some m

put_kept : (b : Bool) (o : Option Put) (chains : Chains) → Kept chains (chains_put b o chains)
put_kept true (Some put) chains = λ k d n m at. test k d n m at (bytes_eq d put.db)
  where
    test : (k : LogKind) (d : List ℕ) (n : ℕ) (m : Link (Held k) Author) → link_at n (chains k d) ≡ Some m → (t : Bool) → link_at n (if t then chain_with k put.log put.link (chains k d) else chains k d) ≡ Some m
    test k d n m at true = chain_kept k put.log put.link (chains k d) n m at
    test k d n m at false = at
put_kept true None chains = λ k d n m at. at
put_kept false (Some put) chains = λ k d n m at. at
put_kept false None chains = λ k d n m at. at

state_kept : (w : World) (n : ℕ) (state : State) (moment : ℤ) (mark : Mark) (chains : Chains) → Kept chains (chains_state w n state moment mark chains)
state_kept w n Resting moment mark chains = λ k d j m at. at
state_kept w n Halted moment mark chains = λ k d j m at. at
state_kept w n (Busy task) moment mark chains = put_kept (wrote w.store (effect mark (asks task.work) moment w.store).store) (put_by n (phrase_of task.work)) chains

step_kept : (w : World) (n : ℕ) (o : Option Party) (moment : ℤ) (mark : Mark) (chains : Chains) → Kept chains (chains_at w n o moment mark chains)
step_kept w n None moment mark chains = λ k d j m at. at
step_kept w n (Some p) moment mark chains = state_kept w n p.state moment mark chains

event_kept : (w : World) (e : Event) (chains : Chains) → Kept chains (chains_after w e chains)
event_kept w (Open n kind db) chains = λ k d j m at. at
event_kept w (Start n call) chains = λ k d j m at. at
event_kept w (Step n moment mark) chains = step_kept w n (party_of n w.parties) moment mark chains
event_kept w (Stop n) chains = λ k d j m at. at

own_kept : (chains chains' : Chains) → Kept chains chains' → (k : LogKind) (db : List ℕ) (n number : ℕ) (bytes : List ℕ) → IsOwn k (chains k db) n number bytes → IsOwn k (chains' k db) n number bytes
own_kept chains chains' kept k db n number bytes h = record { link = h.link; at = kept k db number h.link h.at; same = h.same; author = h.author; by = h.by; party = h.party }

-- ---- the store calls of a call, and one more

each_more : (P : StoreCall → StoreAnswer → Type 0) (call : Call) (from : Standing) (answers : List Answered) (a : Answered) → EachCall P call from answers → OfNext P (after_answers call from answers).next a.0
    → EachCall P call from (answers ++ a ∷ [])
each_more P call from [] a h o = (o, tt)
each_more P call from (b ∷ answers) a h o = (h.0, each_more P call (answered call from.facts from.next b) answers a h.1 o)

next_by : (P Q : StoreCall → StoreAnswer → Type 0) → ((asked : StoreCall) (answer : StoreAnswer) → P asked answer → Q asked answer) → (next : Next) (answer : StoreAnswer) → OfNext P next answer → OfNext Q next answer
next_by P Q f (Go work) answer h = f (asks work) answer h
next_by P Q f (Finish reply) answer h = tt

each_by : (P Q : StoreCall → StoreAnswer → Type 0) → ((asked : StoreCall) (answer : StoreAnswer) → P asked answer → Q asked answer) → (call : Call) (from : Standing) (answers : List Answered) → EachCall P call from answers → EachCall Q call from answers
each_by P Q f call from [] h = tt
each_by P Q f call from (a ∷ answers) h = (next_by P Q f from.next a.0 h.0, each_by P Q f call (answered call from.facts from.next a) answers h.1)

-- ---- which store call puts a version

-- a phrase that is about to put these bytes at a number
record IsPutting (phrase : Phrase) (k : LogKind) (db : List ℕ) (number : ℕ) (bytes : List ℕ) : Type 0 where
  pub puts : Puts
  pub now : ℤ
  pub v : Held k
  pub is : phrase ≡ Commits k db puts now (Putting number bytes v)

module _ (k : LogKind) (db : List ℕ) (number : ℕ) (bytes : List ℕ) where
  abbrev put : LogKind → StoreCall
  put j = PutNew (version_path j db number) bytes

  read_puts : {V : Type 0} (d : List ℕ) (j : LogKind) (phase : ReadPhase V) → read_asks d j phase ≡ put k → ⊥
  read_puts d j reading.Listing e = cc e
  read_puts d j (reading.Getting n) e = cc e
  read_puts d j (reading.Bounding n v) e = cc e
  read_puts d j reading.Over e = cc e

  advance_puts : (d : List ℕ) (j i : LogKind) (phase : AdvancePhase) → advance_asks d j phase ≡ put i → ⊥
  advance_puts d j i (advancing.Bounding n) e = cc e
  advance_puts d logs.Manifest logs.Manifest (advancing.Creating n) e = cc e
  advance_puts d logs.Manifest logs.Compactions (advancing.Creating n) e = cc e
  advance_puts d logs.Compactions logs.Manifest (advancing.Creating n) e = cc e
  advance_puts d logs.Compactions logs.Compactions (advancing.Creating n) e = cc e
  advance_puts d j i (advancing.Replacing n tag) e = cc e
  advance_puts d j i advancing.Over e = cc e

  fetch_puts : (d : List ℕ) (phase : ReferencedPhase) → referenced_asks d phase ≡ put k → ⊥
  fetch_puts d (fetching.Getting [] found) e = cc e
  fetch_puts d (fetching.Getting (n ∷ left) found) e = cc e
  fetch_puts d fetching.Over e = cc e

  pass_puts : (d : List ℕ) (pass : GcMessage) (phase : PassPhase) → pass_asks d pass phase ≡ put k → ⊥
  pass_puts d pass (passing.ReadingRecord phase) e = read_puts d logs.Compactions phase e
  pass_puts d pass (passing.ReadingManifest least phase) e = read_puts d logs.Manifest phase e
  pass_puts d pass (passing.Fetching heads phase) e = fetch_puts d phase e
  pass_puts d pass (passing.Advancing phase left counts) e = advance_puts d (log_or_manifests (log_of_pass pass)) k phase e
  pass_puts d pass (passing.Deleting [] counts) e = cc e
  pass_puts d pass (passing.Deleting (m ∷ left) counts) e = cc e
  pass_puts d pass _ e = cc e

  same_put : (j : LogKind) (d : List ℕ) (puts : Puts) (now : ℤ) (m : ℕ) (bs : List ℕ) (v : Held j) → d ≡ db → m ≡ number → bs ≡ bytes → IsPutting (Commits j d puts now (Putting m bs v)) j db number bytes
  same_put j d puts now m bs v same_db same_number same_bytes = record {
    puts = puts;
    now = now;
    v = v;
    is = ap (λ x. Commits j x puts now (Putting m bs v)) same_db ∙ (ap (λ x. Commits j db puts now (Putting x bs v)) same_number ∙ ap (λ x. Commits j db puts now (Putting number x v)) same_bytes);
  }

commit_putting : (k : LogKind) (db : List ℕ) (number : ℕ) (bytes : List ℕ) (j : LogKind) (d : List ℕ) (puts : Puts) (now : ℤ) (m : ℕ) (bs : List ℕ) (v : Held j)
    → PutNew (version_path j d m) bs ≡ PutNew (version_path k db number) bytes → IsPutting (Commits j d puts now (Putting m bs v)) k db number bytes
commit_putting logs.Manifest db number bytes logs.Manifest d puts now m bs v e = same_put logs.Manifest db number bytes logs.Manifest d puts now m bs v (cc e) (cc e) (cc e)
commit_putting logs.Compactions db number bytes logs.Compactions d puts now m bs v e = same_put logs.Compactions db number bytes logs.Compactions d puts now m bs v (cc e) (cc e) (cc e)
commit_putting logs.Manifest db number bytes logs.Compactions d puts now m bs v e = absurd (cc e)
commit_putting logs.Compactions db number bytes logs.Manifest d puts now m bs v e = absurd (cc e)

phrase_putting : (phrase : Phrase) (k : LogKind) (db : List ℕ) (number : ℕ) (bytes : List ℕ) → phrase_asks phrase ≡ PutNew (version_path k db number) bytes → IsPutting phrase k db number bytes
phrase_putting (Reads j d phase) k db number bytes e = absurd (read_puts k db number bytes d (log_of j).kind phase e)
phrase_putting (Uploads d table bs) k db number bytes e = absurd (cc e)
phrase_putting (Fetches d m phase) k db number bytes e = absurd (fetch_puts k db number bytes d phase e)
phrase_putting (Collects d pass phase) k db number bytes e = absurd (pass_puts k db number bytes d pass phase e)
phrase_putting (Commits j d puts now (Putting m bs v)) k db number bytes e =
    commit_putting k db number bytes j d puts now m bs v (ap (λ x. PutNew (version_path x d m) bs) (sym (its_kind j)) ∙ e)
phrase_putting (Commits j d puts now (Bounding m v)) k db number bytes e = absurd (cc e)
phrase_putting (Commits j d puts now Over) k db number bytes e = absurd (cc e)

-- ---- what is known of the store calls of a call that is under way

-- what was put has its boundary read next
record IsNext (next : Next) (k : LogKind) (db : List ℕ) (number : ℕ) (bytes : List ℕ) : Type 0 where
  pub puts : Puts
  pub now : ℤ
  pub v : Held k
  pub goes : IsIn (Commits k db puts now (Bounding number v)) next
  pub encodes : (log_of k).encoded v ≡ Ok bytes

-- or it is the chain's
abbrev OwnOrNext : Chains → ℕ → Next → StoreCall → StoreAnswer → Type 0
OwnOrNext chains n next asked answer =
    (k : LogKind) (db : List ℕ) (number : ℕ) (bytes : List ℕ) (tag : ℕ) → asked ≡ PutNew (version_path k db number) bytes → answer ≡ Created (Some tag)
    → IsOwn k (chains k db) n number bytes ⊎ IsNext next k db number bytes

abbrev DoingPuts : Chains → ℕ → Facts → Doing → Type 0
DoingPuts chains n facts (Answers call answers) = EachCall (OwnOrNext chains n (stands_after facts call answers).next) call (begin facts call) answers
DoingPuts chains n facts Rests = Unit {0}
DoingPuts chains n facts Stays = Unit {0}

abbrev ToldPuts : Chains → ℕ → Option Told → Type 0
ToldPuts chains n (Some told) = DoingPuts chains n told.facts told.doing
ToldPuts chains n None = Unit {0}

abbrev AllPuts : AllTold → Chains → Type 0
AllPuts all chains = (n : ℕ) → ToldPuts chains n (all n)

-- chains that keep their versions keep it
module _ (chains chains' : Chains) (kept : Kept chains chains') (n : ℕ) where
  either_kept : (next : Next) (asked : StoreCall) (answer : StoreAnswer) → OwnOrNext chains n next asked answer → OwnOrNext chains' n next asked answer
  either_kept next asked answer h = λ k db number bytes tag is created.
      ⊎_elim
      (λ (own : IsOwn k (chains k db) n number bytes). inl (own_kept chains chains' kept k db n number bytes own))
      (λ (waits : IsNext next k db number bytes). inr waits)
      (h k db number bytes tag is created)

  doing_kept : (facts : Facts) (doing : Doing) → DoingPuts chains n facts doing → DoingPuts chains' n facts doing
  doing_kept facts (Answers call answers) h =
      let next = (stands_after facts call answers).next in
      each_by (OwnOrNext chains n next) (OwnOrNext chains' n next) (either_kept next) call (begin facts call) answers h
  doing_kept facts Rests h = tt
  doing_kept facts Stays h = tt

  told_kept : (told : Option Told) → ToldPuts chains n told → ToldPuts chains' n told
  told_kept (Some told) h = doing_kept told.facts told.doing h
  told_kept None h = tt

-- ---- a step of a call

end_own : (chains : Chains) (n : ℕ) (facts : Facts) (call : Call) (answers : List Answered) (reply : Reply) → (((e : SlateDBError) → reply ≢ Refused e) → EachCall (OwnPut chains n) call (begin facts call) answers) → OwnEnd chains n facts call answers reply
end_own chains n facts call answers (Refused e) h = tt
end_own chains n facts call answers _ h = h (λ e is. cc is)

-- what a step brings of a call that said this before it
abbrev Brings : Chains → ℕ → Told → Entry → Option Told → Type 0
Brings chains n told entry after = OwnEntry chains (Some told) entry × ToldPuts chains n after

module _ (w : World) (chains : Chains) (i : Inv w chains) (n : ℕ) (p : Party) (at : party_of n w.parties ≡ Some p) (task : Task) (known : StateKnows w.store chains n p.facts (Busy task)) (moment : ℤ) (mark : Mark) where
  abbrev answer : StoreAnswer
  answer = (effect mark (asks task.work) moment w.store).answer

  abbrev standing : Standing
  standing = moved p.facts task.call task.work moment answer

  abbrev chains' : Chains
  chains' = chains_stepped w n task moment mark chains

  kept : Kept chains chains'
  kept = put_kept (wrote w.store (effect mark (asks task.work) moment w.store).store) (put_by n (phrase_of task.work)) chains

  knows : (phrase : Phrase) → phrase_of task.work ≡ phrase → PhraseKnows w.store chains n phrase
  knows phrase e = subst (λ ph. PhraseKnows w.store chains n ph) e known.knows

  has_db : (phrase : Phrase) → phrase_of task.work ≡ phrase → HasDb w (db_in phrase)
  has_db phrase e = subst (λ d. HasDb w d) (sym known.own ∙ (sym (work_db task.work) ∙ ap db_in e)) (i.parties n p at).has

  -- what waits for its boundary is the chain's then, where the call isn't refused
  settles : (next : Next) → next ≡ Go task.work → ((e : SlateDBError) → standing.next ≢ Finish (Refused e)) → (k : LogKind) (db : List ℕ) (number : ℕ) (bytes : List ℕ) → IsNext next k db number bytes → IsOwn k (chains' k db) n number bytes
  settles next is passed k db number bytes h =
      let same : h.goes.work ≡ task.work = cc (h.goes.is, is) in
      let phrase = Commits k db h.puts h.now (Bounding number h.v) in
      let e : phrase_of task.work ≡ phrase = sym (ap phrase_of same) ∙ h.goes.same in
      ⊎_elim
      (λ (r : IsRefused standing.next). absurd (passed r.error r.is))
      (λ (own : IsPutBy (log_of k) (chains k db) (author_of n h.puts h.now) number h.v). own_of own)
      (refused_or_own w.store moment mark p.facts task.call task.work k db h.puts h.now number h.v (chains k db) (author_of n h.puts h.now) (i.logs k db (i.named db (has_db phrase e))) (knows phrase e) e)
    where
      own_of : IsPutBy (log_of k) (chains k db) (author_of n h.puts h.now) number h.v → IsOwn k (chains' k db) n number bytes
      own_of own =
          let same : own.link.bytes ≡ bytes = cc (own.bytes, h.encodes) in
          record { link = own.link; at = kept k db number own.link own.at; same = same; author = author_of n h.puts h.now; by = own.by; party = refl }

  -- what was put before
  before : (next : Next) → next ≡ Go task.work → ((e : SlateDBError) → standing.next ≢ Finish (Refused e)) → (asked : StoreCall) (by : StoreAnswer) → OwnOrNext chains n next asked by → OwnPut chains' n asked by
  before next is passed asked by h = λ k db number bytes tag put created.
      ⊎_elim
      (λ (own : IsOwn k (chains k db) n number bytes). own_kept chains chains' kept k db n number bytes own)
      (λ (waits : IsNext next k db number bytes). settles next is passed k db number bytes waits)
      (h k db number bytes tag put created)

  -- what is put now waits for its boundary
  now_waits : (k : LogKind) (db : List ℕ) (number : ℕ) (bytes : List ℕ) (tag : ℕ) → asks task.work ≡ PutNew (version_path k db number) bytes → answer ≡ Created (Some tag) → IsNext standing.next k db number bytes
  now_waits k db number bytes tag put created =
      let h = phrase_putting (phrase_of task.work) k db number bytes (sym (work_asks task.work) ∙ put) in
      let phrase = Commits k db h.puts h.now (Bounding number h.v) in
      record {
        puts = h.puts;
        now = h.now;
        v = h.v;
        goes = subst (λ (x : StoreAnswer). IsIn phrase (moved p.facts task.call task.work moment x).next) (sym created) (work_created tag moment p.facts task.call phrase task.work known.fits (ap after_put h.is));
        encodes = (knows (Commits k db h.puts h.now (Putting number bytes h.v)) h.is).encodes;
      }

  module _ (facts : Facts) (answers : List Answered) (stands : stands_after facts task.call answers ≡ record { facts = p.facts; next = Go task.work })
      (h : EachCall (OwnOrNext chains n (stands_after facts task.call answers).next) task.call (begin facts task.call) answers) where
    abbrev old : Next
    old = (stands_after facts task.call answers).next

    old_is : old ≡ Go task.work
    old_is = ap (λ (x : Standing). x.next) stands

    more : stands_after facts task.call (answers ++ (answer, moment) ∷ []) ≡ standing
    more = more_answers task.call (begin facts task.call) answers (answer, moment) ∙ ap (λ (x : Standing). answered task.call x.facts x.next (answer, moment)) stands

    -- where it goes on
    goes_on : (work : Work) → standing.next ≡ Go work → DoingPuts chains' n facts (Answers task.call (answers ++ (answer, moment) ∷ []))
    goes_on work is =
        let P = OwnOrNext chains' n (stands_after facts task.call (answers ++ (answer, moment) ∷ [])).next in
        each_more P task.call (begin facts task.call) answers (answer, moment)
        (each_by (OwnOrNext chains n old) P (λ asked by own k db number bytes tag put created. inl (before old old_is (λ e refused. cc (is, refused)) asked by own k db number bytes tag put created)) task.call (begin facts task.call) answers h)
        (subst (λ (x : Next). OfNext P x answer) (sym old_is)
        (λ k db number bytes tag put created. inr (subst (λ (x : Standing). IsNext x.next k db number bytes) (sym more) (now_waits k db number bytes tag put created))))

    -- where it ends
    ends : (reply : Reply) → standing.next ≡ Finish reply → OwnEnd chains' n facts task.call (answers ++ (answer, moment) ∷ []) reply
    ends reply is = end_own chains' n facts task.call (answers ++ (answer, moment) ∷ []) reply (λ passed.
        each_more (OwnPut chains' n) task.call (begin facts task.call) answers (answer, moment)
        (each_by (OwnOrNext chains n old) (OwnPut chains' n) (before old old_is (λ e refused. passed e (cc (is, refused)))) task.call (begin facts task.call) answers h)
        (subst (λ (x : Next). OfNext (OwnPut chains' n) x answer) (sym old_is)
        (λ k db number bytes tag put created. absurd (cc (is, (now_waits k db number bytes tag put created).goes.is)))))

    by_next : (told : Told) → told.facts ≡ facts → told.doing ≡ Answers task.call answers → (next : Next) → standing.next ≡ next
        → Brings chains' n told (Called n (asks task.work) moment mark answer (reply_of next)) (Some (told_answer told.facts told.doing (answer, moment) (reply_of next)))
    by_next told same_facts same_doing (Go work) is = (
      tt,
      subst (λ (x : Doing). ToldPuts chains' n (Some (told_answer told.facts x (answer, moment) None))) (sym same_doing)
          (subst (λ (f : Facts). DoingPuts chains' n f (Answers task.call (answers ++ (answer, moment) ∷ []))) (sym same_facts) (goes_on work is)),
    )
    by_next told same_facts same_doing (Finish reply) is = (
      subst (λ (x : Doing). OwnDoing chains' n told.facts x (answer, moment) reply) (sym same_doing)
          (subst (λ (f : Facts). OwnEnd chains' n f task.call (answers ++ (answer, moment) ∷ []) reply) (sym same_facts) (ends reply is)),
      subst (λ (x : Doing). ToldPuts chains' n (Some (told_answer told.facts x (answer, moment) (Some reply)))) (sym same_doing) tt,
    )

-- ---- an event

rests : (chains : Chains) (n : ℕ) (facts : Facts) (call : Call) (reply : Option Reply) → ToldPuts chains n (Some (told_call facts call [] reply))
rests chains n facts call None = tt
rests chains n facts call (Some reply) = tt

-- what an event brings, by its entry
abbrev EventBrings : Chains → Event → Option Told → Entry → Type 0
EventBrings chains e told entry = OwnEntry chains told entry × ToldPuts chains (party_in e) (told_after e entry told)

start_brings : (chains : Chains) (n : ℕ) (call : Call) (told : Told) (facts : Facts) (doing : Doing) → ToldPuts chains n (Some told) → EventBrings chains (Start n call) (Some told) (start_entry n call facts doing)
start_brings chains n call told facts Rests h = (tt, rests chains n told.facts call (reply_in (row facts call [])))
start_brings chains n call told facts (Answers c answers) h = (tt, h)
start_brings chains n call told facts Stays h = (tt, h)

stop_brings : (chains : Chains) (n : ℕ) (told : Told) (doing : Doing) → ToldPuts chains n (Some told) → EventBrings chains (Stop n) (Some told) (stop_entry n doing)
stop_brings chains n told Rests h = (tt, tt)
stop_brings chains n told (Answers c answers) h = (tt, tt)
stop_brings chains n told Stays h = (tt, h)

-- of all events but steps
abbrev IsStep : Event → Type 0
IsStep (Step n moment mark) = Unit {0}
IsStep _ = ⊥

else_brings : (chains : Chains) (e : Event) (told : Option Told) (s : Store) → (IsStep e → ⊥) → ToldPuts chains (party_in e) told → EventBrings chains e told (entry_by e told s)
else_brings chains (Open n kind db) None s other h = (tt, tt)
else_brings chains (Open n kind db) (Some told) s other h = (tt, tt)
else_brings chains (Start n call) None s other h = (tt, tt)
else_brings chains (Start n call) (Some told) s other h = start_brings chains n call told told.facts told.doing h
else_brings chains (Stop n) None s other h = (tt, tt)
else_brings chains (Stop n) (Some told) s other h = stop_brings chains n told told.doing h
else_brings chains (Step n moment mark) told s other h = absurd (other tt)

-- of a step
module _ (w : World) (chains : Chains) (i : Inv w chains) (n : ℕ) (moment : ℤ) (mark : Mark) where
  abbrev StepBrings : Option Told → Transition → Chains → Type 0
  StepBrings told d chains' = EventBrings chains' (Step n moment mark) told d.entry

  step_busy : (p : Party) → party_of n w.parties ≡ Some p → (task : Task) → StateKnows w.store chains n p.facts (Busy task) → (told : Told) (doing : Doing) → told.doing ≡ doing → CallIs told.facts doing p.facts (Busy task) → DoingPuts chains n told.facts doing
      → StepBrings (Some told) (stepped w n p.facts task moment mark) (chains_stepped w n task moment mark chains)
  step_busy p at task known told Rests is m h = absurd m
  step_busy p at task known told Stays is m h = absurd m
  step_busy p at task known told (Answers under answers) is m h =
      let same : Answers under answers ≡ Answers task.call answers = ap (λ (c : Call). Answers c answers) m.0 in
      by_next w chains i n p at task known moment mark told.facts answers m.1 (subst (DoingPuts chains n told.facts) same h) told refl (is ∙ same)
      (moved p.facts task.call task.work moment (effect mark (asks task.work) moment w.store).answer).next refl

  step_state_brings : (p : Party) → party_of n w.parties ≡ Some p → (state : State) → StateKnows w.store chains n p.facts state → (told : Told) → CallIs told.facts told.doing p.facts state → ToldPuts chains n (Some told)
      → StepBrings (Some told) (step_state w n p.facts state moment mark) (chains_state w n state moment mark chains)
  step_state_brings p at Resting known told m h = (tt, h)
  step_state_brings p at Halted known told m h = (tt, h)
  step_state_brings p at (Busy task) known told m h = step_busy p at task known told told.doing refl m h

  step_brings : (told : Option Told) (o : Option Party) → party_of n w.parties ≡ o → Matches told o → ToldPuts chains n told → (d : Transition) → step_at w n moment mark o ≡ Some d → StepBrings told d (chains_at w n o moment mark chains)
  step_brings told None at m h d is = absurd cc
  step_brings None (Some p) at m h d is = absurd m
  step_brings (Some told) (Some p) at m h d is =
      let same : step_state w n p.facts p.state moment mark ≡ d = cc is in
      subst (λ (r : Transition). StepBrings (Some told) r (chains_state w n p.state moment mark chains)) same (step_state_brings p at p.state (i.parties n p at).knows told m h)

event_own : (w : World) (chains : Chains) (e : Event) (d : Transition) (all : AllTold) → Inv w chains → AllMatch all w → AllPuts all chains → happens w e ≡ Some d → EventBrings (chains_after w e chains) e (all (party_in e)) d.entry
event_own w chains (Open n kind db) d all i m h is =
    subst (EventBrings chains (Open n kind db) (all n)) (sym (event_brings (Open n kind db) all w d m is).entry) (else_brings chains (Open n kind db) (all n) w.store (λ x. x) (h n))
event_own w chains (Start n call) d all i m h is =
    subst (EventBrings chains (Start n call) (all n)) (sym (event_brings (Start n call) all w d m is).entry) (else_brings chains (Start n call) (all n) w.store (λ x. x) (h n))
event_own w chains (Stop n) d all i m h is = subst (EventBrings chains (Stop n) (all n)) (sym (event_brings (Stop n) all w d m is).entry) (else_brings chains (Stop n) (all n) w.store (λ x. x) (h n))
event_own w chains (Step n moment mark) d all i m h is = step_brings w chains i n moment mark (all n) (party_of n w.parties) refl (m n) (h n) d is

all_puts : (w : World) (chains : Chains) (e : Event) (d : Transition) (all : AllTold) → AllPuts all chains → ToldPuts (chains_after w e chains) (party_in e) (told_after e d.entry (all (party_in e))) → AllPuts (all_told_after e d.entry all) (chains_after w e chains)
all_puts w chains e d all h own k = test (k == party_in e) refl
  where
    test : (t : Bool) → (k == party_in e) ≡ t → ToldPuts (chains_after w e chains) k (if t then told_after e d.entry (all k) else all k)
    test true is = subst (λ j. ToldPuts (chains_after w e chains) j (told_after e d.entry (all j))) (sym (same_number k (party_in e) is)) own
    test false is = told_kept chains (chains_after w e chains) (event_kept w e chains) k (all k) (h k)

-- ---- a run

run_own : (es : List Event) (w : World) (chains : Chains) (all : AllTold) → Inv w chains → AllMatch all w → AllPuts all chains → OwnCalls es all w chains
run_own [] w chains all i m h = tt
run_own (e ∷ es) w chains all i m h =
    went (happens w e) refl
    (λ d is puts. run_own es d.world (chains_after w e chains) (all_told_after e d.entry all) (event_inv w chains e d is i) (all_after e all w d m (event_brings e all w d m is)) puts)
  where
    went : (o : Option Transition) → happens w e ≡ o
        → ((d : Transition) → happens w e ≡ Some d → AllPuts (all_told_after e d.entry all) (chains_after w e chains) → OwnCalls es (all_told_after e d.entry all) d.world (chains_after w e chains))
        → elim o as (λ _. Type 0) [
          | None ↦ Unit {0}
          | Some d ↦ OwnEntry (chains_after w e chains) (all (party_in e)) d.entry × OwnCalls es (all_told_after e d.entry all) d.world (chains_after w e chains)
        ]
    went None is f = tt
    went (Some d) is f =
        let own = event_own w chains e d all i m h is in
        (own.0, f d is (all_puts w chains e d all h own.1))

pub own_calls : (specs : List DbSpec) (events : List Event) → IsAccepted specs → OwnCalls events nobody (opening_world specs) (opening_chains specs)
own_calls specs events accepted = run_own events (opening_world specs) (opening_chains specs) nobody (opening_inv specs accepted) (none_come specs) (λ n. tt)
