-- A pass makes one delete for each of its picks, in their order, and nothing else: a front of them while it is under way, and
-- all of them where it ended without a refusal.
use Rattle.std.proofs.Common.{◌≡◌, ℕ, Bool, false, List, [], ◌∷◌, ◌++◌, Option, Some, None, Ok, Err, refl, sym, ap, ◌∙◌}
use Rattle.std.specs.Prelude.{if◌then◌else◌, option_to_list}
use Rattle.slate_ids.specs.declared.gc_message.GcMessage.{GcMessage}
use Rattle.slate_store.specs.Machines.{Stay, End}
use Rattle.slate_store.specs.declared.made.Made.{Made}
use Rattle.slate_store.specs.declared.object.ObjectMetadata.{ObjectMetadata}
use Rattle.slate_store.specs.declared.store_answer.StoreAnswer.{StoreAnswer}
use Rattle.slate_store.specs.declared.store_call.StoreCall.{StoreCall}
use Rattle.slate_store.specs.declared.store_call.StoreCall.TheVariants.{Delete}
use Rattle.slate_script_events.specs.declared.call.Call.{Call}
use Rattle.slate_script_events.specs.declared.call.Call.TheVariants as calls
use Rattle.slate_script_events.specs.declared.filter_word.FilterWord.{FilterWord}
use Rattle.slate_script_events.specs.declared.reply.Reply.{Reply}
use Rattle.slate_script_events.specs.declared.reply.Reply.TheVariants.{Refused}
use Rattle.slate_txn_log.specs.AdvancePhase.{advance_asks}
use Rattle.slate_txn_log.specs.CommitPhase.{commit_asks}
use Rattle.slate_txn_log.specs.ReadPhase.{read_asks}
use Rattle.slate_txn_log.specs.declared.advance_phase.AdvancePhase.{AdvancePhase}
use Rattle.slate_txn_log.specs.declared.advance_phase.AdvancePhase.TheVariants as advancing
use Rattle.slate_txn_log.specs.declared.commit_phase.CommitPhase.{CommitPhase}
use Rattle.slate_txn_log.specs.declared.commit_phase.CommitPhase.TheVariants as committing
use Rattle.slate_txn_log.specs.declared.log_kind.LogKind.{LogKind}
use Rattle.slate_txn_log.specs.declared.log_kind.LogKind.TheVariants as logs
use Rattle.slate_txn_log.specs.declared.read_phase.ReadPhase.{ReadPhase}
use Rattle.slate_txn_log.specs.declared.read_phase.ReadPhase.TheVariants as reading
use Rattle.slate_gc_passes.specs.Exact.{counted, counted_along, counts_before, deleted_along, stands_after, to_delete}
use Rattle.slate_gc_passes.specs.GcPhase.{GcGoes, gc_asks, gc_goes, gc_start}
use Rattle.slate_gc_passes.specs.Rows.{log_of_pass, log_or_manifests}
use Rattle.slate_gc_passes.specs.declared.gc_phase.GcPhase.{GcPhase}
use Rattle.slate_txn_changes.specs.declared.log_work.LogWork.TheVariants.{Reading, Committing}
use Rattle.slate_gc_passes.specs.declared.gc_phase.GcPhase.TheVariants.{Removing, Collecting}
use Rattle.slate_gc_passes.specs.declared.pass_counts.PassCounts.{PassCounts}
use Rattle.slate_gc_passes.specs.declared.pass_phase.PassPhase.TheVariants as passing
use Rattle.slate_gc_passes.specs.declared.pass_settings.PassSettings.{PassSettings}
use Rattle.slate_gc_passes.proofs.Exactly.{exactly}
use Rattle.slate_state_referenced.specs.Referenced.{referenced_asks}
use Rattle.slate_state_referenced.specs.declared.referenced_phase.ReferencedPhase.{ReferencedPhase}
use Rattle.slate_state_referenced.specs.declared.referenced_phase.ReferencedPhase.TheVariants as fetching
use Rattle.slate_cluster_protocol.specs.Calls.{pass_settings, Go, Finish}
use Rattle.slate_cluster_protocol.specs.Passes.{calls_made, pass_answers, is_delete, deletes_in, deletes_made, deletes_of, calls_of, with_deletes, picked_so_far, reply_of, IsExact}
use Rattle.slate_cluster_protocol.specs.Rows.{Answered, Standing, answered, after_answers, pass_on}
use Rattle.slate_cluster_protocol.specs.Works.{pass_ways}
use Rattle.slate_cluster_protocol.specs.declared.party.Facts.{Facts}
use Rattle.slate_cluster_protocol.specs.declared.work.Work.TheVariants.{Pass}

-- ---- a call that has its reply

module _ (call : Call) (facts : Facts) (r : Reply) where
  -- it keeps it
  stays_replied : (answers : List Answered) → after_answers call (record { facts = facts; next = Finish r }) answers ≡ record { facts = facts; next = Finish r }
  stays_replied [] = refl
  stays_replied (a ∷ answers) = stays_replied answers

  -- and its pass has no answers more
  pub replied_answers : (answers : List Answered) → pass_answers call (record { facts = facts; next = Finish r }) answers ≡ []
  replied_answers [] = refl
  replied_answers (a ∷ answers) = replied_answers answers

-- ---- which calls are deletes

read_quiet : {V : Type 0} (db : List ℕ) (log : LogKind) (phase : ReadPhase V) → is_delete (read_asks db log phase) ≡ false
read_quiet db log reading.Listing = refl
read_quiet db log (reading.Getting n) = refl
read_quiet db log (reading.Bounding n v) = refl
read_quiet db log reading.Over = refl

commit_quiet : {V : Type 0} (db : List ℕ) (log : LogKind) (phase : CommitPhase V) → is_delete (commit_asks db log phase) ≡ false
commit_quiet db log (committing.Putting n bytes v) = refl
commit_quiet db log (committing.Bounding n v) = refl
commit_quiet db log committing.Over = refl

fetch_quiet : (db : List ℕ) (phase : ReferencedPhase) → is_delete (referenced_asks db phase) ≡ false
fetch_quiet db (fetching.Getting [] found) = refl
fetch_quiet db (fetching.Getting (n ∷ left) found) = refl
fetch_quiet db fetching.Over = refl

advance_quiet : (db : List ℕ) (log : LogKind) (phase : AdvancePhase) → is_delete (advance_asks db log phase) ≡ false
advance_quiet db log (advancing.Bounding n) = refl
advance_quiet db log (advancing.Creating n) = refl
advance_quiet db log (advancing.Replacing n tag) = refl
advance_quiet db log advancing.Over = refl

-- the delete that is due in a phase, with the answer to it
abbrev delete_made : Option ObjectMetadata → StoreAnswer → List Made
delete_made None answer = []
delete_made (Some m) answer = record { call = Delete m.location; answer = answer } ∷ []

no_delete : (call : StoreCall) (answer : StoreAnswer) (made : List Made) → is_delete call ≡ false → deletes_in (record { call = call; answer = answer } ∷ made) ≡ deletes_in made
no_delete call answer made h = ap (λ (b : Bool). if b then record { call = call; answer = answer } ∷ deletes_in made else deletes_in made) h

one_call : (db : List ℕ) (pass : GcMessage) (phase : GcPhase) (answer : StoreAnswer) (made : List Made)
    → deletes_in (record { call = gc_asks db pass phase; answer = answer } ∷ made) ≡ delete_made (to_delete phase) answer ++ deletes_in made
one_call db pass (Removing (Reading phase)) answer made = no_delete (read_asks db logs.Manifest phase) answer made (read_quiet db logs.Manifest phase)
one_call db pass (Removing (Committing now phase)) answer made = no_delete (commit_asks db logs.Manifest phase) answer made (commit_quiet db logs.Manifest phase)
one_call db pass (Collecting at (passing.ReadingRecord phase)) answer made = no_delete (read_asks db logs.Compactions phase) answer made (read_quiet db logs.Compactions phase)
one_call db pass (Collecting at (passing.ReadingManifest least phase)) answer made = no_delete (read_asks db logs.Manifest phase) answer made (read_quiet db logs.Manifest phase)
one_call db pass (Collecting at (passing.Fetching heads phase)) answer made = no_delete (referenced_asks db phase) answer made (fetch_quiet db phase)
one_call db pass (Collecting at (passing.Listing heads versions)) answer made = refl
one_call db pass (Collecting at (passing.Getting n listed found)) answer made = refl
one_call db pass (Collecting at (passing.Bounding n listed found)) answer made = refl
one_call db pass (Collecting at (passing.Advancing phase left counts)) answer made =
    no_delete (advance_asks db (log_or_manifests (log_of_pass pass)) phase) answer made (advance_quiet db (log_or_manifests (log_of_pass pass)) phase)
one_call db pass (Collecting at (passing.Deleting [] counts)) answer made = refl
one_call db pass (Collecting at (passing.Deleting (m ∷ left) counts)) answer made = refl
one_call db pass (Collecting at passing.Over) answer made = refl

-- ---- a pass call, and its machine

call_split : (o : Option ObjectMetadata) (answer : StoreAnswer) (made : List Made) → calls_of (delete_made o answer ++ made) ≡ deletes_of (option_to_list o) ++ calls_of made
call_split None answer made = refl
call_split (Some m) answer made = refl

object_split : (o : Option ObjectMetadata) (ms : List ObjectMetadata) → deletes_of (option_to_list o ++ ms) ≡ deletes_of (option_to_list o) ++ deletes_of ms
object_split None ms = refl
object_split (Some m) ms = refl

count_split : (o : Option ObjectMetadata) (answer : StoreAnswer) (counts : PassCounts) (made : List Made) → with_deletes counts (delete_made o answer ++ made) ≡ with_deletes (counted o answer counts) made
count_split None answer counts made = refl
count_split (Some m) answer counts made = refl

module _ (facts : Facts) (call : Call) (db : List ℕ) (settings : PassSettings) (word : FilterWord) where
  -- where a call stands once its pass has gone on
  abbrev pub standing_at : GcGoes → Standing
  standing_at (Stay phase) = record { facts = facts; next = Go (Pass db settings word phase) }
  standing_at (End phase (Ok counts)) = record { facts = facts; next = Finish (reply_of counts) }
  standing_at (End phase (Err e)) = record { facts = facts; next = Finish (Refused e) }

  follows : (g : GcGoes) → pass_on facts db settings word g ≡ standing_at g
  follows (Stay phase) = refl
  follows (End phase (Ok counts)) = refl
  follows (End phase (Err e)) = refl

  pub went : (phase : GcPhase) (a : Answered) → answered call facts (Go (Pass db settings word phase)) a ≡ standing_at (gc_goes (pass_ways word) settings a.1 phase a.0)
  went phase a = follows (gc_goes (pass_ways word) settings a.1 phase a.0)

  -- after answers it stands where its machine does
  stands : (answers : List Answered) (g : GcGoes) → after_answers call (standing_at g) answers ≡ standing_at (stands_after (pass_ways word) settings g answers)
  stands [] g = refl
  stands (a ∷ answers) (Stay phase) = ap (λ (st : Standing). after_answers call st answers) (went phase a) ∙ stands answers (gc_goes (pass_ways word) settings a.1 phase a.0)
  stands (a ∷ answers) (End phase (Ok counts)) = stays_replied call facts (reply_of counts) answers
  stands (a ∷ answers) (End phase (Err e)) = stays_replied call facts (Refused e) answers

  -- its deletes are those of its machine
  deletes_are : (answers : List Answered) (g : GcGoes) → calls_of (deletes_in (calls_made call (standing_at g) answers)) ≡ deletes_of (deleted_along (pass_ways word) settings g answers)
  deletes_are [] g = refl
  deletes_are (a ∷ answers) (Stay phase) =
      let g = gc_goes (pass_ways word) settings a.1 phase a.0 in
      let made = calls_made call (standing_at g) answers in
      ap (λ (st : Standing). calls_of (deletes_in (record { call = gc_asks db settings.pass phase; answer = a.0 } ∷ calls_made call st answers))) (went phase a)
      ∙ (ap calls_of (one_call db settings.pass phase a.0 made) ∙ (call_split (to_delete phase) a.0 (deletes_in made)
      ∙ (ap (λ (cs : List StoreCall). deletes_of (option_to_list (to_delete phase)) ++ cs) (deletes_are answers g) ∙ sym (object_split (to_delete phase) (deleted_along (pass_ways word) settings g answers)))))
  deletes_are (a ∷ answers) (End phase (Ok counts)) = refl
  deletes_are (a ∷ answers) (End phase (Err e)) = refl

  -- and so are its counts
  counts_are : (answers : List Answered) (g : GcGoes) (counts : PassCounts) → with_deletes counts (deletes_in (calls_made call (standing_at g) answers)) ≡ counted_along (pass_ways word) settings g answers counts
  counts_are [] g counts = refl
  counts_are (a ∷ answers) (Stay phase) counts =
      let g = gc_goes (pass_ways word) settings a.1 phase a.0 in
      let made = calls_made call (standing_at g) answers in
      ap (λ (st : Standing). with_deletes counts (deletes_in (record { call = gc_asks db settings.pass phase; answer = a.0 } ∷ calls_made call st answers))) (went phase a)
      ∙ (ap (with_deletes counts) (one_call db settings.pass phase a.0 made) ∙ (count_split (to_delete phase) a.0 counts (deletes_in made) ∙ counts_are answers g (counted (to_delete phase) a.0 counts)))
  counts_are (a ∷ answers) (End phase (Ok c)) counts = refl
  counts_are (a ∷ answers) (End phase (Err e)) counts = refl

-- ---- exactness

module _ (facts : Facts) (pass : GcMessage) (min_age : ℕ) (dry_run : Bool) (word : FilterWord) where
  abbrev call : Call
  call = calls.Pass pass min_age dry_run word

  abbrev settings : PassSettings
  settings = pass_settings pass min_age dry_run

  append_deletes : (xs ys : List ObjectMetadata) → deletes_of (xs ++ ys) ≡ deletes_of xs ++ deletes_of ys
  append_deletes [] ys = refl
  append_deletes (x ∷ xs) ys = ap (λ (cs : List StoreCall). Delete x.location ∷ cs) (append_deletes xs ys)

  -- the counts of its picks
  abbrev before : List Answered → PassCounts
  before answers = counts_before settings (picked_so_far settings word answers)

  -- where the call has the reply of a pass, its machine has ended so
  at_reply : (answers : List Answered) (left : List ObjectMetadata)
      → ((p : GcPhase) (c : PassCounts) → stands_after (pass_ways word) settings (Stay gc_start) answers ≡ End p (Ok c) → (left ≡ []) × (c ≡ counted_along (pass_ways word) settings (Stay gc_start) answers (before answers)))
      → (counts : PassCounts) (g : GcGoes) → stands_after (pass_ways word) settings (Stay gc_start) answers ≡ g → (standing_at facts call facts.db settings word g).next ≡ Finish (reply_of counts)
      → (left ≡ []) × (reply_of counts ≡ reply_of (with_deletes (before answers) (deletes_made facts call answers)))
  at_reply answers left whole counts (Stay phase) is h = absurd cc
  at_reply answers left whole counts (End phase (Err e)) is h = absurd cc
  at_reply answers left whole counts (End phase (Ok c)) is h =
      let w = whole phase c is in
      let same : reply_of counts ≡ reply_of c = cc (h) in
      (w.0, same ∙ ap reply_of (w.1 ∙ sym (counts_are facts call facts.db settings word answers (Stay gc_start) (before answers))))

  -- along any answers, also of kinds that no store gives
  pub exact_pass : (answers : List Answered) → IsExact facts call settings word answers
  exact_pass answers =
      let e = exactly (pass_ways word) settings answers in
      let deletes = deletes_are facts call facts.db settings word answers (Stay gc_start) in
      record {
        left = e.left;
        front = ap (λ (cs : List StoreCall). cs ++ deletes_of e.left) deletes ∙ (sym (append_deletes (deleted_along (pass_ways word) settings (Stay gc_start) answers) e.left) ∙ ap deletes_of e.front);
        whole = λ counts h. at_reply answers e.left e.whole counts (stands_after (pass_ways word) settings (Stay gc_start) answers) refl
            (sym (ap (λ (st : Standing). st.next) (stands facts call facts.db settings word answers (Stay gc_start))) ∙ h);
      }
