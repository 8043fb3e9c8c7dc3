-- A pass of a collector of a cluster deletes what its rule picks of what it read: a front of it while it is under way, and all of it where it ended
-- without a refusal; and so at each entry of a trail.
use Rattle.std.proofs.Common.{◌≡◌, ℕ, ◌-◌, Bool, true, List, [], ◌∷◌, ◌++◌, length, Option, Some, refl, ap, ◌∙◌}
use Rattle.slate_ids.specs.Limits.{next_count}
use Rattle.slate_ids.specs.declared.gc_message.GcMessage.{GcMessage}
use Rattle.slate_ids.specs.declared.gc_message.GcMessage.TheVariants as of
use Rattle.slate_store.specs.Store.{Store}
use Rattle.slate_store.specs.declared.made.Made.{Made}
use Rattle.slate_store.specs.declared.object.ObjectMetadata.{ObjectMetadata}
use Rattle.slate_store.specs.declared.store_answer.StoreAnswer.{StoreAnswer}
use Rattle.slate_store.specs.declared.store_answer.StoreAnswer.TheVariants.{Fault}
use Rattle.slate_script_events.specs.declared.call.Call.TheVariants as calls
use Rattle.slate_script_events.specs.declared.entry.Entry.{Entry}
use Rattle.slate_script_events.specs.declared.entry.Entry.TheVariants.{Called}
use Rattle.slate_script_events.specs.declared.event.Event.{Event}
use Rattle.slate_script_events.specs.declared.filter_word.FilterWord.{FilterWord}
use Rattle.slate_gc_passes.specs.Exact.{with_delete}
use Rattle.slate_gc_passes.specs.PassCounts.{counts_of}
use Rattle.slate_gc_passes.specs.Rows.{log_of_pass, versions_in}
use Rattle.slate_gc_passes.specs.declared.pass_counts.PassCounts.{PassCounts}
use Rattle.slate_cluster_protocol.specs.ByRows.{Doing, Answers, Told, AllTold, entry_by, party_in, all_told_after, entry_store}
use Rattle.slate_cluster_protocol.specs.Calls.{collector_has, pass_settings}
use Rattle.slate_cluster_protocol.specs.Passes.{deletes_made, deletes_of, with_deletes, picked_so_far, reply_of, IsExactByRule, ExactDoing, ExactEntry, ExactPasses}
use Rattle.slate_cluster_protocol.specs.Rows.{Answered}
use Rattle.slate_cluster_protocol.specs.declared.party.Facts.{Facts}
use Rattle.slate_cluster_pass_laws.proofs.Exact.{exact_pass}
use Rattle.slate_cluster_pass_laws.proofs.RulePicks.{picks_are}

-- ---- a reply doesn't tell how many versions are left

abbrev counts_at : ℕ → ℕ → ℕ → ℕ → PassCounts
counts_at p d f v = record { picked = p; deleted = d; failed = f; versions = v }

same_reply : (ms : List Made) (p d f v w : ℕ) → reply_of (with_deletes (counts_at p d f v) ms) ≡ reply_of (with_deletes (counts_at p d f w) ms)
same_reply [] p d f v w = refl
same_reply (m ∷ ms) p d f v w = by_answer m.answer (same_reply ms p d (next_count f) v w) (same_reply ms p (next_count d) f (v - 1) (w - 1))
  where
    by_answer : (a : StoreAnswer) → reply_of (with_deletes (counts_at p d (next_count f) v) ms) ≡ reply_of (with_deletes (counts_at p d (next_count f) w) ms)
        → reply_of (with_deletes (counts_at p (next_count d) f (v - 1)) ms) ≡ reply_of (with_deletes (counts_at p (next_count d) f (w - 1)) ms)
        → reply_of (with_deletes (with_delete a (counts_at p d f v)) ms) ≡ reply_of (with_deletes (with_delete a (counts_at p d f w)) ms)
    by_answer Fault failed deleted = failed
    by_answer _ failed deleted = deleted

-- ---- by its rule

-- along any answers, also of kinds that no store gives
pub exact_by_rule : (facts : Facts) (pass : GcMessage) (min_age : ℕ) (dry_run : Bool) (word : FilterWord) (answers : List Answered)
    → collector_has (calls.Pass pass min_age dry_run word) ≡ true → IsExactByRule facts (calls.Pass pass min_age dry_run word) (pass_settings pass min_age dry_run) word answers
exact_by_rule facts pass min_age dry_run word answers has =
    let call = calls.Pass pass min_age dry_run word in
    let settings = pass_settings pass min_age dry_run in
    let e = exact_pass facts pass min_age dry_run word answers in
    let so_far = picked_so_far settings word answers in
    let same = picks_are facts pass min_age dry_run word has answers in
    let made = deletes_made facts call answers in
    record {
      left = e.left;
      front = e.front ∙ ap deletes_of same;
      whole = λ counts h.
          let w = e.whole counts h in (
            w.0,
            w.1 ∙ (same_reply made (length so_far.objects) 0 0 (versions_in (log_of_pass settings.pass) so_far.listed) 0
                ∙ ap (λ (ms : List ObjectMetadata). reply_of (with_deletes (counts_of (length ms) 0) made)) same),
          );
    }

-- ---- in a trail

exact_doing : (facts : Facts) (doing : Doing) (a : Answered) → ExactDoing facts doing a
exact_doing facts (Answers (calls.Pass of.Manifest min_age dry_run filter) answers) a = exact_by_rule facts of.Manifest min_age dry_run filter (answers ++ a ∷ []) refl
exact_doing facts (Answers (calls.Pass of.Compactions min_age dry_run filter) answers) a = exact_by_rule facts of.Compactions min_age dry_run filter (answers ++ a ∷ []) refl
exact_doing facts (Answers (calls.Pass of.Compacted min_age dry_run filter) answers) a = exact_by_rule facts of.Compacted min_age dry_run filter (answers ++ a ∷ []) refl
exact_doing facts (Answers (calls.Pass pass min_age dry_run filter) answers) a = exact_pass facts pass min_age dry_run filter (answers ++ a ∷ [])
exact_doing facts _ a = tt

exact_entry : (told : Option Told) (x : Entry) → ExactEntry told x
exact_entry (Some told) (Called n asked moment mark answer reply) = exact_doing told.facts told.doing (answer, moment)
exact_entry _ _ = tt

-- at each entry of the trail that the rows give
pub exact_passes : (es : List Event) (all : AllTold) (s : Store) → ExactPasses es all s
exact_passes [] all s = tt
exact_passes (e ∷ es) all s =
    let x = entry_by e (all (party_in e)) s in
    (exact_entry (all (party_in e)) x, exact_passes es (all_told_after e x all) (entry_store x s))
