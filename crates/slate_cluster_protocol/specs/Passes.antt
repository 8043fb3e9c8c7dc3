-- What a pass picks of what it read, and the deletes that it makes: one for each pick, in their order.
use Rattle.std.specs.Prelude.{◌≡◌, ℕ, ℤ, nat_le, Bool, true, false, List, [], ◌∷◌, ◌++◌, map, filter, length, Option, Some, None, Result, Ok, if◌then◌else◌}
use Rattle.slate_ids.specs.declared.error.SlateDBError.{SlateDBError}
use Rattle.slate_ids.specs.declared.gc_message.GcMessage.{GcMessage}
use Rattle.slate_ids.specs.declared.gc_message.GcMessage.TheVariants as of
use Rattle.slate_layout_manifests.specs.Decoding.{decoded_manifest}
use Rattle.slate_model.specs.declared.manifest.Manifest.{Manifest}
use Rattle.slate_store.specs.Machines.{Stay}
use Rattle.slate_store.specs.declared.made.Made.{Made}
use Rattle.slate_store.specs.declared.object.ObjectMetadata.{ObjectMetadata}
use Rattle.slate_store.specs.declared.store_answer.StoreAnswer.{StoreAnswer}
use Rattle.slate_store.specs.declared.store_answer.StoreAnswer.TheVariants.{Found, Got}
use Rattle.slate_store.specs.declared.store_call.StoreCall.{StoreCall}
use Rattle.slate_store.specs.declared.store_call.StoreCall.TheVariants.{Delete}
use Rattle.slate_script_events.specs.declared.call.Call.{Call}
use Rattle.slate_script_events.specs.declared.call.Call.TheVariants.{Pass}
use Rattle.slate_script_events.specs.declared.event.Event.{Event}
use Rattle.slate_script_events.specs.declared.entry.Entry.{Entry}
use Rattle.slate_script_events.specs.declared.entry.Entry.TheVariants.{Called}
use Rattle.slate_script_events.specs.declared.filter_word.FilterWord.{FilterWord}
use Rattle.slate_script_events.specs.declared.reply.Reply.{Reply}
use Rattle.slate_script_events.specs.declared.reply.Reply.TheVariants as reply
use Rattle.slate_txn_log.specs.Boundary.{boundary_got, greatest}
use Rattle.slate_txn_log.specs.declared.log_kind.LogKind.TheVariants.{Manifest as ManifestLog, Compactions as RecordLog}
use Rattle.slate_gc_passes.specs.Candidates.{old_records}
use Rattle.slate_gc_passes.specs.Exact.{Chosen, counts_before, or_nothing, picked_along, with_delete}
use Rattle.slate_gc_passes.specs.GcPhase.{gc_start}
use Rattle.slate_gc_passes.specs.PassCounts.{counts_of}
use Rattle.slate_gc_passes.specs.declared.gc_phase.GcPhase.TheVariants.{Collecting}
use Rattle.slate_gc_passes.specs.declared.pass_counts.PassCounts.{PassCounts}
use Rattle.slate_gc_passes.specs.declared.pass_settings.PassSettings.{PassSettings}
use Rattle.slate_gc_picks.specs.Ages.{aged}
use Rattle.slate_gc_picks.specs.Filter.{picks}
use Rattle.slate_gc_picks.specs.VersionPicks.{unneeded}
use Rattle.slate_cluster_protocol.specs.ByRows.{Doing, Answers, Told, AllTold, entry_by, party_in, all_told_after, entry_store}
use Rattle.slate_cluster_protocol.specs.Calls.{pass_settings, Next, Go, Finish}
use Rattle.slate_cluster_protocol.specs.Rows.{Answered, Standing, answered, begin, stands_after}
use Rattle.slate_cluster_protocol.specs.TablePasses.{tables_read}
use Rattle.slate_cluster_protocol.specs.Works.{asks, pass_ways}
use Rattle.slate_cluster_protocol.specs.Specs.{listed_or_none}
use Rattle.slate_cluster_protocol.specs.declared.party.Facts.{Facts}
use Rattle.slate_cluster_protocol.specs.declared.work.Work.TheVariants as work
use Rattle.slate_store.specs.Store.{Store}

-- ---- what is picked of what was read

-- what a pass with a filter has picked, by its answers so far: nothing, before it has read all
abbrev pub picked_so_far : PassSettings → FilterWord → List Answered → Chosen
picked_so_far settings filter answers = or_nothing (picked_along (pass_ways filter) settings (Stay gc_start) answers)

-- ---- what a pass over a log picks, in its own words

-- the picks among the objects that were listed at a moment, by the greatest version's number and its value
abbrev pub manifest_picks : PassSettings → FilterWord → ℤ → List ObjectMetadata → ℕ → Manifest → List ObjectMetadata
manifest_picks settings filter now found n m = picks (pass_ways filter).allows settings.options.dry_run (unneeded ManifestLog n m.core.checkpoints (aged settings.options.min_age now found))

-- of a list at a moment, the value of the greatest number listed, and a boundary that is below that number
abbrev pub picks_at : PassSettings → FilterWord → ℤ → List ObjectMetadata → Option ℕ → Result Manifest SlateDBError → Option ℕ → Option (List ObjectMetadata)
picks_at settings filter now found (Some n) (Ok m) (Some bound) = if nat_le n bound then None else Some (manifest_picks settings filter now found n m)
picks_at settings filter now found _ _ _ = None

-- of the answers to the list, to the get of the greatest, and to the get of the boundary
abbrev pub picks_of : PassSettings → FilterWord → Answered → Answered → Answered → Option (List ObjectMetadata)
picks_of settings filter (Found found, now) (Got (Some object), at) (Got boundary, by) =
    picks_at settings filter now found (greatest ManifestLog found) (decoded_manifest object.bytes) (boundary_got boundary)
picks_of settings filter _ _ _ = None

-- of the answers of a pass over the manifests from its list on; nothing, before it has read all
abbrev pub manifests_read : PassSettings → FilterWord → List Answered → Option (List ObjectMetadata)
manifests_read settings filter (list ∷ version ∷ boundary ∷ answers) = picks_of settings filter list version boundary
manifests_read settings filter _ = None

-- the picks among the records that were listed at a moment: of the aged ones below the greatest listed
abbrev pub record_picks : PassSettings → FilterWord → ℤ → List ObjectMetadata → List ObjectMetadata
record_picks settings filter now found =
    picks (pass_ways filter).allows settings.options.dry_run (old_records settings.options.min_age now found (greatest RecordLog found))

-- of the answers of a pass over the records from its list on: it reads nothing else
abbrev pub records_read : PassSettings → FilterWord → List Answered → Option (List ObjectMetadata)
records_read settings filter ((Found found, now) ∷ answers) = Some (record_picks settings filter now found)
records_read settings filter _ = None

-- by the pass
abbrev pub read_by : GcMessage → PassSettings → FilterWord → List Answered → Option (List ObjectMetadata)
read_by of.Manifest settings filter answers = manifests_read settings filter answers
read_by of.Compactions settings filter answers = records_read settings filter answers
read_by of.Compacted settings filter answers = tables_read settings filter answers
read_by _ settings filter answers = None

-- of the answers of a pass from its first read on
abbrev pub picks_read : PassSettings → FilterWord → List Answered → Option (List ObjectMetadata)
picks_read settings filter answers = read_by settings.pass settings filter answers

-- whether a pass collects: the expired checkpoints are removed
abbrev pub is_collecting : Next → Bool
is_collecting (Go (work.Pass db settings filter (Collecting at phase))) = true
is_collecting _ = false

-- the answers of a call from the end of that removal on
abbrev pub pass_answers : Call → Standing → List Answered → List Answered
pass_answers call standing [] = []
pass_answers call standing (a ∷ answers) = if is_collecting standing.next then a ∷ answers else pass_answers call (answered call standing.facts standing.next a) answers

-- what a pass picks by its rule, by its answers so far
abbrev pub picked : Facts → Call → PassSettings → FilterWord → List Answered → List ObjectMetadata
picked facts call settings filter answers = listed_or_none (picks_read settings filter (pass_answers call (begin facts call) answers))

-- ---- what is deleted

-- the store call of a standing, with the answer to it, before those that were made later
abbrev pub made_then : Next → StoreAnswer → List Made → List Made
made_then (Go work) answer ms = record { call = asks work; answer = answer } ∷ ms
made_then (Finish reply) answer ms = []

-- the store calls of a call along its answers, each with its answer
abbrev pub calls_made : Call → Standing → List Answered → List Made
calls_made call standing [] = []
calls_made call standing (a ∷ answers) = made_then standing.next a.0 (calls_made call (answered call standing.facts standing.next a) answers)

abbrev pub is_delete : StoreCall → Bool
is_delete (Delete path) = true
is_delete _ = false

-- the deletes among the calls that were made
abbrev pub deletes_in : List Made → List Made
deletes_in ms = filter (λ m. is_delete m.call) ms

-- the deletes of a call along its answers
abbrev pub deletes_made : Facts → Call → List Answered → List Made
deletes_made facts call answers = deletes_in (calls_made call (begin facts call) answers)

-- one delete for each of the objects, in order
abbrev pub deletes_of : List ObjectMetadata → List StoreCall
deletes_of ms = map (λ m. Delete m.location) ms

-- the calls that were made
abbrev pub calls_of : List Made → List StoreCall
calls_of ms = map (λ m. m.call) ms

-- the counts after deletes
abbrev pub with_deletes : PassCounts → List Made → PassCounts
with_deletes counts [] = counts
with_deletes counts (m ∷ ms) = with_deletes (with_delete m.answer counts) ms

-- the reply of a pass with these counts
abbrev pub reply_of : PassCounts → Reply
reply_of counts = reply.Pass counts.picked counts.deleted counts.failed

-- a pass has deleted a front of what it picks; where it ended without a refusal, all of it, deletes that faulted included, and
-- its counts are those of its picks and its deletes
pub record IsExact (facts : Facts) (call : Call) (settings : PassSettings) (filter : FilterWord) (answers : List Answered) : Type 0 where
  pub left : List ObjectMetadata
  pub front : calls_of (deletes_made facts call answers) ++ deletes_of left ≡ deletes_of (picked_so_far settings filter answers).objects
  pub whole : (counts : PassCounts) → (stands_after facts call answers).next ≡ Finish (reply_of counts)
      → (left ≡ []) × (reply_of counts ≡ reply_of (with_deletes (counts_before settings (picked_so_far settings filter answers)) (deletes_made facts call answers)))

-- the same by its rule, of a pass that a collector of a cluster has: it has deleted a front of what the rule picks of what the pass read; where it
-- ended without a refusal, all of it, deletes that faulted included, and its reply has the counts of these picks and of its deletes
pub record IsExactByRule (facts : Facts) (call : Call) (settings : PassSettings) (filter : FilterWord) (answers : List Answered) : Type 0 where
  pub left : List ObjectMetadata
  pub front : calls_of (deletes_made facts call answers) ++ deletes_of left ≡ deletes_of (picked facts call settings filter answers)
  pub whole : (counts : PassCounts) → (stands_after facts call answers).next ≡ Finish (reply_of counts)
      → (left ≡ []) × (reply_of counts ≡ reply_of (with_deletes (counts_of (length (picked facts call settings filter answers)) 0) (deletes_made facts call answers)))

-- ---- in a trail

-- of a party that is in a pass with these answers: of each that a collector of a cluster has, by its rule
abbrev pub ExactDoing : Facts → Doing → Answered → Type 0
ExactDoing facts (Answers (Pass of.Manifest min_age dry_run filter) answers) a =
    IsExactByRule facts (Pass of.Manifest min_age dry_run filter) (pass_settings of.Manifest min_age dry_run) filter (answers ++ a ∷ [])
ExactDoing facts (Answers (Pass of.Compactions min_age dry_run filter) answers) a =
    IsExactByRule facts (Pass of.Compactions min_age dry_run filter) (pass_settings of.Compactions min_age dry_run) filter (answers ++ a ∷ [])
ExactDoing facts (Answers (Pass of.Compacted min_age dry_run filter) answers) a =
    IsExactByRule facts (Pass of.Compacted min_age dry_run filter) (pass_settings of.Compacted min_age dry_run) filter (answers ++ a ∷ [])
ExactDoing facts (Answers (Pass pass min_age dry_run filter) answers) a = IsExact facts (Pass pass min_age dry_run filter) (pass_settings pass min_age dry_run) filter (answers ++ a ∷ [])
ExactDoing facts _ a = Unit {0}

-- of an entry, by what is said of its party before it
abbrev pub ExactEntry : Option Told → Entry → Type 0
ExactEntry (Some told) (Called n asked moment mark answer reply) = ExactDoing told.facts told.doing (answer, moment)
ExactEntry _ _ = Unit {0}

-- of each entry of the trail that the rows give
abbrev pub ExactPasses : List Event → AllTold → Store → Type 0
ExactPasses [] all s = Unit {0}
ExactPasses (e ∷ es) all s =
    let x = entry_by e (all (party_in e)) s in
    ExactEntry (all (party_in e)) x × ExactPasses es (all_told_after e x all) (entry_store x s)
