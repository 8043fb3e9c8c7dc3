-- Words of a script.
use Rattle.std.specs.Prelude.{ℕ, List, [], ◌∷◌, Option, Some, None, codes, if◌then◌else◌, bytes_eq}
use Rattle.serde_json.specs.Data.{Data}
use Rattle.serde_json.specs.Find.{as_str}
use Rattle.slate_ids.specs.declared.gc_message.GcMessage.{GcMessage}
use Rattle.slate_ids.specs.declared.gc_message.GcMessage.TheVariants as pass
use Rattle.slate_store.specs.declared.mark.Mark.{Mark}
use Rattle.slate_store.specs.declared.mark.Mark.TheVariants as mark
use Rattle.slate_model_records.specs.declared.compaction_status.CompactionStatus.{CompactionStatus}
use Rattle.slate_model_records.specs.declared.compaction_status.CompactionStatus.TheVariants as status
use Rattle.slate_script_json.specs.Fields.{◌>>=◌, list_in}
use Rattle.slate_script_events.specs.declared.filter_word.FilterWord.{FilterWord}
use Rattle.slate_script_events.specs.declared.filter_word.FilterWord.TheVariants as filter
use Rattle.slate_script_events.specs.declared.party_kind.PartyKind.{PartyKind}
use Rattle.slate_script_events.specs.declared.party_kind.PartyKind.TheVariants as kind

-- a word of a table of words
abbrev pub word_in : {X : Type 0} → List (List ℕ × X) → List ℕ → Option X
word_in [] s = None
word_in (w ∷ ws) s = if bytes_eq s w.0 then Some w.1 else word_in ws s

-- the kinds of parties
unfoldable pub kind_word : List ℕ → Option PartyKind
kind_word s = word_in ((codes "writer", kind.Writer) ∷ (codes "compactor", kind.Compactor) ∷ (codes "worker", kind.Worker) ∷ (codes "holder", kind.Holder) ∷ (codes "collector", kind.Collector) ∷ []) s

-- a text that is the word of a kind
abbrev pub kind_in : Data → Option PartyKind
kind_in d = as_str d >>= kind_word

-- the mark of a step: only what is not well has a word
unfoldable pub mark_word : List ℕ → Option Mark
mark_word s = word_in ((codes "fail", mark.Fail) ∷ (codes "lost", mark.Lost) ∷ []) s

-- a text that is the word of a mark
abbrev pub mark_in : Data → Option Mark
mark_in d = as_str d >>= mark_word

-- the passes of a collector
unfoldable pub pass_word : List ℕ → Option GcMessage
pass_word s = word_in ((codes "manifest", pass.Manifest) ∷ (codes "compactions", pass.Compactions) ∷ (codes "compacted", pass.Compacted) ∷ []) s

-- a text that is the word of a pass
abbrev pub pass_in : Data → Option GcMessage
pass_in d = as_str d >>= pass_word

-- the filters of a pass that have a word
unfoldable pub filter_word : List ℕ → Option FilterWord
filter_word s = word_in ((codes "all", filter.All) ∷ (codes "none", filter.Nothing) ∷ []) s

-- the filter of a value that is this text, or that is none: a word, or an array of texts, which are paths
abbrev pub filter_by : Option (List ℕ) → Data → Option FilterWord
filter_by (Some text) d = filter_word text
filter_by None d = list_in as_str d >>= λ paths. Some (filter.Paths paths)

-- a text that is the word of a filter, or an array of texts
abbrev pub filter_in : Data → Option FilterWord
filter_in d = filter_by (as_str d) d

-- how far a compaction is
unfoldable pub status_word : List ℕ → Option CompactionStatus
status_word s = word_in ((codes "submitted", status.Submitted) ∷ (codes "scheduled", status.Scheduled) ∷ (codes "running", status.Running)
    ∷ (codes "compacted", status.Compacted) ∷ (codes "completed", status.Completed) ∷ (codes "failed", status.Failed) ∷ []) s

-- a text that is the word of a status
abbrev pub status_in : Data → Option CompactionStatus
status_in d = as_str d >>= status_word
