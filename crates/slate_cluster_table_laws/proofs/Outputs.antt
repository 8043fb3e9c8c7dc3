-- Outputs of compactions: what a change makes of a record has the outputs that the record had, and those that are reported.
use Rattle.std.proofs.Common.{◌≡◌, ℕ, ℤ, ◌++◌, Bool, true, false, List, [], ◌∷◌, map, Option, Some, None, is_some, Ok, refl, sym, subst}
use Rattle.std.specs.Prelude.{◌&&◌, if◌then◌else◌}
use Rattle.std.specs.List.{filter}
use Rattle.slate_ids.specs.Ulids.{id_lt, same_id}
use Rattle.slate_layout_records.specs.RecordBytes.{has_outputs}
use Rattle.slate_layout_records.specs.RecordNormal.{normal_compaction, normal_record}
use Rattle.slate_model_records.specs.Records.{Record, entry_of, inserted}
use Rattle.slate_model_records.specs.Retaining.{is_kept}
use Rattle.slate_model_records.specs.declared.compaction.Compaction.{Compaction}
use Rattle.slate_model_records.specs.declared.compaction_status.CompactionStatus.TheVariants.{Submitted}
use Rattle.slate_model_tables.specs.declared.ss_table_handle.SsTableHandle.{SsTableHandle}
use Rattle.slate_state_record_updates.specs.EntrySteps.{asked_for, found_stepped, is_held_by, is_running, is_scheduled, is_submitted, one_more, put_in, reset, stepped, to_compacted, to_running, to_scheduled, unscheduled, with_entry, with_local_status, with_statuses}
use Rattle.slate_state_record_updates.specs.RecordChanges.{made as record_made}
use Rattle.slate_state_record_updates.specs.RecordEpochs.{first_record, with_record_epoch}
use Rattle.slate_state_record_updates.specs.declared.record_change.RecordChange.{RecordChange}
use Rattle.slate_state_record_updates.specs.declared.record_change.RecordChange.TheVariants.{GiveEpoch, Reset, Schedule, Claim, Report, PutStatuses, Submit}
use Rattle.slate_txn_changes.specs.Changes.{made_by}
use Rattle.slate_cluster_protocol.specs.Chains.{Link, IsFirst, Follows}
use Rattle.slate_cluster_protocol.specs.Chains.IsFirst.{Opens, Begins}
use Rattle.slate_cluster_protocol.specs.Logs.{Author, Puts, OfManifest, OfRecord, First, first_by, record_change_by, records}
use Rattle.slate_cluster_table_laws.specs.Presence.{EachOutput, EachTable, IfTable}
use Rattle.slate_model_tables.specs.declared.ss_table_id.SsTableId.{SsTableId}
use Rattle.slate_model_tables.specs.declared.ss_table_id.SsTableId.TheVariants.{Wal, Compacted}

-- ---- in weaker words

module _ (P Q : ℕ × ℕ → Type 0) (f : (id : ℕ × ℕ) → P id → Q id) where
  if_weaker : (id : SsTableId) → IfTable P id → IfTable Q id
  if_weaker (Wal number) h = tt
  if_weaker (Compacted id) h = f id h

  pub tables_weaker : (ssts : List SsTableHandle) → EachTable P ssts → EachTable Q ssts
  tables_weaker [] h = tt
  tables_weaker (sst ∷ ssts) h = (if_weaker sst.id h.0, tables_weaker ssts h.1)

  pub outputs_weaker : (entries : List Compaction) → EachOutput P entries → EachOutput Q entries
  outputs_weaker [] h = tt
  outputs_weaker (c ∷ entries) h = (tables_weaker c.output_ssts h.0, outputs_weaker entries h.1)

module _ (P : ℕ × ℕ → Type 0) where
  -- ---- lists of compactions

  abbrev Own : Compaction → Type 0
  Own c = EachTable P c.output_ssts

  pub found_own : (id : ℕ × ℕ) (es : List Compaction) (c : Compaction) → entry_of id es ≡ Some c → EachOutput P es → Own c
  found_own id [] c is h = absurd cc
  found_own id (d ∷ es) c is h = by (same_id d.id id) is (λ k. found_own id es c k h.1)
    where
      by : (b : Bool) → (if b then Some d else entry_of id es) ≡ Some c → (entry_of id es ≡ Some c → Own c) → Own c
      by true k rest = let same : d ≡ c = cc k in subst Own same h.0
      by false k rest = rest k

  kept_own : (f : Compaction → Bool) (es : List Compaction) → EachOutput P es → EachOutput P (filter f es)
  kept_own f [] h = tt
  kept_own f (c ∷ es) h = by (f c) (kept_own f es h.1)
    where
      by : (b : Bool) → EachOutput P (filter f es) → EachOutput P (if b then c ∷ filter f es else filter f es)
      by true rest = (h.0, rest)
      by false rest = rest

  both_own : (es ds : List Compaction) → EachOutput P es → EachOutput P ds → EachOutput P (es ++ ds)
  both_own [] ds h k = k
  both_own (c ∷ es) ds h k = (h.0, both_own es ds h.1 k)

  pub mapped_own : (f : Compaction → Compaction) → ((c : Compaction) → Own c → Own (f c)) → (es : List Compaction) → EachOutput P es → EachOutput P (map f es)
  mapped_own f keeps [] h = tt
  mapped_own f keeps (c ∷ es) h = (keeps c h.0, mapped_own f keeps es h.1)

  pub entry_own : (c : Compaction) (es : List Compaction) → Own c → EachOutput P es → EachOutput P (inserted c es)
  entry_own c es own h = both_own (filter (λ d. id_lt d.id c.id) es) (c ∷ filter (λ d. id_lt c.id d.id) es) (kept_own (λ d. id_lt d.id c.id) es h) (own, kept_own (λ d. id_lt c.id d.id) es h)

  -- ---- a step of one compaction

  module _ (step : Compaction → Option Compaction) (keeps : (c new : Compaction) → step c ≡ Some new → Own c → Own new) (id : ℕ × ℕ) (r made : Record) (h : EachOutput P r.entries) where
    put_own : (c : Compaction) → Own c → (o : Option Compaction) → step c ≡ o → put_in id r o ≡ Ok (Some made) → EachOutput P made.entries
    put_own c own None is k = absurd (cc k)
    put_own c own (Some new) is k = let same : with_entry new r ≡ made = cc k in subst (λ (x : Record). EachOutput P x.entries) same (entry_own new r.entries (keeps c new is own) h)

    by_found : (o : Option Compaction) → entry_of id r.entries ≡ o → found_stepped id step r o ≡ Ok (Some made) → EachOutput P made.entries
    by_found None is k = absurd (cc k)
    by_found (Some c) is k = put_own c (found_own id r.entries c is h) (step c) refl k

    stepped_own : stepped id step r ≡ Ok (Some made) → EachOutput P made.entries
    stepped_own k = by_found (entry_of id r.entries) refl k

  if_own : (b : Bool) (x new : Compaction) → (if b then Some x else None) ≡ Some new → Own x → Own new
  if_own true x new is h = let same : x ≡ new = cc is in subst Own same h
  if_own false x new is h = absurd (cc is)

  -- ---- a change of a record

  -- what is put brings these outputs alone
  abbrev pub Brings : RecordChange → Type 0
  Brings (Report id worker outputs) = EachTable P outputs
  Brings _ = Unit {0}

  unscheduled_own : (c : Compaction) → Own c → Own (unscheduled c)
  unscheduled_own c h = by (is_scheduled c.status)
    where
      by : (b : Bool) → Own (if b then record c { status = Submitted; worker = None } else c)
      by true = h
      by false = h

  more_own : (c : Compaction) (r made : Record) → Own c → EachOutput P r.entries → (b : Bool) → (if b then None else Some (with_entry c r)) ≡ Some made → EachOutput P made.entries
  more_own c r made own h true is = absurd (cc is)
  more_own c r made own h false is = let same : with_entry c r ≡ made = cc is in subst (λ (x : Record). EachOutput P x.entries) same (entry_own c r.entries own h)

  made_own : (change : RecordChange) (now : ℤ) (n : ℕ) (r made : Record) → record_made change now n r ≡ Ok (Some made) → Brings change → EachOutput P r.entries → EachOutput P made.entries
  made_own (GiveEpoch epoch) now n r made is b h = let same : with_record_epoch r epoch ≡ made = cc is in subst (λ (x : Record). EachOutput P x.entries) same h
  made_own (Reset epoch) now n r made is b h =
      let same : reset r ≡ made = cc is in
      subst (λ (x : Record). EachOutput P x.entries) same (kept_own (is_kept [] (map unscheduled r.entries)) (map unscheduled r.entries) (mapped_own unscheduled unscheduled_own r.entries h))
  made_own (Schedule compactor id) now n r made is b h = stepped_own to_scheduled (λ c new step own. if_own (is_submitted c.status) _ new step own) id r made h is
  made_own (Claim id worker) now n r made is b h = stepped_own (to_running worker now) (λ c new step own. if_own (is_scheduled c.status) _ new step own) id r made h is
  made_own (Report id worker outputs) now n r made is b h = stepped_own (to_compacted worker outputs) (λ c new step own. if_own (is_running c.status && is_held_by worker c.worker) _ new step b) id r made h is
  made_own (PutStatuses compactor local pending) now n r made is b h =
      let same : with_statuses local pending r ≡ made = cc is in
      let statuses = map (with_local_status local.entries) r.entries in
      subst (λ (x : Record). EachOutput P x.entries) same (kept_own (is_kept pending statuses) statuses (mapped_own (with_local_status local.entries) (λ c own. own) r.entries h))
  made_own (Submit id spec) now n r made is b h = let some : one_more id spec r ≡ Some made = cc is in more_own (asked_for id spec) r made tt h (is_some (entry_of id r.entries)) some

  -- ---- what is read back of it

  compaction_own : (c : Compaction) → Own c → Own (normal_compaction c)
  compaction_own c h = by (has_outputs c.status)
    where
      by : (b : Bool) → EachTable P (if b then c.output_ssts else [])
      by true = h
      by false = tt

  normal_own : (r : Record) → EachOutput P r.entries → EachOutput P (normal_record r).entries
  normal_own r h = mapped_own normal_compaction compaction_own r.entries h

  -- ---- the versions of a chain

  -- what an author puts brings these outputs alone
  abbrev pub PutsBring : Puts → Type 0
  PutsBring (OfRecord change) = Brings change
  PutsBring _ = Unit {0}

  by_own : (puts : Puts) (now : ℤ) (n : ℕ) (r made : Record) → made_by record_made (record_change_by puts) now n r ≡ Ok (Some made) → PutsBring puts → EachOutput P r.entries → EachOutput P made.entries
  by_own (OfRecord change) now n r made is b h = made_own change now n r made is b h
  by_own (OfManifest change) now n r made is b h = absurd (cc is)
  by_own First now n r made is b h = absurd (cc is)

  pub next_own : (old new : Link Record Author) (f : Follows records old new) → PutsBring f.author.puts → EachOutput P old.value.entries → EachOutput P new.value.entries
  next_own old new f b h = subst (λ (x : Record). EachOutput P x.entries) (sym f.value) (normal_own f.made (by_own f.author.puts f.author.now old.number old.value f.made f.makes b h))

  first_own : (puts : Puts) (made : Record) → first_by puts ≡ Some made → EachOutput P made.entries
  first_own First made is = let same : first_record ≡ made = cc is in subst (λ (x : Record). EachOutput P x.entries) same tt
  first_own (OfRecord change) made is = absurd (cc is)
  first_own (OfManifest change) made is = absurd (cc is)

  pub first_has : (author : Author) (l : Link Record Author) → l.by ≡ Some author → IsFirst records l → EachOutput P l.value.entries
  first_has author l by (Opens number none value own) = absurd (cc (by, none))
  first_has author l by (Begins who made number is makes bytes value) =
      let some : first_by who.puts ≡ Some made = cc makes in
      subst (λ (x : Record). EachOutput P x.entries) (sym value) (normal_own made (first_own who.puts made some))
