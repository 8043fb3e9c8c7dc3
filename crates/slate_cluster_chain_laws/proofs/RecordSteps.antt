-- What who put a record may take away of the one before, and that the rule on outputs is kept along a chain.
use Rattle.std.proofs.Common.{◌≡◌, ◌≢◌, ℕ, ℤ, ◌≤◌, true, List, [], ◌∷◌, Option, Some, None, is_some, Result, Ok, ◌⊎◌, inl, inr, ⊎_elim, refl, sym, ap, ◌∙◌, subst, arith}
use Rattle.std.specs.Option.{option_or}
use Rattle.slate_ids.specs.declared.error.SlateDBError.{SlateDBError}
use Rattle.slate_ids.specs.declared.error.UpdateRule.TheVariants.{U1}
use Rattle.slate_model_records.specs.Compactions.{is_terminal}
use Rattle.slate_model_records.specs.Records.{Record, entry_of}
use Rattle.slate_model_records.specs.declared.compaction.Compaction.{Compaction}
use Rattle.slate_model_records.specs.declared.compaction_status.CompactionStatus.TheVariants.{Compacted}
use Rattle.slate_model_tables.specs.declared.ss_table_handle.SsTableHandle.{SsTableHandle}
use Rattle.slate_layout_records.specs.RecordNormal.{normal_record}
use Rattle.slate_state_record_updates.specs.EntrySteps.{one_more, reset, to_compacted, to_running, to_scheduled, with_statuses}
use Rattle.slate_state_record_updates.specs.RecordChanges.{fence_of as record_fence_of, made as record_made}
use Rattle.slate_state_record_updates.specs.RecordEpochs.{first_record, with_record_epoch}
use Rattle.slate_state_record_updates.specs.RecordRules.{clocks_refusal, entry_refusal, epoch_falls, first_refusal, outputs_refusal, removal_refusal, rule_refusal}
use Rattle.slate_state_record_updates.specs.declared.record_change.RecordChange.{RecordChange}
use Rattle.slate_state_record_updates.specs.declared.record_change.RecordChange.TheVariants.{GiveEpoch, Reset, Schedule, Claim, Report, PutStatuses, Submit}
use Rattle.slate_txn_changes.specs.Changes.{fence_by, made_by}
use Rattle.slate_txn_log.specs.declared.log_kind.LogKind.TheVariants as logs
use Rattle.slate_cluster_protocol.specs.Chains.{Link, link_at, IsChain, IsFirst, Follows}
use Rattle.slate_cluster_protocol.specs.Chains.IsFirst.{Opens, Begins}
use Rattle.slate_cluster_protocol.specs.Logs.{Author, Chain, Puts, OfManifest, OfRecord, First, first_by, record_change_by, records}
use Rattle.slate_cluster_chain_laws.specs.Locals.{ObeyOutputs}
use Rattle.slate_cluster_chain_laws.specs.RecordSteps.{EndsIt, HasOutputs, IsOverIn, KeepsEntries, TakesAway}
use Rattle.slate_cluster_chain_laws.specs.RecordSteps.TakesAway.{ByReset, ByTrim}
use Rattle.slate_cluster_chain_laws.proofs.Epochs.{passes}
use Rattle.slate_cluster_chain_laws.proofs.FoundEntries.{AllStand, MayGo, Stands, after_statuses, claims, epoch_stands, normal_stands, one_more_stands, reports, reset_or_over, schedules, step_stands}
use Rattle.slate_cluster_chain_laws.proofs.Links.{at_most, link_here, link_there, same_or_not}
use Rattle.slate_cluster_chain_laws.proofs.Locals.{all_entries, some_entry}
use Rattle.slate_cluster_chain_laws.proofs.NormalRecordRules.{neither}

-- ---- where entries stand

-- one that stands and was Compacted has its outputs
stands_with : (id : ℕ × ℕ) (outputs : List SsTableHandle) (old new : Record) (has : HasOutputs old id outputs) → Stands id has.entry new.entries → HasOutputs new id outputs
stands_with id outputs old new has s = record { entry = s.entry; at = s.at; status = s.stays.status has.status; same = s.stays.outputs has.status ∙ has.same }

-- where all stand, all are kept
all_keep : (puts : Puts) (old new : Record) → AllStand old.entries new.entries → KeepsEntries puts old new
all_keep puts old new h = record {
  stays = λ id some. inl (all_entries old new h id some);
  compacted = λ id outputs has. inl (stands_with id outputs old new has (h id has.entry has.at));
}

-- so are they in what is read back of a record
normal_keeps : (puts : Puts) (old made : Record) → KeepsEntries puts old made → KeepsEntries puts old (normal_record made)
normal_keeps puts old made h = record {
  stays = λ id some. ⊎_elim
      (λ (s : is_some (entry_of id made.entries) ≡ true). inl (all_entries made (normal_record made) (normal_stands made) id s))
      (λ (t : TakesAway puts old id). inr t)
      (h.stays id some);
  compacted = λ id outputs has. ⊎_elim
      (λ (s : HasOutputs made id outputs). inl (stands_with id outputs made (normal_record made) s (normal_stands made id s.entry s.at)))
      (λ (e : EndsIt puts old id). inr e)
      (h.compacted id outputs has);
}

-- ---- the reset of an open

reset_keeps : (epoch : ℕ) (old : Record) → old.compactor_epoch ≤ epoch → KeepsEntries (OfRecord (Reset epoch)) old (reset old)
reset_keeps epoch old fenced = record {
  stays = λ id some. some_entry (entry_of id old.entries) some (λ c at. ⊎_elim
      (λ (s : Stands id c (reset old).entries). inl (ap is_some s.at))
      (λ (over : is_terminal c.status ≡ true). inr (ByReset epoch refl fenced (record { entry = c; at = at; over = over })))
      (reset_or_over id old c at));
  compacted = λ id outputs has. ⊎_elim
      (λ (s : Stands id has.entry (reset old).entries). inl (stands_with id outputs old (reset old) has s))
      (λ (over : is_terminal has.entry.status ≡ true). absurd (cc (over, ap is_terminal has.status)))
      (reset_or_over id old has.entry has.at);
}

-- ---- the local statuses of a compactor

module _ (epoch : ℕ) (local : Record) (pending : List (ℕ × ℕ)) (old : Record) (fenced : old.compactor_epoch ≤ epoch) where
  abbrev puts : Puts
  puts = OfRecord (PutStatuses (Some epoch) local pending)

  abbrev trimmed : Record
  trimmed = with_statuses local pending old

  ends : (id : ℕ × ℕ) → IsOverIn local id → EndsIt puts old id
  ends id over = record { epoch = epoch; local = local; pending = pending; is = refl; fenced = fenced; over = over }

  -- an entry is over in the record, or among the local ones
  over_in : (id : ℕ × ℕ) (c : Compaction) → entry_of id old.entries ≡ Some c → (is_terminal c.status ≡ true) ⊎ IsOverIn local id → IsOverIn old id ⊎ IsOverIn local id
  over_in id c at why = ⊎_elim (λ (over : is_terminal c.status ≡ true). inl (record { entry = c; at = at; over = over })) (λ (over : IsOverIn local id). inr over) why

  -- what isn't over in the record is so among the local ones
  local_over : (id : ℕ × ℕ) (c : Compaction) → c.status ≡ Compacted → (is_terminal c.status ≡ true) ⊎ IsOverIn local id → IsOverIn local id
  local_over id c status why = ⊎_elim (λ (over : is_terminal c.status ≡ true). absurd (cc (over, ap is_terminal status))) (λ (over : IsOverIn local id). over) why

  statuses_keep : KeepsEntries puts old trimmed
  statuses_keep = record {
    stays = λ id some. some_entry (entry_of id old.entries) some (λ c at. ⊎_elim
        (λ (s : Stands id c trimmed.entries). inl (ap is_some s.at))
        (λ (why : (IsOverIn local id × (is_some (entry_of id trimmed.entries) ≡ true)) ⊎ MayGo local pending id c). ⊎_elim
        (λ (ended : IsOverIn local id × (is_some (entry_of id trimmed.entries) ≡ true)). inl ended.1)
        (λ (goes : MayGo local pending id c). inr (ByTrim epoch local pending refl fenced goes.not_pending (over_in id c at goes.over)))
        why)
        (after_statuses local pending id old c at));
    compacted = λ id outputs has. ⊎_elim
        (λ (s : Stands id has.entry trimmed.entries). inl (stands_with id outputs old trimmed has s))
        (λ (why : (IsOverIn local id × (is_some (entry_of id trimmed.entries) ≡ true)) ⊎ MayGo local pending id has.entry). inr (ends id (⊎_elim
        (λ (ended : IsOverIn local id × (is_some (entry_of id trimmed.entries) ≡ true)). ended.0)
        (λ (goes : MayGo local pending id has.entry). local_over id has.entry has.status goes.over)
        why)))
        (after_statuses local pending id old has.entry has.at);
  }

-- ---- any change

-- what is made, where nothing refuses it
abbrev as_made : Option Record → Result (Option Record) SlateDBError
as_made o = Ok o

some_made : (x made : Record) → as_made (Some x) ≡ as_made (Some made) → x ≡ made
some_made x made h = cc h

change_keeps : (change : RecordChange) (now : ℤ) (n : ℕ) (old made : Record) → record_fence_of change old ≡ None → record_made change now n old ≡ Ok (Some made) → KeepsEntries (OfRecord change) old made
change_keeps (GiveEpoch epoch) now n old made passed h = subst (KeepsEntries (OfRecord (GiveEpoch epoch)) old) (some_made (with_record_epoch old epoch) made h) (all_keep (OfRecord (GiveEpoch epoch)) old (with_record_epoch old epoch) (epoch_stands old epoch))
change_keeps (Reset epoch) now n old made passed h = subst (KeepsEntries (OfRecord (Reset epoch)) old) (some_made (reset old) made h) (reset_keeps epoch old (passes epoch old.compactor_epoch passed))
change_keeps (Schedule compactor id) now n old made passed h = all_keep (OfRecord (Schedule compactor id)) old made (step_stands id to_scheduled schedules old made h)
change_keeps (Claim id worker) now n old made passed h = all_keep (OfRecord (Claim id worker)) old made (step_stands id (to_running worker now) (claims worker now) old made h)
change_keeps (Report id worker outputs) now n old made passed h = all_keep (OfRecord (Report id worker outputs)) old made (step_stands id (to_compacted worker outputs) (reports worker outputs) old made h)
change_keeps (PutStatuses None local pending) now n old made passed h = absurd (cc passed)
change_keeps (PutStatuses (Some epoch) local pending) now n old made passed h =
    subst (KeepsEntries (OfRecord (PutStatuses (Some epoch) local pending)) old) (some_made (with_statuses local pending old) made h) (statuses_keep epoch local pending old (passes epoch old.compactor_epoch passed))
change_keeps (Submit id spec) now n old made passed h = all_keep (OfRecord (Submit id spec)) old made (one_more_stands id spec old made (made_more (one_more id spec old) h))
  where
    made_more : (o : Option Record) → as_made o ≡ as_made (Some made) → o ≡ Some made
    made_more o h = cc h

puts_keep : (puts : Puts) (now : ℤ) (n : ℕ) (old made : Record) → fence_by record_fence_of (record_change_by puts) old ≡ None → made_by record_made (record_change_by puts) now n old ≡ Ok (Some made) → KeepsEntries puts old made
puts_keep (OfRecord change) now n old made passed h = change_keeps change now n old made passed h
puts_keep (OfManifest change) now n old made passed h = absurd (cc h)
puts_keep First now n old made passed h = absurd (cc h)

-- from a committed record to the next
pub record_step : (old new : Link Record Author) (f : Follows records old new) → KeepsEntries f.author.puts old.value new.value
record_step old new f =
    subst (λ (r : Record). KeepsEntries f.author.puts old.value r) (sym f.value)
    (normal_keeps f.author.puts old.value f.made (puts_keep f.author.puts f.author.now old.number old.value f.made f.passed f.makes))

-- ---- outputs

-- the rules let no output pass that lies below its compaction
obeyed : (n : ℕ) (old new : Link Record Author) (f : Follows records old new) → ObeyOutputs new.value.entries
obeyed n old new f =
    let right = records.right f.author in
    let epochs = neither (rule_refusal (epoch_falls old.value new.value) U1) (option_or (clocks_refusal old.value.entries new.value.entries) (removal_refusal right old.value.entries new.value.entries)) f.lawful in
    let clocks = neither (clocks_refusal old.value.entries new.value.entries) (removal_refusal right old.value.entries new.value.entries) epochs.1 in
    (neither (first_refusal (entry_refusal old.value.entries) new.value.entries) (first_refusal outputs_refusal new.value.entries) clocks.0).1

-- the record with which a log begins has no compactions, where it is made
begun : (puts : Puts) (made : Record) → as_made (first_by puts) ≡ as_made (Some made) → ObeyOutputs (normal_record made).entries
begun First made h = let same : first_record ≡ made = cc h in subst (λ (r : Record). ObeyOutputs (normal_record r).entries) same refl
begun (OfManifest change) made h = absurd (cc h)
begun (OfRecord change) made h = absurd (cc h)

-- where it is there as a run begins, that is given
abbrev pub OpensWell : Chain logs.Compactions → Type 0
OpensWell c = (l : Link Record Author) → link_at l.number c ≡ Some l → l.by ≡ None → ObeyOutputs l.value.entries

first_obeys : (l : Link Record Author) → IsFirst records l → (l.by ≡ None → ObeyOutputs l.value.entries) → ObeyOutputs l.value.entries
first_obeys l (Opens number by value alone) given = given by
first_obeys l (Begins author made number by makes bytes value) given = subst (λ (r : Record). ObeyOutputs r.entries) (sym value) (begun author.puts made makes)

pub outputs_stand : (c : Chain logs.Compactions) → IsChain records c → OpensWell c → (n : ℕ) (l : Link Record Author) → link_at n c ≡ Some l → ObeyOutputs l.value.entries
outputs_stand [] h given n l at = absurd (cc at)
outputs_stand (first ∷ []) h given n l at =
    ⊎_elim
    (λ (e : first.number ≡ n). let same : first ≡ l = cc (link_here n first [] e, at) in subst (λ (x : Link Record Author). ObeyOutputs x.value.entries) same (first_obeys first h (given first (link_here first.number first [] refl))))
    (λ (ne : first.number ≢ n). absurd (cc (link_there n first [] ne, at)))
    (same_or_not first.number n)
outputs_stand (new ∷ old ∷ c) h given n l at =
    ⊎_elim
    (λ (e : new.number ≡ n). let same : new ≡ l = cc (link_here n new (old ∷ c) e, at) in subst (λ (x : Link Record Author). ObeyOutputs x.value.entries) same (obeyed n old new h.0))
    (λ (ne : new.number ≢ n). outputs_stand (old ∷ c) h.1 (opens_below new old c h given) n l (sym (link_there n new (old ∷ c) ne) ∙ at))
    (same_or_not new.number n)
  where
    opens_below : (new old : Link Record Author) (c : Chain logs.Compactions) → IsChain records (new ∷ old ∷ c) → OpensWell (new ∷ old ∷ c) → OpensWell (old ∷ c)
    opens_below new old c h given l at by =
        let le = at_most records l.number l (old ∷ c) h.1 at in
        let up = h.0.number in
        given l (link_there l.number new (old ∷ c) (λ (e : new.number ≡ l.number). omega arith) ∙ at) by
