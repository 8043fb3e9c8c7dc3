-- Fenced epochs: what a chain says of its authors.
use Rattle.std.proofs.Common.{◌≡◌, ◌≢◌, ℕ, ◌≤◌, nat_lt, Bool, true, false, List, [], ◌∷◌, Option, Some, None, ⊎_elim, refl, sym, ap, ◌∙◌, subst, arith}
use Rattle.std.proofs.lemmas.Bool.Decides.{nat_tests}
use Rattle.std.specs.Prelude.{if◌then◌else◌}
use Rattle.slate_txn_changes.specs.Changes.{fence_by, holder_fence}
use Rattle.slate_ids.specs.declared.error.SlateDBError.TheVariants.{Fenced}
use Rattle.slate_ids.specs.declared.error.UpdateRule.TheVariants.{U1}
use Rattle.slate_model.specs.declared.manifest.Manifest.{Manifest}
use Rattle.slate_model_records.specs.Records.{Record}
use Rattle.slate_state_record_updates.specs.RecordChanges.{fence_of as record_fence_of}
use Rattle.slate_state_record_updates.specs.RecordEpochs.{record_epoch}
use Rattle.slate_state_record_updates.specs.RecordRules.{rule_refusal, epoch_falls, clocks_refusal, removal_refusal, record_refusal_of}
use Rattle.slate_state_record_updates.specs.declared.record_change.RecordChange.{RecordChange}
use Rattle.slate_state_record_updates.specs.declared.record_change.RecordChange.TheVariants.{GiveEpoch, Reset, Schedule, PutStatuses}
use Rattle.std.specs.Option.{option_or}
use Rattle.slate_state_updates.specs.ManifestChanges.{compactor_epoch_in, fence_of, writer_epoch_in}
use Rattle.slate_state_updates.specs.Writers.{epoch_of}
use Rattle.slate_state_updates.specs.declared.epochs.ManifestEpochs.TheVariants.{Writer, Compactor}
use Rattle.slate_state_updates.specs.declared.manifest_change.ManifestChange.{ManifestChange}
use Rattle.slate_state_updates.specs.declared.manifest_change.ManifestChange.TheVariants.{RaiseWriter, RaiseCompactor, Flush, KeepTrees, MergeTrees}
use Rattle.slate_state_updates.proofs.Lawful.{nothing_falls}
use Rattle.slate_txn_log.specs.Fence.{fence}
use Rattle.slate_txn_log.specs.declared.log_kind.LogKind.TheVariants as logs
use Rattle.slate_txn_log.specs.declared.right.Right.{Right}
use Rattle.slate_cluster_protocol.specs.Chains.{Link, Log, link_at, IsChain, Follows}
use Rattle.slate_cluster_protocol.specs.Fenced.{NotBelow, IsFencedBy, IsFenced, IsRecordFenced, writer_in, compactor_in, record_epoch_in}
use Rattle.slate_cluster_protocol.specs.Logs.{Author, Chain, change_by, record_change_by, manifests, records}
use Rattle.slate_cluster_chain_laws.proofs.Links.{link_here, link_there, same_or_not}
use Rattle.slate_cluster_chain_laws.proofs.NormalRecordRules.{neither}

-- ---- along any chain whose epochs rise

-- the rules let no epoch fall, and the fence lets no author's epoch be below that of the version before
record Fences {V : Type 0} (log : Log V Author) (epoch : V → ℕ) (own : Author → V → Option ℕ) : Type 0 where
  pub rises : (n : ℕ) (old new : V) (right : Right) → log.refusal n old new right ≡ None → epoch old ≤ epoch new
  pub above : (author : Author) (old new : V) (e : ℕ) → log.fence author old ≡ None → epoch old ≤ epoch new → own author new ≡ Some e → epoch old ≤ e

module _ {V : Type 0} (log : Log V Author) (epoch : V → ℕ) (own : Author → V → Option ℕ) (fences : Fences log epoch own) where
  -- epochs never fall along a chain
  epochs_rise : (n : ℕ) (u l : Link V Author) (c : List (Link V Author)) → IsChain log (l ∷ c) → link_at n (l ∷ c) ≡ Some u → epoch u.value ≤ epoch l.value
  epochs_rise n u l [] h at =
      ⊎_elim
      (λ (e : l.number ≡ n). let same : l ≡ u = cc (link_here n l [] e, at) in let v = ap (λ (k : Link V Author). epoch k.value) same in omega arith)
      (λ (ne : l.number ≢ n). absurd (cc (link_there n l [] ne, at)))
      (same_or_not l.number n)
  epochs_rise n u l (m ∷ c) h at =
      let up = fences.rises m.number m.value l.value (log.right h.0.author) h.0.lawful in
      ⊎_elim
      (λ (e : l.number ≡ n). let same : l ≡ u = cc (link_here n l (m ∷ c) e, at) in let v = ap (λ (k : Link V Author). epoch k.value) same in omega arith)
      (λ (ne : l.number ≢ n). let below = epochs_rise n u m c h.1 (sym (link_there n l (m ∷ c) ne) ∙ at) in omega arith)
      (same_or_not l.number n)

  not_below : (new old : Link V Author) (c : List (Link V Author)) (f : Follows log old new) → IsChain log (old ∷ c) → NotBelow epoch own new.by new.value (old ∷ c)
  not_below new old c f h = subst (λ (by : Option Author). NotBelow epoch own by new.value (old ∷ c)) (sym f.by)
      (λ e is n u at.
      let up = fences.rises old.number old.value new.value (log.right f.author) f.lawful in
      let above = fences.above f.author old.value new.value e f.passed up is in
      let below = epochs_rise n u old c h at in omega arith)

  first_not_below : (by : Option Author) (v : V) → NotBelow epoch own by v []
  first_not_below None v = tt
  first_not_below (Some author) v = λ e is n u at. absurd cc

  -- so a chain is fenced
  is_fenced : (c : List (Link V Author)) → IsChain log c → IsFencedBy epoch own c
  is_fenced [] h = tt
  is_fenced (first ∷ []) h = (first_not_below first.by first.value, tt)
  is_fenced (new ∷ old ∷ c) h = (not_below new old c h.0 h.1, is_fenced (old ∷ c) h.1)

-- ---- fences

at_or_above : (a b : ℕ) → nat_lt a b ≡ false → b ≤ a
at_or_above a b h = grind (arith, nat_tests)

-- an epoch that the fence lets is not below the one read
pub passes : (own read : ℕ) → fence own read ≡ None → read ≤ own
passes own read h = test (nat_lt own read) refl h
  where
    test : (b : Bool) → nat_lt own read ≡ b → (if b then Some (Fenced own read) else None) ≡ None → read ≤ own
    test true is h = absurd cc
    test false is h = at_or_above own read is

holder_passes : (own : Option ℕ) (read e : ℕ) → holder_fence own read ≡ None → own ≡ Some e → read ≤ e
holder_passes None read e p is = absurd cc
holder_passes (Some own) read e p is = let same : own ≡ e = cc in let le = passes own read p in omega arith

own_epoch : (old new e : ℕ) → old ≤ new → Some new ≡ Some e → old ≤ e
own_epoch old new e up is = let same : new ≡ e = cc in omega arith

-- ---- manifests

writer_own : (change : ManifestChange) (old new : Manifest) (e : ℕ) → fence_of change old ≡ None → old.writer_epoch ≤ new.writer_epoch → writer_epoch_in change new ≡ Some e → old.writer_epoch ≤ e
writer_own RaiseWriter old new e passed up is = own_epoch old.writer_epoch new.writer_epoch e up is
writer_own (Flush writer batch) old new e passed up is = holder_passes writer old.writer_epoch e passed is
writer_own _ old new e passed up is = absurd cc

writer_above : (change : Option ManifestChange) (old new : Manifest) (e : ℕ) → fence_by fence_of change old ≡ None → old.writer_epoch ≤ new.writer_epoch → writer_in change new ≡ Some e → old.writer_epoch ≤ e
writer_above None old new e passed up is = absurd cc
writer_above (Some change) old new e passed up is = writer_own change old new e passed up is

compactor_own : (change : ManifestChange) (old new : Manifest) (e : ℕ) → fence_of change old ≡ None → old.compactor_epoch ≤ new.compactor_epoch → compactor_epoch_in change new ≡ Some e → old.compactor_epoch ≤ e
compactor_own RaiseCompactor old new e passed up is = own_epoch old.compactor_epoch new.compactor_epoch e up is
compactor_own (KeepTrees compactor checkpoint) old new e passed up is = holder_passes compactor old.compactor_epoch e passed is
compactor_own (MergeTrees compactor trees outputs) old new e passed up is = holder_passes compactor old.compactor_epoch e passed is
compactor_own _ old new e passed up is = absurd cc

compactor_above : (change : Option ManifestChange) (old new : Manifest) (e : ℕ) → fence_by fence_of change old ≡ None → old.compactor_epoch ≤ new.compactor_epoch → compactor_in change new ≡ Some e → old.compactor_epoch ≤ e
compactor_above None old new e passed up is = absurd cc
compactor_above (Some change) old new e passed up is = compactor_own change old new e passed up is

writers_fenced : Fences manifests (epoch_of Writer) (λ author m. writer_in (change_by author.puts) m)
writers_fenced = record {
  rises = λ n old new right h. (nothing_falls n old new right h).writer;
  above = λ author old new e passed up is. writer_above (change_by author.puts) old new e passed up is;
}

compactors_fenced : Fences manifests (epoch_of Compactor) (λ author m. compactor_in (change_by author.puts) m)
compactors_fenced = record {
  rises = λ n old new right h. (nothing_falls n old new right h).compactor;
  above = λ author old new e passed up is. compactor_above (change_by author.puts) old new e passed up is;
}

-- no epoch of a committed manifest is above that of the greatest
pub compactor_rises : (n : ℕ) (u l : Link Manifest Author) (c : Chain logs.Manifest) → IsChain manifests (l ∷ c) → link_at n (l ∷ c) ≡ Some u → epoch_of Compactor u.value ≤ epoch_of Compactor l.value
compactor_rises n u l c h at = epochs_rise manifests (epoch_of Compactor) (λ author m. compactor_in (change_by author.puts) m) compactors_fenced n u l c h at

pub chain_fenced : (c : Chain logs.Manifest) → IsChain manifests c → IsFenced c
chain_fenced c h = record {
  writers = is_fenced manifests (epoch_of Writer) (λ author m. writer_in (change_by author.puts) m) writers_fenced c h;
  compactors = is_fenced manifests (epoch_of Compactor) (λ author m. compactor_in (change_by author.puts) m) compactors_fenced c h;
}

-- ---- records

-- the rules let no epoch of a record fall
pub record_epoch_rises : (n : ℕ) (old new : Record) (right : Right) → record_refusal_of n old new right ≡ None → old.compactor_epoch ≤ new.compactor_epoch
record_epoch_rises n old new right h = test (epoch_falls old new) refl (neither (rule_refusal (epoch_falls old new) U1) (option_or (clocks_refusal old.entries new.entries) (removal_refusal right old.entries new.entries)) h).0
  where
    test : (b : Bool) → nat_lt new.compactor_epoch old.compactor_epoch ≡ b → rule_refusal b U1 ≡ None → old.compactor_epoch ≤ new.compactor_epoch
    test true is k = absurd cc
    test false is k = at_or_above new.compactor_epoch old.compactor_epoch is

pub record_above : (change : Option RecordChange) (old : Record) (e : ℕ) → fence_by record_fence_of change old ≡ None → record_epoch_in change ≡ Some e → old.compactor_epoch ≤ e
record_above None old e passed is = absurd cc
record_above (Some (GiveEpoch epoch)) old e passed is = holder_passes (Some epoch) old.compactor_epoch e passed is
record_above (Some (Reset epoch)) old e passed is = holder_passes (Some epoch) old.compactor_epoch e passed is
record_above (Some (Schedule compactor id)) old e passed is = holder_passes compactor old.compactor_epoch e passed is
record_above (Some (PutStatuses compactor local pending)) old e passed is = holder_passes compactor old.compactor_epoch e passed is
record_above (Some _) old e passed is = absurd cc

records_fenced : Fences records record_epoch (λ author r. record_epoch_in (record_change_by author.puts))
records_fenced = record {
  rises = λ n old new right h. record_epoch_rises n old new right h;
  above = λ author old new e passed up is. record_above (record_change_by author.puts) old e passed is;
}

-- nor is that of a committed record
pub record_rises : (n : ℕ) (u l : Link Record Author) (c : Chain logs.Compactions) → IsChain records (l ∷ c) → link_at n (l ∷ c) ≡ Some u → record_epoch u.value ≤ record_epoch l.value
record_rises n u l c h at = epochs_rise records record_epoch (λ author r. record_epoch_in (record_change_by author.puts)) records_fenced n u l c h at

pub chain_record_fenced : (c : Chain logs.Compactions) → IsChain records c → IsRecordFenced c
chain_record_fenced c h = is_fenced records record_epoch (λ author r. record_epoch_in (record_change_by author.puts)) records_fenced c h
