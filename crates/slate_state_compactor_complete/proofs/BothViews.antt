-- Reads of two logs that are ready, over a store that serves them.
use Rattle.std.proofs.Common.{◌≡◌, ◌<◌, ℕ, pos, List, Option, Some, Result, Ok, Err, inl, inr, refl, sym, subst, ap, ◌∙◌}
use Rattle.slate_ids.specs.Answers.{OrMemory}
use Rattle.slate_ids.specs.declared.error.SlateDBError.{SlateDBError}
use Rattle.slate_state_compactor_complete.specs.Views.{BothAnswers, BothEnds, BothReady, ViewEnds}
use Rattle.slate_state_compactor_complete.specs.Views.BothAnswers.{AreRead, OneRefused, OtherRefused}
use Rattle.slate_state_logs.specs.ManifestLog as manifests
use Rattle.slate_state_logs.specs.RecordLog as records
use Rattle.slate_state_reader.specs.BothReads.{BothBegan, BothGoes, BothRan, after_first, after_second, both_asks, both_goes, both_starts}
use Rattle.slate_state_reader.specs.StateViews.{Logs, View, ViewRead}
use Rattle.slate_state_reader.specs.declared.both_phase.Both.{Both}
use Rattle.slate_state_reader.specs.declared.both_phase.BothPhase.{BothPhase}
use Rattle.slate_state_reader.specs.declared.both_phase.BothPhase.TheVariants.{First, Between, Second, Over}
use Rattle.slate_store.specs.Machines.{Stay, End}
use Rattle.slate_store.specs.Store.{Store, whole}
use Rattle.slate_store.specs.StoreCalls.{Told, moment_of}
use Rattle.slate_txn_changes_laws.proofs.ReadSteps.{ReadAt, ReadLeads, read_keeps, read_leads}
use Rattle.slate_txn_changes_laws.proofs.Served.{Leads, served}
use Rattle.slate_txn_laws.specs.Reading.{ReadAnswers}
use Rattle.slate_txn_laws.specs.Serving.{Serves}
use Rattle.slate_txn_log.specs.ReadPhase.{Reply, read_asks, read_goes}
use Rattle.slate_txn_log.specs.declared.read_phase.ReadPhase.{ReadPhase}
use Rattle.slate_txn_log.specs.declared.read_phase.ReadPhase.TheVariants.{Listing}
use Rattle.slate_txn_log.specs.declared.sequenced.Sequenced.{Sequenced}

module _ {T C V D : Type 0} (one_decoded : C → List ℕ → Result T SlateDBError) (other_decoded : D → List ℕ → Result V SlateDBError) (first : Sequenced T C) (second : Sequenced V D) (s : Store) (ready : BothReady first second s) where
  abbrev OneAt : ReadPhase T → Type 0
  OneAt phase = ReadAt (one_decoded first.codec) first.db first.log s phase

  abbrev OtherAt : ReadPhase V → Type 0
  OtherAt phase = ReadAt (other_decoded second.codec) second.db second.log s phase

  abbrev OneIs : Option (ℕ × T) → Type 0
  OneIs one = ReadAnswers (one_decoded first.codec) first.db first.log s (Ok one)

  -- what is known at each phase: the contents are as before
  abbrev BothAt : Store → BothPhase T V → Type 0
  BothAt t (First read) = (t ≡ s) × OneAt read
  BothAt t (Between one) = (t ≡ s) × OneIs one
  BothAt t (Second one read) = (t ≡ s) × OneIs one × OtherAt read
  BothAt t Over = ⊥

  abbrev BothSo : Store → Result (Both T V) SlateDBError → Type 0
  BothSo t r = (t ≡ s) × BothAnswers one_decoded other_decoded first second s r

  abbrev To : Store → BothGoes T V → Type 0
  To = Leads both_starts (both_asks first second) (both_goes one_decoded other_decoded first second) (pos 0) BothAt BothSo

  of_one : (g : Reply T) → ReadLeads (one_decoded first.codec) first.db first.log s g → To s (after_first g)
  of_one (Stay q) h = (h.0, (refl, h.1))
  of_one (End q (Ok one)) h = (refl, (refl, h.0))
  of_one (End q (Err e)) h = (refl, OneRefused e h.0 refl)

  of_other : (one : Option (ℕ × T)) → OneIs one → (g : Reply V) → ReadLeads (other_decoded second.codec) second.db second.log s g → To s (after_second one g)
  of_other one is (Stay q) h = (h.0, (refl, is, h.1))
  of_other one is (End q (Ok other)) h = (refl, AreRead one other is h.0 refl)
  of_other one is (End q (Err e)) h = (refl, OtherRefused one e is h.0 refl)

  -- from the contents before
  reads_one : (read : ReadPhase T) → OneAt read → To (whole (read_asks first.db first.log read) (moment_of (read_asks first.db first.log read) (pos 0)) s).store
      (after_first (read_goes first.log (one_decoded first.codec) read (whole (read_asks first.db first.log read) (moment_of (read_asks first.db first.log read) (pos 0)) s).answer))
  reads_one read h =
      let m = moment_of (read_asks first.db first.log read) (pos 0) in
      let g = read_goes first.log (one_decoded first.codec) read (whole (read_asks first.db first.log read) m s).answer in
      subst (λ (u : Store). To u (after_first g)) (sym (read_keeps (one_decoded first.codec) first.db first.log s m read))
      (of_one g (read_leads (one_decoded first.codec) first.db first.log s ready.one m read h))

  reads_other : (one : Option (ℕ × T)) → OneIs one → (read : ReadPhase V) → OtherAt read → To (whole (read_asks second.db second.log read) (moment_of (read_asks second.db second.log read) (pos 0)) s).store
      (after_second one (read_goes second.log (other_decoded second.codec) read (whole (read_asks second.db second.log read) (moment_of (read_asks second.db second.log read) (pos 0)) s).answer))
  reads_other one is read h =
      let m = moment_of (read_asks second.db second.log read) (pos 0) in
      let g = read_goes second.log (other_decoded second.codec) read (whole (read_asks second.db second.log read) m s).answer in
      subst (λ (u : Store). To u (after_second one g)) (sym (read_keeps (other_decoded second.codec) second.db second.log s m read))
      (of_other one is g (read_leads (other_decoded second.codec) second.db second.log s ready.other m read h))

  abbrev Stepped : Store → BothPhase T V → Type 0
  Stepped t p = To (whole (both_asks first second p) (moment_of (both_asks first second p) (pos 0)) t).store
      (both_goes one_decoded other_decoded first second p (whole (both_asks first second p) (moment_of (both_asks first second p) (pos 0)) t).answer)

  steps : (t : Store) (p : BothPhase T V) → BothAt t p → Stepped t p
  steps t (First read) h = subst (λ (t : Store). Stepped t (First read)) (sym h.0) (reads_one read h.1)
  steps t (Between one) h = subst (λ (t : Store). Stepped t (Between one)) (sym h.0) (reads_other one h.1 Listing tt)
  steps t (Second one read) h = subst (λ (t : Store). Stepped t (Second one read)) (sym h.0) (reads_other one h.1 read h.2)
  steps t Over h = absurd h

  pub both_ran : (tries : ℕ) (old new : Told) (result : Result (Both T V) SlateDBError) → BothRan one_decoded other_decoded first second tries old new result → 0 < tries → Serves old new s
      → BothAnswers one_decoded other_decoded first second s result × (new.contents ≡ Some s)
  both_ran tries old new result ran some serves =
      let end = served both_starts (both_asks first second) (both_goes one_decoded other_decoded first second) (pos 0) BothAt BothSo steps tries old new s (First Listing) ran.0 result ran.1 some serves (refl, tt) in
      (end.ends.1, end.contents ∙ ap Some end.ends.0)

  pub both_ends : (tries : ℕ) (old new : Told) (result : Result (Both T V) SlateDBError)
      → OrMemory result (BothBegan one_decoded other_decoded first second tries old new) (BothRan one_decoded other_decoded first second tries old new result) → 0 < tries → Serves old new s
      → BothEnds one_decoded other_decoded first second s new result
  both_ends tries old new result (inl ran) some serves = inl (both_ran tries old new result ran some serves)
  both_ends tries old new result (inr held) some serves = inr held.0

pub view_ends : (logs : Logs) (tries : ℕ) (old new : Told) (s : Store) (result : Result View SlateDBError) → ViewRead logs tries old new result → 0 < tries → Serves old new s → BothReady logs.records logs.manifests s → ViewEnds logs s new result
view_ends logs tries old new s result (inl ran) some serves ready =
    let both = both_ran records.record_of_bytes manifests.manifest_decoded logs.records logs.manifests s ready tries old new ran.0 ran.1 some serves in
    inl (record { reply = ran.0; answers = both.0; told = ran.2; contents = both.1 })
view_ends logs tries old new s result (inr held) some serves ready = inr held.0
