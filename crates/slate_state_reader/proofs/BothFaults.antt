-- A read of two logs only reads, and ends in a fault only where the store faults.
use Rattle.std.specs.Prelude.{◌≡◌, ℕ, true, List, Option, Result, Ok, Err, refl}
use Rattle.std.proofs.Common.{ap, ◌⊎◌, inl, inr, subst, sym}
use Rattle.slate_ids.specs.declared.error.SlateDBError.{SlateDBError}
use Rattle.slate_ids.specs.declared.error.SlateDBError.TheVariants.{StoreFault}
use Rattle.slate_store.specs.StoreCalls.{IsAnswerTo, is_reading}
use Rattle.slate_store.specs.Machines.{Goes, Stay, End, IsEnd}
use Rattle.slate_store.specs.declared.store_answer.StoreAnswer.{StoreAnswer}
use Rattle.slate_store.specs.declared.store_answer.StoreAnswer.TheVariants.{Fault}
use Rattle.slate_txn_log.specs.Due.{NoFault}
use Rattle.slate_txn_log.specs.ReadPhase.{read_goes, read_due}
use Rattle.slate_txn_log.specs.declared.log_kind.LogKind.{LogKind}
use Rattle.slate_txn_log.specs.declared.read_phase.ReadPhase.{ReadPhase}
use Rattle.slate_txn_log.specs.declared.read_phase.ReadPhase.TheVariants as reads
use Rattle.slate_txn_log.specs.declared.sequenced.Sequenced.{Sequenced}
use Rattle.slate_txn_log.proofs.Faults.{OnlyFaults, Fine, fine_stay, fine_ok, fine_err}
use Rattle.slate_txn_log.proofs.ReadFaults.{read_faults}
use Rattle.slate_txn_log.proofs.Steps.{reads_only}
use Rattle.slate_state_reader.specs.BothReads.{after_first, after_second, both_asks, both_due, both_goes}
use Rattle.slate_state_reader.specs.declared.both_phase.BothPhase.{BothPhase}
use Rattle.slate_state_reader.specs.declared.both_phase.BothPhase.TheVariants.{First, Between, Second, Over}

fault_ends : {T : Type 0} (log : LogKind) (decoded : List ℕ → Result T SlateDBError) (read : ReadPhase T) → read_goes log decoded read Fault ≡ End reads.Over (Err StoreFault)
fault_ends log decoded reads.Listing = refl
fault_ends log decoded (reads.Getting n) = refl
fault_ends log decoded (reads.Bounding n value) = refl
fault_ends log decoded reads.Over = refl

fine_first : {T V : Type 0} (out : Goes (ReadPhase T) (Option (ℕ × T))) → Fine read_due out → Fine (both_due {T = T} {V = V}) (after_first out)
fine_first (Stay read) fine = fine_stay both_due (First read) (fine.stays read refl)
fine_first (End read (Ok one)) fine = fine_stay both_due (Between one) refl
fine_first (End read (Err e)) fine = fine_err both_due Over e (λ same. fine.ends read (ap (λ (k : SlateDBError). End read (Err k)) same))

fine_second : {T V : Type 0} (one : Option (ℕ × T)) (out : Goes (ReadPhase V) (Option (ℕ × V))) → Fine read_due out → Fine both_due (after_second one out)
fine_second one (Stay read) fine = fine_stay both_due (Second one read) (fine.stays read refl)
fine_second one (End read (Ok other)) fine = fine_ok both_due Over (record { one = one; other = other })
fine_second one (End read (Err e)) fine = fine_err both_due Over e (λ same. fine.ends read (ap (λ (k : SlateDBError). End read (Err k)) same))

in_first : {T V : Type 0} (log : LogKind) (decoded : List ℕ → Result T SlateDBError) (read : ReadPhase T) (answer : StoreAnswer)
    → ((answer ≡ Fault) × IsEnd (read_goes log decoded read answer)) ⊎ Fine read_due (read_goes log decoded read answer)
    → ((answer ≡ Fault) × IsEnd (after_first {V = V} (read_goes log decoded read answer))) ⊎ Fine (both_due {T = T} {V = V}) (after_first (read_goes log decoded read answer))
in_first {V = V} log decoded read answer (inl fault) =
    inl (fault.0, subst (λ (a : StoreAnswer). IsEnd (after_first {V = V} (read_goes log decoded read a))) (sym fault.0) (subst (λ (out : Goes (ReadPhase _) (Option (ℕ × _))). IsEnd (after_first {V = V} out)) (sym (fault_ends log decoded read)) tt))
in_first log decoded read answer (inr fine) = inr (fine_first (read_goes log decoded read answer) fine)

in_second : {T V : Type 0} (one : Option (ℕ × T)) (log : LogKind) (decoded : List ℕ → Result V SlateDBError) (read : ReadPhase V) (answer : StoreAnswer)
    → ((answer ≡ Fault) × IsEnd (read_goes log decoded read answer)) ⊎ Fine read_due (read_goes log decoded read answer)
    → ((answer ≡ Fault) × IsEnd (after_second one (read_goes log decoded read answer))) ⊎ Fine both_due (after_second one (read_goes log decoded read answer))
in_second one log decoded read answer (inl fault) =
    inl (fault.0, subst (λ (a : StoreAnswer). IsEnd (after_second one (read_goes log decoded read a))) (sym fault.0) (subst (λ (out : Goes (ReadPhase _) (Option (ℕ × _))). IsEnd (after_second one out)) (sym (fault_ends log decoded read)) tt))
in_second one log decoded read answer (inr fine) = inr (fine_second one (read_goes log decoded read answer) fine)

-- it ends in a fault only where the store faults
pub both_faults : {T C V D : Type 0} (one_decoded : C → List ℕ → Result T SlateDBError) (other_decoded : D → List ℕ → Result V SlateDBError) (first : Sequenced T C) (second : Sequenced V D)
    → NoFault (one_decoded first.codec) → NoFault (other_decoded second.codec) → OnlyFaults both_due (both_asks first second) (both_goes one_decoded other_decoded first second)
both_faults one_decoded other_decoded first second good fine = record { sound = λ p answer. by_phase p answer } where
  by_phase : (p : BothPhase _ _) (answer : StoreAnswer) → both_due p ≡ true → IsAnswerTo (both_asks first second p) answer → ((answer ≡ Fault) × IsEnd (both_goes one_decoded other_decoded first second p answer)) ⊎ Fine both_due (both_goes one_decoded other_decoded first second p answer)
  by_phase (First read) answer due kind = in_first first.log (one_decoded first.codec) read answer ((read_faults first.db first.log (one_decoded first.codec) good).sound read answer due kind)
  by_phase (Between one) answer due kind = in_second one second.log (other_decoded second.codec) reads.Listing answer ((read_faults second.db second.log (other_decoded second.codec) fine).sound reads.Listing answer refl kind)
  by_phase (Second one read) answer due kind = in_second one second.log (other_decoded second.codec) read answer ((read_faults second.db second.log (other_decoded second.codec) fine).sound read answer due kind)
  by_phase Over answer due kind = absurd cc

-- each of its calls only reads
pub both_reads : {T C V D : Type 0} (first : Sequenced T C) (second : Sequenced V D) (p : BothPhase T V) → is_reading (both_asks first second p) ≡ true
both_reads first second (First read) = reads_only first.db first.log read
both_reads {V = V} first second (Between one) = reads_only {T = V} second.db second.log reads.Listing
both_reads first second (Second one read) = reads_only second.db second.log read
both_reads {T = T} first second Over = reads_only {T = T} first.db first.log reads.Listing
