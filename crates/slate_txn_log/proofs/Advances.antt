-- An advance ends in a fault only where the store faults.
use Rattle.std.specs.Prelude.{◌≡◌, ℕ, ◌==◌, Bool, true, false, List, Option, Some, None, Ok, nat_le, decimal, if◌then◌else◌, refl}
use Rattle.std.proofs.Common.{◌⊎◌}
use Rattle.slate_ids.specs.declared.error.SlateDBError.TheVariants.{Corrupt}
use Rattle.slate_ids.specs.declared.error.FormatName.TheVariants.{Boundary as BoundaryFormat}
use Rattle.slate_store.specs.StoreCalls.{IsAnswerTo}
use Rattle.slate_store.specs.Machines.{Stay, End, IsEnd}
use Rattle.slate_store.specs.declared.object.StoredObject.{StoredObject}
use Rattle.slate_store.specs.declared.store_answer.StoreAnswer.{StoreAnswer}
use Rattle.slate_store.specs.declared.store_answer.StoreAnswer.TheVariants.{Got, Created, Replaced, Fault}
use Rattle.slate_txn_log.specs.AdvancePhase.{advance_asks, advance_goes, advance_due, AdvanceGoes, bound_goes, read_goes_to, written_goes}
use Rattle.slate_txn_log.specs.Boundary.{boundary_of}
use Rattle.slate_txn_log.specs.LogPaths.{boundary_path}
use Rattle.slate_txn_log.specs.declared.advance_phase.AdvancePhase.{AdvancePhase}
use Rattle.slate_txn_log.specs.declared.advance_phase.AdvancePhase.TheVariants.{Bounding, Creating, Replacing, Over}
use Rattle.slate_txn_log.specs.declared.log_kind.LogKind.{LogKind}
use Rattle.slate_txn_log.proofs.Faults.{OnlyFaults, Fine, fine_stay, fine_ok, fine_err, sound_at, get_answers, create_answers, replace_answers}

abbrev FineAdvance : AdvanceGoes → Type 0
FineAdvance out = Fine advance_due out

-- an end, or a phase at which a call is due
fine_test : (p : AdvancePhase) → advance_due p ≡ true → (b : Bool) → FineAdvance (if b then End Over (Ok tt) else Stay p)
fine_test p due true = fine_ok advance_due Over tt
fine_test p due false = fine_stay advance_due p due

fine_read : (n tag : ℕ) (boundary : Option ℕ) → FineAdvance (read_goes_to n tag boundary)
fine_read n tag None = fine_err advance_due Over (Corrupt BoundaryFormat) (λ same. absurd cc)
fine_read n tag (Some boundary) = fine_test (Replacing n tag) refl (nat_le n boundary)

fine_bound : (n : ℕ) (object : Option StoredObject) → FineAdvance (bound_goes n object)
fine_bound n None = fine_test (Creating n) refl (n == 0)
fine_bound n (Some object) = fine_read n object.e_tag (boundary_of object.bytes)

fine_written : (n : ℕ) (tag : Option ℕ) → FineAdvance (written_goes n tag)
fine_written n None = fine_stay advance_due (Bounding n) refl
fine_written n (Some tag) = fine_ok advance_due Over tt

by_phase : (db : List ℕ) (log : LogKind) (p : AdvancePhase) (answer : StoreAnswer) → advance_due p ≡ true → IsAnswerTo (advance_asks db log p) answer → ((answer ≡ Fault) × IsEnd (advance_goes p answer)) ⊎ FineAdvance (advance_goes p answer)
by_phase db log (Bounding n) answer due kind = sound_at advance_due (advance_goes (Bounding n)) Got answer (get_answers (boundary_path log db) answer kind) tt (λ object. fine_bound n object)
by_phase db log (Creating n) answer due kind = sound_at advance_due (advance_goes (Creating n)) Created answer (create_answers (boundary_path log db) (decimal n) answer kind) tt (λ tag. fine_written n tag)
by_phase db log (Replacing n old) answer due kind = sound_at advance_due (advance_goes (Replacing n old)) Replaced answer (replace_answers (boundary_path log db) old (decimal n) answer kind) tt (λ tag. fine_written n tag)
by_phase db log Over answer due kind = absurd cc

-- an advance ends in a fault only where the store faults
pub advance_faults : (db : List ℕ) (log : LogKind) → OnlyFaults advance_due (advance_asks db log) advance_goes
advance_faults db log = record { sound = λ p answer. by_phase db log p answer }
