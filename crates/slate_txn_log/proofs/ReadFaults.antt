-- A read ends in a fault only where the store faults.
use Rattle.std.specs.Prelude.{◌≡◌, ◌≢◌, ℕ, Bool, true, false, List, Option, Some, None, Result, Ok, Err, nat_le, if◌then◌else◌, refl}
use Rattle.std.proofs.Common.{ap, ◌⊎◌}
use Rattle.slate_ids.specs.declared.error.SlateDBError.{SlateDBError}
use Rattle.slate_ids.specs.declared.error.SlateDBError.TheVariants.{StoreFault, Corrupt}
use Rattle.slate_ids.specs.declared.error.FormatName.TheVariants.{Boundary as BoundaryFormat}
use Rattle.slate_store.specs.Machines.{Stay, End, IsEnd}
use Rattle.slate_store.specs.StoreCalls.{IsAnswerTo}
use Rattle.slate_store.specs.declared.store_answer.StoreAnswer.{StoreAnswer}
use Rattle.slate_store.specs.declared.object.StoredObject.{StoredObject}
use Rattle.slate_store.specs.declared.store_answer.StoreAnswer.TheVariants.{Found, Got, Fault}
use Rattle.slate_txn_log.specs.Boundary.{boundary_got, greatest}
use Rattle.slate_txn_log.specs.Due.{NoFault}
use Rattle.slate_txn_log.proofs.Faults.{OnlyFaults, Fine, fine_stay, fine_ok, fine_err, sound_at, list_answers, get_answers}
use Rattle.slate_txn_log.specs.LogPaths.{version_path, boundary_path, folder}
use Rattle.slate_txn_log.specs.ReadPhase.{read_asks, read_goes, read_due, Reply, listed_goes, got_goes, decoded_goes, boundary_goes}
use Rattle.slate_txn_log.specs.declared.log_kind.LogKind.{LogKind}
use Rattle.slate_txn_log.specs.declared.read_phase.ReadPhase.{ReadPhase}
use Rattle.slate_txn_log.specs.declared.read_phase.ReadPhase.TheVariants.{Listing, Getting, Bounding, Over}

abbrev FineReply : {T : Type 0} → Reply T → Type 0
FineReply out = Fine read_due out

fine_listed : {T : Type 0} (n : Option ℕ) → FineReply {T = T} (listed_goes n)
fine_listed None = fine_ok read_due Over None
fine_listed (Some n) = fine_stay read_due (Getting n) refl

fine_decoded : {T : Type 0} (n : ℕ) (r : Result T SlateDBError) → r ≢ Err StoreFault → FineReply (decoded_goes n r)
fine_decoded n (Ok value) h = fine_stay read_due (Bounding n value) refl
fine_decoded n (Err e) h = fine_err read_due Over e (λ same. h (ap (λ (k : SlateDBError). Err k) same))

fine_got : {T : Type 0} (decoded : List ℕ → Result T SlateDBError) → NoFault decoded → (n : ℕ) (object : Option StoredObject) → FineReply (got_goes decoded n object)
fine_got decoded good n None = fine_stay read_due Listing refl
fine_got decoded good n (Some object) = fine_decoded n (decoded object.bytes) (good object.bytes)

fine_above : {T : Type 0} (n : ℕ) (value : T) (b : Bool) → FineReply (if b then Stay Listing else End Over (Ok (Some (n, value))))
fine_above n value true = fine_stay read_due Listing refl
fine_above n value false = fine_ok read_due Over (Some (n, value))

fine_boundary : {T : Type 0} (n : ℕ) (value : T) (b : Option ℕ) → FineReply (boundary_goes n value b)
fine_boundary n value None = fine_err read_due Over (Corrupt BoundaryFormat) (λ same. absurd cc)
fine_boundary n value (Some b) = fine_above n value (nat_le n b)

-- a read ends in a fault only where the store faults
pub read_faults : {T : Type 0} (db : List ℕ) (log : LogKind) (decoded : List ℕ → Result T SlateDBError) → NoFault decoded → OnlyFaults read_due (read_asks db log) (read_goes log decoded)
read_faults db log decoded good = record { sound = λ p answer. by_phase p answer } where
  by_phase : (p : ReadPhase _) (answer : StoreAnswer) → read_due p ≡ true → IsAnswerTo (read_asks db log p) answer → ((answer ≡ Fault) × IsEnd (read_goes log decoded p answer)) ⊎ Fine read_due (read_goes log decoded p answer)
  by_phase Listing answer due kind = sound_at read_due (read_goes log decoded Listing) Found answer (list_answers (folder log db) answer kind) tt (λ found. fine_listed (greatest log found))
  by_phase (Getting n) answer due kind = sound_at read_due (read_goes log decoded (Getting n)) Got answer (get_answers (version_path log db n) answer kind) tt (λ object. fine_got decoded good n object)
  by_phase (Bounding n value) answer due kind = sound_at read_due (read_goes log decoded (Bounding n value)) Got answer (get_answers (boundary_path log db) answer kind) tt (λ object. fine_boundary n value (boundary_got object))
  by_phase Over answer due kind = absurd cc
