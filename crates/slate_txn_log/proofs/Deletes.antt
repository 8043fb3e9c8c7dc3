-- A deletion ends in a fault only where the store faults, and is Ok only where the boundary is at or above its number.
use Rattle.std.specs.Prelude.{◌≡◌, ℕ, ◌≤◌, ℤ, pos, Bool, true, false, List, [], ◌∷◌, Option, Some, None, Result, Ok, Err, OnOk, nat_le, if◌then◌else◌, refl}
use Rattle.std.proofs.Common.{◌⊎◌, inl, inr, sym, subst, arith}
use Rattle.std.proofs.lemmas.Bool.Decides.{nat_tests}
use Rattle.slate_ids.specs.Answers.{OrMemory, ran_out}
use Rattle.slate_ids.specs.declared.error.SlateDBError.{SlateDBError}
use Rattle.slate_ids.specs.declared.error.SlateDBError.TheVariants.{Corrupt, InvalidDeletion}
use Rattle.slate_ids.specs.declared.error.FormatName.TheVariants.{Boundary as BoundaryFormat}
use Rattle.slate_store.specs.StoreCalls.{Told, Makes, IsAnswerTo, moment_of}
use Rattle.slate_store.specs.Machines.{Stay, End, IsEnd}
use Rattle.slate_store.specs.CallRuns.{Run}
use Rattle.slate_store.specs.declared.made.Made.{Made}
use Rattle.slate_store.specs.declared.store_answer.StoreAnswer.{StoreAnswer}
use Rattle.slate_store.specs.declared.store_answer.StoreAnswer.TheVariants.{Found, Got, Created, Replaced, Written, Deleted, Fault}
use Rattle.slate_store.specs.declared.store_call.StoreCall.{StoreCall}
use Rattle.slate_store.specs.declared.store_call.StoreCall.TheVariants.{Get}
use Rattle.slate_txn_log.specs.Advance.{AtLeast, BoundaryReached}
use Rattle.slate_txn_log.specs.Boundary.{boundary_got}
use Rattle.slate_txn_log.specs.DeletePhase.{delete_asks, delete_goes, delete_due, DeleteGoes, checked_goes}
use Rattle.slate_txn_log.specs.Delete.{DeleteRan, DeleteBegan}
use Rattle.slate_txn_log.specs.LogPaths.{version_path, boundary_path}
use Rattle.slate_txn_log.specs.declared.delete_phase.DeletePhase.{DeletePhase}
use Rattle.slate_txn_log.specs.declared.delete_phase.DeletePhase.TheVariants.{Bounding, Deleting, Over}
use Rattle.slate_txn_log.specs.declared.log_kind.LogKind.{LogKind}
use Rattle.slate_txn_log.specs.declared.sequenced.Sequenced.{Sequenced}
use Rattle.slate_txn_log.proofs.Faults.{OnlyFaults, Fine, fine_stay, fine_ok, fine_err, sound_at, get_answers, delete_answers}
use Rattle.slate_txn_log.proofs.Reached.{got_stands, reached_so}

abbrev FineDelete : DeleteGoes → Type 0
FineDelete out = Fine delete_due out

fine_test : (n : ℕ) (b : Bool) → FineDelete (if b then Stay (Deleting n) else End Over (Err (InvalidDeletion n)))
fine_test n true = fine_stay delete_due (Deleting n) refl
fine_test n false = fine_err delete_due Over (InvalidDeletion n) (λ same. absurd cc)

fine_checked : (n : ℕ) (boundary : Option ℕ) → FineDelete (checked_goes n boundary)
fine_checked n None = fine_err delete_due Over (Corrupt BoundaryFormat) (λ same. absurd cc)
fine_checked n (Some boundary) = fine_test n (nat_le n boundary)

by_phase : (db : List ℕ) (log : LogKind) (p : DeletePhase) (answer : StoreAnswer) → delete_due p ≡ true → IsAnswerTo (delete_asks db log p) answer → ((answer ≡ Fault) × IsEnd (delete_goes p answer)) ⊎ FineDelete (delete_goes p answer)
by_phase db log (Bounding n) answer due kind = sound_at delete_due (delete_goes (Bounding n)) Got answer (get_answers (boundary_path log db) answer kind) tt (λ object. fine_checked n (boundary_got object))
by_phase db log (Deleting n) answer due kind = sound_at delete_due (delete_goes (Deleting n)) (λ (u : Unit {0}). Deleted) answer (delete_answers (version_path log db n) answer kind) tt (λ u. fine_ok delete_due Over tt)
by_phase db log Over answer due kind = absurd cc

-- a deletion ends in a fault only where the store faults
pub delete_faults : (db : List ℕ) (log : LogKind) → OnlyFaults delete_due (delete_asks db log) delete_goes
delete_faults db log = record { sound = λ p answer. by_phase db log p answer }

-- where it ends well it was allowed
abbrev Allowed : Type 0 → DeleteGoes → Type 0
Allowed P (Stay p) = Unit {0}
Allowed P (End p (Ok u)) = P
Allowed P (End p (Err e)) = Unit {0}

allowed_all : (P : Type 0) (out : DeleteGoes) → P → Allowed P out
allowed_all P (Stay p) h = tt
allowed_all P (End p (Ok u)) h = h
allowed_all P (End p (Err e)) h = tt

-- where the machine goes on it is allowed
abbrev Checked : Type 0 → DeleteGoes → Type 0
Checked P (Stay p) = P
Checked P (End p (Ok u)) = ⊥
Checked P (End p (Err e)) = Unit {0}

checked_if : (P : Type 0) (n b : ℕ) (test : Bool) → nat_le n b ≡ test → (n ≤ b → P) → Checked P (if test then Stay (Deleting n) else End Over (Err (InvalidDeletion n)))
checked_if P n b true e h = h (grind (arith, nat_tests))
checked_if P n b false e h = tt

checked_at : (P : Type 0) (n : ℕ) (boundary : Option ℕ) → (AtLeast n boundary → P) → Checked P (checked_goes n boundary)
checked_at P n None h = tt
checked_at P n (Some b) h = checked_if P n b (nat_le n b) refl h

checked : (db : List ℕ) (log : LogKind) (n : ℕ) (old mid : Told) (moment : ℤ) (answer : StoreAnswer) → Makes old mid (Get (boundary_path log db)) moment answer → Checked (BoundaryReached db log n old) (delete_goes (Bounding n) answer)
checked db log n old mid moment (Found found) makes = tt
checked db log n old mid moment (Got object) makes =
    checked_at (BoundaryReached db log n old) n (boundary_got object) (λ h. reached_so db log n old.contents object (got_stands db log makes.mark moment old.contents object makes.answers) h)
checked db log n old mid moment (Created tag) makes = tt
checked db log n old mid moment (Replaced tag) makes = tt
checked db log n old mid moment (Written tag) makes = tt
checked db log n old mid moment Deleted makes = tt
checked db log n old mid moment Fault makes = tt

-- after the check
checked_allowed : (P : Type 0) (db : List ℕ) (log : LogKind) (moment : ℤ) (mid new : Told) (ms : List Made) (went out : DeleteGoes) → Checked P went → Run (delete_asks db log) delete_goes moment mid new ms went out → Allowed P out
checked_allowed P db log moment mid new ms (Stay p) out h run = allowed_all P out h
checked_allowed P db log moment mid new ms (End p (Ok u)) out h run = absurd h
checked_allowed P db log moment mid new [] (End p (Err e)) out h run = subst (λ (g : DeleteGoes). Allowed P g) (sym run.0) tt
checked_allowed P db log moment mid new (m ∷ ms) (End p (Err e)) out h run = absurd run

run_allowed : (db : List ℕ) (log : LogKind) (n : ℕ) (moment : ℤ) (old new : Told) (ms : List Made) (out : DeleteGoes) → Run (delete_asks db log) delete_goes moment old new ms (Stay (Bounding n)) out → Allowed (BoundaryReached db log n old) out
run_allowed db log n moment old new [] out run = subst (λ (g : DeleteGoes). Allowed (BoundaryReached db log n old) g) (sym run.0) tt
run_allowed db log n moment old new (m ∷ ms) out run =
    let here : Makes old run.0 (Get (boundary_path log db)) (moment_of (Get (boundary_path log db)) moment) m.answer = subst (λ (c : StoreCall). Makes old run.0 c (moment_of c moment) m.answer) run.1 run.2 in
    checked_allowed (BoundaryReached db log n old) db log moment run.0 new ms (delete_goes (Bounding n) m.answer) out (checked db log n old run.0 (moment_of (Get (boundary_path log db)) moment) m.answer here) run.3

at_end : (P : Type 0) (to : DeletePhase) (result : Result (Unit {0}) SlateDBError) → Allowed P (End to result) → OnOk result P
at_end P to (Ok u) h = h
at_end P to (Err e) h = tt

no_memory : (P : Type 0) (result : Result (Unit {0}) SlateDBError) → ran_out result ≡ true → OnOk result P
no_memory P (Ok u) out = absurd cc
no_memory P (Err e) out = tt

-- a deletion is Ok only where the boundary was at or above its number
pub delete_allowed : {T C : Type 0} (sequenced : Sequenced T C) (n : ℕ) (old new : Told) (result : Result (Unit {0}) SlateDBError)
    → OrMemory result (DeleteBegan sequenced n old new) (DeleteRan sequenced n old new result) → OnOk result (BoundaryReached sequenced.db sequenced.log n old)
delete_allowed sequenced n old new result (inl done) =
    let ran = done.1 in
    let allowed : Allowed (BoundaryReached sequenced.db sequenced.log n old) ran.out = run_allowed sequenced.db sequenced.log n (pos 0) old new ran.made ran.out ran.run in
    elim ran.ends [
      | inl e ↦ at_end (BoundaryReached sequenced.db sequenced.log n old) done.0 result (subst (λ (g : DeleteGoes). Allowed (BoundaryReached sequenced.db sequenced.log n old) g) e.0 allowed)
      | inr e ↦ subst (λ (r : Result (Unit {0}) SlateDBError). OnOk r (BoundaryReached sequenced.db sequenced.log n old)) (sym e.1) tt
    ]
delete_allowed sequenced n old new result (inr m) = no_memory (BoundaryReached sequenced.db sequenced.log n old) result m.0
