-- Neither a read nor a commit ends in a fence.
use Rattle.std.proofs.Common.{◌≡◌, ◌≢◌, ◌⊎◌, ℤ, ℕ, Bool, true, false, List, [], ◌∷◌, Option, Some, None, Result, Ok, Err, if◌then◌else◌, inl, inr, ap, sym, subst, ◌∙◌, refl}
use Rattle.std.specs.Prelude.{nat_le}
use Rattle.slate_ids.specs.Answers.{ran_out}
use Rattle.slate_ids.specs.declared.error.FormatName.TheVariants.{Boundary as BoundaryFormat}
use Rattle.slate_ids.specs.declared.error.SlateDBError.{SlateDBError}
use Rattle.slate_ids.specs.declared.error.SlateDBError.TheVariants.{Contended, Corrupt, Fenced, StoreFault, TransactionalObjectVersionExists}
use Rattle.slate_store.specs.StoreCalls.{Told, Makes, IsAnswerTo, moment_of}
use Rattle.slate_store.specs.Machines.{Goes, Stay, End, Steps}
use Rattle.slate_store.specs.CallRuns.{Run, Ran}
use Rattle.slate_store.specs.declared.made.Made.{Made}
use Rattle.slate_store.specs.declared.object.StoredObject.{StoredObject}
use Rattle.slate_store.specs.declared.step.Step.{Step}
use Rattle.slate_store.specs.declared.step.Step.TheVariants.{Again, Done}
use Rattle.slate_store.specs.declared.store_answer.StoreAnswer.{StoreAnswer}
use Rattle.slate_store.specs.declared.store_answer.StoreAnswer.TheVariants.{Found, Got, Created, Fault}
use Rattle.slate_store.specs.declared.store_call.StoreCall.{StoreCall}
use Rattle.slate_txn_log.specs.Boundary.{boundary_got, greatest}
use Rattle.slate_txn_log.specs.CommitPhase.{commit_asks, commit_goes, created_goes, bounded_goes}
use Rattle.slate_txn_log.proofs.Faults.{list_answers, get_answers, create_answers}
use Rattle.slate_txn.specs.Fencing.{NoFence, NotFenced, NotFencedStep}
use Rattle.slate_txn_log.specs.LogPaths.{version_path, boundary_path, folder}
use Rattle.slate_txn_log.specs.ReadPhase.{read_asks, read_goes, listed_goes, decoded_goes, got_goes, boundary_goes}
use Rattle.slate_txn_log.specs.declared.commit_phase.CommitPhase.{CommitPhase}
use Rattle.slate_txn_log.specs.declared.commit_phase.CommitPhase.TheVariants.{Putting, Bounding as BoundingCommit, Over as CommitOver}
use Rattle.slate_txn_log.specs.declared.log_kind.LogKind.{LogKind}
use Rattle.slate_txn_log.specs.declared.read_phase.ReadPhase.{ReadPhase}
use Rattle.slate_txn_log.specs.declared.read_phase.ReadPhase.TheVariants.{Listing, Getting, Bounding, Over}

-- it doesn't end in a fence
pub record Free {P R : Type 0} (out : Goes P R) : Type 0 where
  pub ends : (own read : ℕ) (q : P) → out ≢ End q (Err (Fenced own read))

-- a machine that doesn't end in a fence
pub record NeverFences {P R : Type 0} (asks : P → StoreCall) (goes : P → StoreAnswer → Goes P R) : Type 0 where
  pub free : (p : P) (answer : StoreAnswer) → IsAnswerTo (asks p) answer → Free (goes p answer)

went_free : {P R : Type 0} (asks : P → StoreCall) (goes : P → StoreAnswer → Goes P R) (moment : ℤ) (mid new : Told) (ms : List Made) (p q : P) (answer : StoreAnswer) (own read : ℕ) (out : Goes P R)
    → ((r : P) → Run asks goes moment mid new ms (Stay r) (End q (Err (Fenced own read))) → ⊥)
    → goes p answer ≡ out → Free (goes p answer) → Run asks goes moment mid new ms out (End q (Err (Fenced own read))) → ⊥
went_free asks goes moment mid new ms p q answer own read (Stay next) rest went free run = rest next run
went_free asks goes moment mid new [] p q answer own read (End last r) rest went free run = free.ends own read q (went ∙ sym run.0)
went_free asks goes moment mid new (m ∷ ms) p q answer own read (End last r) rest went free run = absurd run

run_free : {P R : Type 0} {asks : P → StoreCall} {goes : P → StoreAnswer → Goes P R} (never : NeverFences asks goes) (moment : ℤ) (old new : Told) (made : List Made) (p q : P) (own read : ℕ)
    → Run asks goes moment old new made (Stay p) (End q (Err (Fenced own read))) → ⊥
run_free never moment old new [] p q own read run = absurd cc
run_free {asks = asks} {goes = goes} never moment old new (m ∷ ms) p q own read run =
    let made : Makes old run.0 m.call (moment_of m.call moment) m.answer = run.2 in
    went_free asks goes moment run.0 new ms p q m.answer own read (goes p m.answer) (λ r after. run_free never moment run.0 new ms r q own read after) refl
    (never.free p m.answer (subst (λ (c : StoreCall). IsAnswerTo c m.answer) run.1 made.kind)) run.3

-- nor does a run of so many tries
pub ran_free : {P R : Type 0} {is_start : P → Bool} {asks : P → StoreCall} {goes : P → StoreAnswer → Goes P R} {moment : ℤ} {tries : ℕ} {old new : Told} {start to : P} {result : Result R SlateDBError}
    → NeverFences asks goes → Ran is_start asks goes moment tries old new start to result → NotFenced result
ran_free {asks = asks} {goes = goes} {moment = moment} {old = old} {new = new} {start = start} {to = to} never ran = λ own read same. elim ran.ends [
  | inl e ↦ run_free never moment old new ran.made start to own read (subst (λ (out : Goes _ _). Run asks goes moment old new ran.made (Stay start) out) (e.0 ∙ ap (λ (r : Result _ SlateDBError). End to r) same) ran.run)
  | inr e ↦ absurd (let both : Err Contended ≡ Err (Fenced own read) = sym e.1 ∙ same in cc)
]

-- nor does a step
pub step_free : {P R : Type 0} {asks : P → StoreCall} {goes : P → StoreAnswer → Goes P R} (old new : Told) (moment : ℤ) (p q : P) (step : Step R) → NeverFences asks goes → Steps old new (asks p) moment (goes p) p q step → NotFencedStep step
step_free old new moment p q Again never stepped = λ own read same. absurd cc
step_free old new moment p q (Done r) never (inl stepped) = λ own read same.
    let is : r ≡ Err (Fenced own read) = cc in
    let free = never.free p stepped.answer stepped.makes.kind in
    free.ends own read q (stepped.gives ∙ ap (λ (k : Result _ SlateDBError). End q k) is)
step_free old new moment p q (Done r) never (inr m) = λ own read same.
    absurd (let is : r ≡ Err (Fenced own read) = cc in let not : ran_out r ≡ false = ap ran_out is in let out : ran_out r ≡ true = m.0 in cc)

free_at : {P R X : Type 0} (goes : StoreAnswer → Goes P R) (made : X → StoreAnswer) (answer : StoreAnswer) → (answer ≡ Fault) ⊎ ((x : X) × (answer ≡ made x)) → Free (goes Fault) → ((x : X) → Free (goes (made x))) → Free (goes answer)
free_at goes made answer (inl e) fault free = subst (λ (a : StoreAnswer). Free (goes a)) (sym e) fault
free_at goes made answer (inr o) fault free = subst (λ (a : StoreAnswer). Free (goes a)) (sym o.1) (free o.0)

free_stay : {P R : Type 0} (p : P) → Free {R = R} (Stay p)
free_stay p = record { ends = λ own read q same. absurd cc }

free_ok : {P R : Type 0} (p : P) (r : R) → Free (End p (Ok r))
free_ok p r = record { ends = λ own read q same. absurd cc }

free_err : {P R : Type 0} (p : P) (e : SlateDBError) → NotFenced {X = R} (Err e) → Free {R = R} (End p (Err e))
free_err {R = R} p e h = record { ends = λ own read q same. (let is : e ≡ Fenced own read = cc in absurd (h own read (ap (λ (k : SlateDBError). Err k) is))) }

free_fault : {P R : Type 0} (p : P) → Free {R = R} (End p (Err StoreFault))
free_fault p = free_err p StoreFault (λ own read same. absurd cc)

free_listed : {T : Type 0} (n : Option ℕ) → Free {P = ReadPhase T} (listed_goes n)
free_listed None = free_ok Over None
free_listed (Some n) = free_stay (Getting n)

free_decoded : {T : Type 0} (n : ℕ) (r : Result T SlateDBError) → NotFenced r → Free (decoded_goes n r)
free_decoded n (Ok value) h = free_stay (Bounding n value)
free_decoded n (Err e) h = free_err Over e (λ own read same. (let is : e ≡ Fenced own read = cc in absurd (h own read (ap (λ (k : SlateDBError). Err k) is))))

free_got : {T : Type 0} (decoded : List ℕ → Result T SlateDBError) → NoFence decoded → (n : ℕ) (object : Option StoredObject) → Free (got_goes decoded n object)
free_got decoded good n None = free_stay Listing
free_got decoded good n (Some object) = free_decoded n (decoded object.bytes) (good object.bytes)

free_above : {T : Type 0} (n : ℕ) (value : T) (b : Bool) → Free {P = ReadPhase T} {R = Option (ℕ × T)} (if b then Stay Listing else End Over (Ok (Some (n, value))))
free_above n value true = free_stay Listing
free_above n value false = free_ok Over (Some (n, value))

free_boundary : {T : Type 0} (n : ℕ) (value : T) (b : Option ℕ) → Free (boundary_goes n value b)
free_boundary n value None = free_err Over (Corrupt BoundaryFormat) (λ own read same. absurd cc)
free_boundary n value (Some b) = free_above n value (nat_le n b)

free_read : {T : Type 0} (db : List ℕ) (log : LogKind) (decoded : List ℕ → Result T SlateDBError) → NoFence decoded → (p : ReadPhase T) (answer : StoreAnswer) → IsAnswerTo (read_asks db log p) answer → Free (read_goes log decoded p answer)
free_read db log decoded good Listing answer kind = free_at (read_goes log decoded Listing) Found answer (list_answers (folder log db) answer kind) (free_fault Over) (λ found. free_listed (greatest log found))
free_read db log decoded good (Getting n) answer kind = free_at (read_goes log decoded (Getting n)) Got answer (get_answers (version_path log db n) answer kind) (free_fault Over) (λ object. free_got decoded good n object)
free_read db log decoded good (Bounding n value) answer kind =
    free_at (read_goes log decoded (Bounding n value)) Got answer (get_answers (boundary_path log db) answer kind) (free_fault Over) (λ object. free_boundary n value (boundary_got object))
free_read db log decoded good Over answer kind = free_at (read_goes log decoded Over) Found answer (list_answers (folder log db) answer kind) (free_fault Over) (λ found. free_fault Over)

-- a read doesn't end in a fence
pub read_free : {T : Type 0} (db : List ℕ) (log : LogKind) (decoded : List ℕ → Result T SlateDBError) → NoFence decoded → NeverFences (read_asks db log) (read_goes log decoded)
read_free db log decoded good = record { free = λ p answer. free_read db log decoded good p answer }

free_created : {T : Type 0} (n : ℕ) (value : T) (tag : Option ℕ) → Free (created_goes n value tag)
free_created n value None = free_err CommitOver (TransactionalObjectVersionExists n None) (λ own read same. absurd cc)
free_created n value (Some tag) = free_stay (BoundingCommit n value)

free_put : {T : Type 0} (n b : ℕ) (value : T) (test : Bool) → Free {P = CommitPhase T} {R = ℕ × T} (if test then End CommitOver (Err (TransactionalObjectVersionExists n (Some b))) else End CommitOver (Ok (n, value)))
free_put n b value true = free_err CommitOver (TransactionalObjectVersionExists n (Some b)) (λ own read same. absurd cc)
free_put n b value false = free_ok CommitOver (n, value)

free_bounded : {T : Type 0} (n : ℕ) (value : T) (b : Option ℕ) → Free (bounded_goes n value b)
free_bounded n value None = free_err CommitOver (Corrupt BoundaryFormat) (λ own read same. absurd cc)
free_bounded n value (Some b) = free_put n b value (nat_le n b)

free_commit : {T : Type 0} (db : List ℕ) (log : LogKind) (p : CommitPhase T) (answer : StoreAnswer) → IsAnswerTo (commit_asks db log p) answer → Free (commit_goes p answer)
free_commit db log (Putting n bytes value) answer kind =
    free_at (commit_goes (Putting n bytes value)) Created answer (create_answers (version_path log db n) bytes answer kind) (free_fault CommitOver) (λ tag. free_created n value tag)
free_commit db log (BoundingCommit n value) answer kind =
    free_at (commit_goes (BoundingCommit n value)) Got answer (get_answers (boundary_path log db) answer kind) (free_fault CommitOver) (λ object. free_bounded n value (boundary_got object))
free_commit db log CommitOver answer kind = free_at (commit_goes CommitOver) Got answer (get_answers (boundary_path log db) answer kind) (free_fault CommitOver) (λ object. free_fault CommitOver)

-- nor does a commit
pub commit_free : {T : Type 0} (db : List ℕ) (log : LogKind) → NeverFences {P = CommitPhase T} (commit_asks db log) commit_goes
commit_free db log = record { free = λ p answer. free_commit db log p answer }
