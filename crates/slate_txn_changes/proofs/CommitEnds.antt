-- A commit that stands ends after its boundary was read.
use Rattle.std.specs.Prelude.{◌≡◌, ℕ, nat_le, Bool, true, false, Option, Some, None, Result, Ok, Err, if◌then◌else◌, refl}
use Rattle.slate_ids.specs.declared.error.SlateDBError.TheVariants.{TransactionalObjectVersionExists}
use Rattle.slate_store.specs.Machines.{Goes, Stay, End}
use Rattle.slate_store.specs.declared.store_answer.StoreAnswer.{StoreAnswer}
use Rattle.slate_store.specs.declared.store_answer.StoreAnswer.TheVariants.{Found, Got, Created, Replaced, Written, Deleted, Fault}
use Rattle.slate_txn_log.specs.Boundary.{boundary_got}
use Rattle.slate_txn_log.specs.CommitPhase.{commit_goes, created_goes, bounded_goes, CommitGoes}
use Rattle.slate_txn_log.specs.declared.commit_phase.CommitPhase.{CommitPhase}
use Rattle.slate_txn_log.specs.declared.commit_phase.CommitPhase.TheVariants.{Putting, Bounding, Over}

by_created : {T : Type 0} (commit q : CommitPhase T) (version : ℕ × T) (n : ℕ) (value : T) (tag : Option ℕ) → created_goes n value tag ≡ End q (Ok version) → commit ≡ Bounding version.0 version.1
by_created commit q version n value (Some tag) h = absurd cc
by_created commit q version n value None h = absurd cc

by_test : {T : Type 0} (q : CommitPhase T) (version : ℕ × T) (n b : ℕ) (value : T) (test : Bool)
    → (if test then End Over (Err (TransactionalObjectVersionExists n (Some b))) else End Over (Ok (n, value))) ≡ End q (Ok version) → Bounding n value ≡ Bounding version.0 version.1
by_test q version n b value true h = absurd cc
by_test q version n b value false h = cc

by_boundary : {T : Type 0} (q : CommitPhase T) (version : ℕ × T) (n : ℕ) (value : T) (boundary : Option ℕ) → bounded_goes n value boundary ≡ End q (Ok version) → Bounding n value ≡ Bounding version.0 version.1
by_boundary q version n value None h = absurd cc
by_boundary q version n value (Some b) h = by_test q version n b value (nat_le n b) h

-- it was at the boundary of what is answered
pub ends_bounding : {T : Type 0} (commit : CommitPhase T) (answer : StoreAnswer) (q : CommitPhase T) (version : ℕ × T) → commit_goes commit answer ≡ End q (Ok version) → commit ≡ Bounding version.0 version.1
ends_bounding (Putting n bytes value) (Created tag) q version h = by_created (Putting n bytes value) q version n value tag h
ends_bounding (Bounding n value) (Got object) q version h = by_boundary q version n value (boundary_got object) h
ends_bounding (Putting n bytes value) _ q version h = absurd cc
ends_bounding (Bounding n value) _ q version h = absurd cc
ends_bounding Over answer q version h = absurd cc
