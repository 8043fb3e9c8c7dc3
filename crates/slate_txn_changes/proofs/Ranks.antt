-- The steps that are left, of a turn and of a plain call.
use Rattle.std.specs.Prelude.{◌≡◌, ◌<◌, ◌≤◌, ◌+◌, ◌-◌, ◌*◌, ℕ, Bool, true, false, refl}
use Rattle.std.proofs.Common.{arith, inl, inr, sym, ◌∙◌}
use Rattle.slate_txn_changes.specs.Latest.{TurnFalls}
use Rattle.slate_txn_changes.specs.LogWorks.{work_rank}
use Rattle.slate_txn_changes.specs.declared.log_work.LogWork.{LogWork}
use Rattle.slate_txn_changes.specs.declared.log_work.LogWork.TheVariants.{Reading, Committing}
use Rattle.slate_txn_log.specs.CommitPhase.{commit_due, commit_rank, is_putting}
use Rattle.slate_txn_log.specs.ReadPhase.{rank}
use Rattle.slate_txn_log.specs.declared.commit_phase.CommitPhase.{CommitPhase}
use Rattle.slate_txn_log.specs.declared.commit_phase.CommitPhase.TheVariants as commits
use Rattle.slate_txn_log.specs.declared.read_phase.ReadPhase.{ReadPhase}
use Rattle.slate_txn_log.specs.declared.read_phase.ReadPhase.TheVariants as reads

-- a commit that was just made: its put and its boundary
pub putting_rank : {T : Type 0} (commit : CommitPhase T) → is_putting commit ≡ true → commit_rank commit ≡ 2
putting_rank (commits.Putting n bytes value) putting = refl
putting_rank (commits.Bounding n value) putting = absurd cc
putting_rank commits.Over putting = absurd cc

-- and its put is due
pub putting_due : {T : Type 0} (commit : CommitPhase T) → is_putting commit ≡ true → commit_due commit ≡ true
putting_due (commits.Putting n bytes value) putting = refl
putting_due (commits.Bounding n value) putting = absurd cc
putting_due commits.Over putting = absurd cc

pub read_bound : {T : Type 0} (read : ReadPhase T) → rank read ≤ 3
read_bound reads.Listing = omega arith
read_bound (reads.Getting n) = omega arith
read_bound (reads.Bounding n value) = omega arith
read_bound reads.Over = omega arith

pub commit_bound : {T : Type 0} (commit : CommitPhase T) → commit_rank commit ≤ 2
commit_bound (commits.Putting n bytes value) = omega arith
commit_bound (commits.Bounding n value) = omega arith
commit_bound commits.Over = omega arith

pub work_bound : {V : Type 0} (work : LogWork V) → work_rank work ≤ 5
work_bound (Reading phase) = let bound = read_bound phase in omega (arith, bound)
work_bound (Committing made phase) = let bound = commit_bound phase in omega (arith, bound)

-- a step that uses a turn
pub work_turn : {V : Type 0} (old new : LogWork V) (left : ℕ) → 0 < left → 6 * (left - 1) + work_rank new < 6 * left + work_rank old
work_turn old new left some = let bound = work_bound new in omega (arith, bound, some)

-- and one that goes on in its turn
pub work_step : {V : Type 0} (old new : LogWork V) (turned : Bool) (left : ℕ) → TurnFalls old new turned → turned ≡ false → 6 * left + work_rank new < 6 * left + work_rank old
work_step old new turned left (inl used) not = absurd (let both : true ≡ false = sym used ∙ not in cc)
work_step old new turned left (inr falls) not = omega (arith, falls)
