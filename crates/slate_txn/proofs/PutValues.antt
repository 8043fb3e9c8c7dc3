-- After an apply that always commits, the value held is one that was put.
use Rattle.std.proofs.Common.{◌≡◌, ℤ, ℕ, Bool, true, false, List, [], ◌∷◌, Option, Some, None, Result, Ok, Err, if◌then◌else◌, inl, inr, sym, subst}
use Rattle.std.specs.Prelude.{nat_le}
use Rattle.slate_ids.specs.Answers.{ran_out, is_conflict}
use Rattle.slate_ids.specs.declared.error.SlateDBError.{SlateDBError}
use Rattle.slate_ids.specs.declared.error.SlateDBError.TheVariants.{TransactionalObjectVersionExists}
use Rattle.slate_store.specs.StoreCalls.{Told}
use Rattle.slate_store.specs.Machines.{Goes, Stay, End}
use Rattle.slate_store.specs.CallRuns.{Run}
use Rattle.slate_store.specs.declared.made.Made.{Made}
use Rattle.slate_store.specs.declared.store_answer.StoreAnswer.{StoreAnswer}
use Rattle.slate_store.specs.declared.store_answer.StoreAnswer.TheVariants.{Found, Got, Created, Replaced, Written, Deleted, Fault}
use Rattle.slate_txn_log.specs.Boundary.{boundary_got}
use Rattle.slate_txn_log.specs.CommitPhase.{commit_goes, bounded_goes}
use Rattle.slate_txn_log.specs.ReadPhase.{read_goes, Reply}
use Rattle.slate_txn_log.specs.declared.commit_phase.CommitPhase.{CommitPhase}
use Rattle.slate_txn_log.specs.declared.commit_phase.CommitPhase.TheVariants.{Putting, Bounding, Over}
use Rattle.slate_txn_log.specs.declared.read_phase.ReadPhase.TheVariants.{Listing}
use Rattle.slate_txn.specs.Apply.{Ways, ApplyState, ApplyGoes, Applies, Begins, apply_asks, apply_goes, renews, begun, read_on, commit_on}
use Rattle.slate_txn.specs.Holder.{Holder, at_version}
use Rattle.slate_txn.specs.declared.apply.ApplyPhase.{ApplyPhase}
use Rattle.slate_txn.specs.declared.apply.ApplyPhase.TheVariants.{Reading, Committing}

-- what is put is such a value
abbrev Puts : {T : Type 0} → (T → Type 0) → CommitPhase T → Type 0
Puts such (Putting n bytes value) = such value
Puts such (Bounding n value) = such value
Puts such Over = Unit {0}

-- and so it is in each phase, and after an Ok
abbrev PutsOn : {T : Type 0} → (T → Type 0) → Goes (CommitPhase T) (ℕ × T) → Type 0
PutsOn such (Stay commit) = Puts such commit
PutsOn such (End commit (Ok version)) = such version.1
PutsOn such (End commit (Err e)) = Unit {0}

puts_if : {T : Type 0} (such : T → Type 0) (n b : ℕ) (value : T) (test : Bool) → such value → PutsOn such (if test then End Over (Err (TransactionalObjectVersionExists n (Some b))) else End Over (Ok (n, value)))
puts_if such n b value true is = tt
puts_if such n b value false is = is

puts_bounded : {T : Type 0} (such : T → Type 0) (n : ℕ) (value : T) (b : Option ℕ) → such value → PutsOn such (bounded_goes n value b)
puts_bounded such n value None is = tt
puts_bounded such n value (Some b) is = puts_if such n b value (nat_le n b) is

puts_on : {T : Type 0} (such : T → Type 0) (commit : CommitPhase T) (answer : StoreAnswer) → Puts such commit → PutsOn such (commit_goes commit answer)
puts_on such (Putting n bytes value) (Created (Some tag)) is = is
puts_on such (Putting n bytes value) (Created None) is = tt
puts_on such (Putting n bytes value) _ is = tt
puts_on such (Bounding n value) (Got object) is = puts_bounded such n value (boundary_got object) is
puts_on such (Bounding n value) _ is = tt
puts_on such Over (Found found) is = tt
puts_on such Over (Got object) is = tt
puts_on such Over (Created tag) is = tt
puts_on such Over (Replaced tag) is = tt
puts_on such Over (Written tag) is = tt
puts_on such Over Deleted is = tt
puts_on such Over Fault is = tt

-- the same of an apply's phase
abbrev PutsAt : {T C R : Type 0} → (T → Type 0) → ApplyState T C R → Type 0
PutsAt such (Reading read, holder) = Unit {0}
PutsAt such (Committing commit, holder) = Puts such commit

-- and of how it goes on: after Ok such a value is held
abbrev PutsThen : {T C R : Type 0} → (T → Type 0) → ApplyGoes T C R → Type 0
PutsThen such (Stay state) = PutsAt such state
PutsThen such (End state (Ok u)) = such state.1.object
PutsThen such (End state (Err e)) = Unit {0}

-- where it begins: it always commits, or is refused
abbrev pub PutsFirst : {T : Type 0} → (T → Type 0) → Result (Option (CommitPhase T)) SlateDBError → Type 0
PutsFirst such (Ok (Some commit)) = Puts such commit
PutsFirst such (Ok None) = ⊥
PutsFirst such (Err e) = Unit {0}

puts_begun : {T C R : Type 0} (such : T → Type 0) (phase : ApplyPhase T) (holder : Holder T C R) (start : Result (Option (CommitPhase T)) SlateDBError) → PutsFirst such start → PutsThen such (begun phase holder start)
puts_begun such phase holder (Ok (Some commit)) is = is
puts_begun such phase holder (Ok None) is = absurd is
puts_begun such phase holder (Err e) is = tt

-- these ways always commit such a value, or refuse
abbrev pub AlwaysPuts : {T C R : Type 0} → Ways T C R → (T → Type 0) → Type 0
AlwaysPuts ways such = (holder : Holder _ _ _) (id : ℕ) (value : _) → PutsFirst such (renews ways holder id value)

puts_read : {T C R : Type 0} (ways : Ways T C R) (such : T → Type 0) → AlwaysPuts ways such → (holder : Holder T C R) (out : Reply T) → PutsThen such (read_on holder (renews ways holder) out)
puts_read ways such always holder (Stay read) = tt
puts_read ways such always holder (End read (Err e)) = tt
puts_read ways such always holder (End read (Ok None)) = tt
puts_read ways such always holder (End read (Ok (Some version))) = puts_begun such (Reading read) (at_version holder version.0 version.1) (renews ways holder version.0 version.1) (always holder version.0 version.1)

puts_again : {T C R : Type 0} (such : T → Type 0) (b : Bool) (holder : Holder T C R) (commit : CommitPhase T) (e : SlateDBError) → PutsThen such (if b then Stay (Reading Listing, holder) else End (Committing commit, holder) (Err e))
puts_again such true holder commit e = tt
puts_again such false holder commit e = tt

puts_commit : {T C R : Type 0} (such : T → Type 0) (holder : Holder T C R) (out : Goes (CommitPhase T) (ℕ × T)) → PutsOn such out → PutsThen such (commit_on holder out)
puts_commit such holder (Stay commit) is = is
puts_commit such holder (End commit (Ok version)) is = is
puts_commit such holder (End commit (Err e)) is = puts_again such (is_conflict e) holder commit e

puts_step : {T C R : Type 0} (ways : Ways T C R) (such : T → Type 0) → AlwaysPuts ways such → (phase : ApplyPhase T) (holder : Holder T C R) (answer : StoreAnswer) → PutsAt such (phase, holder) → PutsThen such (apply_goes ways (phase, holder) answer)
puts_step ways such always (Reading read) holder answer is = puts_read ways such always holder (read_goes holder.sequenced.log (ways.decoded holder.sequenced.codec) read answer)
puts_step ways such always (Committing commit) holder answer is = puts_commit such holder (commit_goes commit answer) (puts_on such commit answer is)

-- and so of a run
puts_run : {T C R : Type 0} (ways : Ways T C R) (such : T → Type 0) → AlwaysPuts ways such → (moment : ℤ) (old new : Told) (made : List Made) (from out : ApplyGoes T C R) → PutsThen such from → Run apply_asks (apply_goes ways) moment old new made from out → PutsThen such out
puts_run ways such always moment old new [] from out is run = subst (λ (g : Goes _ _). PutsThen such g) (sym run.0) is
puts_run ways such always moment old new (m ∷ ms) (Stay p) out is run = puts_run ways such always moment run.0 new ms (apply_goes ways p m.answer) out (puts_step ways such always p.0 p.1 m.answer is) run.3
puts_run ways such always moment old new (m ∷ ms) (End p r) out is run = absurd run

-- after Ok such a value is held
abbrev pub HoldsSuch : {T C R : Type 0} → (T → Type 0) → Holder T C R → Result (Unit {0}) SlateDBError → Type 0
HoldsSuch such to (Ok u) = such to.object
HoldsSuch such to (Err e) = Unit {0}

holds_end : {T C R : Type 0} (such : T → Type 0) (phase : ApplyPhase T) (to : Holder T C R) (result : Result (Unit {0}) SlateDBError) → PutsThen such (End (phase, to) result) → HoldsSuch such to result
holds_end such phase to (Ok u) is = is
holds_end such phase to (Err e) is = tt

holds_begun : {T C R : Type 0} (ways : Ways T C R) (such : T → Type 0) → AlwaysPuts ways such → (moment : ℤ) (tries : ℕ) (old new : Told) (start : Result (Option (CommitPhase T)) SlateDBError) (from to : Holder T C R) (result : Result (Unit {0}) SlateDBError)
    → PutsFirst such start → Begins ways moment tries old new start from to result → HoldsSuch such to result
holds_begun ways such always moment tries old new (Err e) from to result is ran = subst (λ (r : Result (Unit {0}) SlateDBError). HoldsSuch such to r) (sym ran.0) tt
holds_begun ways such always moment tries old new (Ok None) from to result is ran = absurd is
holds_begun ways such always moment tries old new (Ok (Some commit)) from to result is ran =
    let out = puts_run ways such always moment old new ran.1.made (Stay (Committing commit, from)) ran.1.out is ran.1.run in
    elim ran.1.ends [
      | inl e ↦ holds_end such ran.0 to result (subst (λ (g : Goes _ _). PutsThen such g) e.0 out)
      | inr e ↦ subst (λ (r : Result (Unit {0}) SlateDBError). HoldsSuch such to r) (sym e.1) tt
    ]

out_holds : {T C R : Type 0} (such : T → Type 0) (to : Holder T C R) (result : Result (Unit {0}) SlateDBError) → ran_out result ≡ true → HoldsSuch such to result
out_holds such to (Ok u) out = absurd (let both : false ≡ true = out in cc)
out_holds such to (Err e) out = tt

-- so after Ok of an apply
pub applies_puts : {T C R : Type 0} (ways : Ways T C R) (such : T → Type 0) → AlwaysPuts ways such → (moment : ℤ) (tries : ℕ) (old new : Told) (from to : Holder T C R) (result : Result (Unit {0}) SlateDBError) → Applies ways moment tries old new from to result → HoldsSuch such to result
applies_puts ways such always moment tries old new from to result (inl ran) = holds_begun ways such always moment tries old new (renews ways from from.id from.object) from to result (always from from.id from.object) ran
applies_puts ways such always moment tries old new from to result (inr m) = out_holds such to result m.0
