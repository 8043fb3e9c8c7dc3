-- A fenced holder answers Fenced only by the fence of the version that it holds then.
use Rattle.std.proofs.Common.{◌≡◌, ℤ, ℕ, Bool, true, false, List, [], ◌∷◌, Option, Some, None, Result, Ok, Err, if◌then◌else◌, inl, inr, ap, sym, subst, ◌∙◌}
use Rattle.slate_ids.specs.Answers.{ran_out, is_conflict}
use Rattle.slate_ids.specs.declared.error.SlateDBError.{SlateDBError}
use Rattle.slate_ids.specs.declared.error.SlateDBError.TheVariants.{Contended, Fenced, LatestTransactionalObjectVersionMissing}
use Rattle.slate_store.specs.StoreCalls.{Told, Makes, IsAnswerTo, moment_of}
use Rattle.slate_store.specs.Machines.{Goes, Stay, End}
use Rattle.slate_store.specs.declared.store_answer.StoreAnswer.{StoreAnswer}
use Rattle.slate_store.specs.declared.store_call.StoreCall.{StoreCall}
use Rattle.slate_txn_log.specs.CommitPhase.{commit_goes, prepared}
use Rattle.slate_txn_log.specs.ReadPhase.{read_goes, Reply}
use Rattle.slate_txn_log.specs.declared.commit_phase.CommitPhase.{CommitPhase}
use Rattle.slate_txn_log.specs.declared.read_phase.ReadPhase.TheVariants.{Listing}
use Rattle.slate_txn.proofs.Fences.{Free, commit_free, read_free}
use Rattle.slate_txn.proofs.AppliesBy.{ByMade, renews_made}
use Rattle.slate_txn.specs.Apply.{ApplyState, ApplyGoes, apply_asks, begun, commit_on, ways_of}
use Rattle.slate_txn.specs.ApplyMoves.{MayWays, ways_by, RenewsBy, ReadMoves, ApplyMoves, BeginsBy, AppliesBy}
use Rattle.slate_txn_log.specs.Change.{wanted}
use Rattle.slate_txn.specs.FencedApplying.{FenceFree, FencedMay, Unfenced, UnlessMay}
use Rattle.slate_txn_log.specs.Fence.{fence}
use Rattle.slate_txn.specs.Fencing.{FencedOnly, NotFenced}
use Rattle.slate_txn.specs.Holder.{Holder, at_version}
use Rattle.slate_txn.specs.Moves.{Move, RunBy}
use Rattle.slate_txn.specs.declared.apply.ApplyPhase.{ApplyPhase}
use Rattle.slate_txn.specs.declared.apply.ApplyPhase.TheVariants.{Reading, Committing}

-- where it ends in a fence, this is the fence of the version held there
record ByFence {T C R : Type 0} (refusal : T → Option SlateDBError) (out : ApplyGoes T C R) : Type 0 where
  ends : (own read : ℕ) (state : ApplyState T C R) → out ≡ End state (Err (Fenced own read)) → refusal state.1.object ≡ Some (Fenced own read)

by_stay : {T C R : Type 0} (refusal : T → Option SlateDBError) (state : ApplyState T C R) → ByFence refusal (Stay state)
by_stay refusal state = record { ends = λ own read q same. absurd cc }

by_ok : {T C R : Type 0} (refusal : T → Option SlateDBError) (state : ApplyState T C R) → ByFence refusal (End state (Ok tt))
by_ok refusal state = record { ends = λ own read q same. absurd cc }

by_other : {T C R : Type 0} (refusal : T → Option SlateDBError) (state : ApplyState T C R) (e : SlateDBError) → NotFenced {X = Unit {0}} (Err e) → ByFence refusal (End state (Err e))
by_other refusal state e free = record { ends = λ own read q same. (let is : e ≡ Fenced own read = cc in absurd (free own read (ap (λ (k : SlateDBError). Err k) is))) }

-- a refusal before a commit is the fence of the version, or none
abbrev IsFence : {X : Type 0} → Option SlateDBError → Result X SlateDBError → Type 0
IsFence refusal start = (own read : ℕ) → start ≡ Err (Fenced own read) → refusal ≡ Some (Fenced own read)

-- these ways with the fence asked before the function
abbrev pub behind : {T C R E : Type 0} → MayWays T C R → (E → T → ℕ) → E → ℕ → MayWays T C R
behind ways epoch epochs own = ways_by ways.decoded ways.encoded ways.refusal (FencedMay epoch epochs own ways.may) ways.right

abbrev fence_of : {T E : Type 0} → (E → T → ℕ) → E → ℕ → T → Option SlateDBError
fence_of epoch epochs own value = fence own (epoch epochs value)

unless_fence : {T : Type 0} (prepare : T → Result (CommitPhase T) SlateDBError) (may : Result (Option T) SlateDBError → Type 0) (refusal : Option SlateDBError) (reply : Result (Option T) SlateDBError) (start : Result (Option (CommitPhase T)) SlateDBError)
    → UnlessMay refusal may reply → wanted prepare reply ≡ start → (may reply → NotFenced start) → IsFence refusal start
unless_fence prepare may (Some k) reply start given commits free own read same =
    let first : Err k ≡ start = ap (wanted prepare) (sym given) ∙ commits in
    let both = first ∙ same in
    let is : k ≡ Fenced own read = cc in ap (λ (e : SlateDBError). Some e) is
unless_fence prepare may None reply start given commits free own read same = absurd (free given own read same)

start_fence : {T C R E : Type 0} (ways : MayWays T C R) (epoch : E → T → ℕ) (epochs : E) (own : ℕ) (free : Unfenced ways) (holder : Holder T C R) (id : ℕ) (value : T) (start : Result (Option (CommitPhase T)) SlateDBError)
    → RenewsBy (behind ways epoch epochs own) holder id value start → IsFence (fence_of epoch epochs own value) start
start_fence ways epoch epochs own free holder id value start renewed =
    unless_fence (λ new. prepared (ways.refusal holder.rules) (ways.encoded holder.sequenced.codec) id value new ways.right) (ways.may id value) (fence own (epoch epochs value)) renewed.reply start renewed.given renewed.commits
    (λ given. free.renewal holder id value start (record { reply = renewed.reply; given = given; enough = renewed.enough; commits = renewed.commits }))

begun_fence : {T C R : Type 0} (refusal : T → Option SlateDBError) (phase : ApplyPhase T) (holder : Holder T C R) (start : Result (Option (CommitPhase T)) SlateDBError) → IsFence (refusal holder.object) start → ByFence refusal (begun phase holder start)
begun_fence refusal phase holder (Err e) is = record {
  ends = λ own read q same. (let at : (phase, holder) ≡ q = cc in let other : e ≡ Fenced own read = cc in
      ap (λ (s : ApplyState _ _ _). refusal s.1.object) (sym at) ∙ is own read (ap (λ (k : SlateDBError). Err k) other));
}
begun_fence refusal phase holder (Ok None) is = by_ok refusal (phase, holder)
begun_fence refusal phase holder (Ok (Some commit)) is = by_stay refusal (Committing commit, holder)

read_fence : {T C R E : Type 0} (ways : MayWays T C R) (epoch : E → T → ℕ) (epochs : E) (own : ℕ) (free : Unfenced ways) (holder : Holder T C R) (went : Reply T) (out : ApplyGoes T C R)
    → Free went → ReadMoves holder (RenewsBy (behind ways epoch epochs own) holder) went out → ByFence (fence_of epoch epochs own) out
read_fence ways epoch epochs own free holder (Stay read) out never moves = subst (λ (g : Goes _ _). ByFence (fence_of epoch epochs own) g) moves (by_stay (fence_of epoch epochs own) (Reading read, holder))
read_fence ways epoch epochs own free holder (End read (Err e)) out never moves =
    subst (λ (g : Goes _ _). ByFence (fence_of epoch epochs own) g) moves
    (by_other (fence_of epoch epochs own) (Reading read, holder) e (λ m n same. (let is : e ≡ Fenced m n = cc in never.ends m n read (ap (λ (k : SlateDBError). End read (Err k)) is))))
read_fence ways epoch epochs own free holder (End read (Ok None)) out never moves =
    subst (λ (g : Goes _ _). ByFence (fence_of epoch epochs own) g) moves (by_other (fence_of epoch epochs own) (Reading read, holder) LatestTransactionalObjectVersionMissing (λ m n same. absurd cc))
read_fence ways epoch epochs own free holder (End read (Ok (Some version))) out never moves =
    subst (λ (g : Goes _ _). ByFence (fence_of epoch epochs own) g) moves.2
    (begun_fence (fence_of epoch epochs own) (Reading read) (at_version holder version.0 version.1) moves.0 (start_fence ways epoch epochs own free holder version.0 version.1 moves.0 moves.1))

commit_if : {T C R : Type 0} (refusal : T → Option SlateDBError) (b : Bool) (holder : Holder T C R) (commit : CommitPhase T) (e : SlateDBError) → NotFenced {X = Unit {0}} (Err e) → ByFence refusal (if b then Stay (Reading Listing, holder) else End (Committing commit, holder) (Err e))
commit_if refusal true holder commit e free = by_stay refusal (Reading Listing, holder)
commit_if refusal false holder commit e free = by_other refusal (Committing commit, holder) e free

commit_fence : {T C R : Type 0} (refusal : T → Option SlateDBError) (holder : Holder T C R) (out : Goes (CommitPhase T) (ℕ × T)) → Free out → ByFence refusal (commit_on holder out)
commit_fence refusal holder (Stay commit) never = by_stay refusal (Committing commit, holder)
commit_fence refusal holder (End commit (Ok version)) never = by_ok refusal (Committing commit, at_version holder version.0 version.1)
commit_fence refusal holder (End commit (Err e)) never =
    commit_if refusal (is_conflict e) holder commit e (λ m n same. (let is : e ≡ Fenced m n = cc in never.ends m n commit (ap (λ (k : SlateDBError). End commit (Err k)) is)))

by_phase : {T C R E : Type 0} (ways : MayWays T C R) (epoch : E → T → ℕ) (epochs : E) (own : ℕ) (free : Unfenced ways) (phase : ApplyPhase T) (holder : Holder T C R) (answer : StoreAnswer) (out : ApplyGoes T C R)
    → IsAnswerTo (apply_asks (phase, holder)) answer → ApplyMoves (behind ways epoch epochs own) (phase, holder) answer out → ByFence (fence_of epoch epochs own) out
by_phase ways epoch epochs own free (Reading read) holder answer out kind moves =
    let never = read_free holder.sequenced.db holder.sequenced.log (ways.decoded holder.sequenced.codec) (free.decodes holder.sequenced.codec) in
    read_fence ways epoch epochs own free holder (read_goes holder.sequenced.log (ways.decoded holder.sequenced.codec) read answer) out (never.free read answer kind) moves
by_phase ways epoch epochs own free (Committing commit) holder answer out kind moves =
    let never = commit_free holder.sequenced.db holder.sequenced.log in
    subst (λ (g : Goes _ _). ByFence (fence_of epoch epochs own) g) moves (commit_fence (fence_of epoch epochs own) holder (commit_goes commit answer) (never.free commit answer kind))

went_by : {T C R : Type 0} (refusal : T → Option SlateDBError) (ways : MayWays T C R) (moment : ℤ) (mid new : Told) (ms : List (Move (ApplyState T C R) (Unit {0}))) (q : ApplyState T C R) (own read : ℕ) (went : ApplyGoes T C R)
    → ((r : ApplyState T C R) → RunBy apply_asks (ApplyMoves ways) moment mid new ms (Stay r) (End q (Err (Fenced own read))) → refusal q.1.object ≡ Some (Fenced own read))
    → ByFence refusal went → RunBy apply_asks (ApplyMoves ways) moment mid new ms went (End q (Err (Fenced own read))) → refusal q.1.object ≡ Some (Fenced own read)
went_by refusal ways moment mid new ms q own read (Stay next) rest by run = rest next run
went_by refusal ways moment mid new [] q own read (End last r) rest by run = by.ends own read q (sym run.0)
went_by refusal ways moment mid new (m ∷ ms) q own read (End last r) rest by run = absurd run

run_by : {T C R E : Type 0} (ways : MayWays T C R) (epoch : E → T → ℕ) (epochs : E) (own : ℕ) (free : Unfenced ways) (moment : ℤ) (old new : Told) (moves : List (Move (ApplyState T C R) (Unit {0}))) (p q : ApplyState T C R) (m n : ℕ)
    → RunBy apply_asks (ApplyMoves (behind ways epoch epochs own)) moment old new moves (Stay p) (End q (Err (Fenced m n))) → fence_of epoch epochs own q.1.object ≡ Some (Fenced m n)
run_by ways epoch epochs own free moment old new [] p q m n run = absurd cc
run_by ways epoch epochs own free moment old new (a ∷ ms) p q m n run =
    let calls : Makes old run.0 a.made.call (moment_of a.made.call moment) a.made.answer = run.2 in
    went_by (fence_of epoch epochs own) (behind ways epoch epochs own) moment run.0 new ms q m n a.went (λ r after. run_by ways epoch epochs own free moment run.0 new ms r q m n after)
    (by_phase ways epoch epochs own free p.0 p.1 a.made.answer a.went (subst (λ (c : StoreCall). IsAnswerTo c a.made.answer) run.1 calls.kind) run.3) run.4

begins_fence : {T C R E : Type 0} (ways : MayWays T C R) (epoch : E → T → ℕ) (epochs : E) (own : ℕ) (free : Unfenced ways) (moment : ℤ) (tries : ℕ) (old new : Told) (start : Result (Option (CommitPhase T)) SlateDBError) (from to : Holder T C R) (result : Result (Unit {0}) SlateDBError)
    → IsFence (fence_of epoch epochs own from.object) start → BeginsBy (behind ways epoch epochs own) moment tries old new start from to result → FencedOnly (fence_of epoch epochs own to.object) result
begins_fence ways epoch epochs own free moment tries old new (Err e) from to result is ran = λ m n same.
    let other : Err e ≡ Err (Fenced m n) = sym ran.0 ∙ same in let here : e ≡ Fenced m n = cc in
    ap (λ (h : Holder _ _ _). fence_of epoch epochs own h.object) ran.2 ∙ is m n (ap (λ (k : SlateDBError). Err k) here)
begins_fence ways epoch epochs own free moment tries old new (Ok None) from to result is ran = λ m n same. absurd (let both : Ok tt ≡ Err (Fenced m n) = sym ran.0 ∙ same in cc)
begins_fence ways epoch epochs own free moment tries old new (Ok (Some commit)) from to result is ran = λ m n same. elim ran.1.ends [
  | inl e ↦ run_by ways epoch epochs own free moment old new ran.1.moves (Committing commit, from) (ran.0, to) m n
      (subst (λ (out : Goes _ _). RunBy apply_asks (ApplyMoves (behind ways epoch epochs own)) moment old new ran.1.moves (Stay (Committing commit, from)) out) (e.0 ∙ ap (λ (r : Result _ SlateDBError). End (ran.0, to) r) same) ran.1.run)
  | inr e ↦ absurd (let both : Err Contended ≡ Err (Fenced m n) = sym e.1 ∙ same in cc)
]

-- Fenced is answered only by the fence of the version that is held then
pub applies_fence : {T C R E : Type 0} (ways : MayWays T C R) (epoch : E → T → ℕ) (epochs : E) (own : ℕ) (free : Unfenced ways) (moment : ℤ) (tries : ℕ) (old new : Told) (from to : Holder T C R) (result : Result (Unit {0}) SlateDBError)
    → AppliesBy (behind ways epoch epochs own) moment tries old new from to result → FencedOnly (fence own (epoch epochs to.object)) result
applies_fence ways epoch epochs own free moment tries old new from to result (inl begun) =
    begins_fence ways epoch epochs own free moment tries old new begun.0 from to result (start_fence ways epoch epochs own free from from.id from.object begun.0 begun.1) begun.2
applies_fence ways epoch epochs own free moment tries old new from to result (inr m) = λ a b same. absurd (let not : ran_out result ≡ false = ap ran_out same in let out : ran_out result ≡ true = m.0 in cc)

-- where neither codec, rules nor a function answer a fence, nor is what it may answer one
pub unfenced_made : {T C R : Type 0} (ways : MayWays T C R) (made : ℕ → T → Result (Option T) SlateDBError) → ByMade ways.may made → FenceFree (ways_of ways.decoded ways.encoded ways.refusal made ways.right) → Unfenced ways
unfenced_made ways made by free = record {
  decodes = free.decodes;
  renewal = λ holder id value start renewed own read same. free.renewal holder id value own read (renews_made ways made by holder id value start renewed ∙ same);
}
