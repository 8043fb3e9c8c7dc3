-- A holder that was made with a given epoch holds it.
use Rattle.std.proofs.Common.{◌≡◌, ◌<◌, ℤ, ℕ, Bool, true, false, List, Option, Some, None, Result, Ok, Err, if◌then◌else◌, ap, sym, subst, ◌∙◌, refl}
use denote.Ref.{Bor}
use Rattle.std.specs.Prelude.{◌+◌, ◌==◌, nat_lt, IfOk}
use Rattle.std.proofs.lemmas.Bool.{ltb-true}
use Rattle.slate_ids.specs.Limits.{last_number}
use Rattle.slate_ids.specs.declared.error.SlateDBError.{SlateDBError}
use Rattle.slate_ids.specs.declared.error.SlateDBError.TheVariants.{Exhausted, Fenced}
use Rattle.slate_store.specs.StoreCalls.{Told}
use Rattle.slate_txn_log.specs.Change.{wanted, some_commit}
use Rattle.slate_txn_log.specs.CommitPhase.{prepared, checked_commit, encoded_commit}
use Rattle.slate_txn_log.specs.Fence.{unless, fence}
use Rattle.slate_txn_log.specs.declared.right.Right.{Right}
use Rattle.slate_txn.proofs.AppliesBy.{applies_more, computes_fenced}
use Rattle.slate_txn.proofs.FencedApplies.{applies_fence, unfenced_made}
use Rattle.slate_txn.proofs.PutValues.{PutsFirst, AlwaysPuts, HoldsSuch, applies_puts}
use Rattle.slate_txn.specs.Apply.{ways_of}
use Rattle.slate_txn.specs.ApplyMoves.{ways_by, AppliesBy}
use Rattle.slate_txn.specs.Changing.{ComputesWith, MayWith}
use Rattle.slate_txn.specs.FencedApplying.{FenceFree, fenced_made}
use Rattle.slate_txn.specs.Fence.{FencedBelow, FencedBy, fenced_of, setting}
use Rattle.slate_txn.specs.FencedHolder.{FencedHolder}
use Rattle.slate_txn.specs.Holder.{Holder}
use Rattle.slate_txn.specs.Raise.{this_epoch}

first_encoded : {T : Type 0} (such : T → Type 0) (n : ℕ) (value : T) (bytes : Result (List ℕ) SlateDBError) → such value → PutsFirst such (some_commit (encoded_commit n value bytes))
first_encoded such n value (Ok bytes) is = is
first_encoded such n value (Err e) is = tt

first_checked : {T : Type 0} (such : T → Type 0) (e : Option SlateDBError) (n : ℕ) (value : T) (bytes : Result (List ℕ) SlateDBError) → such value → PutsFirst such (some_commit (checked_commit e n value bytes))
first_checked such (Some e) n value bytes is = tt
first_checked such None n value bytes is = first_encoded such n value bytes is

first_if : {T : Type 0} (such : T → Type 0) (b : Bool) (id : ℕ) (e : Option SlateDBError) (n : ℕ) (value : T) (bytes : Result (List ℕ) SlateDBError) → such value → PutsFirst such (some_commit (if b then Err (Exhausted id) else checked_commit e n value bytes))
first_if such true id e n value bytes is = tt
first_if such false id e n value bytes is = first_checked such e n value bytes is

first_unless : {T : Type 0} (such : T → Type 0) (refusal : ℕ → T → T → Right → Option SlateDBError) (encoded : T → Result (List ℕ) SlateDBError) (right : Right) (id : ℕ) (value new : T) (e : Option SlateDBError) → such new
    → PutsFirst such (wanted (λ v. prepared refusal encoded id value v right) (unless e (Ok (Some new))))
first_unless such refusal encoded right id value new (Some e) is = tt
first_unless such refusal encoded right id value new None is = first_if such (id == last_number) id (refusal id value new right) (id + 1) new (encoded new) is

-- what is put has this epoch
setting_puts : {T C R E : Type 0} (decoded : C → List ℕ → Result T SlateDBError) (encoded : C → T → Result (List ℕ) SlateDBError) (refusal : R → ℕ → T → T → Right → Option SlateDBError) (epoch : E → T → ℕ) (with_epoch : E → T → ℕ → T) (epochs : E) (own : ℕ) (right : Right)
    → ((value : T) (n : ℕ) → epoch epochs (with_epoch epochs value n) ≡ n) → AlwaysPuts (setting decoded encoded refusal epoch with_epoch epochs own right) (λ value. epoch epochs value ≡ own)
setting_puts decoded encoded refusal epoch with_epoch epochs own right law holder id value =
    first_unless (λ v. epoch epochs v ≡ own) (refusal holder.rules) (encoded holder.sequenced.codec) right id value (with_epoch epochs value own) (fence own (epoch epochs value)) (law value own)

holds_own : {T C R E : Type 0} (epoch : E → T → ℕ) (epochs : E) (own : ℕ) (to : Holder T C R) (reply : Result (Unit {0}) SlateDBError) (result : Result (FencedHolder T C R E) SlateDBError)
    → HoldsSuch (λ value. epoch epochs value ≡ own) to reply → fenced_of epoch epochs to reply ≡ result → IfOk result (λ fenced. fenced.epoch ≡ own)
holds_own epoch epochs own to (Ok u) result is same = subst (λ (r : Result (FencedHolder _ _ _ _) SlateDBError). IfOk r (λ fenced. fenced.epoch ≡ own)) same is
holds_own epoch epochs own to (Err e) result is same = subst (λ (r : Result (FencedHolder _ _ _ _) SlateDBError). IfOk r (λ fenced. fenced.epoch ≡ own)) same tt

-- the holder has this epoch
pub set_own : {T C R E : Type 0} (decoded : C → List ℕ → Result T SlateDBError) (encoded : C → T → Result (List ℕ) SlateDBError) (refusal : R → ℕ → T → T → Right → Option SlateDBError) (epoch : E → T → ℕ) (with_epoch : E → T → ℕ → T) (epochs : E) (own : ℕ) (right : Right)
    (moment : ℤ) (tries : ℕ) (old new : Told) (holder : Holder T C R) (result : Result (FencedHolder T C R E) SlateDBError)
    → ((value : T) (n : ℕ) → epoch epochs (with_epoch epochs value n) ≡ n) → FencedBy epoch (setting decoded encoded refusal epoch with_epoch epochs own right) moment tries old new holder epochs result → IfOk result (λ fenced. fenced.epoch ≡ own)
set_own decoded encoded refusal epoch with_epoch epochs own right moment tries old new holder result law by =
    holds_own epoch epochs own by.to by.reply result
    (applies_puts (setting decoded encoded refusal epoch with_epoch epochs own right) (λ value. epoch epochs value ≡ own) (setting_puts decoded encoded refusal epoch with_epoch epochs own right law) moment tries old new holder by.to by.reply by.applies) by.same

below_if : (b : Bool) (own read m n : ℕ) → (b ≡ true → own < read) → (if b then Some (Fenced own read) else None) ≡ Some (Fenced m n) → (m ≡ own) × (own < n)
below_if true own read m n less same = (let is : Fenced own read ≡ Fenced m n = cc in cc, let is : Fenced own read ≡ Fenced m n = cc in let at : read ≡ n = cc in subst (λ (k : ℕ). own < k) at (less refl))
below_if false own read m n less same = absurd cc

reply_of : {T C R E : Type 0} (epoch : E → T → ℕ) (epochs : E) (to : Holder T C R) (reply : Result (Unit {0}) SlateDBError) (e : SlateDBError) → fenced_of epoch epochs to reply ≡ Err e → reply ≡ Err e
reply_of epoch epochs to (Ok u) e same = absurd cc
reply_of epoch epochs to (Err k) e same = let is : k ≡ e = cc in ap (λ (x : SlateDBError). Err x) is

-- Fenced is answered only with this epoch and a greater one
pub set_below : {C T R E : Type 0} (answers : Bor C → ℕ → Bor T → Result (Option T) SlateDBError → Type 0) (decoded : C → List ℕ → Result T SlateDBError) (encoded : C → T → Result (List ℕ) SlateDBError) (refusal : R → ℕ → T → T → Right → Option SlateDBError) (epoch : E → T → ℕ) (with_epoch : E → T → ℕ → T) (epochs : E) (own : ℕ) (right : Right)
    (moment : ℤ) (tries : ℕ) (old new : Told) (from to : Holder T C R) (reply : Result (Unit {0}) SlateDBError) (result : Result (FencedHolder T C R E) SlateDBError)
    → ComputesWith answers (fenced_made epoch epochs own (this_epoch (with_epoch epochs) own)) → FenceFree (ways_of decoded encoded refusal (this_epoch (with_epoch epochs) own) right)
    → AppliesBy (ways_by decoded encoded refusal (MayWith answers) right) moment tries old new from to reply → result ≡ fenced_of epoch epochs to reply → FencedBelow own result
set_below answers decoded encoded refusal epoch with_epoch epochs own right moment tries old new from to reply result computes free applies is = λ m n same.
    let made = this_epoch (with_epoch epochs) own in
    let ways = ways_by decoded encoded refusal (λ id value r. made id value ≡ r) right in
    let unfenced = unfenced_made ways made (λ id value r given enough. given) free in
    let behind = applies_more (ways_by decoded encoded refusal (MayWith answers) right) _ (computes_fenced answers epoch epochs own made computes) moment tries old new from to reply applies in
    let only = applies_fence ways epoch epochs own unfenced moment tries old new from to reply behind in
    let read = epoch epochs to.object in
    let fenced = only m n (reply_of epoch epochs to reply (Fenced m n) (sym is ∙ same)) in
    below_if (nat_lt own read) own read m n (λ less. ltb-true own read less) fenced
