-- A call that reads leaves the objects as they are.
use Rattle.std.proofs.Common.{◌≡◌, ℤ, true, true≢false, Result, Ok, Err, OnErr, refl, sym}
use Rattle.slate_store.specs.StoreCalls.{is_reading}
use Rattle.slate_store.specs.Store.{Store, Outcome, under, whole, taken, effect}
use Rattle.slate_store.specs.declared.mark.Mark.{Mark}
use Rattle.slate_store.specs.declared.mark.Mark.TheVariants.{Good, Fail, Lost}
use Rattle.slate_store.specs.declared.store_call.StoreCall.{StoreCall}
use Rattle.slate_store.specs.declared.store_call.StoreCall.TheVariants.{List as ListCall, Get}

under_keeps : (mark : Mark) (o : Outcome) (s : Store) → o.store ≡ s → (under mark o s).store ≡ s
under_keeps Good o s h = h
under_keeps Fail o s h = refl
under_keeps Lost o s h = h

pub reads_keep : (mark : Mark) (call : StoreCall) (moment : ℤ) (s : Store) → is_reading call ≡ true → (effect mark call moment s).store ≡ s
reads_keep mark (ListCall dir) moment s h = under_keeps (taken mark (ListCall dir) s) (whole (ListCall dir) moment s) s refl
reads_keep mark (Get path) moment s h = under_keeps (taken mark (Get path) s) (whole (Get path) moment s) s refl
reads_keep mark _ moment s h = absurd (true≢false (sym h))

-- what holds, holds of a refusal
pub on_err : {X E : Type 0} {P : Type 0} (r : Result X E) → P → OnErr r P
on_err (Ok x) p = tt
on_err (Err e) p = p
