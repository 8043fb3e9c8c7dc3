-- Updates and refreshes of a holder of a log of a database.
use Rattle.std.proofs.Common.{◌≡◌, ℕ, ℤ, ◌<◌, ◌^◌, ◌⊎◌, inl, inr, Bool, true, false, if◌then◌else◌, Option, Some, None, Result, Ok, Err, refl, sym, ap, ◌∙◌, subst}
use Rattle.std.specs.Prelude.{nat_lt, List}
use Rattle.slate_ids.specs.Answers.{ran_out, refused}
use Rattle.slate_ids.specs.Ids.{is_db_path}
use Rattle.slate_ids.specs.declared.error.SlateDBError.{SlateDBError}
use Rattle.slate_ids.specs.declared.error.SlateDBError.TheVariants.{Fenced, LatestTransactionalObjectVersionMissing}
use Rattle.slate_store.specs.StoreCalls.{Told}
use Rattle.slate_store.specs.Store.{Store}
use Rattle.slate_txn_log.specs.declared.right.Right.{Right}
use Rattle.slate_txn.specs.FencedRefreshing.{fence_after, FencedRefreshed}
use Rattle.slate_txn.specs.Fencing.{held_fence, UnlessFenced}
use Rattle.slate_txn.specs.Refreshing.{held_after, refreshed, Refreshes}
use Rattle.slate_txn.specs.Updating.{Updates}
use Rattle.slate_txn.specs.declared.stored.DirtyObject.{DirtyObject}
use Rattle.slate_txn_laws.specs.Outside.{is_outside, NotOutside}
use Rattle.slate_txn_laws.specs.Reading.{ReadAnswers}
use Rattle.slate_txn_laws.specs.Ready.{top_of, IsReady, LeavesReady}
use Rattle.slate_txn_laws.specs.Serving.{Serves}
use Rattle.slate_txn_laws.specs.Updating.{UpdateAnswers}
use Rattle.slate_txn_laws.specs.Updating.UpdateAnswers.{IsUpdated, IsOther as OtherMade, IsBehind as HeldBehind, ByNumber, ByRules, ByCodec, NoBoundary}
use Rattle.slate_txn_laws.proofs.HolderReads.{refresh_ends}
use Rattle.slate_txn_laws.proofs.Inside.{out_inside, read_inside, same_error, update_inside}
use Rattle.slate_txn_laws.proofs.UpdateWalks.{update_ends}
use Rattle.slate_txn_log.specs.declared.right.Right.{Right}
use Rattle.slate_txn_laws.specs.Plain.{PlainLog}
use Rattle.slate_txn.specs.FencedHolder.{FencedHolder}
use Rattle.slate_txn.specs.Holder.{Holder}
use Rattle.slate_txn_laws.proofs.PlainInside.{decodes_inside, encodes_inside, rules_inside}
use Rattle.slate_state_complete.specs.FencedUpdates.{FencedUpdateAnswers}
use Rattle.slate_state_complete.specs.FencedUpdates.FencedUpdateAnswers.{IsFenced, IsUnfenced}
use Rattle.slate_state_complete.specs.Taken.{IsNextTaken}
use Rattle.slate_state_complete.specs.Taken.IsNextTaken.{IsOther, IsBehind}
use Rattle.slate_state_complete.proofs.Refusals.{not_both}

module _ {T C R E : Type 0} (decoded : C → List ℕ → Result T SlateDBError) (encoded : C → T → Result (List ℕ) SlateDBError) (refusal : R → ℕ → T → T → Right → Option SlateDBError) (plain : PlainLog decoded encoded refusal) (epoch : E → T → ℕ) where
  fence_told : (b : Bool) (own read : ℕ) (e : SlateDBError) → (if b then Some (Fenced own read) else None) ≡ Some e → is_outside e ≡ false
  fence_told true own read e same = let is : Fenced own read ≡ e = cc in subst (λ (e : SlateDBError). is_outside e ≡ false) is refl
  fence_told false own read e same = absurd cc

  held_inside : (fenced : FencedHolder T C R E) (e : SlateDBError) → held_fence epoch fenced ≡ Some e → is_outside e ≡ false
  held_inside fenced e same = fence_told (nat_lt fenced.epoch (epoch fenced.epochs fenced.holder.object)) fenced.epoch (epoch fenced.epochs fenced.holder.object) e same

  -- ---- updates

  module _ (moment : ℤ) (old new : Told) (s : Store) (holder : Holder T C R) (dirty : DirtyObject T) (right : Right) (result : Result (Unit {0}) SlateDBError) where
    pub update_stays : (UpdateAnswers refusal encoded s new holder dirty right result × LeavesReady holder.sequenced.db holder.sequenced.log new) ⊎ (ran_out result ≡ true)
        → top_of holder.sequenced.db holder.sequenced.log s ≡ Some holder.id → dirty.id ≡ holder.id → NotOutside result
    update_stays ended latest own = update_inside refusal encoded s new holder dirty right result latest own (encodes_inside decoded encoded refusal plain) (rules_inside decoded encoded refusal plain) ended

    taken_by : UpdateAnswers refusal encoded s new holder dirty right result → (e : SlateDBError) → result ≡ Err e → is_outside e ≡ true → IsNextTaken s holder dirty e
    taken_by (IsUpdated bytes t number allowed at told stands is) e same outside = absurd cc
    taken_by (OtherMade other is) e same outside = IsOther other cc
    taken_by (HeldBehind top boundary at lt is) e same outside = IsBehind top boundary at lt cc
    taken_by (ByNumber last is) e same outside = absurd (not_both result e (λ b other. same_error result _ b is other refl) same outside)
    taken_by (ByRules a at is) e same outside = absurd (not_both result e (λ b other. same_error result a b is other (rules_inside decoded encoded refusal plain holder.rules holder.id holder.object dirty.value right a at)) same outside)
    taken_by (ByCodec a at is) e same outside = absurd (not_both result e (λ b other. same_error result a b is other (encodes_inside decoded encoded refusal plain holder.sequenced.codec dirty.value a at)) same outside)
    taken_by (NoBoundary none is) e same outside = absurd (not_both result e (λ b other. same_error result _ b is other refl) same outside)

    pub update_taken : (UpdateAnswers refusal encoded s new holder dirty right result × LeavesReady holder.sequenced.db holder.sequenced.log new) ⊎ (ran_out result ≡ true)
        → (e : SlateDBError) → result ≡ Err e → is_outside e ≡ true → IsNextTaken s holder dirty e
    update_taken (inl ended) e same outside = taken_by ended.0 e same outside
    update_taken (inr out) e same outside = absurd (not_both result e (out_inside result out) same outside)

  module _ (moment : ℤ) (old new : Told) (s : Store) (fenced : FencedHolder T C R E) (dirty : DirtyObject T) (right : Right) (result : Result (Unit {0}) SlateDBError)
      (ran : UnlessFenced (held_fence epoch fenced) old new result (Updates refusal encoded moment old new fenced.holder dirty right result))
      (named : is_db_path fenced.holder.sequenced.db ≡ true) (small : fenced.holder.id < 2 ^ 64) (serves : Serves old new s) (ready : IsReady fenced.holder.sequenced.db fenced.holder.sequenced.log s) where
    abbrev Answers : Type 0
    Answers = (FencedUpdateAnswers refusal encoded epoch s new fenced dirty right result × LeavesReady fenced.holder.sequenced.db fenced.holder.sequenced.log new) ⊎ (ran_out result ≡ true)

    with_updates : held_fence epoch fenced ≡ None → (UpdateAnswers refusal encoded s new fenced.holder dirty right result × LeavesReady fenced.holder.sequenced.db fenced.holder.sequenced.log new) ⊎ (ran_out result ≡ true) → Answers
    with_updates none (inl ended) = inl (IsUnfenced none ended.0, ended.1)
    with_updates none (inr out) = inr out

    by_fence : (o : Option SlateDBError) → held_fence epoch fenced ≡ o → UnlessFenced o old new result (Updates refusal encoded moment old new fenced.holder dirty right result) → Answers
    by_fence (Some e) at ran =
        let contents : new.contents ≡ Some s = ap (λ (t : Told). t.contents) ran.1 ∙ serves.contents in
        inl (IsFenced e at contents ran.0, record { left = s; contents = contents; ready = ready })
    by_fence None at ran = with_updates at (update_ends refusal encoded moment old new s fenced.holder dirty right result ran named small serves ready)

    pub fenced_update : Answers
    fenced_update = by_fence (held_fence epoch fenced) refl ran

    module _ (latest : top_of fenced.holder.sequenced.db fenced.holder.sequenced.log s ≡ Some fenced.holder.id) (own : dirty.id ≡ fenced.holder.id) where
      by_answer : FencedUpdateAnswers refusal encoded epoch s new fenced dirty right result × LeavesReady fenced.holder.sequenced.db fenced.holder.sequenced.log new → NotOutside result
      by_answer (IsFenced e at contents is, left) = λ b same. same_error result e b is same (held_inside fenced e at)
      by_answer (IsUnfenced none answers, left) = update_stays moment old new s fenced.holder dirty right result (inl (answers, left)) latest own

      by_ends : Answers → NotOutside result
      by_ends (inl ended) = by_answer ended
      by_ends (inr out) = out_inside result out

      pub fenced_stays : NotOutside result
      fenced_stays = by_ends fenced_update

    module _ (e : SlateDBError) (same : result ≡ Err e) (outside : is_outside e ≡ true) where
      taken_answer : FencedUpdateAnswers refusal encoded epoch s new fenced dirty right result × LeavesReady fenced.holder.sequenced.db fenced.holder.sequenced.log new → IsNextTaken s fenced.holder dirty e
      taken_answer (IsFenced a at contents is, left) = absurd (not_both result e (λ b other. same_error result a b is other (held_inside fenced a at)) same outside)
      taken_answer (IsUnfenced none answers, left) = update_taken moment old new s fenced.holder dirty right result (inl (answers, left)) e same outside

      taken_ends : Answers → IsNextTaken s fenced.holder dirty e
      taken_ends (inl ended) = taken_answer ended
      taken_ends (inr out) = absurd (not_both result e (out_inside result out) same outside)

      pub fenced_taken : IsNextTaken s fenced.holder dirty e
      fenced_taken = taken_ends fenced_update

  -- ---- refreshes

  refresh_keeps : (reply : Result (Option (ℕ × T)) SlateDBError) → NotOutside reply → NotOutside (refreshed reply)
  refresh_keeps (Ok (Some version)) inside e same = absurd cc
  refresh_keeps (Ok None) inside e same = same_error {X = Unit {0}} (Err LatestTransactionalObjectVersionMissing) LatestTransactionalObjectVersionMissing e refl same refl
  refresh_keeps (Err a) inside e same = same_error {X = Unit {0}} (Err a) a e refl same (inside a refl)

  refused_inside : (refusal : Option SlateDBError) → ((e : SlateDBError) → refusal ≡ Some e → is_outside e ≡ false) → NotOutside (refused refusal)
  refused_inside None inside e same = absurd cc
  refused_inside (Some a) inside e same = same_error {X = Unit {0}} (Err a) a e refl same (inside a refl)

  fence_keeps : (to : FencedHolder T C R E) (reply : Result (Unit {0}) SlateDBError) → NotOutside reply → NotOutside (fence_after (held_fence epoch to) reply)
  fence_keeps to (Ok u) inside = refused_inside (held_fence epoch to) (held_inside to)
  fence_keeps to (Err a) inside = λ e same. same_error {X = Unit {0}} (Err a) a e refl same (inside a refl)

  module _ (tries : ℕ) (old new : Told) (s : Store) (from to : Holder T C R) (result : Result (Unit {0}) SlateDBError) where
    abbrev Ends : Type 0
    Ends = ((reply : Result (Option (ℕ × T)) SlateDBError) × ReadAnswers (decoded from.sequenced.codec) from.sequenced.db from.sequenced.log s reply × (to ≡ held_after from reply) × (refreshed reply ≡ result)) ⊎ (ran_out result ≡ true)

    pub refresh_by : Refreshes decoded tries old new from to result → 0 < tries → Serves old new s → IsReady from.sequenced.db from.sequenced.log s → Ends
    refresh_by ran some serves ready = refresh_ends decoded tries old new s from to result ran some serves ready

    pub refresh_inside : Ends → NotOutside result
    refresh_inside (inl ended) = subst (λ (r : Result (Unit {0}) SlateDBError). NotOutside r) ended.3 (refresh_keeps ended.0 (read_inside (decoded from.sequenced.codec) from.sequenced.db from.sequenced.log s ended.0 (decodes_inside decoded encoded refusal plain from.sequenced.codec) ended.1))
    refresh_inside (inr out) = out_inside result out

  module _ (tries : ℕ) (old new : Told) (s : Store) (from to : FencedHolder T C R E) (result : Result (Unit {0}) SlateDBError) (ran : FencedRefreshed decoded epoch tries old new from to result)
      (some : 0 < tries) (serves : Serves old new s) (ready : IsReady from.holder.sequenced.db from.holder.sequenced.log s) where
    abbrev FencedEnds : Type 0
    FencedEnds = ((reply : Result (Option (ℕ × T)) SlateDBError) × ReadAnswers (decoded from.holder.sequenced.codec) from.holder.sequenced.db from.holder.sequenced.log s reply
        × (to ≡ record from { holder = held_after from.holder reply }) × (fence_after (held_fence epoch to) (refreshed reply) ≡ result)) ⊎ (ran_out result ≡ true)

    memory : (reply : Result (Unit {0}) SlateDBError) → ran_out reply ≡ true → ran_out (fence_after (held_fence epoch to) reply) ≡ true
    memory (Ok u) out = absurd cc
    memory (Err e) out = out

    by_refresh : Ends tries old new s from.holder to.holder ran.reply → FencedEnds
    by_refresh (inl ended) = inl (ended.0, ended.1, ran.kept ∙ ap (λ (h : Holder T C R). record from { holder = h }) ended.2, ap (fence_after (held_fence epoch to)) ended.3 ∙ sym ran.answers)
    by_refresh (inr out) = inr (ap ran_out ran.answers ∙ memory ran.reply out)

    pub fenced_refresh : FencedEnds
    fenced_refresh = by_refresh (refresh_by tries old new s from.holder to.holder ran.reply ran.refresh some serves ready)

    pub fenced_refresh_inside : NotOutside result
    fenced_refresh_inside = subst (λ (r : Result (Unit {0}) SlateDBError). NotOutside r) (sym ran.answers) (fence_keeps to ran.reply (refresh_inside tries old new s from.holder to.holder ran.reply (refresh_by tries old new s from.holder to.holder ran.reply ran.refresh some serves ready)))
