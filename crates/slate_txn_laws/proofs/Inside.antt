-- No answer here comes from outside, where none of the codec, the rules and the change does.
use Rattle.std.proofs.Common.{◌≡◌, ℕ, ◌<◌, ◌⊎◌, inl, inr, true, false, List, Option, Some, Result, Ok, Err, refl, sym, ◌∙◌, subst, arith}
use Rattle.slate_ids.specs.Answers.{is_memory, ran_out}
use Rattle.slate_ids.specs.declared.error.SlateDBError.{SlateDBError}
use Rattle.slate_ids.specs.declared.error.SlateDBError.TheVariants.{OutOfMemory}
use Rattle.slate_store.specs.StoreCalls.{Told}
use Rattle.slate_store.specs.Store.{Store}
use Rattle.slate_txn_log.specs.declared.log_kind.LogKind.{LogKind}
use Rattle.slate_txn_log.specs.declared.right.Right.{Right}
use Rattle.slate_txn.specs.ApplyMoves.{MayWays}
use Rattle.slate_txn.specs.Holder.{Holder}
use Rattle.slate_txn.specs.declared.stored.DirtyObject.{DirtyObject}
use Rattle.slate_txn_laws.specs.Advancing.{AdvanceAnswers}
use Rattle.slate_txn_laws.specs.Advancing.AdvanceAnswers.{IsAdvanced, NoBoundary as NotAdvanced}
use Rattle.slate_txn_laws.specs.Applying.{ApplyAnswers}
use Rattle.slate_txn_laws.specs.Applying.ApplyAnswers.{Changes, MakesNone, Refuses, Unread, NoBoundary as NotApplied}
use Rattle.slate_txn_laws.specs.Changing.{IsRefusal}
use Rattle.slate_txn_laws.specs.Changing.IsRefusal.{ByChange, ByNumber, ByRules, ByCodec}
use Rattle.slate_txn_laws.specs.Committing.{IsOver, CommitAnswers}
use Rattle.slate_txn_laws.specs.Committing.CommitAnswers.{IsCommitted, IsBehind as NotOver, NoBoundary as NotCommitted}
use Rattle.slate_txn_laws.specs.Outside.{is_outside, NotOutside, NeverOutside, RulesInside, WaysInside}
use Rattle.slate_txn_laws.specs.Reading.{ReadAnswers}
use Rattle.slate_txn_laws.specs.Reading.ReadAnswers.{NoVersion, Latest, Undecoded, NoBoundary}
use Rattle.slate_txn_laws.specs.Ready.{top_of, LeavesReady}
use Rattle.slate_txn_laws.specs.Updating.{UpdateAnswers}
use Rattle.slate_txn_laws.specs.Updating.UpdateAnswers.{IsUpdated, IsOther, IsBehind, ByNumber as LastNumber, ByRules as UpdateRules, ByCodec as UpdateCodec, NoBoundary as NotUpdated}

pub same_error : {X : Type 0} (result : Result X SlateDBError) (a b : SlateDBError) → result ≡ Err a → result ≡ Err b → is_outside a ≡ false → is_outside b ≡ false
same_error result a b e f h = let same : a ≡ b = cc in subst (λ (e : SlateDBError). is_outside e ≡ false) same h

memory_inside : (e : SlateDBError) → is_memory e ≡ true → is_outside e ≡ false
memory_inside OutOfMemory h = refl
memory_inside _ h = absurd cc

pub out_inside : {X : Type 0} (result : Result X SlateDBError) → ran_out result ≡ true → NotOutside result
out_inside (Ok x) out e same = absurd cc
out_inside (Err a) out e same = same_error (Err a) a e refl same (memory_inside a out)

pub read_inside : {T : Type 0} (decoded : List ℕ → Result T SlateDBError) (db : List ℕ) (log : LogKind) (s : Store) (result : Result (Option (ℕ × T)) SlateDBError) → NeverOutside decoded → ReadAnswers decoded db log s result → NotOutside result
read_inside decoded db log s result inside (NoVersion none is) e same = absurd cc
read_inside decoded db log s result inside (Latest n bytes value latest reads is) e same = absurd cc
read_inside decoded db log s result inside (Undecoded n bytes a latest refuses is) e same = same_error result a e is same (inside bytes a refuses)
read_inside decoded db log s result inside (NoBoundary n bytes value latest reads none is) e same = same_error result _ e is same refl

pub advance_inside : (db : List ℕ) (log : LogKind) (s : Store) (new : Told) (n : ℕ) (result : Result (Unit {0}) SlateDBError) → AdvanceAnswers db log s new n result → NotOutside result
advance_inside db log s new n result (IsAdvanced b t at told reached kept is) e same = absurd cc
advance_inside db log s new n result (NotAdvanced none is) e same = same_error result _ e is same refl

module _ {T : Type 0} (db : List ℕ) (log : LogKind) (s : Store) (new : Told) (n : ℕ) (bytes : List ℕ) (value : T) (result : Result (ℕ × T) SlateDBError) (over : IsOver n (top_of db log s)) where
  pub commit_inside : CommitAnswers db log s new n bytes value result → NotOutside result
  commit_inside (IsCommitted t told stands is) e same = absurd cc
  commit_inside (NotOver top boundary at le is) e same = let lt : top < n = subst (IsOver n) at over in absurd (omega (arith, lt, le))
  commit_inside (NotCommitted none is) e same = same_error result _ e is same refl

module _ {T C R : Type 0} (ways : MayWays T C R) (inside : WaysInside ways) (s : Store) (new : Told) (from to : Holder T C R) (result : Result (Unit {0}) SlateDBError) where
  refusal_inside : (id : ℕ) (value : T) (e : SlateDBError) → IsRefusal ways from id value e → is_outside e ≡ false
  refusal_inside id value e (ByChange at) = inside.changes id value (Err e) at e refl
  refusal_inside id value e (ByNumber last is) = subst (λ (e : SlateDBError). is_outside e ≡ false) (sym is) refl
  refusal_inside id value e (ByRules wanted made at) = inside.allows from.rules id value wanted ways.right e at
  refusal_inside id value e (ByCodec wanted made at) = inside.encodes from.sequenced.codec wanted e at

  answer_inside : ApplyAnswers ways s new from to result → NotOutside result
  answer_inside (Changes id value wanted bytes t seen change told stands held is) e same = absurd cc
  answer_inside (MakesNone id value seen none held is) e same = absurd cc
  answer_inside (Refuses id value a seen refusal is) e same = same_error result a e is same (refusal_inside id value a refusal)
  answer_inside (Unread id bytes a latest refuses is) e same = same_error result a e is same (inside.decodes from.sequenced.codec bytes a refuses)
  answer_inside (NotApplied none is) e same = same_error result _ e is same refl

  pub apply_inside : (ApplyAnswers ways s new from to result × LeavesReady from.sequenced.db from.sequenced.log new) ⊎ (ran_out result ≡ true) → NotOutside result
  apply_inside (inl ended) e same = answer_inside ended.0 e same
  apply_inside (inr out) e same = out_inside result out e same

module _ {T C R : Type 0} (refusal : R → ℕ → T → T → Right → Option SlateDBError) (encoded : C → T → Result (List ℕ) SlateDBError) (s : Store) (new : Told) (holder : Holder T C R) (dirty : DirtyObject T) (right : Right) (result : Result (Unit {0}) SlateDBError)
    (latest : top_of holder.sequenced.db holder.sequenced.log s ≡ Some holder.id) (own : dirty.id ≡ holder.id) (encodes : (codec : C) → NeverOutside (encoded codec)) (allows : RulesInside refusal) where
  value_inside : UpdateAnswers refusal encoded s new holder dirty right result → NotOutside result
  value_inside (IsUpdated bytes t number allowed at told stands is) e same = absurd cc
  value_inside (IsOther other is) e same = absurd (other own)
  value_inside (IsBehind top boundary at lt is) e same = let number : top ≡ holder.id = (let tops : Some top ≡ Some holder.id = sym at ∙ latest in cc) in absurd (omega (arith, lt, number))
  value_inside (LastNumber last is) e same = same_error result _ e is same refl
  value_inside (UpdateRules a at is) e same = same_error result a e is same (allows holder.rules holder.id holder.object dirty.value right a at)
  value_inside (UpdateCodec a at is) e same = same_error result a e is same (encodes holder.sequenced.codec dirty.value a at)
  value_inside (NotUpdated none is) e same = same_error result _ e is same refl

  pub update_inside : (UpdateAnswers refusal encoded s new holder dirty right result × LeavesReady holder.sequenced.db holder.sequenced.log new) ⊎ (ran_out result ≡ true) → NotOutside result
  update_inside (inl ended) e same = value_inside ended.0 e same
  update_inside (inr out) e same = out_inside result out e same
