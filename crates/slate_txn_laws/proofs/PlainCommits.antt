-- A holder whose codec and rules refuse a value for what it is answers no fault of the store and no fence of their making.
use Rattle.std.specs.Prelude.{◌≡◌, ◌≢◌, ◌+◌, ◌==◌, nat_lt, ℕ, Bool, true, false, List, Option, Some, None, Result, Ok, Err, if◌then◌else◌, refl}
use Rattle.std.proofs.Common.{ap, subst}
use Rattle.slate_ids.specs.Limits.{last_number}
use Rattle.slate_ids.specs.declared.error.SlateDBError.{SlateDBError}
use Rattle.slate_ids.specs.declared.error.SlateDBError.TheVariants.{Exhausted, Fenced, StoreFault, TransactionalObjectVersionExists}
use Rattle.slate_txn_log.specs.Change.{wanted, some_commit, next_epoch}
use Rattle.slate_txn_log.specs.CommitPhase.{prepared, checked_commit, encoded_commit}
use Rattle.slate_txn_log.specs.Due.{NoFault}
use Rattle.slate_txn_log.specs.Fence.{fence, unless}
use Rattle.slate_txn_log.specs.declared.commit_phase.CommitPhase.{CommitPhase}
use Rattle.slate_txn_log.specs.declared.right.Right.{Right}
use Rattle.slate_txn.specs.Apply.{FaultFree, ways_of}
use Rattle.slate_txn.specs.ApplyMoves.{NeverFaults as NoFaultsBy, ways_by}
use Rattle.slate_txn.specs.Creating.{first_commit}
use Rattle.slate_txn.specs.FencedApplying.{fenced_made, FenceFree, Unfenced}
use Rattle.slate_txn.specs.Fencing.{NoFence, NotFenced}
use Rattle.slate_txn.specs.Holder.{Holder}
use Rattle.slate_txn.specs.Raise.{this_epoch}
use Rattle.slate_txn.specs.Updating.{started}
use Rattle.slate_txn.specs.declared.stored.DirtyObject.{DirtyObject}
use Rattle.slate_txn_laws.specs.Plain.{is_plain, answers_plainly, refuses_plainly, Plainly, PlainLog, NeverFaults, NeverFences, MayNotFault, MayNotFence}

-- ---- answers

-- a plain answer isn't another refusal
pub apart : {X : Type 0} (x : SlateDBError) (r : Result X SlateDBError) → is_plain x ≡ false → Plainly r → r ≢ Err x
apart x r other h = λ same. (let both : answers_plainly r ≡ is_plain x = ap (λ (k : Result _ SlateDBError). answers_plainly k) same in absurd cc)

pub either : {X : Type 0} (b : Bool) (x y : Result X SlateDBError) → Plainly x → Plainly y → Plainly (if b then x else y)
either true x y one other = one
either false x y one other = other

-- ---- commits

bytes_so : {T : Type 0} (n : ℕ) (value : T) (bytes : Result (List ℕ) SlateDBError) → Plainly bytes → Plainly (encoded_commit n value bytes)
bytes_so n value (Ok bytes) h = refl
bytes_so n value (Err e) h = h

checked_so : {T : Type 0} (refusal : Option SlateDBError) (n : ℕ) (value : T) (bytes : Result (List ℕ) SlateDBError) → refuses_plainly refusal ≡ true → Plainly bytes → Plainly (checked_commit refusal n value bytes)
checked_so None n value bytes rules h = bytes_so n value bytes h
checked_so (Some e) n value bytes rules h = rules

prepared_so : {T C R : Type 0} (decoded : C → List ℕ → Result T SlateDBError) (encoded : C → T → Result (List ℕ) SlateDBError) (refusal : R → ℕ → T → T → Right → Option SlateDBError) → PlainLog decoded encoded refusal
    → (rules : R) (codec : C) (right : Right) (n : ℕ) (old new : T) → Plainly (prepared (refusal rules) (encoded codec) n old new right)
prepared_so decoded encoded refusal log rules codec right n old new = either (n == last_number) (Err (Exhausted n)) _ refl (checked_so (refusal rules n old new right) (n + 1) new (encoded codec new) (log.refuses rules n old new right) (log.encodes codec new))

some_so : {T : Type 0} (r : Result (CommitPhase T) SlateDBError) → Plainly r → Plainly (some_commit r)
some_so (Ok commit) h = refl
some_so (Err e) h = h

-- what is made of a version and isn't this refusal, is committed without it
wanted_apart : {T : Type 0} (x : SlateDBError) → is_plain x ≡ false → (prepare : T → Result (CommitPhase T) SlateDBError) → ((new : T) → Plainly (prepare new)) → (changed : Result (Option T) SlateDBError) → changed ≢ Err x → wanted prepare changed ≢ Err x
wanted_apart x other prepare plainly (Err e) h = λ same. h (let both : e ≡ x = cc in ap (λ (k : SlateDBError). Err k) both)
wanted_apart x other prepare plainly (Ok None) h = λ same. absurd cc
wanted_apart x other prepare plainly (Ok (Some new)) h = apart x _ other (some_so _ (plainly new))

-- ---- calls

-- bytes are never refused by a fault
pub decoding_fine : {T C R : Type 0} (decoded : C → List ℕ → Result T SlateDBError) (encoded : C → T → Result (List ℕ) SlateDBError) (refusal : R → ℕ → T → T → Right → Option SlateDBError) → PlainLog decoded encoded refusal → (codec : C) → NoFault (decoded codec)
decoding_fine decoded encoded refusal log codec bytes = apart StoreFault _ refl (log.decodes codec bytes)

-- nor by a fence
pub decoding_free : {T C R : Type 0} (decoded : C → List ℕ → Result T SlateDBError) (encoded : C → T → Result (List ℕ) SlateDBError) (refusal : R → ℕ → T → T → Right → Option SlateDBError) → PlainLog decoded encoded refusal → (codec : C) → NoFence (decoded codec)
decoding_free decoded encoded refusal log codec bytes own read = apart (Fenced own read) _ refl (log.decodes codec bytes)

-- a holder is free of faults where what it commits is
pub ways_fine : {T C R : Type 0} (decoded : C → List ℕ → Result T SlateDBError) (encoded : C → T → Result (List ℕ) SlateDBError) (refusal : R → ℕ → T → T → Right → Option SlateDBError) → PlainLog decoded encoded refusal
    → (changed : ℕ → T → Result (Option T) SlateDBError) (right : Right) → NeverFaults changed → FaultFree (ways_of decoded encoded refusal changed right)
ways_fine decoded encoded refusal log changed right fine = record {
  decodes = decoding_fine decoded encoded refusal log;
  renewal = λ holder id value. wanted_apart StoreFault refl _ (prepared_so decoded encoded refusal log holder.rules holder.sequenced.codec right id value) (changed id value) (fine id value);
}

-- and of fences
pub ways_free : {T C R : Type 0} (decoded : C → List ℕ → Result T SlateDBError) (encoded : C → T → Result (List ℕ) SlateDBError) (refusal : R → ℕ → T → T → Right → Option SlateDBError) → PlainLog decoded encoded refusal
    → (changed : ℕ → T → Result (Option T) SlateDBError) (right : Right) → NeverFences changed → FenceFree (ways_of decoded encoded refusal changed right)
ways_free decoded encoded refusal log changed right free = record {
  decodes = decoding_free decoded encoded refusal log;
  renewal = λ holder id value own read. wanted_apart (Fenced own read) refl _ (prepared_so decoded encoded refusal log holder.rules holder.sequenced.codec right id value) (changed id value) (free id value own read);
}

-- the same of a function that may answer differently each time
pub any_fine : {T C R : Type 0} (decoded : C → List ℕ → Result T SlateDBError) (encoded : C → T → Result (List ℕ) SlateDBError) (refusal : R → ℕ → T → T → Right → Option SlateDBError) → PlainLog decoded encoded refusal
    → (may : ℕ → T → Result (Option T) SlateDBError → Type 0) (right : Right) → MayNotFault may → NoFaultsBy (ways_by decoded encoded refusal may right)
any_fine {T = T} decoded encoded refusal log may right fine = record {
  decodes = decoding_fine decoded encoded refusal log;
  renewal = λ holder id value start by. subst (λ (s : Result (Option (CommitPhase T)) SlateDBError). s ≢ Err StoreFault) by.commits
      (wanted_apart StoreFault refl _ (prepared_so decoded encoded refusal log holder.rules holder.sequenced.codec right id value) by.reply (fine id value by.reply by.given));
}

pub any_free : {T C R : Type 0} (decoded : C → List ℕ → Result T SlateDBError) (encoded : C → T → Result (List ℕ) SlateDBError) (refusal : R → ℕ → T → T → Right → Option SlateDBError) → PlainLog decoded encoded refusal
    → (may : ℕ → T → Result (Option T) SlateDBError → Type 0) (right : Right) → MayNotFence may → Unfenced (ways_by decoded encoded refusal may right)
any_free {T = T} decoded encoded refusal log may right free = record {
  decodes = decoding_free decoded encoded refusal log;
  renewal = λ holder id value start by own read. subst (λ (s : Result (Option (CommitPhase T)) SlateDBError). s ≢ Err (Fenced own read)) by.commits
      (wanted_apart (Fenced own read) refl _ (prepared_so decoded encoded refusal log holder.rules holder.sequenced.codec right id value) by.reply (free id value by.reply by.given own read));
}

other_apart : {X : Type 0} (x : SlateDBError) (b : Bool) (r : Result X SlateDBError) (e : SlateDBError) → r ≢ Err x → e ≢ x → (if b then r else Err e) ≢ Err x
other_apart x true r e one other = one
other_apart x false r e one other = λ same. other cc

-- an update that was started is refused by no fault
pub started_fine : {T C R : Type 0} (decoded : C → List ℕ → Result T SlateDBError) (encoded : C → T → Result (List ℕ) SlateDBError) (refusal : R → ℕ → T → T → Right → Option SlateDBError) → PlainLog decoded encoded refusal
    → (holder : Holder T C R) (dirty : DirtyObject T) (right : Right) → started refusal encoded holder dirty right ≢ Err StoreFault
started_fine decoded encoded refusal log holder dirty right = other_apart StoreFault (dirty.id == holder.id) _ (TransactionalObjectVersionExists dirty.id None)
    (apart StoreFault _ refl (prepared_so decoded encoded refusal log holder.rules holder.sequenced.codec right holder.id holder.object dirty.value)) (λ same. absurd cc)

-- nor by a fence
pub started_free : {T C R : Type 0} (decoded : C → List ℕ → Result T SlateDBError) (encoded : C → T → Result (List ℕ) SlateDBError) (refusal : R → ℕ → T → T → Right → Option SlateDBError) → PlainLog decoded encoded refusal
    → (holder : Holder T C R) (dirty : DirtyObject T) (right : Right) → NotFenced (started refusal encoded holder dirty right)
started_free decoded encoded refusal log holder dirty right own read = other_apart (Fenced own read) (dirty.id == holder.id) _ (TransactionalObjectVersionExists dirty.id None)
    (apart (Fenced own read) _ refl (prepared_so decoded encoded refusal log holder.rules holder.sequenced.codec right holder.id holder.object dirty.value)) (λ same. absurd cc)

-- the commit of a first version
pub first_so : {T : Type 0} (encoded : T → Result (List ℕ) SlateDBError) (value : T) → Plainly (encoded value) → Plainly (first_commit encoded value)
first_so encoded value h = bytes_so 1 value (encoded value) h

-- ---- epochs

raised_so : {T : Type 0} (b : Bool) (n : ℕ) (new : T) → Plainly {X = Option T} (if b then Err (Exhausted n) else Ok (Some new))
raised_so b n new = either b (Err (Exhausted n)) (Ok (Some new)) refl refl

-- a raise of an epoch
pub raise_so : {T : Type 0} (epoch : T → ℕ) (with_epoch : T → ℕ → T) (n : ℕ) (value : T) → Plainly (next_epoch epoch with_epoch n value)
raise_so epoch with_epoch n value = raised_so _ _ _

unless_fine : {X : Type 0} (refusal : Option SlateDBError) (r : Result X SlateDBError) → refusal ≢ Some StoreFault → r ≢ Err StoreFault → unless refusal r ≢ Err StoreFault
unless_fine (Some e) r h fine = λ same. h (let both : e ≡ StoreFault = cc in ap (λ (k : SlateDBError). Some k) both)
unless_fine None r h fine = fine

fence_fine : (b : Bool) (own read : ℕ) → (if b then Some (Fenced own read) else None) ≢ Some StoreFault
fence_fine true own read = λ same. absurd cc
fence_fine false own read = λ same. absurd cc

-- what is made unless a fence refuses it
pub fenced_fine : {T E : Type 0} (epoch : E → T → ℕ) (epochs : E) (own : ℕ) (changed : ℕ → T → Result (Option T) SlateDBError) → NeverFaults changed → NeverFaults (fenced_made epoch epochs own changed)
fenced_fine epoch epochs own changed fine n value = unless_fine (fence own (epoch epochs value)) (changed n value) (fence_fine (nat_lt own (epoch epochs value)) own (epoch epochs value)) (fine n value)

-- a given epoch
pub given_fine : {T : Type 0} (with_epoch : T → ℕ → T) (own : ℕ) → NeverFaults (this_epoch with_epoch own)
given_fine with_epoch own n value = λ same. absurd cc

pub given_free : {T : Type 0} (with_epoch : T → ℕ → T) (own : ℕ) → NeverFences (this_epoch with_epoch own)
given_free with_epoch own n value other read = λ same. absurd cc
