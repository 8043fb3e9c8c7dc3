-- Reads of a log of a database.
use Rattle.std.proofs.Common.{◌≡◌, ℕ, ◌⊎◌, inl, inr, true, Option, Some, None, Result, Ok, Err, refl, subst}
use Rattle.std.specs.Prelude.{pos, List, false}
use Rattle.slate_ids.specs.Answers.{ran_out}
use Rattle.slate_ids.specs.declared.error.SlateDBError.{SlateDBError}
use Rattle.slate_ids.specs.declared.error.SlateDBError.TheVariants.{LatestTransactionalObjectVersionMissing}
use Rattle.slate_store.specs.StoreCalls.{Told}
use Rattle.slate_store.specs.Store.{object_at, Store}
use Rattle.slate_store.specs.declared.object.StoredObject.{StoredObject}
use Rattle.slate_store.specs.declared.store_call.StoreCall.TheVariants.{Get}
use Rattle.slate_txn_log.specs.LogPaths.{version_path}
use Rattle.slate_txn_log.specs.Once.{Once}
use Rattle.slate_txn_log.specs.TryRead.{some_value, try_reply, value_got}
use Rattle.slate_txn_log.specs.declared.sequenced.Sequenced.{Sequenced}
use Rattle.slate_txn_laws.specs.Outside.{is_outside, NotOutside}
use Rattle.slate_txn_laws.specs.Serving.{Serves}
use Rattle.slate_txn_laws.proofs.Inside.{out_inside, same_error}
use Rattle.slate_txn_laws.proofs.OneCalls.{once_ends}
use Rattle.slate_txn_laws.proofs.PlainInside.{decodes_inside}
use Rattle.slate_txn_log.specs.declared.right.Right.{Right}
use Rattle.slate_txn_laws.specs.Plain.{PlainLog}
use Rattle.slate_txn_laws.specs.Replies.{latest, latest_or_none, present}

pub latest_keeps : {T V : Type 0} (version : ℕ × T → V) (reply : Result (Option (ℕ × T)) SlateDBError) → NotOutside reply → NotOutside (latest version reply)
latest_keeps {V = V} version (Ok (Some v)) inside e same = absurd cc
latest_keeps {V = V} version (Ok None) inside e same = same_error {X = V} (Err LatestTransactionalObjectVersionMissing) LatestTransactionalObjectVersionMissing e refl same refl
latest_keeps {V = V} version (Err a) inside e same = same_error {X = V} (Err a) a e refl same (inside a refl)

pub or_none_keeps : {T V : Type 0} (version : ℕ × T → V) (reply : Result (Option (ℕ × T)) SlateDBError) → NotOutside reply → NotOutside (latest_or_none version reply)
or_none_keeps {V = V} version (Ok (Some v)) inside e same = absurd cc
or_none_keeps {V = V} version (Ok None) inside e same = absurd cc
or_none_keeps {V = V} version (Err a) inside e same = same_error {X = Option V} (Err a) a e refl same (inside a refl)

-- ---- one version

module _ {T C R : Type 0} (decoded : C → List ℕ → Result T SlateDBError) (encoded : C → T → Result (List ℕ) SlateDBError) (refusal : R → ℕ → T → T → Right → Option SlateDBError) (plain : PlainLog decoded encoded refusal) (missing : ℕ → SlateDBError) (fine : (n : ℕ) → is_outside (missing n) ≡ false) where
  some_inside : (r : Result T SlateDBError) → NotOutside r → NotOutside (some_value r)
  some_inside (Ok m) inside e same = absurd cc
  some_inside (Err a) inside e same = same_error {X = Option T} (Err a) a e refl same (inside a refl)

  got_inside : (codec : C) (object : Option StoredObject) → NotOutside (value_got (decoded codec) object)
  got_inside codec None e same = absurd cc
  got_inside codec (Some object) e same = some_inside (decoded codec object.bytes) (decodes_inside decoded encoded refusal plain codec object.bytes) e same

  present_inside : (n : ℕ) (reply : Result (Option T) SlateDBError) → NotOutside reply → NotOutside (present missing n reply)
  present_inside n (Ok (Some m)) inside e same = absurd cc
  present_inside n (Ok None) inside e same = same_error {X = T} (Err (missing n)) (missing n) e refl same (fine n)
  present_inside n (Err a) inside e same = same_error {X = T} (Err a) a e refl same (inside a refl)

  module _ (sequenced : Sequenced T C) (n : ℕ) (old new : Told) (s : Store) where
    abbrev there : Option StoredObject
    there = object_at (version_path sequenced.log sequenced.db n) s

    pub tried : (result : Result (Option T) SlateDBError) → Once old new (Get (version_path sequenced.log sequenced.db n)) (pos 0) (try_reply (decoded sequenced.codec)) result → Serves old new s
        → ((value_got (decoded sequenced.codec) there ≡ result) × (new.contents ≡ Some s)) ⊎ (ran_out result ≡ true)
    tried result once serves = once_ends old new (Get (version_path sequenced.log sequenced.db n)) (pos 0) (try_reply (decoded sequenced.codec)) s result once serves

    pub needed : (result : Result T SlateDBError) → Once old new (Get (version_path sequenced.log sequenced.db n)) (pos 0) (λ answer. present missing n (try_reply (decoded sequenced.codec) answer)) result → Serves old new s
        → ((present missing n (value_got (decoded sequenced.codec) there) ≡ result) × (new.contents ≡ Some s)) ⊎ (ran_out result ≡ true)
    needed result once serves = once_ends old new (Get (version_path sequenced.log sequenced.db n)) (pos 0) (λ answer. present missing n (try_reply (decoded sequenced.codec) answer)) s result once serves

    pub tried_inside : (result : Result (Option T) SlateDBError) → ((value_got (decoded sequenced.codec) there ≡ result) × (new.contents ≡ Some s)) ⊎ (ran_out result ≡ true) → NotOutside result
    tried_inside result (inl got) = subst (λ (r : Result (Option T) SlateDBError). NotOutside r) got.0 (got_inside sequenced.codec there)
    tried_inside result (inr out) = out_inside result out

    pub needed_inside : (result : Result T SlateDBError) → ((present missing n (value_got (decoded sequenced.codec) there) ≡ result) × (new.contents ≡ Some s)) ⊎ (ran_out result ≡ true) → NotOutside result
    needed_inside result (inl got) = subst (λ (r : Result T SlateDBError). NotOutside r) got.0 (present_inside n (value_got (decoded sequenced.codec) there) (got_inside sequenced.codec there))
    needed_inside result (inr out) = out_inside result out
