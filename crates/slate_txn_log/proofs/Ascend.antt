-- Versions put in their places ascend.
use Rattle.std.proofs.Common.{suc, ◌≡◌, ◌≤◌, ℕ, ◌+◌, Bool, true, false, List, [], ◌∷◌, Option, Some, None, Ok, refl, arith, ap, sym, subst, ◌∙◌, inl, inr}
use Rattle.std.specs.Prelude.{nat_le, ℤ, if◌then◌else◌}
use Rattle.std.specs.List.{insert}
use Rattle.std.proofs.lemmas.Bool.Decides.{nat_tests}
use Rattle.slate_ids.specs.Ranges.{is_within}
use Rattle.slate_ids.specs.declared.number_range.NumberRange.{NumberRange}
use Rattle.slate_store.specs.declared.object.ObjectMetadata.{ObjectMetadata}
use Rattle.slate_store.specs.declared.store_answer.StoreAnswer.{StoreAnswer}
use Rattle.slate_store.specs.declared.store_answer.StoreAnswer.TheVariants.{Found, Got, Created, Replaced, Written, Deleted, Fault}
use Rattle.slate_store.specs.StoreCalls.{Told}
use Rattle.slate_store.specs.declared.store_call.StoreCall.{StoreCall}
use Rattle.slate_txn_log.specs.Once.{Once}
use Rattle.slate_txn_log.specs.LogPaths.{number_of}
use Rattle.slate_txn_log.specs.Versions.{Version, place, put_in, kept_with, versions_from, versions_in, list_reply, AtMostAll, Ascending, Within}
use Rattle.slate_txn_log.specs.declared.log_kind.LogKind.{LogKind}

insert_later : (w v : Version) (ws : List Version) (k : ℕ) → insert (w ∷ ws) (k + 1) v ≡ w ∷ insert ws k v
insert_later w v ws k = let e : k + 1 ≡ suc k = omega arith in subst (λ (j : ℕ). insert (w ∷ ws) j v ≡ w ∷ insert ws k v) (sym e) refl

placed_if : (b : Bool) (w v : Version) (ws : List Version) → insert ws (place v.0 ws) v ≡ put_in v ws → insert (w ∷ ws) (if b then place v.0 ws + 1 else 0) v ≡ (if b then w ∷ put_in v ws else v ∷ w ∷ ws)
placed_if true w v ws h = insert_later w v ws (place v.0 ws) ∙ ap (λ (vs : List Version). w ∷ vs) h
placed_if false w v ws h = refl

-- to insert at the place is to put in
pub placed : (v : Version) (ws : List Version) → insert ws (place v.0 ws) v ≡ put_in v ws
placed v [] = refl
placed v (w ∷ ws) = placed_if (nat_le w.0 v.0) w v ws (placed v ws)

below_all : (m n : ℕ) (ws : List Version) → m ≤ n → AtMostAll n ws → AtMostAll m ws
below_all m n [] h all = tt
below_all m n (w ∷ ws) h all = (omega (arith, h, all.0), below_all m n ws h all.1)

at_most_if : (b : Bool) (n : ℕ) (w v : Version) (ws : List Version) → n ≤ v.0 → AtMostAll n (put_in v ws) → AtMostAll n (w ∷ ws) → AtMostAll n (if b then w ∷ put_in v ws else v ∷ w ∷ ws)
at_most_if true n w v ws h rest all = (all.0, rest)
at_most_if false n w v ws h rest all = (h, all)

at_most_put : (n : ℕ) (v : Version) (ws : List Version) → n ≤ v.0 → AtMostAll n ws → AtMostAll n (put_in v ws)
at_most_put n v [] h all = (h, tt)
at_most_put n v (w ∷ ws) h all = at_most_if (nat_le w.0 v.0) n w v ws h (at_most_put n v ws h all.1) all

le_of : (m n : ℕ) → nat_le m n ≡ true → m ≤ n
le_of m n h = grind (arith, nat_tests)

gt_of : (m n : ℕ) → nat_le m n ≡ false → n ≤ m
gt_of m n h = grind (arith, nat_tests)

ascend_if : (b : Bool) (w v : Version) (ws : List Version) → nat_le w.0 v.0 ≡ b → Ascending (put_in v ws) → Ascending (w ∷ ws) → Ascending (if b then w ∷ put_in v ws else v ∷ w ∷ ws)
ascend_if true w v ws e rest all = (at_most_put w.0 v ws (le_of w.0 v.0 e) all.0, rest)
ascend_if false w v ws e rest all = ((gt_of w.0 v.0 e, below_all v.0 w.0 ws (gt_of w.0 v.0 e) all.0), all)

ascend_put : (v : Version) (ws : List Version) → Ascending ws → Ascending (put_in v ws)
ascend_put v [] all = (tt, tt)
ascend_put v (w ∷ ws) all = ascend_if (nat_le w.0 v.0) w v ws refl (ascend_put v ws all.1) all

within_if : (b : Bool) (r : NumberRange) (w v : Version) (ws : List Version) → is_within r v.0 ≡ true → Within r (put_in v ws) → Within r (w ∷ ws) → Within r (if b then w ∷ put_in v ws else v ∷ w ∷ ws)
within_if true r w v ws h rest all = (all.0, rest)
within_if false r w v ws h rest all = (h, all)

within_put : (r : NumberRange) (v : Version) (ws : List Version) → is_within r v.0 ≡ true → Within r ws → Within r (put_in v ws)
within_put r v [] h all = (h, tt)
within_put r v (w ∷ ws) h all = within_if (nat_le w.0 v.0) r w v ws h (within_put r v ws h all.1) all

-- the two facts of a list
pub record Listing (r : NumberRange) (ws : List Version) : Type 0 where
  pub ascending : Ascending ws
  pub within : Within r ws

with_if : (b : Bool) (r : NumberRange) (ws : List Version) (m : ObjectMetadata) (n : ℕ) → is_within r n ≡ b → Listing r ws → Listing r (if b then put_in (n, m) ws else ws)
with_if true r ws m n e h = record { ascending = ascend_put (n, m) ws h.ascending; within = within_put r (n, m) ws e h.within }
with_if false r ws m n e h = h

-- and with one object more
pub with_one : (r : NumberRange) (ws : List Version) (m : ObjectMetadata) (n : Option ℕ) → Listing r ws → Listing r (kept_with r ws m n)
with_one r ws m None h = h
with_one r ws m (Some n) h = with_if (is_within r n) r ws m n refl h

with_all : (log : LogKind) (r : NumberRange) (ws : List Version) (ms : List ObjectMetadata) → Listing r ws → Listing r (versions_from log r ws ms)
with_all log r ws [] h = h
with_all log r ws (m ∷ ms) h = with_all log r (kept_with r ws m (number_of log m.location)) ms (with_one r ws m (number_of log m.location) h)

-- what a list replies has them
pub replies : (log : LogKind) (r : NumberRange) (answer : StoreAnswer) (ws : List Version) → list_reply log r answer ≡ Ok ws → Listing r ws
replies log r (Found found) ws h = let same : versions_in log r found ≡ ws = cc in subst (λ (vs : List Version). Listing r vs) same (with_all log r [] found (record { ascending = tt; within = tt }))
replies log r _ ws h = absurd cc

-- and so has what the call answers
pub once_lists : {old new : Told} {call : StoreCall} {moment : ℤ} (log : LogKind) (r : NumberRange) (ws : List Version) → Once old new call moment (list_reply log r) (Ok ws) → Listing r ws
once_lists log r ws (inl replied) = replies log r replied.answer ws replied.gives
once_lists log r ws (inr m) = absurd (let out : false ≡ true = m.0 in cc)
