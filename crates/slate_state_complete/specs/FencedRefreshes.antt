-- How a refresh of a fenced holder ends.
use Rattle.std.specs.Prelude.{◌≡◌, ◌⊎◌, ℕ, true, List, Option, Result}
use Rattle.slate_ids.specs.Answers.{ran_out}
use Rattle.slate_ids.specs.declared.error.SlateDBError.{SlateDBError}
use Rattle.slate_store.specs.StoreCalls.{Told}
use Rattle.slate_store.specs.Store.{Store}
use Rattle.slate_txn.specs.FencedHolder.{FencedHolder}
use Rattle.slate_txn.specs.FencedRefreshing.{fence_after, FencedRefreshed}
use Rattle.slate_txn.specs.Fencing.{held_fence}
use Rattle.slate_txn.specs.Refreshing.{held_after, refreshed}
use Rattle.slate_txn_laws.specs.Reading.{ReadAnswers}

-- the refreshes from a fenced holder to a fenced holder
abbrev pub FencedRefreshesOf : {T C R E : Type 0} → (C → List ℕ → Result T SlateDBError) → (E → T → ℕ) → ℕ → FencedHolder T C R E → FencedHolder T C R E
    → Told → Told → Result (Unit {0}) SlateDBError → Type 0
FencedRefreshesOf decoded epoch tries from to old new result = FencedRefreshed decoded epoch tries old new from to result

-- the version that was read is held, the own epoch stays, and it is answered by the read and then by the fence of what is held; or memory ran out
abbrev pub FencedRefreshEnds : {T C R E : Type 0} → (C → List ℕ → Result T SlateDBError) → (E → T → ℕ) → FencedHolder T C R E → FencedHolder T C R E
    → Store → Told → Result (Unit {0}) SlateDBError → Type 0
FencedRefreshEnds {T} decoded epoch from to s new result =
    ((reply : Result (Option (ℕ × T)) SlateDBError)
    × ReadAnswers (decoded from.holder.sequenced.codec) from.holder.sequenced.db from.holder.sequenced.log s reply
    × (to ≡ record from { holder = held_after from.holder reply })
    × (fence_after (held_fence epoch to) (refreshed reply) ≡ result)) ⊎ (ran_out result ≡ true)
