-- A plain call of one store call over a store that serves it.
use Rattle.std.proofs.Common.{◌≡◌, ℤ, ◌⊎◌, inl, inr, true, Some, Result, sym, ap, ◌∙◌}
use Rattle.slate_ids.specs.Answers.{ran_out}
use Rattle.slate_ids.specs.declared.error.SlateDBError.{SlateDBError}
use Rattle.slate_store.specs.StoreCalls.{Told, moment_of}
use Rattle.slate_store.specs.Store.{Store, whole}
use Rattle.slate_store.specs.declared.store_answer.StoreAnswer.{StoreAnswer}
use Rattle.slate_store.specs.declared.store_call.StoreCall.{StoreCall}
use Rattle.slate_txn_log.specs.Once.{Once}
use Rattle.slate_txn_laws.specs.Serving.{Serves}
use Rattle.slate_txn_laws.proofs.Turns.{whole_call}

pub once_ends : {R : Type 0} (old new : Told) (call : StoreCall) (moment : ℤ) (reply : StoreAnswer → Result R SlateDBError) (s : Store) (result : Result R SlateDBError) → Once old new call moment reply result → Serves old new s
    → ((reply (whole call (moment_of call moment) s).answer ≡ result) × (new.contents ≡ Some (whole call (moment_of call moment) s).store)) ⊎ (ran_out result ≡ true)
once_ends old new call moment reply s result (inl ran) serves =
    let w = whole_call old new call (moment_of call moment) ran.answer s ran.makes serves.contents serves.calm in
    inl (ap reply (sym w.reply) ∙ ran.gives, w.contents)
once_ends old new call moment reply s result (inr out) serves = inr out.0
