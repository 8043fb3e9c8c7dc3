-- How the end of a compaction begins, and what its party holds then.
use Rattle.std.proofs.Common.{◌≡◌, ℕ, Option, Some, Result, Ok, Err, IfOk, refl, sym, ap, ◌∙◌}
use Rattle.slate_state_compactor.specs.Local.{failed, finished}
use Rattle.slate_state_compactor.specs.declared.local_state.LocalState.{LocalState}
use Rattle.slate_state_calls.specs.declared.compactor.Compactor.{Compactor}
use Rattle.slate_script_events.specs.declared.call.Call.{Call}
use Rattle.slate_script_events.specs.declared.call.Call.TheVariants as calls
use Rattle.slate_script_events.specs.declared.reply.Reply.{Reply}
use Rattle.slate_script_events.specs.declared.reply.Reply.TheVariants.{Done}
use Rattle.slate_ids.specs.declared.error.SlateDBError.{SlateDBError}
use Rattle.slate_ids.specs.declared.out_of_memory.OutOfMemory.{OutOfMemory}
use Rattle.slate_cluster_protocol.specs.Calls.{Next, Finish, with_held, end_of, made_or_none, refusal_of_end, refusal_in}
use Rattle.slate_cluster_protocol.specs.Rows.{Standing, begin, begin_unless, first_next}
use Rattle.slate_cluster_protocol.specs.declared.party.Facts.{Facts}
use Rattle.slate_cluster_steps.specs.Onward.{Ends}

abbrev at : Facts → Next → Standing
at facts next = record { facts = facts; next = next }

-- a party that holds this compactor
abbrev holding : Facts → Compactor → Facts
holding facts compactor = record facts { compactor = Some compactor }

-- by what its step makes of what the party holds
by_made : (facts : Facts) (call : Call) (last : first_next facts call ≡ Finish Done) (old new : Compactor) (made : Result LocalState SlateDBError) (r : Reply) → Ends made old new r
    → at (with_held (made_or_none made) (holding facts old)) (begin_unless (refusal_in made) facts call) ≡ at (holding facts new) (Finish r)
by_made facts call last old new (Ok local) r h =
    ap (at (with_held (made_or_none (Ok local)) (holding facts old))) (last ∙ ap (λ (x : Reply). Finish x) (sym h.0))
    ∙ ap (λ (c : Compactor). at (holding facts c) (Finish r)) (sym h.1)
by_made facts call last old new (Err e) r h =
    ap (λ (x : Reply). at (holding facts old) (Finish x)) (sym h.0)
    ∙ ap (λ (c : Compactor). at (holding facts c) (Finish r)) (sym h.1)

-- the end of a compaction of a party that holds something
end_begins : (facts : Facts) (call : Call) → first_next facts call ≡ Finish Done → (step : LocalState → Result LocalState SlateDBError) (old new : Compactor) (r : Reply) → facts.compactor ≡ Some old → Ends (step old.local) old new r
    → at (with_held (end_of step facts.compactor) facts) (begin_unless (refusal_of_end step facts.compactor) facts call) ≡ at (holding facts new) (Finish r)
end_begins facts call last step old new r there h =
    ap (λ (o : Option Compactor). at (with_held (end_of step o) (record facts { compactor = o })) (begin_unless (refusal_of_end step o) facts call)) there
    ∙ by_made facts call last old new (step old.local) r h

pub finish_begins : (facts : Facts) (id : ℕ × ℕ) (old new : Compactor) (r : Result Reply OutOfMemory) → facts.compactor ≡ Some old → IfOk r (λ x. Ends (finished id old.local) old new x)
    → IfOk r (λ x. begin facts (calls.Finish id) ≡ record { facts = record facts { compactor = Some new }; next = Finish x })
finish_begins facts id old new (Ok r) there h = end_begins facts (calls.Finish id) refl (finished id) old new r there h
finish_begins facts id old new (Err e) there h = tt

pub fail_begins : (facts : Facts) (id : ℕ × ℕ) (old new : Compactor) (r : Result Reply OutOfMemory) → facts.compactor ≡ Some old → IfOk r (λ x. Ends (failed id old.local) old new x)
    → IfOk r (λ x. begin facts (calls.Fail id) ≡ record { facts = record facts { compactor = Some new }; next = Finish x })
fail_begins facts id old new (Ok r) there h = end_begins facts (calls.Fail id) refl (failed id) old new r there h
fail_begins facts id old new (Err e) there h = tt
