-- A row that goes on as a machine makes the machine's calls, and ends as it does.
use Rattle.std.proofs.Common.{◌≡◌, ℤ, List, [], ◌∷◌, refl, sym, ap, ◌∙◌}
use Rattle.slate_script_events.specs.declared.call.Call.{Call}
use Rattle.slate_cluster_protocol.specs.Passes.{calls_made}
use Rattle.slate_cluster_protocol.specs.Rows.{Standing, after_answers, goes_to, moved}
use Rattle.slate_cluster_protocol.specs.Works.{asks as work_asks}
use Rattle.slate_cluster_protocol.specs.declared.party.Facts.{Facts}
use Rattle.slate_cluster_protocol.specs.declared.work.Work.{Work}
use Rattle.slate_store.specs.Machines.{Goes, Stay, End}
use Rattle.slate_store.specs.declared.made.Made.{Made}
use Rattle.slate_store.specs.declared.store_answer.StoreAnswer.{StoreAnswer}
use Rattle.slate_store.specs.declared.store_call.StoreCall.{StoreCall}
use Rattle.slate_txn_changes.proofs.Turned.{Along}
use Rattle.slate_cluster_twins.specs.Twins.{answers_at}

-- of a call whose work at each phase goes on as a machine does; what is known of its party may hang on the phase
module _ {P R : Type 0} (asks : P → StoreCall) (goes : P → StoreAnswer → Goes P R) (call : Call) (moment : ℤ) (facts : P → Facts) (work : P → Work) (on : Goes P R → Standing)
    (asked : (p : P) → work_asks (work p) ≡ asks p) (goes_on : (p : P) (a : StoreAnswer) → moved (facts p) call (work p) moment a ≡ on (goes p a)) (stays : (p : P) → on (Stay p) ≡ goes_to (facts p) (work p)) where
  -- its calls
  pub row_calls : (ms : List Made) (g out : Goes P R) → Along asks goes g ms out → calls_made call (on g) (answers_at moment ms) ≡ ms
  row_calls [] g out h = refl
  row_calls (m ∷ ms) (Stay p) out h =
      ap (λ (st : Standing). calls_made call st (answers_at moment (m ∷ ms))) (stays p)
      ∙ (ap (λ (st : Standing). record { call = work_asks (work p); answer = m.answer } ∷ calls_made call st (answers_at moment ms)) (goes_on p m.answer)
      ∙ (ap (λ (rest : List Made). record { call = work_asks (work p); answer = m.answer } ∷ rest) (row_calls ms (goes p m.answer) out h.1)
      ∙ ap (λ (asked : StoreCall). record { call = asked; answer = m.answer } ∷ ms) (asked p ∙ sym h.0)))
  row_calls (m ∷ ms) (End p r) out h = absurd h

  -- its end
  pub row_ends : (ms : List Made) (g out : Goes P R) → Along asks goes g ms out → after_answers call (on g) (answers_at moment ms) ≡ on out
  row_ends [] g out h = ap on h
  row_ends (m ∷ ms) (Stay p) out h =
      ap (λ (st : Standing). after_answers call st (answers_at moment (m ∷ ms))) (stays p)
      ∙ (ap (λ (st : Standing). after_answers call st (answers_at moment ms)) (goes_on p m.answer) ∙ row_ends ms (goes p m.answer) out h.1)
  row_ends (m ∷ ms) (End p r) out h = absurd h
