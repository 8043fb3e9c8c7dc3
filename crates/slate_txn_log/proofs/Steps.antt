-- From how a machine goes on to what its step does.
use Rattle.std.specs.Prelude.{◌≡◌, ℕ, ℤ, true, List, Option, Some, None, refl}
use Rattle.std.proofs.Common.{inl, inr, subst, ◌∙◌}
use Rattle.slate_ids.specs.Answers.{OrMemory-map}
use Rattle.slate_store.specs.Store.{Store}
use Rattle.slate_store.specs.StoreCalls.{Told, Makes, contents_after, moment_of}
pub use Rattle.slate_store.specs.StoreCalls.{is_reading}
use Rattle.slate_store.specs.Machines.{Goes, Held, Steps, GoesOn}
use Rattle.slate_txn_log.specs.Due.{WhereOut}
use Rattle.slate_txn_log.specs.ReadPhase.{read_asks}
use Rattle.slate_txn_log.specs.declared.log_kind.LogKind.{LogKind}
use Rattle.slate_txn_log.specs.declared.read_phase.ReadPhase.{ReadPhase}
use Rattle.slate_txn_log.specs.declared.read_phase.ReadPhase.TheVariants.{Listing, Getting, Bounding, Over}
use Rattle.slate_store.specs.declared.mark.Mark.{Mark}
use Rattle.slate_store.specs.declared.mark.Mark.TheVariants.{Good, Fail, Lost}
use Rattle.slate_store.specs.declared.step.Step.{Step}
use Rattle.slate_store.specs.declared.step.Step.TheVariants.{Again, Done}
use Rattle.slate_store.specs.declared.store_answer.StoreAnswer.{StoreAnswer}
use Rattle.slate_store.specs.declared.store_call.StoreCall.{StoreCall}
use Rattle.slate_store.specs.declared.store_call.StoreCall.TheVariants.{List as ListCall, Get, PutNew, Replace, Put, Delete}

contents_keep : (mark : Mark) (call : StoreCall) (moment : ℤ) (s : Option Store) → is_reading call ≡ true → contents_after mark call moment s ≡ s
contents_keep mark call moment None h = refl
contents_keep Good (ListCall dir) moment (Some s) h = refl
contents_keep Fail (ListCall dir) moment (Some s) h = refl
contents_keep Lost (ListCall dir) moment (Some s) h = refl
contents_keep Good (Get path) moment (Some s) h = refl
contents_keep Fail (Get path) moment (Some s) h = refl
contents_keep Lost (Get path) moment (Some s) h = refl
contents_keep mark (PutNew path bytes) moment (Some s) h = absurd cc
contents_keep mark (Replace path tag bytes) moment (Some s) h = absurd cc
contents_keep mark (Put path bytes) moment (Some s) h = absurd cc
contents_keep mark (Delete path) moment (Some s) h = absurd cc

-- a list or a get leaves the contents as they were
pub reads_keep : {old new : Told} {call : StoreCall} {moment : ℤ} {answer : StoreAnswer} → is_reading call ≡ true → Makes old new call moment answer → new.contents ≡ old.contents
reads_keep {old = old} {call = call} {moment = moment} reading makes = makes.contents ∙ contents_keep makes.mark call moment old.contents reading

-- a call that reads, and a machine that goes on from its answer unless memory runs out, are a step
pub goes_steps : {P R : Type 0} {old new : Told} {call : StoreCall} {answer : StoreAnswer} (wanted : StoreCall) (moment : ℤ) (goes : StoreAnswer → Goes P R) (from to : P)
    → call ≡ wanted → is_reading wanted ≡ true → Makes old new call (moment_of call moment) answer → (step : Step R) → GoesOn (goes answer) from to step → Steps old new wanted moment goes from to step
goes_steps {old = old} {new = new} {answer = answer} wanted moment goes from to same reading makes Again h =
    record { answer = answer; makes = subst (λ (c : StoreCall). Makes old new c (moment_of c moment) answer) same makes; gives = h }
goes_steps {old = old} {new = new} {answer = answer} wanted moment goes from to same reading makes (Done r) h =
    let here : Makes old new wanted (moment_of wanted moment) answer = subst (λ (c : StoreCall). Makes old new c (moment_of c moment) answer) same makes in
    OrMemory-map r (λ kept. record { kept = kept; made = record { contents = reads_keep reading here; calls = inr (answer, here) } }) (λ gives. record { answer = answer; makes = here; gives = gives }) h

-- and where memory ran out it held
pub goes_held : {P R : Type 0} {old new : Told} {call : StoreCall} {answer : StoreAnswer} (wanted : StoreCall) (moment : ℤ) (from to : P)
    → call ≡ wanted → is_reading wanted ≡ true → Makes old new call (moment_of call moment) answer → (step : Step R) → WhereOut step (to ≡ from) → WhereOut step (Held old new wanted moment from to)
goes_held wanted moment from to same reading makes Again h = tt
goes_held {old = old} {new = new} {answer = answer} wanted moment from to same reading makes (Done r) h = λ out.
    let here : Makes old new wanted (moment_of wanted moment) answer = subst (λ (c : StoreCall). Makes old new c (moment_of c moment) answer) same makes in
    record { kept = h out; made = record { contents = reads_keep reading here; calls = inr (answer, here) } }

-- the same of a machine that runs out of memory only after a call that reads
pub steps_where : {P R : Type 0} {old new : Told} {call : StoreCall} {answer : StoreAnswer} (wanted : StoreCall) (moment : ℤ) (goes : StoreAnswer → Goes P R) (from to : P)
    → call ≡ wanted → Makes old new call (moment_of call moment) answer → (step : Step R) → GoesOn (goes answer) from to step → WhereOut step (is_reading wanted ≡ true) → Steps old new wanted moment goes from to step
steps_where {old = old} {new = new} {answer = answer} wanted moment goes from to same makes Again h reading =
    record { answer = answer; makes = subst (λ (c : StoreCall). Makes old new c (moment_of c moment) answer) same makes; gives = h }
steps_where {old = old} {new = new} {answer = answer} wanted moment goes from to same makes (Done r) (inl gives) reading =
    inl (record { answer = answer; makes = subst (λ (c : StoreCall). Makes old new c (moment_of c moment) answer) same makes; gives = gives })
steps_where {old = old} {new = new} {answer = answer} wanted moment goes from to same makes (Done r) (inr m) reading =
    let here : Makes old new wanted (moment_of wanted moment) answer = subst (λ (c : StoreCall). Makes old new c (moment_of c moment) answer) same makes in
    inr (m.0, record { kept = m.1; made = record { contents = reads_keep (reading m.0) here; calls = inr (answer, here) } })

-- a read makes only lists and gets
pub reads_only : {T : Type 0} (db : List ℕ) (log : LogKind) (phase : ReadPhase T) → is_reading (read_asks db log phase) ≡ true
reads_only db log Listing = refl
reads_only db log (Getting n) = refl
reads_only db log (Bounding n value) = refl
reads_only db log Over = refl
