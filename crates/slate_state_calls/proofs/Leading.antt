-- What follows a change that was made at once.
use Rattle.std.specs.Prelude.{◌≡◌, ◌<◌, ℕ, Bool, true, false, Result, Ok, Err, Option, Some, None}
use Rattle.std.proofs.Common.{◌⊎◌, inl, inr, ap, sym, subst, ◌∙◌}
use Rattle.slate_state_calls.specs.Commits.{ManifestChanging, RecordChanging}
use Rattle.slate_state_calls.specs.StateSteps.{Leads, StateGoes, merges, onward, records, refuses, state_due, state_rank}
use Rattle.slate_state_calls.specs.declared.compactor.Compactor.{Compactor}
use Rattle.slate_state_calls.specs.declared.state_phase.ManifestStep.TheVariants.{Merge}
use Rattle.slate_state_calls.specs.declared.state_phase.RecordStep.TheVariants.{Record}
use Rattle.slate_state_calls.specs.declared.state_phase.StatePhase.TheVariants.{OnManifest, OnRecord}
use Rattle.slate_state_calls.specs.declared.state_phase.StatePhase.{StatePhase}
use Rattle.slate_state_calls.specs.declared.state_start.TreesWrite.{TreesWrite}
use Rattle.slate_ids.specs.Answers.{Gives, is_memory}
use Rattle.slate_ids.specs.declared.error.SlateDBError.{SlateDBError}

pub records_lead : (write : Option TreesWrite) (c : Compactor) (p : RecordChanging) (put : Result RecordChanging SlateDBError) → Gives (Ok p) put → records write c put ≡ onward c (Some (OnRecord (Record write) p))
records_lead write c p put (inl same) = ap (records write c) same
records_lead write c p put (inr out) = absurd cc

pub records_refuse : (write : Option TreesWrite) (c : Compactor) (e : SlateDBError) (put : Result RecordChanging SlateDBError) → Gives (Err e) put → (records write c put ≡ refuses c e) ⊎ (is_memory e ≡ true)
records_refuse write c e put (inl same) = inl (ap (records write c) same)
records_refuse write c e put (inr out) = inr out

pub merges_refuse : (write : TreesWrite) (c : Compactor) (e : SlateDBError) (put : Result ManifestChanging SlateDBError) → Gives (Err e) put → (merges write c put ≡ refuses c e) ⊎ (is_memory e ≡ true)
merges_refuse write c e put (inl same) = inl (ap (merges write c) same)
merges_refuse write c e put (inr out) = inr out

-- a refusal that isn't want of memory owes nothing else
pub refused_so : {A B : Type 0} (b : Bool) → A → b ≡ false → A × (b ≡ true → B)
refused_so b fact not = (fact, λ out. absurd (let both : true ≡ false = sym out ∙ not in cc))

-- nothing is next
pub leads_none : (goes : StateGoes) (old new : Compactor) (left : ℕ) (next : Option StatePhase) → next ≡ None → Leads goes old new left (Ok next) → goes ≡ onward new None
leads_none goes old new left None is leads = leads
leads_none goes old new left (Some phase) is leads = absurd cc

-- this phase is next
pub leads_some : (goes : StateGoes) (old new : Compactor) (left : ℕ) (next : Option StatePhase) (phase : StatePhase) → next ≡ Some phase → Leads goes old new left (Ok next) → goes ≡ onward new (Some phase)
leads_some goes old new left None phase is leads = absurd cc
leads_some goes old new left (Some found) phase is leads = let same : found ≡ phase = cc in subst (λ (p : StatePhase). goes ≡ onward new (Some p)) same leads.0
