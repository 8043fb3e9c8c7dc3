-- The test of normal forms is true of exactly those.
use Rattle.std.specs.Prelude.{◌≡◌, ℕ, ◌==◌, ◌&&◌, ◌||◌, Bool, true, false, List, [], ◌∷◌, ◌++◌, length, map, Option, Some, None, is_some, unwrap_or, if◌then◌else◌, refl}
use Rattle.std.specs.List.{list_all}
use Rattle.std.specs.Option.{option_map}
use Rattle.std.proofs.Common.{ap, ◌∙◌, subst, arith}
use Rattle.std.proofs.lemmas.Bool.{and_parts, and_from}
use Rattle.std.proofs.lemmas.Bool.Decides.{nat_tests}
use Rattle.slate_model_tables.specs.declared.ss_table_handle.SsTableHandle.{SsTableHandle}
use Rattle.slate_model_records.specs.Compactions.{sources_of as sources_in}
use Rattle.slate_model_records.specs.Records.{Record}
use Rattle.slate_model_records.specs.declared.compaction.Compaction.{Compaction}
use Rattle.slate_model_records.specs.declared.compaction_context.CompactionContext.{CompactionContext}
use Rattle.slate_model_records.specs.declared.compaction_spec.CompactionSpec.{CompactionSpec}
use Rattle.slate_model_records.specs.declared.compaction_spec.CompactionSpec.TheVariants.{Tiered, DrainSegment}
use Rattle.slate_model_records.specs.declared.compaction_status.CompactionStatus.{CompactionStatus}
use Rattle.slate_model_records.specs.declared.source_id.SourceId.{SourceId}
use Rattle.slate_model_records.specs.declared.source_id.SourceId.TheVariants.{SstView, SortedRun}
use Rattle.slate_layout_parts.specs.RecordParts.{views_in, runs_in, sources_of}
use Rattle.slate_layout_records.specs.RecordBytes.{has_outputs, kept_outputs}
use Rattle.slate_layout_records.specs.RecordNormal.{normal_sources, normal_spec, normal_context, normal_compaction, normal_record}
use Rattle.slate_layout_records.specs.NormalRecords.{is_run, are_views_first, is_normal_context, is_normal_compaction, is_normal_record}

-- ---- a normal form passes

runs_pass : (ns : List ℕ) → list_all is_run (map SortedRun ns) ≡ true
runs_pass [] = refl
runs_pass (n ∷ ns) = runs_pass ns

sources_pass : (ids : List (ℕ × ℕ)) (ns : List ℕ) → are_views_first (map SstView ids ++ map SortedRun ns) ≡ true
sources_pass [] [] = refl
sources_pass [] (n ∷ ns) = runs_pass ns
sources_pass (id ∷ ids) ns = sources_pass ids ns

spec_passes : (spec : CompactionSpec) → are_views_first (sources_in (normal_spec spec)) ≡ true
spec_passes (Tiered segment sources destination) = sources_pass (views_in sources) (runs_in sources)
spec_passes (DrainSegment segment sources) = sources_pass (views_in sources) (runs_in sources)

outputs_pass : (b : Bool) (outputs : List SsTableHandle) → (b || length (let l : List SsTableHandle = if b then outputs else [] in l) == 0) ≡ true
outputs_pass true outputs = refl
outputs_pass false outputs = refl

context_passes : (o : Option CompactionContext) → is_normal_context (option_map normal_context o) ≡ true
context_passes None = refl
context_passes (Some c) = refl

compaction_passes : (c : Compaction) → is_normal_compaction (normal_compaction c) ≡ true
compaction_passes c = and_from _ _ (spec_passes c.spec) (and_from _ _ (outputs_pass (has_outputs c.status) c.output_ssts) (context_passes c.ctx))

compactions_pass : (cs : List Compaction) → list_all is_normal_compaction (map normal_compaction cs) ≡ true
compactions_pass [] = refl
compactions_pass (c ∷ cs) = and_from _ _ (compaction_passes c) (compactions_pass cs)

-- ---- what passes is its own normal form

record OnlyRuns (sources : List SourceId) : Type 0 where
  no_views : views_in sources ≡ []
  runs : map SortedRun (runs_in sources) ≡ sources

only_runs : (sources : List SourceId) → list_all is_run sources ≡ true → OnlyRuns sources
only_runs [] h = record { no_views = refl; runs = refl }
only_runs (SstView id ∷ sources) h = absurd cc
only_runs (SortedRun n ∷ sources) h = let rest = only_runs sources h in record { no_views = rest.no_views; runs = ap (λ (s : List SourceId). SortedRun n ∷ s) rest.runs }

sources_kept : (sources : List SourceId) → are_views_first sources ≡ true → normal_sources sources ≡ sources
sources_kept [] h = refl
sources_kept (SstView id ∷ sources) h = ap (λ (s : List SourceId). SstView id ∷ s) (sources_kept sources h)
sources_kept (SortedRun n ∷ sources) h =
    let rest = only_runs sources h in
    ap (λ (ids : List (ℕ × ℕ)). map SstView ids ++ SortedRun n ∷ map SortedRun (runs_in sources)) rest.no_views ∙ ap (λ (s : List SourceId). SortedRun n ∷ s) rest.runs

spec_kept : (spec : CompactionSpec) → are_views_first (sources_in spec) ≡ true → normal_spec spec ≡ spec
spec_kept (Tiered segment sources destination) h = ap (λ (s : List SourceId). Tiered segment s destination) (sources_kept sources h)
spec_kept (DrainSegment segment sources) h = ap (λ (s : List SourceId). DrainSegment segment s) (sources_kept sources h)

outputs_kept : (b : Bool) (outputs : List SsTableHandle) → (b || length outputs == 0) ≡ true → (let l : List SsTableHandle = if b then outputs else [] in l) ≡ outputs
outputs_kept true outputs h = refl
outputs_kept false [] h = refl
outputs_kept false (x ∷ outputs) h = let none : length (x ∷ outputs) ≡ 0 = grind (arith, nat_tests) in absurd (omega arith)

retention_kept : (o : Option ℕ) → is_some o ≡ true → Some (unwrap_or o 0) ≡ o
retention_kept None h = absurd cc
retention_kept (Some n) h = refl

with_retention : CompactionContext → Option ℕ → CompactionContext
with_retention c o = record c { retention_min_seq = o }

context_kept : (o : Option CompactionContext) → is_normal_context o ≡ true → option_map normal_context o ≡ o
unfolding with_retention
context_kept None h = refl
context_kept (Some c) h = ap (λ (r : Option ℕ). Some (with_retention c r)) (retention_kept c.retention_min_seq h)

with_parts : Compaction → CompactionSpec → List SsTableHandle → Option CompactionContext → Compaction
with_parts c spec outputs context = record c { spec = spec; output_ssts = outputs; ctx = context }

compaction_kept : (c : Compaction) → is_normal_compaction c ≡ true → normal_compaction c ≡ c
unfolding with_parts
compaction_kept c h =
    let p = and_parts (are_views_first (sources_in c.spec)) _ h in
    let q = and_parts (has_outputs c.status || length c.output_ssts == 0) (is_normal_context c.ctx) p.1 in
    ap (λ s. with_parts c s (kept_outputs c.status c.output_ssts) (option_map normal_context c.ctx)) (spec_kept c.spec p.0)
    ∙ ap (λ os. with_parts c c.spec os (option_map normal_context c.ctx)) (outputs_kept (has_outputs c.status) c.output_ssts q.0)
    ∙ ap (λ x. with_parts c c.spec c.output_ssts x) (context_kept c.ctx q.1)

compactions_kept : (cs : List Compaction) → list_all is_normal_compaction cs ≡ true → map normal_compaction cs ≡ cs
compactions_kept [] h = refl
compactions_kept (c ∷ cs) h =
    let p = and_parts (is_normal_compaction c) (list_all is_normal_compaction cs) h in
    ap (λ (d : Compaction). d ∷ map normal_compaction cs) (compaction_kept c p.0)
    ∙ ap (λ (ds : List Compaction). c ∷ ds) (compactions_kept cs p.1)

with_entries : Record → List Compaction → Record
with_entries r cs = record r { entries = cs }

-- what passes the test is its own normal form
pub normal_only : (r : Record) → is_normal_record r ≡ true → normal_record r ≡ r
unfolding with_entries
normal_only r h = ap (with_entries r) (compactions_kept r.entries h)

-- what is its own normal form passes the test
pub normal_told : (r : Record) → normal_record r ≡ r → is_normal_record r ≡ true
normal_told r h = subst (λ (n : Record). is_normal_record n ≡ true) h (compactions_pass r.entries)
