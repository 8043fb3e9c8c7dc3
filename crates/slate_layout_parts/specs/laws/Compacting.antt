-- The parts of compactions give back what was written, and find only that.
use Rattle.std.specs.Prelude.{◌≡◌, ℕ, ◌≤◌, ◌<◌, ◌^◌, ◌++◌, ◌==◌, Bool, true, false, List, [], ◌∷◌, length, map, Some, None, if◌then◌else◌, refl}
use Rattle.std.proofs.Common.{ap, sym, ◌∙◌, arith}
use Rattle.std.proofs.lemmas.Bool.Decides.{nat_tests}
use Rattle.slate_ids.specs.KeyRange.{KeyRange}
use Rattle.slate_model_tables.specs.declared.ss_table_handle.SsTableHandle.{SsTableHandle}
use Rattle.slate_model_records.specs.declared.source_id.SourceId.TheVariants.{SortedRun}
use Rattle.slate_model_records.specs.declared.compaction_spec.CompactionSpec.{CompactionSpec}
use Rattle.slate_model_records.specs.declared.compaction_spec.CompactionSpec.TheVariants.{Tiered, DrainSegment}
use Rattle.slate_model_records.specs.declared.compaction_status.CompactionStatus.{CompactionStatus}
use Rattle.slate_model_records.specs.declared.compaction_status.CompactionStatus.TheVariants.{Submitted, Scheduled, Running, Compacted, Completed, Failed}
use Rattle.slate_model_records.specs.declared.worker_spec.WorkerSpec.{WorkerSpec}
use Rattle.slate_model_records.specs.declared.subcompaction.Subcompaction.{Subcompaction}
use Rattle.slate_model_records.specs.declared.compaction_context.CompactionContext.{CompactionContext}
use Rattle.slate_layout_parts.specs.Bytes.{is_u64, byte_bytes, u32_bytes, u64_bytes, counted_bytes, pair_bytes}
use Rattle.slate_layout_parts.specs.Reading.{u32_in, u64_in}
use Rattle.slate_layout_parts.specs.Reads.{AreBytes, IsFront, Reads, IsRead, PairFits, MadeFits}
use Rattle.slate_layout_parts.specs.laws.Parts.{AreBytes-rest}
use Rattle.slate_layout_parts.specs.laws.Groups.{list_reads, pair_reads, made_reads}
use Rattle.slate_layout_parts.specs.laws.Atoms.{u32_reads, u64_reads, counted_reads}
use Rattle.slate_layout_parts.specs.Texts.{text_in, TextFits}
use Rattle.slate_layout_parts.specs.laws.Texts.{text_reads, id_reads}
use Rattle.slate_layout_parts.specs.RangeParts.{range_bytes, range_in, RangeFits}
use Rattle.slate_layout_parts.specs.laws.Ranges.{range_reads}
use Rattle.slate_layout_parts.specs.laws.Infos.{word_back, no_number, tag_reads, handle_reads}
use Rattle.slate_layout_parts.specs.InfoParts.{tag_in, TagFits, handle_bytes, handle_in, HandleFits}
use Rattle.slate_layout_parts.specs.RecordParts.{status_of, status_number, views_in, runs_in, sources_of, Scope, scope_in, scope_bytes, ScopeFits, tiered_of, drained_of, tiered_in, drained_in, spec_in, spec_bytes, tiered_parts, drained_parts, SpecFits, worker_of, worker_parts, worker_bytes, worker_in, WorkerFits, part_of, part_parts, part_bytes, part_in, PartFits, context_of, context_parts, context_bytes, context_in, ContextFits}

-- ---- how far a compaction is, by its number

status_back : (n : ℕ) (s : CompactionStatus) → status_of n ≡ Some s → status_number s ≡ n
status_back n s h =
    word_back status_number 0 Submitted n (n == 0) _ s refl refl (λ h. word_back status_number 1 Scheduled n (n == 1) _ s refl refl
    (λ h. word_back status_number 2 Running n (n == 2) _ s refl refl
    (λ h. word_back status_number 3 Compacted n (n == 3) _ s refl refl
    (λ h. word_back status_number 4 Completed n (n == 4) _ s refl refl
    (λ h. word_back status_number 5 Failed n (n == 5) _ s refl refl (λ h. no_number status_number n s h) h) h) h) h) h) h

pub status_reads : Reads (tag_in status_of) (λ s. byte_bytes (status_number s)) (TagFits status_of status_number) 1
status_reads = tag_reads status_of status_number status_back

-- ---- sources: the ids of views, then the numbers of runs

only_runs : (runs : List ℕ) → (views_in (map SortedRun runs) ≡ []) × (runs_in (map SortedRun runs) ≡ runs)
only_runs [] = (refl, refl)
only_runs (n ∷ runs) = let more = only_runs runs in (more.0, ap (λ (l : List ℕ). n ∷ l) more.1)

pub views_back : (views : List (ℕ × ℕ)) (runs : List ℕ) → views_in (sources_of (views, runs)) ≡ views
views_back [] runs = (only_runs runs).0
views_back (id ∷ views) runs = ap (λ (l : List (ℕ × ℕ)). id ∷ l) (views_back views runs)

pub runs_back : (views : List (ℕ × ℕ)) (runs : List ℕ) → runs_in (sources_of (views, runs)) ≡ runs
runs_back [] runs = (only_runs runs).1
runs_back (id ∷ views) runs = runs_back views runs

-- ---- what a compaction is to do

scope_reads : Reads scope_in scope_bytes ScopeFits 4
scope_reads = pair_reads _ _ _ 4 counted_reads _ _ _ 4 (pair_reads _ _ _ 4 (list_reads _ _ _ 8 id_reads) _ _ _ 4 (list_reads _ _ _ 4 u32_reads))

tiered_apart : (x : Scope × ℕ) (y : CompactionSpec) → tiered_of x ≡ Some y → tiered_parts y ≡ x
tiered_apart ((segment, (views, runs)), destination) y e =
    let same : Tiered segment (sources_of (views, runs)) destination ≡ y = cc in
    sym (ap tiered_parts same)
    ∙ ap (λ (l : List (ℕ × ℕ)). ((segment, (l, runs_in (sources_of (views, runs)))), destination)) (views_back views runs)
    ∙ ap (λ (l : List ℕ). ((segment, (views, l)), destination)) (runs_back views runs)

drained_apart : (x : Scope) (y : CompactionSpec) → drained_of x ≡ Some y → drained_parts y ≡ x
drained_apart (segment, (views, runs)) y e =
    let same : DrainSegment segment (sources_of (views, runs)) ≡ y = cc in
    sym (ap drained_parts same)
    ∙ ap (λ (l : List (ℕ × ℕ)). (segment, (l, runs_in (sources_of (views, runs))))) (views_back views runs)
    ∙ ap (λ (l : List ℕ). (segment, (views, l))) (runs_back views runs)

abbrev merge_bytes : Scope × ℕ → List ℕ
merge_bytes = pair_bytes scope_bytes u32_bytes

tiered_reads : Reads tiered_in (λ y. merge_bytes (tiered_parts y)) (MadeFits tiered_of tiered_parts (PairFits ScopeFits (λ n. n < 2 ^ 32))) 4
tiered_reads = made_reads _ _ _ 4 (pair_reads scope_in scope_bytes ScopeFits 4 scope_reads u32_in u32_bytes (λ n. n < 2 ^ 32) 4 u32_reads) tiered_of tiered_parts (λ x y fits e. tiered_apart x y e)

drained_reads : Reads drained_in (λ y. scope_bytes (drained_parts y)) (MadeFits drained_of drained_parts ScopeFits) 4
drained_reads = made_reads scope_in scope_bytes ScopeFits 4 scope_reads drained_of drained_parts (λ x y fits e. drained_apart x y e)

spec_back : (s : CompactionSpec) (rest : List ℕ) → SpecFits s → spec_in (spec_bytes s ++ rest) ≡ Some (s, rest)
spec_back (Tiered segment sources destination) rest fits = tiered_reads.back (Tiered segment sources destination) rest fits
spec_back (DrainSegment segment sources) rest fits = drained_reads.back (DrainSegment segment sources) rest fits

after_kind : (k kind : ℕ) (front bytes rest : List ℕ) → k ≡ kind → IsFront front bytes rest → IsFront (k ∷ front) (kind ∷ bytes) rest
after_kind k kind front bytes rest e h = record { is = cc (h.is, e); rest_small = h.rest_small }

tiered_only : (s : CompactionSpec) (kind : ℕ) (bytes rest : List ℕ) → 0 ≡ kind
    → IsRead (λ y. merge_bytes (tiered_parts y)) (MadeFits tiered_of tiered_parts (PairFits ScopeFits (λ n. n < 2 ^ 32))) s bytes rest
    → IsRead spec_bytes SpecFits s (kind ∷ bytes) rest
tiered_only (Tiered segment sources destination) kind bytes rest e one = record { fits = one.fits; front_is = after_kind 0 kind _ bytes rest e one.front_is }
tiered_only (DrainSegment segment sources) kind bytes rest e one = let made = one.fits.is_made in absurd cc

drained_only : (s : CompactionSpec) (kind : ℕ) (bytes rest : List ℕ) → 1 ≡ kind
    → IsRead (λ y. scope_bytes (drained_parts y)) (MadeFits drained_of drained_parts ScopeFits) s bytes rest
    → IsRead spec_bytes SpecFits s (kind ∷ bytes) rest
drained_only (DrainSegment segment sources) kind bytes rest e one = record { fits = one.fits; front_is = after_kind 1 kind _ bytes rest e one.front_is }
drained_only (Tiered segment sources destination) kind bytes rest e one = let made = one.fits.is_made in absurd cc

spec_kind_only : (kind : ℕ) (bytes : List ℕ) (s : CompactionSpec) (rest : List ℕ) (t u : Bool) → AreBytes bytes → kind == 0 ≡ t → kind == 1 ≡ u
    → (if t then tiered_in bytes else if u then drained_in bytes else None) ≡ Some (s, rest) → IsRead spec_bytes SpecFits s (kind ∷ bytes) rest
spec_kind_only kind bytes s rest true u small e f h = tiered_only s kind bytes rest (grind (arith, nat_tests)) (tiered_reads.only bytes s rest small h)
spec_kind_only kind bytes s rest false true small e f h = drained_only s kind bytes rest (grind (arith, nat_tests)) (drained_reads.only bytes s rest small h)
spec_kind_only kind bytes s rest false false small e f h = absurd cc

spec_only : (bytes : List ℕ) (s : CompactionSpec) (rest : List ℕ) → AreBytes bytes → spec_in bytes ≡ Some (s, rest) → IsRead spec_bytes SpecFits s bytes rest
spec_only [] s rest small e = absurd cc
spec_only (kind ∷ bytes) s rest small e = spec_kind_only kind bytes s rest (kind == 0) (kind == 1) (AreBytes-rest kind bytes small) refl refl e

spec_long : (s : CompactionSpec) → SpecFits s → 1 ≤ length (spec_bytes s)
spec_long (Tiered segment sources destination) fits = omega arith
spec_long (DrainSegment segment sources) fits = omega arith

pub spec_reads : Reads spec_in spec_bytes SpecFits 1
spec_reads = record { back = spec_back; only = spec_only; long = spec_long }

-- ---- workers

worker_apart : (p : List ℕ × ℕ) (w : WorkerSpec) → worker_of p ≡ Some w → worker_parts w ≡ p
worker_apart p w e = let same : (let v : WorkerSpec = record { worker_id = p.0; last_heartbeat_ms = p.1 } in v) ≡ w = cc in sym (ap worker_parts same)

pub worker_reads : Reads worker_in worker_bytes WorkerFits 4
worker_reads = made_reads _ _ _ 4 (pair_reads text_in counted_bytes TextFits 4 text_reads u64_in u64_bytes (λ n. is_u64 n ≡ true) 8 u64_reads) worker_of worker_parts (λ x y fits e. worker_apart x y e)

-- ---- what a worker goes on with

part_apart : (p : KeyRange × List SsTableHandle) (s : Subcompaction) → part_of p ≡ Some s → part_parts s ≡ p
part_apart p s e = let same : (let v : Subcompaction = record { range = p.0; output_ssts = p.1 } in v) ≡ s = cc in sym (ap part_parts same)

pub part_reads : Reads part_in part_bytes PartFits 1
part_reads = made_reads _ _ _ 1 (pair_reads range_in range_bytes RangeFits 1 range_reads _ _ _ 4
    (list_reads handle_in handle_bytes HandleFits 8 handle_reads)) part_of part_parts (λ x y fits e. part_apart x y e)

context_apart : (p : List Subcompaction × ℕ) (c : CompactionContext) → context_of p ≡ Some c → context_parts c ≡ p
context_apart p c e = let same : (let v : CompactionContext = record { subcompactions = p.0; retention_min_seq = Some p.1 } in v) ≡ c = cc in sym (ap context_parts same)

pub context_reads : Reads context_in context_bytes ContextFits 4
context_reads = made_reads _ _ _ 4 (pair_reads _ _ _ 4 (list_reads part_in part_bytes PartFits 1 part_reads) u64_in u64_bytes
    (λ n. is_u64 n ≡ true) 8 u64_reads) context_of context_parts (λ x y fits e. context_apart x y e)
