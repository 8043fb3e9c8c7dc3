-- The bytes of compactions.
use Rattle.std.specs.Prelude.{◌≡◌, ℕ, ◌<◌, ◌^◌, ◌++◌, ◌==◌, true, List, [], ◌∷◌, map, Option, Some, None, unwrap_or, if◌then◌else◌}
use Rattle.slate_ids.specs.KeyRange.{KeyRange}
use Rattle.slate_model_tables.specs.declared.ss_table_handle.SsTableHandle.{SsTableHandle}
use Rattle.slate_model_records.specs.declared.source_id.SourceId.{SourceId}
use Rattle.slate_model_records.specs.declared.source_id.SourceId.TheVariants.{SstView, SortedRun}
use Rattle.slate_model_records.specs.declared.compaction_spec.CompactionSpec.{CompactionSpec}
use Rattle.slate_model_records.specs.declared.compaction_spec.CompactionSpec.TheVariants.{Tiered, DrainSegment}
use Rattle.slate_model_records.specs.declared.compaction_status.CompactionStatus.{CompactionStatus}
use Rattle.slate_model_records.specs.declared.compaction_status.CompactionStatus.TheVariants.{Submitted, Scheduled, Running, Compacted, Completed, Failed}
use Rattle.slate_model_records.specs.declared.worker_spec.WorkerSpec.{WorkerSpec}
use Rattle.slate_model_records.specs.declared.subcompaction.Subcompaction.{Subcompaction}
use Rattle.slate_model_records.specs.declared.compaction_context.CompactionContext.{CompactionContext}
use Rattle.slate_layout_parts.specs.Bytes.{is_u64, u32_bytes, u64_bytes, counted_bytes, list_bytes, pair_bytes}
use Rattle.slate_layout_parts.specs.Reading.{◌>>=◌, byte_in, u32_in, u64_in, counted_in, list_in, pair_in, made_in}
use Rattle.slate_layout_parts.specs.Reads.{ListFits, PairFits, MadeFits}
use Rattle.slate_layout_parts.specs.Texts.{IsShort, text_in, TextFits, id_bytes, id_in, IdFits}
use Rattle.slate_layout_parts.specs.RangeParts.{range_bytes, range_in, RangeFits}
use Rattle.slate_layout_parts.specs.InfoParts.{handle_bytes, handle_in, HandleFits}

-- ---- how far a compaction is, by its number

abbrev pub status_of : ℕ → Option CompactionStatus
status_of n = if n == 0 then Some Submitted else if n == 1 then Some Scheduled else if n == 2 then Some Running else if n == 3 then Some Compacted
    else if n == 4 then Some Completed else if n == 5 then Some Failed else None

abbrev pub status_number : CompactionStatus → ℕ
status_number Submitted = 0
status_number Scheduled = 1
status_number Running = 2
status_number Compacted = 3
status_number Completed = 4
status_number Failed = 5

-- ---- sources: the ids of views, then the numbers of runs

-- the ids of the views among sources, in order
abbrev pub views_in : List SourceId → List (ℕ × ℕ)
views_in [] = []
views_in (SstView id ∷ sources) = id ∷ views_in sources
views_in (SortedRun n ∷ sources) = views_in sources

-- the numbers of the runs among sources, in order
abbrev pub runs_in : List SourceId → List ℕ
runs_in [] = []
runs_in (SstView id ∷ sources) = runs_in sources
runs_in (SortedRun n ∷ sources) = n ∷ runs_in sources

-- views first, then runs
abbrev pub sources_of : List (ℕ × ℕ) × List ℕ → List SourceId
sources_of p = map SstView p.0 ++ map SortedRun p.1

-- ---- what a compaction is to do

-- the prefix of the segment, and the sources
abbrev pub Scope : Type 0
Scope = List ℕ × (List (ℕ × ℕ) × List ℕ)

abbrev pub scope_of : List ℕ → List SourceId → Scope
scope_of segment sources = (segment, (views_in sources, runs_in sources))

abbrev pub scope_in : List ℕ → Option (Scope × List ℕ)
scope_in = pair_in counted_in (pair_in (list_in id_in 8) (list_in u32_in 4))

abbrev pub scope_bytes : Scope → List ℕ
scope_bytes = pair_bytes counted_bytes (pair_bytes (list_bytes id_bytes) (list_bytes u32_bytes))

abbrev pub ScopeFits : Scope → Type 0
ScopeFits = PairFits IsShort (PairFits (ListFits IdFits) (ListFits (λ n. n < 2 ^ 32)))

-- a merge into a run, of its scope and the run's number
abbrev pub tiered_of : Scope × ℕ → Option CompactionSpec
tiered_of p = Some (Tiered p.0.0 (sources_of p.0.1) p.1)

-- a segment that goes, of its scope
abbrev pub drained_of : Scope → Option CompactionSpec
drained_of p = Some (DrainSegment p.0 (sources_of p.1))

abbrev pub tiered_in : List ℕ → Option (CompactionSpec × List ℕ)
tiered_in = made_in tiered_of (pair_in scope_in u32_in)

abbrev pub drained_in : List ℕ → Option (CompactionSpec × List ℕ)
drained_in = made_in drained_of scope_in

-- what follows the byte of a kind: 0 for a merge, 1 for a segment that goes
abbrev pub spec_kind_in : ℕ → List ℕ → Option (CompactionSpec × List ℕ)
spec_kind_in kind bytes = if kind == 0 then tiered_in bytes else if kind == 1 then drained_in bytes else None

abbrev pub spec_in : List ℕ → Option (CompactionSpec × List ℕ)
spec_in bytes = byte_in bytes >>= λ kind. spec_kind_in kind.0 kind.1

abbrev pub spec_bytes : CompactionSpec → List ℕ
spec_bytes (Tiered segment sources destination) = 0 ∷ (scope_bytes (scope_of segment sources) ++ u32_bytes destination)
spec_bytes (DrainSegment segment sources) = 1 ∷ scope_bytes (scope_of segment sources)

-- the scope and the run's number of a merge; 0 where there is none
abbrev pub tiered_parts : CompactionSpec → Scope × ℕ
tiered_parts (Tiered segment sources destination) = (scope_of segment sources, destination)
tiered_parts (DrainSegment segment sources) = (scope_of segment sources, 0)

-- the scope
abbrev pub drained_parts : CompactionSpec → Scope
drained_parts (Tiered segment sources destination) = scope_of segment sources
drained_parts (DrainSegment segment sources) = scope_of segment sources

-- its parts fit, and its sources are views first, then runs
abbrev pub SpecFits : CompactionSpec → Type 0
SpecFits (Tiered segment sources destination) = MadeFits tiered_of tiered_parts (PairFits ScopeFits (λ n. n < 2 ^ 32)) (Tiered segment sources destination)
SpecFits (DrainSegment segment sources) = MadeFits drained_of drained_parts ScopeFits (DrainSegment segment sources)

-- ---- workers

abbrev pub worker_of : List ℕ × ℕ → Option WorkerSpec
worker_of p = Some (record { worker_id = p.0; last_heartbeat_ms = p.1 })

abbrev pub worker_parts : WorkerSpec → List ℕ × ℕ
worker_parts w = (w.worker_id, w.last_heartbeat_ms)

abbrev pub worker_bytes : WorkerSpec → List ℕ
worker_bytes w = pair_bytes counted_bytes u64_bytes (worker_parts w)

abbrev pub worker_in : List ℕ → Option (WorkerSpec × List ℕ)
worker_in = made_in worker_of (pair_in text_in u64_in)

abbrev pub WorkerFits : WorkerSpec → Type 0
WorkerFits = MadeFits worker_of worker_parts (PairFits TextFits (λ n. is_u64 n ≡ true))

-- ---- what a worker goes on with

abbrev pub part_of : KeyRange × List SsTableHandle → Option Subcompaction
part_of p = Some (record { range = p.0; output_ssts = p.1 })

abbrev pub part_parts : Subcompaction → KeyRange × List SsTableHandle
part_parts s = (s.range, s.output_ssts)

abbrev pub part_bytes : Subcompaction → List ℕ
part_bytes s = pair_bytes range_bytes (list_bytes handle_bytes) (part_parts s)

abbrev pub part_in : List ℕ → Option (Subcompaction × List ℕ)
part_in = made_in part_of (pair_in range_in (list_in handle_in 8))

abbrev pub PartFits : Subcompaction → Type 0
PartFits = MadeFits part_of part_parts (PairFits RangeFits (ListFits HandleFits))

abbrev pub context_of : List Subcompaction × ℕ → Option CompactionContext
context_of p = Some (record { subcompactions = p.0; retention_min_seq = Some p.1 })

-- the parts, and the least sequence number that must be kept; 0 where it isn't known
abbrev pub context_parts : CompactionContext → List Subcompaction × ℕ
context_parts c = (c.subcompactions, unwrap_or c.retention_min_seq 0)

abbrev pub context_bytes : CompactionContext → List ℕ
context_bytes c = pair_bytes (list_bytes part_bytes) u64_bytes (context_parts c)

abbrev pub context_in : List ℕ → Option (CompactionContext × List ℕ)
context_in = made_in context_of (pair_in (list_in part_in 1) u64_in)

abbrev pub ContextFits : CompactionContext → Type 0
ContextFits = MadeFits context_of context_parts (PairFits (ListFits PartFits) (λ n. is_u64 n ≡ true))
