-- Compactions of their types that have bytes fit, in their normal form.
use Rattle.std.specs.Prelude.{◌≡◌, ℕ, ◌<◌, ◌^◌, ◌&&◌, ◌++◌, Bool, true, false, List, [], ◌∷◌, length, Option, Some, None, unwrap_or, if◌then◌else◌, refl}
use Rattle.std.specs.List.{list_all}
use Rattle.std.specs.Option.{option_map}
use Rattle.std.specs.Str.{is_utf8}
use Rattle.std.proofs.Common.{ap, sym, ◌∙◌, subst}
use Rattle.std.proofs.lemmas.Bool.{and_parts, and_from}
use Rattle.slate_ids.specs.KeyRange.{is_proper}
use Rattle.slate_model_tables.specs.declared.ss_table_handle.SsTableHandle.{SsTableHandle}
use Rattle.slate_model_tables.specs.Tables.{is_compacted}
use Rattle.slate_model_records.specs.declared.source_id.SourceId.{SourceId}
use Rattle.slate_model_records.specs.declared.compaction_spec.CompactionSpec.{CompactionSpec}
use Rattle.slate_model_records.specs.declared.compaction_spec.CompactionSpec.TheVariants.{Tiered, DrainSegment}
use Rattle.slate_model_records.specs.declared.compaction_status.CompactionStatus.{CompactionStatus}
use Rattle.slate_model_records.specs.declared.compaction_status.CompactionStatus.TheVariants.{Submitted, Scheduled, Running, Compacted, Completed, Failed}
use Rattle.slate_model_records.specs.declared.worker_spec.WorkerSpec.{WorkerSpec}
use Rattle.slate_model_records.specs.declared.subcompaction.Subcompaction.{Subcompaction}
use Rattle.slate_model_records.specs.declared.compaction_context.CompactionContext.{CompactionContext}
use Rattle.slate_model_records.specs.declared.compaction.Compaction.{Compaction}
use Rattle.slate_layout_parts.specs.Bytes.{is_u64, byte_bytes, u32_bytes, option_bytes, list_bytes}
use Rattle.slate_layout_parts.specs.Reads.{Reads, OptionFits, EachFits, ListFits, PairFits}
use Rattle.slate_layout_parts.specs.laws.Groups.{option_reads, list_reads, pair_reads}
use Rattle.slate_layout_parts.specs.Texts.{IdFits, id_bytes, id_in}
use Rattle.slate_layout_parts.specs.laws.Texts.{id_reads}
use Rattle.slate_layout_parts.specs.InfoParts.{TagFits, handle_bytes, handle_in, HandleFits}
use Rattle.slate_layout_parts.specs.laws.Infos.{handle_reads}
use Rattle.slate_layout_parts.specs.Typed.{none_or, is_u32, is_handle}
use Rattle.slate_ids.specs.Ulids.{is_id}
use Rattle.slate_layout_parts.proofs.Fitting.{each_fits, each_of_two, few_is, id_fits, text_fits, handle_fits, is_writable, range_fits}
use Rattle.slate_layout_parts.specs.Lengths.{few, short_bound}
use Rattle.slate_layout_parts.specs.RecordParts.{Scope, views_in, runs_in, sources_of, scope_of, scope_bytes, ScopeFits, status_of, status_number, spec_in, spec_bytes, SpecFits, worker_in, worker_bytes, WorkerFits, PartFits, context_in, context_bytes, ContextFits}
use Rattle.slate_layout_parts.specs.laws.Compacting.{views_back, runs_back, status_reads, spec_reads, worker_reads, context_reads}
use Rattle.slate_layout_records.specs.RecordBytes.{has_outputs, kept_outputs, Progress, progress_in, progress_bytes, Raw, raw_in, raw_bytes, raw_of, compaction_of}
use Rattle.slate_layout_records.specs.RecordNormal.{normal_sources, normal_spec, normal_context, normal_compaction}
use Rattle.slate_layout_parts.specs.TypedCompactions.{is_scope, is_spec, is_worker, is_part, is_context}
use Rattle.slate_layout_records.specs.RecordFields.{of_context, of_outputs, has_entries, has_ranges, has_keys_of, short_handle, short_spec, short_worker, short_part, short_context, short_compaction, is_compaction}

-- ---- what compactions are read by

abbrev pub ProgressFits : Progress → Type 0
ProgressFits = PairFits (TagFits status_of status_number) (PairFits (OptionFits WorkerFits) (PairFits (ListFits HandleFits) (OptionFits ContextFits)))

progress_reads : Reads progress_in progress_bytes ProgressFits 1
progress_reads = pair_reads _ _ _ 1 status_reads _ _ _ 1 (pair_reads _ _ _ 1 (option_reads worker_in worker_bytes WorkerFits 4 worker_reads) _ _ _ 4 (pair_reads _ _ _ 4 (list_reads handle_in handle_bytes HandleFits 8 handle_reads) _ _ _ 1 (option_reads context_in context_bytes ContextFits 4 context_reads)))

abbrev pub RawFits : Raw → Type 0
RawFits = PairFits IdFits (PairFits SpecFits ProgressFits)

pub raw_reads : Reads raw_in raw_bytes RawFits 8
raw_reads = pair_reads id_in id_bytes IdFits 8 id_reads _ _ _ 1 (pair_reads spec_in spec_bytes SpecFits 1 spec_reads _ _ _ 1 progress_reads)

-- ---- the parts of a compaction in its normal form

abbrev pub normal_raw : Compaction → Raw
normal_raw c = (c.id, (normal_spec c.spec, (c.status, (c.worker, (kept_outputs c.status c.output_ssts, option_map normal_context c.ctx)))))

pub kept_twice : (b : Bool) (l : List SsTableHandle) → (if b then (if b then l else []) else []) ≡ (if b then l else [])
kept_twice true l = refl
kept_twice false l = refl

pub normal_is : (c : Compaction) → compaction_of (normal_raw c) ≡ normal_compaction c
normal_is c = ap (λ (l : List SsTableHandle). record (normal_compaction c) { output_ssts = l }) (kept_twice (has_outputs c.status) c.output_ssts)

scope_kept : (segment : List ℕ) (sources : List SourceId) → scope_of segment (normal_sources sources) ≡ scope_of segment sources
scope_kept segment sources =
    ap (λ (l : List (ℕ × ℕ)). (segment, (l, runs_in (normal_sources sources)))) (views_back (views_in sources) (runs_in sources))
    ∙ ap (λ (l : List ℕ). (segment, (views_in sources, l))) (runs_back (views_in sources) (runs_in sources))

abbrev tiered_bytes : Scope → ℕ → List ℕ
tiered_bytes p destination = 0 ∷ (scope_bytes p ++ u32_bytes destination)

abbrev drained_bytes : Scope → List ℕ
drained_bytes p = 1 ∷ scope_bytes p

spec_kept : (s : CompactionSpec) → spec_bytes (normal_spec s) ≡ spec_bytes s
spec_kept (Tiered segment sources destination) = ap (λ p. tiered_bytes p destination) (scope_kept segment sources)
spec_kept (DrainSegment segment sources) = ap (λ p. drained_bytes p) (scope_kept segment sources)

context_kept : (o : Option CompactionContext) → option_bytes context_bytes (option_map normal_context o) ≡ option_bytes context_bytes o
context_kept None = refl
context_kept (Some c) = refl

-- the bytes of a compaction, of those of what is to be done and of what its worker goes on with
abbrev raw_with : Compaction → List ℕ → List ℕ → List ℕ
raw_with c spec context = id_bytes c.id ++ (spec ++ (byte_bytes (status_number c.status) ++ (option_bytes worker_bytes c.worker ++ (list_bytes handle_bytes (kept_outputs c.status c.output_ssts) ++ context))))

pub bytes_kept : (c : Compaction) → raw_bytes (normal_raw c) ≡ raw_bytes (raw_of c)
bytes_kept c =
    ap (λ (l : List ℕ). raw_with c l (option_bytes context_bytes (option_map normal_context c.ctx))) (spec_kept c.spec)
    ∙ ap (λ (l : List ℕ). raw_with c (spec_bytes c.spec) l) (context_kept c.ctx)

-- ---- outputs

writable : (h : SsTableHandle) → is_compacted h.id ≡ true → has_entries h ≡ true → short_handle h ≡ true → is_writable h ≡ true
writable h c e s = and_from _ _ c (and_from _ _ e s)

-- tables of which three things are told can be written
all_writable : (hs : List SsTableHandle) → list_all (λ h. is_compacted h.id) hs ≡ true → list_all has_entries hs ≡ true → list_all short_handle hs ≡ true → list_all is_writable hs ≡ true
all_writable [] c e s = refl
all_writable (h ∷ hs) c e s =
    let p = and_parts (is_compacted h.id) (list_all (λ h. is_compacted h.id) hs) c in
    let q = and_parts (has_entries h) (list_all has_entries hs) e in
    let r = and_parts (short_handle h) (list_all short_handle hs) s in
    and_from _ _ (writable h p.0 q.0 r.0) (all_writable hs p.1 q.1 r.1)

outputs_fit : (hs : List SsTableHandle) → list_all is_handle hs ≡ true → list_all is_writable hs ≡ true → few (length hs) ≡ true → ListFits HandleFits hs
outputs_fit hs typed can short = record { each = each_of_two is_handle is_writable HandleFits handle_fits hs typed can; few = few_is (length hs) short }

-- what holds of all outputs holds of those that are kept
pub kept_pass : (b : Bool) (test : SsTableHandle → Bool) (hs : List SsTableHandle) → list_all test hs ≡ true → list_all test (if b then hs else []) ≡ true
kept_pass true test hs h = h
kept_pass false test hs h = refl

pub kept_few : (b : Bool) (hs : List SsTableHandle) → few (length hs) ≡ true → few (length (if b then hs else [])) ≡ true
kept_few true hs h = h
kept_few false hs h = refl

-- ---- what is to be done

sources_back : (segment : List ℕ) (sources : List SourceId) → sources_of (scope_of segment (normal_sources sources)).1 ≡ normal_sources sources
sources_back segment sources = ap (λ p. sources_of p.1) (scope_kept segment sources)

scope_fits : (segment : List ℕ) (sources : List SourceId) → is_scope sources ≡ true → few (length segment) ≡ true → few (length (views_in sources)) ≡ true → few (length (runs_in sources)) ≡ true → ScopeFits (scope_of segment (normal_sources sources))
scope_fits segment sources typed s v r =
    let p = and_parts (list_all is_id (views_in sources)) (list_all is_u32 (runs_in sources)) typed in
    subst ScopeFits (sym (scope_kept segment sources)) (
      few_is (length segment) s,
      (
        record { each = each_fits is_id IdFits id_fits (views_in sources) p.0; few = few_is (length (views_in sources)) v },
        record { each = each_fits is_u32 (λ n. n < 2 ^ 32) few_is (runs_in sources) p.1; few = few_is (length (runs_in sources)) r },
      ),
    )

spec_fits : (s : CompactionSpec) → is_spec s ≡ true → short_spec s ≡ true → SpecFits (normal_spec s)
spec_fits (Tiered segment sources destination) typed short =
    let p = and_parts (is_scope sources) (is_u32 destination) typed in
    let a = and_parts (few (length segment)) (few (length (views_in sources)) && few (length (runs_in sources))) short in
    let b = and_parts (few (length (views_in sources))) (few (length (runs_in sources))) a.1 in
    record {
      fits = (scope_fits segment sources p.0 a.0 b.0 b.1, few_is destination p.1);
      is_made = ap (λ l. Some (Tiered segment l destination)) (sources_back segment sources);
    }
spec_fits (DrainSegment segment sources) typed short =
    let a = and_parts (few (length segment)) (few (length (views_in sources)) && few (length (runs_in sources))) short in
    let b = and_parts (few (length (views_in sources))) (few (length (runs_in sources))) a.1 in
    record {
      fits = scope_fits segment sources typed a.0 b.0 b.1;
      is_made = ap (λ l. Some (DrainSegment segment l)) (sources_back segment sources);
    }

-- ---- how far it is

status_fits : (s : CompactionStatus) → TagFits status_of status_number s
status_fits Submitted = record { fits = tt; is_made = refl }
status_fits Scheduled = record { fits = tt; is_made = refl }
status_fits Running = record { fits = tt; is_made = refl }
status_fits Compacted = record { fits = tt; is_made = refl }
status_fits Completed = record { fits = tt; is_made = refl }
status_fits Failed = record { fits = tt; is_made = refl }

worker_fits : (o : Option WorkerSpec) → none_or is_worker o ≡ true → none_or short_worker o ≡ true → OptionFits WorkerFits o
worker_fits None typed short = tt
worker_fits (Some w) typed short =
    let p = and_parts (is_utf8 w.worker_id) (is_u64 w.last_heartbeat_ms) typed in
    record { fits = (text_fits w.worker_id p.0 (few_is (length w.worker_id) short), p.1); is_made = refl }

part_fits : (s : Subcompaction) → is_part s ≡ true → list_all (λ h. is_compacted h.id) s.output_ssts ≡ true → list_all has_entries s.output_ssts ≡ true → is_proper s.range ≡ true → short_part s ≡ true → PartFits s
part_fits s typed compacted entries proper short =
    let p = and_parts (short_bound s.range.start && short_bound s.range.end) (few (length s.output_ssts) && list_all short_handle s.output_ssts) short in
    let q = and_parts (few (length s.output_ssts)) (list_all short_handle s.output_ssts) p.1 in
    record { fits = (range_fits s.range proper p.0, outputs_fit s.output_ssts typed (all_writable s.output_ssts compacted entries q.1) q.0); is_made = refl }

parts_fit : (ss : List Subcompaction) → list_all is_part ss ≡ true → list_all (λ s. list_all (λ h. is_compacted h.id) s.output_ssts) ss ≡ true → list_all (λ s. list_all has_entries s.output_ssts) ss ≡ true → list_all (λ s. is_proper s.range) ss ≡ true → list_all short_part ss ≡ true → EachFits PartFits ss
parts_fit [] typed compacted entries proper short = tt
parts_fit (s ∷ ss) typed compacted entries proper short =
    let t = and_parts (is_part s) (list_all is_part ss) typed in
    let c = and_parts (list_all (λ h. is_compacted h.id) s.output_ssts) (list_all (λ s. list_all (λ h. is_compacted h.id) s.output_ssts) ss) compacted in
    let e = and_parts (list_all has_entries s.output_ssts) (list_all (λ s. list_all has_entries s.output_ssts) ss) entries in
    let p = and_parts (is_proper s.range) (list_all (λ s. is_proper s.range) ss) proper in
    let r = and_parts (short_part s) (list_all short_part ss) short in
    (part_fits s t.0 c.0 e.0 p.0 r.0, parts_fit ss t.1 c.1 e.1 p.1 r.1)

context_fits : (o : Option CompactionContext) → none_or is_context o ≡ true → none_or (of_context (λ h. is_compacted h.id)) o ≡ true → none_or (of_context has_entries) o ≡ true → none_or has_ranges o ≡ true → none_or short_context o ≡ true → OptionFits ContextFits (option_map normal_context o)
context_fits None typed compacted entries ranges short = tt
context_fits (Some c) typed compacted entries ranges short =
    let t = and_parts (list_all is_part c.subcompactions) (is_u64 (unwrap_or c.retention_min_seq 0)) typed in
    let s = and_parts (few (length c.subcompactions)) (list_all short_part c.subcompactions) short in
    record {
      fits = (record { each = parts_fit c.subcompactions t.0 compacted entries ranges s.1; few = few_is (length c.subcompactions) s.0 }, t.1);
      is_made = refl;
    }

-- ---- a compaction

pub compaction_fits : (c : Compaction) → is_compaction c ≡ true → of_outputs (λ h. is_compacted h.id) c ≡ true → has_keys_of c ≡ true → short_compaction c ≡ true → RawFits (normal_raw c)
compaction_fits c typed compacted keys short =
    let t0 = and_parts (is_id c.id) _ typed in
    let t1 = and_parts (is_spec c.spec) _ t0.1 in
    let t2 = and_parts (none_or is_worker c.worker) _ t1.1 in
    let t3 = and_parts (list_all is_handle (kept_outputs c.status c.output_ssts)) (none_or is_context c.ctx) t2.1 in
    let w = and_parts (list_all (λ h. is_compacted h.id) c.output_ssts) (none_or (of_context (λ h. is_compacted h.id)) c.ctx) compacted in
    let k = and_parts (of_outputs has_entries c) (none_or has_ranges c.ctx) keys in
    let e = and_parts (list_all has_entries c.output_ssts) (none_or (of_context has_entries) c.ctx) k.0 in
    let s0 = and_parts (short_spec c.spec) _ short in
    let s1 = and_parts (none_or short_worker c.worker) _ s0.1 in
    let s2 = and_parts (few (length c.output_ssts) && list_all short_handle c.output_ssts) (none_or short_context c.ctx) s1.1 in
    let s3 = and_parts (few (length c.output_ssts)) (list_all short_handle c.output_ssts) s2.0 in
    let can = kept_pass (has_outputs c.status) is_writable c.output_ssts (all_writable c.output_ssts w.0 e.0 s3.1) in (
      id_fits c.id t0.0,
      (
        spec_fits c.spec t1.0 s0.0,
        (
          status_fits c.status,
          (
            worker_fits c.worker t2.0 s1.0,
            (
              outputs_fit (kept_outputs c.status c.output_ssts) t3.0 can (kept_few (has_outputs c.status) c.output_ssts s3.0),
              context_fits c.ctx t3.1 w.1 e.1 k.1 s2.1,
            ),
          ),
        ),
      ),
    )
