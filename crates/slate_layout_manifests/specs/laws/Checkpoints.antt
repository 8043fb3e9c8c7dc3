-- Checkpoints, entries and trackers give back what was written, and find only that.
use Rattle.std.specs.Prelude.{◌≡◌, ℕ, ℤ, ◌==◌, Bool, true, false, List, Some, None, if◌then◌else◌}
use Rattle.std.proofs.Common.{ap, sym, ◌∙◌, arith}
use Rattle.slate_model.specs.declared.checkpoint.Checkpoint.{Checkpoint}
use Rattle.slate_model.specs.declared.external_db.ExternalDb.{ExternalDb}
use Rattle.slate_model.specs.Sequences.{is_kept}
use Rattle.slate_layout_parts.specs.Bytes.{list_bytes}
use Rattle.slate_layout_parts.specs.Reading.{list_in}
use Rattle.slate_layout_parts.specs.Reads.{Reads, ListFits}
use Rattle.slate_layout_parts.specs.laws.Groups.{option_reads, list_reads, pair_reads, made_reads}
use Rattle.slate_layout_parts.specs.laws.Atoms.{u32_reads, u64_reads, i64_reads, sixteen_reads}
use Rattle.slate_layout_parts.specs.laws.Texts.{text_reads, path_reads}
use Rattle.slate_layout_parts.specs.laws.Infos.{table_reads}
use Rattle.slate_layout_manifests.specs.CheckpointParts.{second_of, moment_of, CheckpointParts, dated, expiring, checkpoint_of, checkpoint_parts, id_name_in, id_name_bytes, CheckpointPartsFit, checkpoint_bytes, checkpoint_in, CheckpointFits, EntryParts, entry_of, entry_parts, entry_parts_in, entry_parts_bytes, EntryPartsFit, entry_bytes, entry_in, EntryFits, tracker_of, moment_in, moment_bytes, MomentFits, tracker_bytes, tracker_in, TrackerFits}

-- ---- checkpoints

second_back : (n : ℕ) → second_of (moment_of n) ≡ n
second_back n = omega arith

id_name_reads : Reads id_name_in id_name_bytes CheckpointPartsFit 16
id_name_reads = pair_reads _ _ _ 16 sixteen_reads _ _ _ 8 (pair_reads _ _ _ 8 u64_reads _ _ _ 1
    (pair_reads _ _ _ 1 (option_reads _ _ _ 4 u32_reads) _ _ _ 4 (pair_reads _ _ _ 4 u32_reads _ _ _ 1 (option_reads _ _ _ 4 text_reads))))

by_second : (b : Bool) (second : ℕ) (p : CheckpointParts) (c : Checkpoint) → expiring p (if b then None else Some (Some (moment_of second))) ≡ Some c
    → dated p (Some (moment_of second)) ≡ c
by_second true second p c h = absurd cc
by_second false second p c h = cc

checkpoint_apart : (p : CheckpointParts) (c : Checkpoint) → checkpoint_of p ≡ Some c → checkpoint_parts c ≡ p
checkpoint_apart (id, (version, (None, (creation, name)))) c h =
    let same : (let d : Checkpoint = record { id = id; manifest_id = version; expire_time = None; create_time = moment_of creation; name = name } in d) ≡ c = cc in
    sym (ap checkpoint_parts same) ∙ ap (λ n. (id, (version, (None, (n, name))))) (second_back creation)
checkpoint_apart (id, (version, (Some expiry, (creation, name)))) c h =
    let same = by_second (expiry == 0) expiry (id, (version, (Some expiry, (creation, name)))) c h in
    sym (ap checkpoint_parts same) ∙ ap (λ n. (id, (version, (Some n, (second_of (moment_of creation), name))))) (second_back expiry) ∙ ap
    (λ n. (id, (version, (Some expiry, (n, name))))) (second_back creation)

pub checkpoint_reads : Reads checkpoint_in checkpoint_bytes CheckpointFits 16
checkpoint_reads = made_reads id_name_in id_name_bytes CheckpointPartsFit 16 id_name_reads checkpoint_of checkpoint_parts (λ x y fits e. checkpoint_apart x y e)

-- ---- entries of other databases

entry_apart : (p : EntryParts) (e : ExternalDb) → entry_of p ≡ Some e → entry_parts e ≡ p
entry_apart (path, (source, (pin, tables))) e h =
    let same : (let d : ExternalDb = record { path = path; source_checkpoint_id = source; final_checkpoint_id = pin; sst_ids = tables } in d) ≡ e = cc in
    sym (ap entry_parts same)

pub entry_reads : Reads entry_in entry_bytes EntryFits 4
entry_reads = made_reads entry_parts_in entry_parts_bytes EntryPartsFit 4
    (pair_reads _ _ _ 4 path_reads _ _ _ 16 (pair_reads _ _ _ 16 sixteen_reads _ _ _ 1
    (pair_reads _ _ _ 1 (option_reads _ _ _ 16 sixteen_reads) _ _ _ 4 (list_reads _ _ _ 8 table_reads)))) entry_of entry_parts
    (λ x y fits e. entry_apart x y e)

-- ---- trackers

kept : (b : Bool) (x y : List (ℕ × ℤ)) → (if b then Some x else None) ≡ Some y → y ≡ x
kept true x y e = cc
kept false x y e = absurd cc

pub tracker_reads : Reads tracker_in tracker_bytes TrackerFits 4
tracker_reads = made_reads (list_in moment_in 8) (list_bytes moment_bytes) (ListFits MomentFits) 4
    (list_reads _ _ _ 8 (pair_reads _ _ _ 8 u64_reads _ _ _ 8 i64_reads)) tracker_of (λ pairs. pairs) (λ x y fits e. kept (is_kept x) x y e)
