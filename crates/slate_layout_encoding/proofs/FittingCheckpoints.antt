-- Checkpoints, entries and trackers of their types that have bytes fit.
use Rattle.std.specs.Prelude.{◌≡◌, ℕ, ℤ, pos, negsuc, ◌<◌, ◌^◌, ◌*◌, ◌/◌, ◌==◌, ◌&&◌, nat_lt, nat_le, Bool, true, false, List, length, Option, Some, None, refl}
use Rattle.std.specs.List.{list_all}
use Rattle.std.specs.Str.{is_utf8}
use Rattle.std.proofs.Common.{ap, arith}
use Rattle.std.proofs.lemmas.Bool.{and_parts}
use Rattle.std.proofs.lemmas.Bool.Decides.{nat_tests}
use Rattle.slate_ids.specs.Ids.{is_db_path, is_path_char}
use Rattle.slate_model_tables.specs.Tables.{is_compacted}
use Rattle.slate_model.specs.declared.checkpoint.Checkpoint.{Checkpoint}
use Rattle.slate_model.specs.declared.external_db.ExternalDb.{ExternalDb}
use Rattle.slate_model.specs.Sequences.{is_kept, in_order}
use Rattle.slate_layout_parts.specs.Bytes.{is_u64, is_i64}
use Rattle.slate_layout_parts.specs.Reads.{OptionFits}
use Rattle.slate_layout_parts.specs.Texts.{TextFits, PathFits}
use Rattle.slate_layout_parts.specs.InfoCodec.{is_short}
use Rattle.slate_layout_parts.specs.InfoParts.{TableFits}
use Rattle.slate_layout_manifests.specs.CheckpointParts.{second_of, moment_of, IsU32, CheckpointFits, EntryFits, MomentFits, TrackerFits}
use Rattle.slate_layout_parts.specs.Typed.{both, none_or, is_sixteen, is_path, is_table}
use Rattle.slate_layout_manifests.specs.TypedManifests.{is_checkpoint, is_entry, is_tracker}
use Rattle.slate_layout_encodable.specs.Unencodable.{has_second, has_later_second, has_expiry}
use Rattle.slate_layout_parts.specs.Lengths.{few}
use Rattle.slate_layout_encodable.specs.Normal.{whole_second, normal_checkpoint}
use Rattle.slate_layout_parts.proofs.Fitting.{below, each_fits, each_of_two, few_is, name_fits, option_fits, sixteen, text_fits, table_fits}

-- ---- checkpoints

whole : (n : ℕ) → n / 1000 * 1000 / 1000 ≡ n / 1000
whole n = omega arith

second_fits : (t : ℤ) → has_second t ≡ true → (IsU32 (second_of (whole_second t))) × (moment_of (second_of (whole_second t)) ≡ whole_second t)
second_fits (pos n) h =
    let few : n / 1000 < 2 ^ 32 = below (n / 1000) (2 ^ 32) h in
    let same = whole n in
    (rw same few, ap (λ k. pos (k * 1000)) same)
second_fits (negsuc n) h = absurd cc

later_is : (n : ℕ) → has_later_second (pos n) ≡ true → (n / 1000 == 0 ≡ false) × (n / 1000 < 2 ^ 32)
later_is n h =
    let p = and_parts (nat_lt 0 (n / 1000)) (nat_lt (n / 1000) (2 ^ 32)) h in
    (grind (arith, nat_tests), below (n / 1000) (2 ^ 32) p.1)

-- the fields that a checkpoint keeps as they are
record IsKept (c : Checkpoint) : Type 0 where
  id : length c.id ≡ 16
  version : is_u64 c.manifest_id ≡ true
  name : OptionFits TextFits c.name
  creation : IsU32 (second_of (whole_second c.create_time))
  moment : moment_of (second_of (whole_second c.create_time)) ≡ whole_second c.create_time

expiring_fits : (c : Checkpoint) (e : Option ℤ) → c.expire_time ≡ e → has_expiry e ≡ true → IsKept c → CheckpointFits (normal_checkpoint c)
expiring_fits c None at h k =
    rw at (record { fits = (k.id, (k.version, (tt, (k.creation, k.name)))); is_made = ap (λ (t : ℤ). Some (let d : Checkpoint = record { id = c.id; manifest_id = c.manifest_id; expire_time = None; create_time = t; name = c.name } in d)) k.moment })
expiring_fits c (Some (pos n)) at h k =
    let later = later_is n h in
    let same = whole n in
    rw at (record { fits = (k.id, (k.version, (rw same later.1, (k.creation, k.name)))); is_made = rw (same, later.0) (ap (λ (t : ℤ). Some (let d : Checkpoint = record { id = c.id; manifest_id = c.manifest_id; expire_time = Some (pos (n / 1000 * 1000)); create_time = t; name = c.name } in d)) k.moment) })
expiring_fits c (Some (negsuc n)) at h k = absurd cc

-- whether a checkpoint's moments have seconds, and its name is short
abbrev pub is_dated : Checkpoint → Bool
is_dated c = has_expiry c.expire_time && (has_second c.create_time && is_short c.name)

pub checkpoint_fits : (c : Checkpoint) → is_checkpoint c ≡ true → is_dated c ≡ true → CheckpointFits (normal_checkpoint c)
checkpoint_fits c typed h =
    let p = and_parts (is_sixteen c.id) (is_u64 c.manifest_id && none_or is_utf8 c.name) typed in
    let q = and_parts (is_u64 c.manifest_id) (none_or is_utf8 c.name) p.1 in
    let d = and_parts (has_expiry c.expire_time) (has_second c.create_time && is_short c.name) h in
    let e = and_parts (has_second c.create_time) (is_short c.name) d.1 in
    let creation = second_fits c.create_time e.0 in
    expiring_fits c c.expire_time refl d.0 (record { id = sixteen c.id p.0; version = q.0; name = name_fits c.name q.1 e.1; creation = creation.0; moment = creation.1 })

-- ---- entries and trackers

path_short : (path : List ℕ) → is_db_path path ≡ true → length path < 2 ^ 32
path_short path h =
    let name = and_parts (nat_lt 0 (length path) && nat_le (length path) 64) (list_all is_path_char path) h in
    let lengths = and_parts (nat_lt 0 (length path)) (nat_le (length path) 64) name.0 in
    grind (arith, nat_tests)

pub path_fits : (path : List ℕ) → is_path path ≡ true → PathFits path
path_fits path h =
    let p = and_parts (is_utf8 path) (is_db_path path) h in
    record { fits = text_fits path p.0 (path_short path p.1); is_made = rw p.1 refl }

pin_fits : (pin : Option (List ℕ)) → none_or is_sixteen pin ≡ true → OptionFits (λ l. length l ≡ 16) pin
pin_fits = option_fits is_sixteen (λ l. length l ≡ 16) sixteen

-- whether an entry's tables are compacted, and few
abbrev pub is_listed : ExternalDb → Bool
is_listed e = list_all is_compacted e.sst_ids && few (length e.sst_ids)

pub entry_fits : (e : ExternalDb) → is_entry e ≡ true → is_listed e ≡ true → EntryFits e
entry_fits e typed h =
    let p = and_parts (is_path e.path) (is_sixteen e.source_checkpoint_id && (none_or is_sixteen e.final_checkpoint_id && list_all is_table e.sst_ids)) typed in
    let q = and_parts (is_sixteen e.source_checkpoint_id) (none_or is_sixteen e.final_checkpoint_id && list_all is_table e.sst_ids) p.1 in
    let r = and_parts (none_or is_sixteen e.final_checkpoint_id) (list_all is_table e.sst_ids) q.1 in
    let l = and_parts (list_all is_compacted e.sst_ids) (few (length e.sst_ids)) h in
    record {
      fits = (
        path_fits e.path p.0,
        (sixteen e.source_checkpoint_id q.0, (pin_fits e.final_checkpoint_id r.0, record { each = each_of_two is_table is_compacted TableFits table_fits e.sst_ids r.1 l.0; few = few_is (length e.sst_ids) l.1 })),
      );
      is_made = refl;
    }

moment_fits : (p : ℕ × ℤ) → both is_u64 is_i64 p ≡ true → MomentFits p
moment_fits p h = and_parts (is_u64 p.0) (is_i64 p.1) h

pub tracker_fits : (pairs : List (ℕ × ℤ)) → is_tracker pairs ≡ true → TrackerFits pairs
tracker_fits pairs h =
    let p = and_parts (is_kept pairs) (list_all (both is_u64 is_i64) pairs) h in
    let k = and_parts (nat_le (length pairs) 4096) (in_order pairs) p.0 in
    record { fits = record { each = each_fits (both is_u64 is_i64) MomentFits moment_fits pairs p.1; few = grind (arith, nat_tests) }; is_made = rw p.0 refl }
