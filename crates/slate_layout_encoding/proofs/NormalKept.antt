-- What the normal form keeps: the bytes, and whether a field has none.
use Rattle.std.specs.Prelude.{◌≡◌, ℕ, ℤ, pos, negsuc, ◌*◌, ◌/◌, ◌^◌, ◌&&◌, ◌==◌, ◌++◌, nat_lt, not, Bool, List, [], ◌∷◌, map, length, Option, Some, None, if◌then◌else◌, refl}
use Rattle.std.specs.List.{list_all, flat_map}
use Rattle.std.specs.Option.{option_map}
use Rattle.std.proofs.Common.{ap, ◌∙◌, arith}
use Rattle.std.proofs.lemmas.List.{length-map}
use Rattle.slate_ids.specs.declared.error.FieldName.{FieldName}
use Rattle.slate_ids.specs.declared.error.FieldName.TheVariants.{ExpireTime, CreateTime, WalId, NoKeys, NextWal, Length}
use Rattle.slate_model_tables.specs.Tables.{is_compacted}
use Rattle.slate_ids.specs.Keys.{key_lt}
use Rattle.slate_model.specs.declared.checkpoint.Checkpoint.{Checkpoint}
use Rattle.slate_model.specs.declared.manifest.Manifest.{Manifest}
use Rattle.slate_model.specs.Cores.{Core}
use Rattle.slate_model.specs.Segments.{Prefixed, ascend_from, are_ascending}
use Rattle.slate_model.specs.Trees.{views_of_tree, views_of}
use Rattle.slate_layout_parts.specs.Bytes.{u32_bytes, u64_bytes, list_bytes}
use Rattle.slate_layout_manifests.specs.TreeParts.{tree_bytes, segment_bytes}
use Rattle.slate_layout_manifests.specs.CheckpointParts.{second_of, expiry_second, id_name_bytes, checkpoint_bytes, entry_bytes, tracker_bytes}
use Rattle.slate_layout_parts.specs.InfoCodec.{is_short, unless_field}
use Rattle.slate_layout_parts.specs.InfoParts.{handle_bytes}
use Rattle.slate_layout_manifests.specs.ManifestParts.{body_of, head_bytes, middle_bytes, body_bytes}
use Rattle.slate_layout_encodable.specs.Normal.{whole_second, normal_checkpoint, normal_segment, normal_core, normal_manifest}
use Rattle.slate_layout_encodable.specs.Unencodable.{has_second, has_later_second, has_expiry, no_wal_ids, has_keys, short_tree, short_segment, are_short, early_field, late_field}
use Rattle.slate_layout_parts.specs.Lengths.{few}
use Rattle.slate_layout_encoding.specs.Encoding.{manifest_bytes, encoded_with, unless_early, encoded_manifest}
use Rattle.slate_layout_manifests.specs.Gathered.{ById, gathered}

-- ---- lists

bytes_kept : {X : Type 0} (f : X → List ℕ) (g : X → X) → ((x : X) → f (g x) ≡ f x) → (xs : List X) → flat_map f (map g xs) ≡ flat_map f xs
bytes_kept f g kept [] = refl
bytes_kept f g kept (x ∷ xs) = ap (λ (l : List ℕ). l ++ flat_map f (map g xs)) (kept x) ∙ ap (λ (l : List ℕ). f x ++ l) (bytes_kept f g kept xs)

list_kept : {X : Type 0} (f : X → List ℕ) (g : X → X) → ((x : X) → f (g x) ≡ f x) → (xs : List X) → list_bytes f (map g xs) ≡ list_bytes f xs
list_kept f g kept xs = ap (λ n. u32_bytes n ++ flat_map f (map g xs)) (length-map xs g) ∙ ap (λ (l : List ℕ). u32_bytes (length xs) ++ l) (bytes_kept f g kept xs)

all_kept : {X : Type 0} (test : X → Bool) (g : X → X) → ((x : X) → test (g x) ≡ test x) → (xs : List X) → list_all test (map g xs) ≡ list_all test xs
all_kept test g kept [] = refl
all_kept test g kept (x ∷ xs) = ap (λ b. b && list_all test (map g xs)) (kept x) ∙ ap (λ b. test x && b) (all_kept test g kept xs)

-- ---- moments

whole : (n : ℕ) → n / 1000 * 1000 / 1000 ≡ n / 1000
whole n = omega arith

second_kept : (t : ℤ) → second_of (whole_second t) ≡ second_of t
second_kept (pos n) = whole n
second_kept (negsuc n) = refl

expiry_kept : (t : Option ℤ) → expiry_second (option_map whole_second t) ≡ expiry_second t
expiry_kept None = refl
expiry_kept (Some t) = ap (λ (n : ℕ). Some n) (second_kept t)

creation_told : (t : ℤ) → has_second (whole_second t) ≡ has_second t
creation_told (pos n) = ap (λ k. nat_lt k (2 ^ 32)) (whole n)
creation_told (negsuc n) = refl

later_told : (t : ℤ) → has_later_second (whole_second t) ≡ has_later_second t
later_told (pos n) = ap (λ k. nat_lt 0 k && nat_lt k (2 ^ 32)) (whole n)
later_told (negsuc n) = refl

expiry_told : (t : Option ℤ) → has_expiry (option_map whole_second t) ≡ has_expiry t
expiry_told None = refl
expiry_told (Some t) = later_told t

checkpoint_kept : (c : Checkpoint) → checkpoint_bytes (normal_checkpoint c) ≡ checkpoint_bytes c
checkpoint_kept c =
    ap (λ (e : Option ℕ). id_name_bytes (c.id, (c.manifest_id, (e, (second_of (whole_second c.create_time), c.name))))) (expiry_kept c.expire_time)
    ∙ ap (λ n. id_name_bytes (c.id, (c.manifest_id, (expiry_second c.expire_time, (n, c.name))))) (second_kept c.create_time)

-- ---- trees

segments_ascend : (last : List ℕ) (ss : List Prefixed) → ascend_from last (map normal_segment ss) ≡ ascend_from last ss
segments_ascend last [] = refl
segments_ascend last (s ∷ ss) = ap (λ b. key_lt last s.prefix && b) (segments_ascend s.prefix ss)

pub ascending_kept : (ss : List Prefixed) → are_ascending (map normal_segment ss) ≡ are_ascending ss
ascending_kept ss = segments_ascend [] ss

segments_views : (ss : List Prefixed) → flat_map views_of_tree (map (λ s. s.tree) (map normal_segment ss)) ≡ flat_map views_of_tree (map (λ s. s.tree) ss)
segments_views [] = refl
segments_views (s ∷ ss) = ap (λ l. views_of_tree s.tree ++ l) (segments_views ss)

pub views_kept : (c : Core) → views_of (normal_core c) ≡ views_of c
views_kept c = ap (λ l. views_of_tree c.tree ++ l) (segments_views c.segments)

-- ---- manifests

-- the bytes of a body whose segments and checkpoints have these bytes
abbrev body_with : Manifest → List ℕ → List ℕ → List ℕ
body_with m segments checkpoints = head_bytes (body_of m).0 ++ (tree_bytes m.core.tree ++ (segments ++ (middle_bytes (body_of m).1.1.1.0 ++ (tracker_bytes m.core.sequence_tracker ++ (checkpoints ++ (list_bytes entry_bytes m.external_dbs ++ u64_bytes m.core.floor))))))

pub body_kept : (m : Manifest) → body_bytes (body_of (normal_manifest m)) ≡ body_bytes (body_of m)
body_kept m =
    ap (λ l. body_with m l (list_bytes checkpoint_bytes (map normal_checkpoint m.core.checkpoints))) (list_kept segment_bytes normal_segment (λ s. refl) m.core.segments)
    ∙ ap (λ l. body_with m (list_bytes segment_bytes m.core.segments) l) (list_kept checkpoint_bytes normal_checkpoint checkpoint_kept m.core.checkpoints)

expiries_told : (cs : List Checkpoint) → list_all (λ c. has_expiry c.expire_time) (map normal_checkpoint cs) ≡ list_all (λ c. has_expiry c.expire_time) cs
expiries_told = all_kept (λ c. has_expiry c.expire_time) normal_checkpoint (λ c. expiry_told c.expire_time)

creations_told : (cs : List Checkpoint) → list_all (λ c. has_second c.create_time) (map normal_checkpoint cs) ≡ list_all (λ c. has_second c.create_time) cs
creations_told = all_kept (λ c. has_second c.create_time) normal_checkpoint (λ c. creation_told c.create_time)

-- the first of three fields that has no bytes
abbrev pub of_three : Bool → Bool → Bool → FieldName → FieldName → FieldName → Option FieldName
of_three a b c x y z = if not a then Some x else if not b then Some y else if not c then Some z else None

no_ids_told : (m : Manifest) → no_wal_ids (normal_manifest m) ≡ no_wal_ids m
no_ids_told m = ap (λ l. list_all (λ v. is_compacted v.sst.id) l && list_all (λ e. list_all is_compacted e.sst_ids) m.external_dbs) (views_kept m.core)

early_kept : (m : Manifest) → early_field (normal_manifest m) ≡ early_field m
early_kept m =
    ap (λ b. of_three b (list_all (λ c. has_second c.create_time) (map normal_checkpoint m.core.checkpoints)) (no_wal_ids (normal_manifest m)) ExpireTime CreateTime WalId) (expiries_told m.core.checkpoints)
    ∙ ap (λ b. of_three (list_all (λ c. has_expiry c.expire_time) m.core.checkpoints) b (no_wal_ids (normal_manifest m)) ExpireTime CreateTime WalId) (creations_told m.core.checkpoints)
    ∙ ap (λ b. of_three (list_all (λ c. has_expiry c.expire_time) m.core.checkpoints) (list_all (λ c. has_second c.create_time) m.core.checkpoints) b ExpireTime CreateTime WalId) (no_ids_told m)

-- whether all lengths are short, of so many segments, whether those are, of so many checkpoints, and whether their names are
abbrev short_with : ℕ → Manifest → ℕ → Bool → ℕ → Bool → Bool
short_with tables m segments trees checkpoints names = few tables && short_tree m.core.tree && few segments && trees && is_short m.core.segment_extractor_name && few checkpoints && names && few (length m.external_dbs) && list_all (λ e. few (length e.sst_ids)) m.external_dbs

lengths_kept : (n : ℕ) (m : Manifest) → are_short n (normal_manifest m) ≡ are_short n m
lengths_kept n m =
    let ss = m.core.segments in
    let cs = m.core.checkpoints in
    ap (λ k. short_with n m k (list_all short_segment (map normal_segment ss)) (length (map normal_checkpoint cs)) (list_all (λ c. is_short c.name) (map normal_checkpoint cs))) (length-map ss normal_segment)
    ∙ ap (λ b. short_with n m (length ss) b (length (map normal_checkpoint cs)) (list_all (λ c. is_short c.name) (map normal_checkpoint cs))) (all_kept short_segment normal_segment (λ s. refl) ss)
    ∙ ap (λ k. short_with n m (length ss) (list_all short_segment ss) k (list_all (λ c. is_short c.name) (map normal_checkpoint cs))) (length-map cs normal_checkpoint)
    ∙ ap (λ b. short_with n m (length ss) (list_all short_segment ss) (length cs) b) (all_kept (λ c. is_short c.name) normal_checkpoint (λ c. refl) cs)

late_kept : (n : ℕ) (m : Manifest) → late_field n (normal_manifest m) ≡ late_field n m
late_kept n m =
    ap (λ l. if not (list_all has_keys l) then Some NoKeys else if m.core.next_wal_sst_id == 0 then Some NextWal else if not (are_short n (normal_manifest m)) then Some Length else None) (views_kept m.core)
    ∙ ap (λ b. if not (list_all has_keys (views_of m.core)) then Some NoKeys else if m.core.next_wal_sst_id == 0 then Some NextWal else if not b then Some Length else None) (lengths_kept n m)

with_kept : (tables : Option ById) (m : Manifest) → encoded_with tables (normal_manifest m) ≡ encoded_with tables m
with_kept None m = refl
with_kept (Some tables) m =
    ap (λ f. unless_field f (manifest_bytes tables (normal_manifest m))) (late_kept (length tables) m)
    ∙ ap (λ (l : List ℕ). unless_field (late_field (length tables) m) (0 ∷ 2 ∷ (list_bytes handle_bytes (map (λ e. e.1) tables) ++ l))) (body_kept m)

early_told : (f : Option FieldName) (m : Manifest) → unless_early f (normal_manifest m) ≡ unless_early f m
early_told (Some f) m = refl
early_told None m = ap (λ l. encoded_with (gathered l []) (normal_manifest m)) (views_kept m.core) ∙ with_kept (gathered (views_of m.core) []) m

-- the normal form has the same bytes, or the same first field has none
pub encoded_kept : (m : Manifest) → encoded_manifest (normal_manifest m) ≡ encoded_manifest m
encoded_kept m = ap (λ f. unless_early f (normal_manifest m)) (early_kept m) ∙ early_told (early_field m) m
