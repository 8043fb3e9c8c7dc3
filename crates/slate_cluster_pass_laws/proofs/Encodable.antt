-- What is read back of a manifest that has bytes has bytes, also without some of its checkpoints and with the floor that its watermark asks for.
use Rattle.std.proofs.Common.{◌≡◌, ℕ, ℤ, ◌*◌, ◌/◌, ◌<◌, ◌≤◌, ◌^◌, max, nat_lt, Bool, true, false, List, [], ◌∷◌, ◌++◌, length, map, filter, Option, Some, None, Result, Ok, Err, refl, sym, ap, ◌∙◌, subst, arith}
use Rattle.std.proofs.lemmas.Bool.{and_parts, and_from}
use Rattle.std.proofs.lemmas.Bool.Decides.{nat_tests}
use Rattle.std.proofs.lemmas.List.{length-map}
use Rattle.std.specs.Prelude.{pos, negsuc, ◌==◌, ◌&&◌, not, if◌then◌else◌}
use Rattle.std.specs.List.{list_all, flat_map, cons_option}
use Rattle.std.specs.Option.{option_map}
use Rattle.slate_ids.specs.Keys.{key_lt}
use Rattle.slate_ids.specs.Ulids.{is_id}
use Rattle.slate_ids.specs.declared.error.SlateDBError.{SlateDBError}
use Rattle.slate_ids.specs.declared.error.FieldName.{FieldName}
use Rattle.slate_ids.specs.declared.error.FieldName.TheVariants.{ExpireTime, CreateTime, WalId, NoKeys, NextWal, Length}
use Rattle.slate_ids.specs.declared.error.FormatName.TheVariants as format
use Rattle.slate_model_tables.specs.Tables.{is_compacted}
use Rattle.slate_model_tables.specs.Views.{View}
use Rattle.slate_model_tables.specs.declared.ss_table_id.SsTableId.{SsTableId}
use Rattle.slate_model_tables.specs.declared.ss_table_id.SsTableId.TheVariants.{Wal, Compacted}
use Rattle.slate_model.specs.Cores.{Core}
use Rattle.slate_model.specs.Segments.{Prefixed, ascend_from, are_ascending}
use Rattle.slate_model.specs.Trees.{segment_trees, views_of, views_of_tree}
use Rattle.slate_model.specs.Watermark.{timed_id, timed_ids, flushed_ids, flushed_of_tree, greatest, watermark}
use Rattle.slate_model.specs.declared.checkpoint.Checkpoint.{Checkpoint}
use Rattle.slate_model.specs.declared.lsm_tree_state.LsmTreeState.{LsmTreeState}
use Rattle.slate_model.specs.declared.manifest.Manifest.{Manifest}
use Rattle.slate_layout_parts.specs.Bytes.{is_u64}
use Rattle.slate_layout_parts.specs.InfoCodec.{unless_field, is_short}
use Rattle.slate_layout_parts.specs.Lengths.{few}
use Rattle.slate_layout_parts.specs.TablesOfViews.{table_id}
use Rattle.slate_layout_parts.specs.Typed.{is_view, is_run, none_or}
use Rattle.slate_layout_manifests.specs.Gathered.{ById, gathered}
use Rattle.slate_layout_manifests.specs.ManifestParts.{body_of}
use Rattle.slate_layout_manifests.specs.TypedManifests.{is_tree, is_segment, is_checkpoint, is_entry, is_tracker, are_trees, is_middle, is_tail, is_front, is_body, are_tables, is_manifest}
use Rattle.slate_layout_encodable.specs.Normal.{whole_second, normal_checkpoint, normal_segment, normal_core, normal_manifest}
use Rattle.slate_layout_encodable.specs.Unencodable.{has_second, has_later_second, has_expiry, no_wal_ids, has_keys, short_tree, short_segment, are_short, early_field, late_field}
use Rattle.slate_layout_encoding.specs.Encoding.{encoded_with, unless_early, encoded_manifest, manifest_bytes}
use Rattle.slate_layout.specs.Codec.{if_typed, encoded}
use Rattle.slate_state_updates.specs.ManifestChanges.{with_floor}
use Rattle.slate_state_updates.specs.Checkpoints.{with_checkpoints}

-- a manifest that has bytes
pub record HasBytes (m : Manifest) : Type 0 where
  pub bytes : List ℕ
  pub is : encoded m ≡ Ok bytes

-- ---- lists

all_kept : {X : Type 0} (test : X → Bool) (f : X → X) → ((x : X) → test (f x) ≡ test x) → (xs : List X) → list_all test (map f xs) ≡ list_all test xs
all_kept test f h [] = refl
all_kept test f h (x ∷ xs) = ap (λ (b : Bool). b && list_all test (map f xs)) (h x) ∙ ap (λ (b : Bool). test x && b) (all_kept test f h xs)

all_left : {X : Type 0} (test keep : X → Bool) (xs : List X) → list_all test xs ≡ true → list_all test (filter keep xs) ≡ true
all_left test keep [] h = refl
all_left test keep (x ∷ xs) h =
    let p = and_parts (test x) (list_all test xs) h in
    step (keep x) p.0 (all_left test keep xs p.1)
  where
    step : (b : Bool) → test x ≡ true → list_all test (filter keep xs) ≡ true → list_all test (if b then x ∷ filter keep xs else filter keep xs) ≡ true
    step true a rest = and_from (test x) (list_all test (filter keep xs)) a rest
    step false a rest = rest

length_left : {X : Type 0} (keep : X → Bool) (xs : List X) → length (filter keep xs) ≤ length xs
length_left keep [] = omega arith
length_left keep (x ∷ xs) = step (keep x) (length_left keep xs)
  where
    step : (b : Bool) → length (filter keep xs) ≤ length xs → length (if b then x ∷ filter keep xs else filter keep xs) ≤ length (x ∷ xs)
    step true h = omega arith
    step false h = omega arith

few_left : (a b : ℕ) → a ≤ b → few b ≡ true → few a ≡ true
few_left a b le h = grind (arith, nat_tests)

-- ---- checkpoints that have bytes

pub record AreFine (cs : List Checkpoint) : Type 0 where
  pub typed : list_all is_checkpoint cs ≡ true
  pub expire : list_all (λ c. has_expiry c.expire_time) cs ≡ true
  pub create : list_all (λ c. has_second c.create_time) cs ≡ true
  pub number : few (length cs) ≡ true
  pub names : list_all (λ c. is_short c.name) cs ≡ true

second_same : (n : ℕ) → n / 1000 * 1000 / 1000 ≡ n / 1000
second_same n = omega arith

creation_same : (t : ℤ) → has_second (whole_second t) ≡ has_second t
creation_same (pos n) = ap (λ (k : ℕ). nat_lt k (2 ^ 32)) (second_same n)
creation_same (negsuc n) = refl

later_same : (t : ℤ) → has_later_second (whole_second t) ≡ has_later_second t
later_same (pos n) = ap (λ (k : ℕ). nat_lt 0 k && nat_lt k (2 ^ 32)) (second_same n)
later_same (negsuc n) = refl

expiry_same : (t : Option ℤ) → has_expiry (option_map whole_second t) ≡ has_expiry t
expiry_same None = refl
expiry_same (Some t) = later_same t

-- those that are read back, without some
left_fine : (keep : Checkpoint → Bool) (cs : List Checkpoint) → AreFine cs → AreFine (filter keep (map normal_checkpoint cs))
left_fine keep cs h =
    let ds = map normal_checkpoint cs in
    record {
      typed = all_left is_checkpoint keep ds (all_kept is_checkpoint normal_checkpoint (λ c. refl) cs ∙ h.typed);
      expire = all_left (λ c. has_expiry c.expire_time) keep ds (all_kept (λ c. has_expiry c.expire_time) normal_checkpoint (λ c. expiry_same c.expire_time) cs ∙ h.expire);
      create = all_left (λ c. has_second c.create_time) keep ds (all_kept (λ c. has_second c.create_time) normal_checkpoint (λ c. creation_same c.create_time) cs ∙ h.create);
      number = few_left (length (filter keep ds)) (length ds) (length_left keep ds) (ap few (length-map cs normal_checkpoint) ∙ h.number);
      names = all_left (λ c. is_short c.name) keep ds (all_kept (λ c. is_short c.name) normal_checkpoint (λ c. refl) cs ∙ h.names);
    }

-- ---- the floor

-- the milliseconds of ids have 64 bits
abbrev AreSmall : List (ℕ × ℕ) → Type 0
AreSmall ids = greatest (map (λ id. id.0) ids) < 2 ^ 64

small_both : (a b : List (ℕ × ℕ)) → AreSmall a → AreSmall b → AreSmall (a ++ b)
small_both [] b h k = k
small_both (x ∷ a) b h k = let rest = small_both a b (omega arith) k in omega arith

id_small : (id : ℕ × ℕ) → is_id id ≡ true → id.0 < 2 ^ 64
id_small id h = let p = and_parts (nat_lt id.0 (2 ^ 48)) (nat_lt id.1 (2 ^ 80)) h in less id.0 p.0
  where
    less : (n : ℕ) → nat_lt n (2 ^ 48) ≡ true → n < 2 ^ 64
    less n h = grind (arith, nat_tests)

one_more : (id : ℕ × ℕ) (ids : List (ℕ × ℕ)) → id.0 < 2 ^ 64 → AreSmall ids → AreSmall (id ∷ ids)
one_more id ids lt h = omega arith

views_small : (vs : List View) → list_all is_view vs ≡ true → AreSmall (timed_ids vs)
views_small [] h = omega arith
views_small (v ∷ vs) h =
    let p = and_parts (is_view v) (list_all is_view vs) h in
    let q = and_parts (is_id v.id) _ p.0 in
    let r = and_parts (is_id (table_id v.sst.id)) _ q.1 in
    step v.sst.id refl r.0 (views_small vs p.1)
  where
    more : (o : Option (ℕ × ℕ)) → timed_id v.sst.id ≡ o → timed_ids (v ∷ vs) ≡ cons_option o (timed_ids vs)
    more o is = ap (λ (x : Option (ℕ × ℕ)). cons_option x (timed_ids vs)) is

    step : (id : SsTableId) → v.sst.id ≡ id → is_id (table_id v.sst.id) ≡ true → AreSmall (timed_ids vs) → AreSmall (timed_ids (v ∷ vs))
    step (Wal n) is a rest = subst AreSmall (sym (more None (ap timed_id is))) rest
    step (Compacted id) is a rest =
        let lt = id_small id (sym (ap (λ (i : SsTableId). is_id (table_id i)) is) ∙ a) in
        subst AreSmall (sym (more (Some id) (ap timed_id is))) (one_more id (timed_ids vs) lt rest)

tree_small : (t : LsmTreeState) → is_tree t ≡ true → AreSmall (flushed_of_tree t)
tree_small t h =
    let p = and_parts (none_or is_id t.last_compacted_l0_sst_view_id) (list_all is_view t.l0 && list_all is_run t.compacted) h in
    let q = and_parts (list_all is_view t.l0) (list_all is_run t.compacted) p.1 in
    by_views t.l0 q.0 t.last_compacted_l0_sst_view_id p.0
  where
    by_views : (vs : List View) → list_all is_view vs ≡ true → (o : Option (ℕ × ℕ)) → none_or is_id o ≡ true → AreSmall (flushed_ids o vs)
    by_views [] all None h = omega arith
    by_views [] all (Some id) h = one_more id [] (id_small id h) (omega arith)
    by_views (v ∷ vs) all o h = views_small (v ∷ vs) all

segments_small : (ss : List Prefixed) → list_all is_segment ss ≡ true → AreSmall (flat_map flushed_of_tree (segment_trees (map normal_segment ss)))
segments_small [] h = omega arith
segments_small (s ∷ ss) h =
    let p = and_parts (is_segment s) (list_all is_segment ss) h in
    small_both (flushed_of_tree s.tree) _ (tree_small s.tree p.0) (segments_small ss p.1)

-- the watermark of what is read back
watermark_small : (c : Core) → is_tree c.tree ≡ true → list_all is_segment c.segments ≡ true → watermark (normal_core c) < 2 ^ 64
watermark_small c t ss = small_both (flushed_of_tree c.tree) _ (tree_small c.tree t) (segments_small c.segments ss)

-- ---- trees

segments_ascend : (last : List ℕ) (ss : List Prefixed) → ascend_from last (map normal_segment ss) ≡ ascend_from last ss
segments_ascend last [] = refl
segments_ascend last (s ∷ ss) = ap (λ (b : Bool). key_lt last s.prefix && b) (segments_ascend s.prefix ss)

segments_views : (ss : List Prefixed) → flat_map views_of_tree (segment_trees (map normal_segment ss)) ≡ flat_map views_of_tree (segment_trees ss)
segments_views [] = refl
segments_views (s ∷ ss) = ap (λ (l : List View). views_of_tree s.tree ++ l) (segments_views ss)

views_kept : (c : Core) → views_of (normal_core c) ≡ views_of c
views_kept c = ap (λ (l : List View). views_of_tree c.tree ++ l) (segments_views c.segments)

-- ---- a manifest that is read back, with other checkpoints and another floor

abbrev less : Manifest → List Checkpoint → ℕ → Manifest
less m cs floor = record m { core = record (normal_core m.core) { checkpoints = cs; floor = floor } }

less_views : (m : Manifest) (cs : List Checkpoint) (floor : ℕ) → views_of (less m cs floor).core ≡ views_of m.core
less_views m cs floor = views_kept m.core

-- it is of its type
less_typed : (m : Manifest) (cs : List Checkpoint) (floor : ℕ) → is_manifest m ≡ true → AreFine cs → floor < 2 ^ 64 → is_manifest (less m cs floor) ≡ true
less_typed m cs floor h fine small =
    let p = and_parts (is_body m) (are_tables (gathered (views_of m.core) [])) h in
    let a = and_parts (is_front m) _ p.0 in
    let b = and_parts (are_trees (m.core.tree, m.core.segments)) _ a.1 in
    let c = and_parts (is_middle (body_of m).1.1.1.0) (is_tail (body_of m).1.1.1.1) b.1 in
    let t = and_parts (is_tree m.core.tree) (list_all is_segment m.core.segments && are_ascending m.core.segments) b.0 in
    let u = and_parts (list_all is_segment m.core.segments) (are_ascending m.core.segments) t.1 in
    let d = and_parts (is_tracker m.core.sequence_tracker) _ c.1 in
    let e = and_parts (list_all is_checkpoint m.core.checkpoints) _ d.1 in
    let f = and_parts (list_all is_entry m.external_dbs) (is_u64 m.core.floor) e.1 in
    let segments = and_from _ _ (all_kept is_segment normal_segment (λ s. refl) m.core.segments ∙ u.0) (segments_ascend [] m.core.segments ∙ u.1) in
    let trees = and_from _ _ t.0 segments in
    let tail = and_from _ _ d.0 (and_from _ _ fine.typed (and_from _ _ f.0 (is_small floor small))) in
    let body = and_from _ _ a.0 (and_from _ _ trees (and_from _ _ c.0 tail)) in
    and_from _ _ body (ap (λ (l : List View). are_tables (gathered l [])) (less_views m cs floor) ∙ p.1)
  where
    is_small : (n : ℕ) → n < 2 ^ 64 → is_u64 n ≡ true
    is_small n h = grind (arith, nat_tests)

-- ---- the first field without bytes

-- the first of three fields that has no bytes
abbrev of_three : Bool → Bool → Bool → FieldName → FieldName → FieldName → Option FieldName
of_three a b c x y z = if not a then Some x else if not b then Some y else if not c then Some z else None

all_three : (a b c : Bool) (x y z : FieldName) → of_three a b c x y z ≡ None → (a ≡ true) × (b ≡ true) × (c ≡ true)
all_three true true true x y z h = (refl, refl, refl)
all_three true true false x y z h = absurd cc
all_three true false c x y z h = absurd cc
all_three false b c x y z h = absurd cc

three_all : (a b c : Bool) (x y z : FieldName) → a ≡ true → b ≡ true → c ≡ true → of_three a b c x y z ≡ None
three_all true true true x y z h k l = refl
three_all false b c x y z h k l = absurd cc
three_all a false c x y z h k l = absurd cc
three_all a b false x y z h k l = absurd cc

less_early : (m : Manifest) (cs : List Checkpoint) (floor : ℕ) → early_field m ≡ None → AreFine cs → early_field (less m cs floor) ≡ None
less_early m cs floor h fine =
    let p = all_three (list_all (λ c. has_expiry c.expire_time) m.core.checkpoints) (list_all (λ c. has_second c.create_time) m.core.checkpoints) (no_wal_ids m) ExpireTime CreateTime WalId h in
    let ids : no_wal_ids (less m cs floor) ≡ true =
    ap (λ (l : List View). list_all (λ v. is_compacted v.sst.id) l && list_all (λ e. list_all is_compacted e.sst_ids) m.external_dbs) (less_views m cs floor) ∙ p.2 in
    three_all (list_all (λ c. has_expiry c.expire_time) cs) (list_all (λ c. has_second c.create_time) cs) (no_wal_ids (less m cs floor)) ExpireTime CreateTime WalId fine.expire fine.create ids

-- the lengths of a manifest with so many segments, whether those are short, so many checkpoints, and whether their names are short
abbrev short_with : ℕ → Manifest → ℕ → Bool → ℕ → Bool → Bool
short_with tables m segments trees checkpoints names = few tables && short_tree m.core.tree && few segments && trees && is_short m.core.segment_extractor_name && few checkpoints && names && few (length m.external_dbs) && list_all (λ e. few (length e.sst_ids)) m.external_dbs

with_others : (a b c d e f g h i : Bool) (x y : Bool) → (a && b && c && d && e && f && g && h && i) ≡ true → x ≡ true → y ≡ true → (a && b && c && d && e && x && y && h && i) ≡ true
with_others false b c d e f g h i x y k l m = absurd cc
with_others true false c d e f g h i x y k l m = absurd cc
with_others true true false d e f g h i x y k l m = absurd cc
with_others true true true false e f g h i x y k l m = absurd cc
with_others true true true true false f g h i x y k l m = absurd cc
with_others true true true true true false g h i x y k l m = absurd cc
with_others true true true true true true false h i x y k l m = absurd cc
with_others true true true true true true true h i true true k l m = k
with_others true true true true true true true h i false y k l m = absurd cc
with_others true true true true true true true h i true false k l m = absurd cc

less_late : (n : ℕ) (m : Manifest) (cs : List Checkpoint) (floor : ℕ) → late_field n m ≡ None → AreFine cs → late_field n (less m cs floor) ≡ None
less_late n m cs floor h fine =
    let p = all_three (list_all has_keys (views_of m.core)) (not (m.core.next_wal_sst_id == 0)) (are_short n m) NoKeys NextWal Length (nots (list_all has_keys (views_of m.core)) (m.core.next_wal_sst_id == 0) (are_short n m) h) in
    let keys : list_all has_keys (views_of (less m cs floor).core) ≡ true = ap (λ (l : List View). list_all has_keys l) (less_views m cs floor) ∙ p.0 in
    let ss = m.core.segments in
    let segments : short_with n m (length (map normal_segment ss)) (list_all short_segment (map normal_segment ss)) (length m.core.checkpoints) (list_all (λ c. is_short c.name) m.core.checkpoints) ≡ are_short n m =
    ap (λ (k : ℕ). short_with n m k (list_all short_segment (map normal_segment ss)) (length m.core.checkpoints) (list_all (λ c. is_short c.name) m.core.checkpoints)) (length-map ss normal_segment)
    ∙ ap (λ (b : Bool). short_with n m (length ss) b (length m.core.checkpoints) (list_all (λ c. is_short c.name) m.core.checkpoints)) (all_kept short_segment normal_segment (λ s. refl) ss) in
    let short : are_short n (less m cs floor) ≡ true = with_others (few n) (short_tree m.core.tree) (few (length (map normal_segment ss))) (list_all short_segment (map normal_segment ss)) (is_short m.core.segment_extractor_name) (few (length m.core.checkpoints)) (list_all (λ c. is_short c.name) m.core.checkpoints) (few (length m.external_dbs)) (list_all (λ e. few (length e.sst_ids)) m.external_dbs)
    (few (length cs)) (list_all (λ c. is_short c.name) cs) (segments ∙ p.2) fine.number fine.names in
    yes (list_all has_keys (views_of (less m cs floor).core)) (m.core.next_wal_sst_id == 0) (are_short n (less m cs floor)) keys p.1 short
  where
    nots : (a b c : Bool) → (if not a then Some NoKeys else if b then Some NextWal else if not c then Some Length else None) ≡ None → of_three a (not b) c NoKeys NextWal Length ≡ None
    nots true true c h = h
    nots true false c h = h
    nots false b c h = h

    yes : (a b c : Bool) → a ≡ true → not b ≡ true → c ≡ true → (if not a then Some NoKeys else if b then Some NextWal else if not c then Some Length else None) ≡ None
    yes true false true h k l = refl
    yes false b c h k l = absurd cc
    yes true true c h k l = absurd cc
    yes true false false h k l = absurd cc

-- ---- the bytes

ok_field : (o : Option FieldName) (bytes out : List ℕ) → unless_field o bytes ≡ Ok out → o ≡ None
ok_field None bytes out h = refl
ok_field (Some f) bytes out h = absurd cc

-- what is known of a manifest that has bytes
record Parts (m : Manifest) : Type 0 where
  typed : is_manifest m ≡ true
  early : early_field m ≡ None
  tables : ById
  gathers : gathered (views_of m.core) [] ≡ Some tables
  late : late_field (length tables) m ≡ None

parts_of : (m : Manifest) (bytes : List ℕ) → encoded m ≡ Ok bytes → Parts m
parts_of m bytes h = by_type (is_manifest m) (encoded_manifest m) refl refl h
  where
    by_tables : (o : Option ById) → is_manifest m ≡ true → early_field m ≡ None → gathered (views_of m.core) [] ≡ o → encoded_with o m ≡ Ok bytes → Parts m
    by_tables None t e g h = absurd cc
    by_tables (Some tables) t e g h = record { typed = t; early = e; tables = tables; gathers = g; late = ok_field (late_field (length tables) m) (manifest_bytes tables m) bytes h }

    by_early : (o : Option FieldName) → is_manifest m ≡ true → early_field m ≡ o → unless_early o m ≡ Ok bytes → Parts m
    by_early None t e h = by_tables (gathered (views_of m.core) []) t e refl h
    by_early (Some f) t e h = absurd cc

    by_type : (t : Bool) (r : Result (List ℕ) SlateDBError) → is_manifest m ≡ t → encoded_manifest m ≡ r → if_typed format.Manifest t r ≡ Ok bytes → Parts m
    by_type true (Ok out) t e h = by_early (early_field m) t refl (e ∙ h)
    by_type false (Ok out) t e h = absurd cc
    by_type t (Err error) is e h = absurd cc

-- a manifest of such parts has bytes
has_bytes : (m : Manifest) → Parts m → HasBytes m
has_bytes m p = record {
  bytes = manifest_bytes p.tables m;
  is = ap (λ (t : Bool). if_typed format.Manifest t (encoded_manifest m)) p.typed
      ∙ (ap (λ (f : Option FieldName). if_typed format.Manifest true (unless_early f m)) p.early
      ∙ (ap (λ (o : Option ById). if_typed format.Manifest true (encoded_with o m)) p.gathers
      ∙ ap (λ (f : Option FieldName). if_typed format.Manifest true (unless_field f (manifest_bytes p.tables m))) p.late));
}

less_bytes : (m : Manifest) (bytes : List ℕ) (cs : List Checkpoint) (floor : ℕ) → encoded m ≡ Ok bytes → AreFine cs → floor < 2 ^ 64 → HasBytes (less m cs floor)
less_bytes m bytes cs floor h fine small =
    let p = parts_of m bytes h in
    has_bytes (less m cs floor) (record {
      typed = less_typed m cs floor p.typed fine small;
      early = less_early m cs floor p.early fine;
      tables = p.tables;
      gathers = ap (λ (l : List View). gathered l []) (less_views m cs floor) ∙ p.gathers;
      late = less_late (length p.tables) m cs floor p.late fine;
    })

-- what is read back of a manifest that has bytes, without some of its checkpoints
pub removal_bytes : (m : Manifest) (bytes : List ℕ) (keep : Checkpoint → Bool) → encoded m ≡ Ok bytes
    → HasBytes (with_floor m.core.floor (with_checkpoints (filter keep (normal_manifest m).core.checkpoints) (normal_manifest m)))
removal_bytes m bytes keep h =
    let p = parts_of m bytes h in
    let body = and_parts (is_body m) (are_tables (gathered (views_of m.core) [])) p.typed in
    let a = and_parts (is_front m) _ body.0 in
    let b = and_parts (are_trees (m.core.tree, m.core.segments)) _ a.1 in
    let c = and_parts (is_middle (body_of m).1.1.1.0) (is_tail (body_of m).1.1.1.1) b.1 in
    let t = and_parts (is_tree m.core.tree) (list_all is_segment m.core.segments && are_ascending m.core.segments) b.0 in
    let u = and_parts (list_all is_segment m.core.segments) (are_ascending m.core.segments) t.1 in
    let d = and_parts (is_tracker m.core.sequence_tracker) _ c.1 in
    let e = and_parts (list_all is_checkpoint m.core.checkpoints) _ d.1 in
    let f = and_parts (list_all is_entry m.external_dbs) (is_u64 m.core.floor) e.1 in
    let early = all_three (list_all (λ c. has_expiry c.expire_time) m.core.checkpoints) (list_all (λ c. has_second c.create_time) m.core.checkpoints) (no_wal_ids m) ExpireTime CreateTime WalId p.early in
    let short = short_ones (length p.tables) m p.late in
    let fine : AreFine m.core.checkpoints = record { typed = e.0; expire = early.0; create = early.1; number = short.0; names = short.1 } in
    let w = watermark_small m.core t.0 u.0 in
    less_bytes m bytes (filter keep (map normal_checkpoint m.core.checkpoints)) _ h (left_fine keep m.core.checkpoints fine) (both_small m.core.floor (watermark (normal_core m.core)) f.1 w)
  where
    both_small : (a b : ℕ) → is_u64 a ≡ true → b < 2 ^ 64 → max a b < 2 ^ 64
    both_small a b h k = grind (arith, nat_tests)

    parts : (a b c d e f g h i : Bool) → (a && b && c && d && e && f && g && h && i) ≡ true → (f ≡ true) × (g ≡ true)
    parts false b c d e f g h i k = absurd cc
    parts true false c d e f g h i k = absurd cc
    parts true true false d e f g h i k = absurd cc
    parts true true true false e f g h i k = absurd cc
    parts true true true true false f g h i k = absurd cc
    parts true true true true true false g h i k = absurd cc
    parts true true true true true true false h i k = absurd cc
    parts true true true true true true true h i k = (refl, refl)

    late_short : (a b c : Bool) → (if not a then Some NoKeys else if b then Some NextWal else if not c then Some Length else None) ≡ None → c ≡ true
    late_short true false true h = refl
    late_short false b c h = absurd cc
    late_short true true c h = absurd cc
    late_short true false false h = absurd cc

    short_ones : (n : ℕ) (x : Manifest) → late_field n x ≡ None → (few (length x.core.checkpoints) ≡ true) × (list_all (λ c. is_short c.name) x.core.checkpoints ≡ true)
    short_ones n x h =
        parts (few n) (short_tree x.core.tree) (few (length x.core.segments)) (list_all short_segment x.core.segments) (is_short x.core.segment_extractor_name) (few (length x.core.checkpoints)) (list_all (λ c. is_short c.name) x.core.checkpoints) (few (length x.external_dbs)) (list_all (λ e. few (length e.sst_ids)) x.external_dbs)
        (late_short (list_all has_keys (views_of x.core)) (x.core.next_wal_sst_id == 0) (are_short n x) h)
