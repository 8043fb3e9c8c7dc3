-- The test of normal forms is true of exactly those.
use Rattle.std.specs.Prelude.{◌≡◌, ℕ, ℤ, pos, negsuc, ◌*◌, ◌/◌, ◌%◌, ◌==◌, ◌&&◌, true, List, [], ◌∷◌, map, Option, Some, None, is_none, refl}
use Rattle.std.specs.List.{list_all}
use Rattle.std.specs.Option.{option_map}
use Rattle.std.proofs.Common.{ap, ◌∙◌, subst, arith}
use Rattle.std.proofs.lemmas.Bool.{and_parts, and_from}
use Rattle.std.proofs.lemmas.Bool.Decides.{nat_tests}
use Rattle.slate_model.specs.declared.checkpoint.Checkpoint.{Checkpoint}
use Rattle.slate_model.specs.declared.lsm_tree_state.LsmTreeState.{LsmTreeState}
use Rattle.slate_model.specs.declared.manifest.Manifest.{Manifest}
use Rattle.slate_model.specs.Cores.{Core}
use Rattle.slate_model.specs.Segments.{Prefixed}
use Rattle.slate_layout_encodable.specs.Normal.{whole_second, normal_checkpoint, normal_tree, normal_segment, normal_core, normal_manifest, is_whole, is_whole_expiry, is_normal_checkpoint, is_normal_tree, is_normal_core, is_normal}

-- ---- a normal form passes

no_rest : (n : ℕ) → n / 1000 * 1000 % 1000 == 0 ≡ true
no_rest n = let d : n / 1000 * 1000 % 1000 ≡ 0 = omega arith in grind (arith, nat_tests)

moment_passes : (t : ℤ) → is_whole (whole_second t) ≡ true
moment_passes (pos n) = no_rest n
moment_passes (negsuc n) = refl

expiry_passes : (t : Option ℤ) → is_whole_expiry (option_map whole_second t) ≡ true
expiry_passes None = refl
expiry_passes (Some t) = moment_passes t

checkpoints_pass : (cs : List Checkpoint) → list_all is_normal_checkpoint (map normal_checkpoint cs) ≡ true
checkpoints_pass [] = refl
checkpoints_pass (c ∷ cs) = and_from _ _ (and_from _ _ (expiry_passes c.expire_time) (moment_passes c.create_time)) (checkpoints_pass cs)

segments_pass : (ss : List Prefixed) → list_all (λ s. is_normal_tree s.tree) (map normal_segment ss) ≡ true
segments_pass [] = refl
segments_pass (s ∷ ss) = segments_pass ss

-- a normal form passes the test
pub normal_passes : (m : Manifest) → is_normal (normal_manifest m) ≡ true
normal_passes m = and_from _ _ (segments_pass m.core.segments) (checkpoints_pass m.core.checkpoints)

-- ---- what passes is its own normal form

whole_is : (n : ℕ) → n % 1000 == 0 ≡ true → n / 1000 * 1000 ≡ n
whole_is n h = let d : n % 1000 ≡ 0 = grind (arith, nat_tests) in omega arith

moment_kept : (t : ℤ) → is_whole t ≡ true → whole_second t ≡ t
moment_kept (pos n) h = ap (λ (k : ℕ). pos k) (whole_is n h)
moment_kept (negsuc n) h = refl

expiry_kept : (t : Option ℤ) → is_whole_expiry t ≡ true → option_map whole_second t ≡ t
expiry_kept None h = refl
expiry_kept (Some t) h = ap (λ (s : ℤ). Some s) (moment_kept t h)

with_moments : Checkpoint → Option ℤ → ℤ → Checkpoint
with_moments c e t = record c { expire_time = e; create_time = t }

checkpoint_kept : (c : Checkpoint) → is_normal_checkpoint c ≡ true → normal_checkpoint c ≡ c
unfolding with_moments
checkpoint_kept c h =
    let p = and_parts (is_whole_expiry c.expire_time) (is_whole c.create_time) h in
    ap (λ (e : Option ℤ). with_moments c e (whole_second c.create_time)) (expiry_kept c.expire_time p.0)
    ∙ ap (λ (t : ℤ). with_moments c c.expire_time t) (moment_kept c.create_time p.1)

checkpoints_kept : (cs : List Checkpoint) → list_all is_normal_checkpoint cs ≡ true → map normal_checkpoint cs ≡ cs
checkpoints_kept [] h = refl
checkpoints_kept (c ∷ cs) h =
    let p = and_parts (is_normal_checkpoint c) (list_all is_normal_checkpoint cs) h in
    ap (λ (d : Checkpoint). d ∷ map normal_checkpoint cs) (checkpoint_kept c p.0)
    ∙ ap (λ (ds : List Checkpoint). c ∷ ds) (checkpoints_kept cs p.1)

none_is : {X : Type 0} (o : Option X) → is_none o ≡ true → None ≡ o
none_is None h = refl
none_is (Some x) h = absurd cc

with_marker : LsmTreeState → Option (ℕ × ℕ) → LsmTreeState
with_marker t o = record t { last_compacted_l0_sst_id = o }

tree_kept : (t : LsmTreeState) → is_normal_tree t ≡ true → normal_tree t ≡ t
unfolding with_marker
tree_kept t h = ap (with_marker t) (none_is t.last_compacted_l0_sst_id h)

with_tree : Prefixed → LsmTreeState → Prefixed
with_tree s t = record s { tree = t }

segment_kept : (s : Prefixed) → is_normal_tree s.tree ≡ true → normal_segment s ≡ s
unfolding with_tree
segment_kept s h = ap (with_tree s) (tree_kept s.tree h)

segments_kept : (ss : List Prefixed) → list_all (λ s. is_normal_tree s.tree) ss ≡ true → map normal_segment ss ≡ ss
segments_kept [] h = refl
segments_kept (s ∷ ss) h =
    let p = and_parts (is_normal_tree s.tree) (list_all (λ s. is_normal_tree s.tree) ss) h in
    ap (λ (r : Prefixed). r ∷ map normal_segment ss) (segment_kept s p.0)
    ∙ ap (λ (rs : List Prefixed). s ∷ rs) (segments_kept ss p.1)

with_fields : Core → LsmTreeState → List Prefixed → Option (List ℕ) → List Checkpoint → Core
with_fields c tree segments uri checkpoints = record c { tree = tree; segments = segments; wal_object_store_uri = uri; checkpoints = checkpoints }

core_kept : (c : Core) → is_normal_core c ≡ true → normal_core c ≡ c
unfolding with_fields
core_kept c h =
    let p = and_parts (is_normal_tree c.tree) _ h in
    let q = and_parts (list_all (λ s. is_normal_tree s.tree) c.segments) (is_none c.wal_object_store_uri && list_all is_normal_checkpoint c.checkpoints) p.1 in
    let r = and_parts (is_none c.wal_object_store_uri) (list_all is_normal_checkpoint c.checkpoints) q.1 in
    ap (λ t. with_fields c t (map normal_segment c.segments) None (map normal_checkpoint c.checkpoints)) (tree_kept c.tree p.0)
    ∙ ap (λ ss. with_fields c c.tree ss None (map normal_checkpoint c.checkpoints)) (segments_kept c.segments q.0)
    ∙ ap (λ uri. with_fields c c.tree c.segments uri (map normal_checkpoint c.checkpoints)) (none_is c.wal_object_store_uri r.0)
    ∙ ap (λ cs. with_fields c c.tree c.segments c.wal_object_store_uri cs) (checkpoints_kept c.checkpoints r.1)

with_core : Manifest → Core → Manifest
with_core m c = record m { core = c }

-- what passes the test is its own normal form
pub normal_only : (m : Manifest) → is_normal m ≡ true → normal_manifest m ≡ m
unfolding with_core
normal_only m h = ap (with_core m) (core_kept m.core h)

-- a normal form is its own normal form
pub normal_again : (m : Manifest) → normal_manifest (normal_manifest m) ≡ normal_manifest m
normal_again m = normal_only (normal_manifest m) (normal_passes m)

-- what is its own normal form passes the test
pub normal_told : (m : Manifest) → normal_manifest m ≡ m → is_normal m ≡ true
normal_told m h = subst (λ (n : Manifest). is_normal n ≡ true) h (normal_passes m)
