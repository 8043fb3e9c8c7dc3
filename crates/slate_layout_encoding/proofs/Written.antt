-- What is read of version 2 was written so: a manifest that bytes stand for has these bytes.
use Rattle.std.specs.Prelude.{◌≡◌, ℕ, ◌+◌, ◌-◌, ◌*◌, ◌/◌, ◌<◌, ◌^◌, ◌==◌, ◌&&◌, ◌++◌, not, Bool, true, false, List, [], ◌∷◌, map, length, Option, Some, None, Ok, is_some, if◌then◌else◌, refl}
use Rattle.std.specs.List.{list_all, flat_map}
use Rattle.std.proofs.Common.{ap, sym, ◌∙◌, subst, arith}
use Rattle.std.proofs.lemmas.Bool.{and_parts, and_from}
use Rattle.std.proofs.lemmas.Bool.Decides.{nat_tests}
use Rattle.std.proofs.lemmas.List.{length-map}
use Rattle.slate_ids.specs.declared.error.FieldName.TheVariants.{ExpireTime, CreateTime, WalId, NoKeys, NextWal, Length}
use Rattle.slate_ids.specs.KeyRange.{KeyRange}
use Rattle.slate_model_tables.specs.declared.ss_table_handle.SsTableHandle.{SsTableHandle}
use Rattle.slate_model_tables.specs.Tables.{is_compacted}
use Rattle.slate_model_tables.specs.Views.{View, starts_with_key}
use Rattle.slate_model_tables.specs.SortedRuns.{Run}
use Rattle.slate_model.specs.declared.lsm_tree_state.LsmTreeState.{LsmTreeState}
use Rattle.slate_model.specs.declared.checkpoint.Checkpoint.{Checkpoint}
use Rattle.slate_model.specs.declared.external_db.ExternalDb.{ExternalDb}
use Rattle.slate_model.specs.declared.manifest.Manifest.{Manifest}
use Rattle.slate_model.specs.Segments.{Prefixed, are_ascending}
use Rattle.slate_model.specs.Trees.{views_of_tree, views_of}
use Rattle.slate_layout_parts.specs.Bytes.{list_bytes}
use Rattle.slate_layout_parts.specs.Reading.{list_in, whole}
use Rattle.slate_layout_parts.specs.Reads.{AreBytes, OptionFits, EachFits}
use Rattle.slate_layout_parts.specs.TablesOfViews.{table_id, table_at, ascend}
use Rattle.slate_layout_parts.specs.InfoParts.{handle_bytes, handle_in, HandleFits, TableFits}
use Rattle.slate_layout_parts.specs.InfoCodec.{is_short, unless_field}
use Rattle.slate_layout_parts.specs.ViewParts.{ViewParts, may_show, shown, view_parts, ViewFits, RunFits}
use Rattle.slate_layout_parts.specs.Lengths.{few}
use Rattle.slate_layout_parts.specs.laws.Parts.{steps, join_fronts}
use Rattle.slate_layout_parts.specs.laws.Groups.{list_reads}
use Rattle.slate_layout_parts.specs.laws.Infos.{handle_reads}
use Rattle.slate_layout_manifests.specs.TreeParts.{TreeFits, SegmentFits}
use Rattle.slate_layout_manifests.specs.CheckpointParts.{moment_of, expiry_of, CheckpointParts, expiring, IsU32, CheckpointFits, checkpoint_parts, EntryFits}
use Rattle.slate_ids.specs.Limits.{last_number}
use Rattle.slate_layout_manifests.specs.ManifestParts.{Body, joined, manifest_of, body_of, body_in, body_bytes, all_used, using_all, made_of, manifest_among, second_version}
use Rattle.slate_layout_manifests.specs.Gathered.{ById}
use Rattle.slate_layout_manifests.proofs.Bodies.{BodyFits, body_reads}
use Rattle.slate_layout_encodable.specs.Unencodable.{has_second, has_later_second, has_expiry, has_keys, short_view, short_run, short_tree, short_segment, are_short, early_field, late_field}
use Rattle.slate_layout_encoding.specs.Encoding.{manifest_bytes, encoded_with, unless_early, encoded_manifest}
use Rattle.slate_layout_encoding.proofs.GatheredAgain.{EachThere, gathered_as}
use Rattle.slate_layout_parts.proofs.InfoTrip.{whole_only, all_of}
use Rattle.slate_layout_parts.proofs.Told.{all_told, is_few, name_short, visible_short, IsTable, is_table, table_compacted}

-- ---- groups

each_join : {X : Type 0} (P : X → Type 0) (xs ys : List X) → EachFits P xs → EachFits P ys → EachFits P (xs ++ ys)
each_join P [] ys h g = g
each_join P (x ∷ xs) ys h g = (h.0, each_join P xs ys h.1 g)

each_gather : {X Y : Type 0} (Q : X → Type 0) (P : Y → Type 0) (f : X → List Y) → ((x : X) → Q x → EachFits P (f x)) → (xs : List X) → EachFits Q xs → EachFits P (flat_map f xs)
each_gather Q P f tell [] h = tt
each_gather Q P f tell (x ∷ xs) h = each_join P (f x) (flat_map f xs) (tell x h.0) (each_gather Q P f tell xs h.1)

-- ---- tables and views

-- the tables that were read
each_table : (hs : List SsTableHandle) → EachFits HandleFits hs → EachFits IsTable hs
each_table [] fits = tt
each_table (h ∷ hs) fits = (is_table h fits.0, each_table hs fits.1)

found_table : (q : ℕ × ℕ) (hs : List SsTableHandle) (h : SsTableHandle) → EachFits IsTable hs → table_at q hs ≡ Some h → IsTable h
found_table q [] h each e = absurd cc
found_table q (k ∷ hs) h each e = by _ each.0 (found_table q hs h each.1) e
  where
    by : (b : Bool) → IsTable k → (table_at q hs ≡ Some h → IsTable h) → (if b then Some k else table_at q hs) ≡ Some h → IsTable h
    by true is more e = let same : k ≡ h = cc in subst IsTable same is
    by false is more e = more e

-- a view of the table of its id, which may show what the view shows
record IsShown (tables : List SsTableHandle) (v : View) : Type 0 where
  there : table_at (table_id v.sst.id) tables ≡ Some v.sst
  may : may_show v.sst v.visible ≡ true

view_by : (b : Bool) (p : ViewParts) (h : SsTableHandle) (v : View) → may_show h p.1.1 ≡ b → (if b then Some (let w : View = record { id = p.0; sst = h; visible = p.1.1 } in w) else None) ≡ Some v → ((let w : View = record { id = p.0; sst = h; visible = p.1.1 } in w) ≡ v) × (may_show h p.1.1 ≡ true)
view_by true p h v m e = (cc, m)
view_by false p h v m e = absurd cc

shown_by : (tables : List SsTableHandle) (v : View) (o : Option SsTableHandle) → table_at (table_id v.sst.id) tables ≡ o → shown (view_parts v) o ≡ Some v → IsShown tables v
shown_by tables v None at e = absurd cc
shown_by tables v (Some h) at e =
    let p = view_by (may_show h v.visible) (view_parts v) h v refl e in
    let same : h ≡ v.sst = ap (λ (w : View). w.sst) p.0 in
    record { there = at ∙ ap (λ (k : SsTableHandle). Some k) same; may = subst (λ (k : SsTableHandle). may_show k v.visible ≡ true) same p.1 }

is_shown : (tables : List SsTableHandle) (v : View) → ViewFits tables v → IsShown tables v
is_shown tables v fits = shown_by tables v (table_at (table_id v.sst.id) tables) refl fits.is_made

has_entry : (h : SsTableHandle) (visible : Option KeyRange) → may_show h visible ≡ true → is_some h.info.first_entry ≡ true
has_entry h None m = m
has_entry h (Some r) m = let p = and_parts _ _ m in (and_parts (is_some h.info.first_entry) (starts_with_key r.start) p.0).0

-- what is told of a view that was read
pub record IsRight (tables : List SsTableHandle) (v : View) : Type 0 where
  there : table_at (table_id v.sst.id) tables ≡ Some v.sst
  compacted : is_compacted v.sst.id ≡ true
  keys : has_keys v ≡ true
  short : short_view v ≡ true

is_right : (tables : List SsTableHandle) → EachFits IsTable tables → (v : View) → ViewFits tables v → IsRight tables v
is_right tables each v fits =
    let s = is_shown tables v fits in
    let t = found_table (table_id v.sst.id) tables v.sst each s.there in
    record {
      there = s.there;
      compacted = t.compacted;
      keys = and_from _ _ (has_entry v.sst v.visible s.may) t.entries;
      short = and_from _ _ t.short (visible_short v.visible fits.fits.1.1);
    }

module _ (tables : List SsTableHandle) (each : EachFits IsTable tables) where
  views_right : (vs : List View) → EachFits (ViewFits tables) vs → EachFits (IsRight tables) vs
  views_right [] fits = tt
  views_right (v ∷ vs) fits = (is_right tables each v fits.0, views_right vs fits.1)

  run_views : (r : Run) → RunFits tables r → EachFits (IsRight tables) r.views
  run_views r fits = views_right r.views fits.fits.1.each

  pub tree_views : (t : LsmTreeState) → TreeFits tables t → EachFits (IsRight tables) (views_of_tree t)
  tree_views t fits = each_join (IsRight tables) t.l0 (flat_map (λ run. run.views) t.compacted) (views_right t.l0 fits.fits.1.0.each) (each_gather (RunFits tables) (IsRight tables) (λ run. run.views) run_views t.compacted fits.fits.1.1.each)

  segments_views : (ss : List Prefixed) → EachFits (SegmentFits tables) ss → EachFits (IsRight tables) (flat_map views_of_tree (map (λ s. s.tree) ss))
  segments_views [] fits = tt
  segments_views (s ∷ ss) fits = each_join (IsRight tables) (views_of_tree s.tree) (flat_map views_of_tree (map (λ s. s.tree) ss)) (tree_views s.tree fits.0.fits.1) (segments_views ss fits.1)

  short_of_views : (vs : List View) → EachFits (ViewFits tables) vs → list_all short_view vs ≡ true
  short_of_views vs fits = all_told (IsRight tables) short_view (λ v h. h.short) vs (views_right vs fits)

  run_short : (r : Run) → RunFits tables r → short_run r ≡ true
  run_short r fits = and_from _ _ (is_few (length r.views) fits.fits.1.few) (short_of_views r.views fits.fits.1.each)

  tree_short : (t : LsmTreeState) → TreeFits tables t → short_tree t ≡ true
  tree_short t fits =
      and_from _ _ (and_from _ _ (and_from _ _ (is_few (length t.l0) fits.fits.1.0.few) (short_of_views t.l0 fits.fits.1.0.each)) (is_few (length t.compacted) fits.fits.1.1.few)) (all_told (RunFits tables) short_run run_short t.compacted fits.fits.1.1.each)

  segment_short : (s : Prefixed) → SegmentFits tables s → short_segment s ≡ true
  segment_short s fits = and_from _ _ (is_few (length s.prefix) fits.fits.0) (tree_short s.tree fits.fits.1)

each_there : (tables : List SsTableHandle) (vs : List View) → EachFits (IsRight tables) vs → EachThere tables vs
each_there tables [] h = tt
each_there tables (v ∷ vs) h = (h.0.there, each_there tables vs h.1)

-- ---- checkpoints and entries

seconds : (s : ℕ) → s < 2 ^ 32 → has_second (moment_of s) ≡ true
seconds s h = let d : s * 1000 / 1000 ≡ s = omega arith in grind (arith, nat_tests)

later_seconds : (s : ℕ) → (s == 0) ≡ false → s < 2 ^ 32 → has_later_second (moment_of s) ≡ true
later_seconds s n h = let d : s * 1000 / 1000 ≡ s = omega arith in grind (arith, nat_tests)

-- a checkpoint's moments are those of seconds
abbrev AreDated : Checkpoint → Type 0
AreDated c = (has_expiry c.expire_time ≡ true) × (has_second c.create_time ≡ true)

expiry_by : (b : Bool) (second : ℕ) (p : CheckpointParts) (c : Checkpoint) → second == 0 ≡ b → second < 2 ^ 32 → IsU32 p.1.1.1.0 → expiring p (if b then None else Some (Some (moment_of second))) ≡ Some c → AreDated c
expiry_by true second p c z s n e = absurd cc
expiry_by false second p c z s n e =
    let same : (let d : Checkpoint = record { id = p.0; manifest_id = p.1.0; expire_time = Some (moment_of second); create_time = moment_of p.1.1.1.0; name = p.1.1.1.1 } in d) ≡ c = cc in
    subst (λ (d : Checkpoint). AreDated d) same (later_seconds second z s, seconds p.1.1.1.0 n)

are_dated : (p : CheckpointParts) (c : Checkpoint) (expiry : Option ℕ) → OptionFits IsU32 expiry → IsU32 p.1.1.1.0 → expiring p (expiry_of expiry) ≡ Some c → AreDated c
are_dated p c None s n e =
    let same : (let d : Checkpoint = record { id = p.0; manifest_id = p.1.0; expire_time = None; create_time = moment_of p.1.1.1.0; name = p.1.1.1.1 } in d) ≡ c = cc in
    subst (λ (d : Checkpoint). AreDated d) same (refl, seconds p.1.1.1.0 n)
are_dated p c (Some second) s n e = expiry_by (second == 0) second p c refl s n e

checkpoint_dated : (c : Checkpoint) → CheckpointFits c → AreDated c
checkpoint_dated c fits = are_dated (checkpoint_parts c) c (checkpoint_parts c).1.1.0 fits.fits.1.1.0 fits.fits.1.1.1.0 fits.is_made

entry_compacted : (e : ExternalDb) → EntryFits e → list_all is_compacted e.sst_ids ≡ true
entry_compacted e fits = all_told TableFits is_compacted table_compacted e.sst_ids fits.fits.1.1.1.each

entry_few : (e : ExternalDb) → EntryFits e → few (length e.sst_ids) ≡ true
entry_few e fits = is_few (length e.sst_ids) fits.fits.1.1.1.few

-- ---- no field is without bytes

no_early : (a b c d : Bool) → a ≡ true → b ≡ true → c ≡ true → d ≡ true → (if not a then Some ExpireTime else if not b then Some CreateTime else if not (c && d) then Some WalId else None) ≡ None
no_early a b c d p q r s = rw (p, q, r, s) refl

no_late : (a b c : Bool) → a ≡ true → b ≡ false → c ≡ true → (if not a then Some NoKeys else if b then Some NextWal else if not c then Some Length else None) ≡ None
no_late a b c p q r = rw (p, q, r) refl

next_not_none : (n : ℕ) → (n + 1 == 0) ≡ false
next_not_none n = grind (arith, nat_tests)

last_is : (n : ℕ) → n + 1 - 1 ≡ n
last_is n = omega arith

-- the fields of a body that was read among tables that were read
record IsReadBody (tables : List SsTableHandle) (b : Body) : Type 0 where
  fits : BodyFits tables b
  each : EachFits IsTable tables
  few_tables : length tables < 2 ^ 32

all_views : (tables : List SsTableHandle) (b : Body) → IsReadBody tables b → EachFits (IsRight tables) (views_of (joined b).core)
all_views tables b h =
    each_join (IsRight tables) (views_of_tree b.1.0) (flat_map views_of_tree (map (λ s. s.tree) b.1.1.0)) (tree_views tables h.each b.1.0 h.fits.1.0) (segments_views tables h.each b.1.1.0 h.fits.1.1.0.each)

early_none : (tables : List SsTableHandle) (b : Body) → IsReadBody tables b → early_field (joined b) ≡ None
early_none tables b h =
    let tail = h.fits.1.1.1.1 in
    no_early _ _ _ _
    (all_told CheckpointFits (λ c. has_expiry c.expire_time) (λ c f. (checkpoint_dated c f).0) b.1.1.1.1.1.0 tail.1.0.each)
    (all_told CheckpointFits (λ c. has_second c.create_time) (λ c f. (checkpoint_dated c f).1) b.1.1.1.1.1.0 tail.1.0.each)
    (all_told (IsRight tables) (λ v. is_compacted v.sst.id) (λ v r. r.compacted) (views_of (joined b).core) (all_views tables b h))
    (all_told EntryFits (λ e. list_all is_compacted e.sst_ids) entry_compacted b.1.1.1.1.1.1.0 tail.1.1.0.each)

are_all_short : (n : ℕ) (tables : List SsTableHandle) (b : Body) → n ≡ length tables → IsReadBody tables b → are_short n (joined b) ≡ true
are_all_short n tables b count h =
    let tail = h.fits.1.1.1.1 in
    let few_n : few n ≡ true = ap few count ∙ is_few (length tables) h.few_tables in
    let t1 = and_from _ _ few_n (tree_short tables h.each b.1.0 h.fits.1.0) in
    let t2 = and_from _ _ t1 (is_few (length b.1.1.0) h.fits.1.1.0.few) in
    let t3 = and_from _ _ t2 (all_told (SegmentFits tables) short_segment (segment_short tables h.each) b.1.1.0 h.fits.1.1.0.each) in
    let t4 = and_from _ _ t3 (name_short b.1.1.1.0.0 h.fits.1.1.1.0.0) in
    let t5 = and_from _ _ t4 (is_few (length b.1.1.1.1.1.0) tail.1.0.few) in
    let t6 = and_from _ _ t5 (all_told CheckpointFits (λ c. is_short c.name) (λ c f. name_short c.name f.fits.1.1.1.1) b.1.1.1.1.1.0 tail.1.0.each) in
    let t7 = and_from _ _ t6 (is_few (length b.1.1.1.1.1.1.0) tail.1.1.0.few) in
    and_from _ _ t7 (all_told EntryFits (λ e. few (length e.sst_ids)) entry_few b.1.1.1.1.1.1.0 tail.1.1.0.each)

late_none : (n : ℕ) (tables : List SsTableHandle) (b : Body) → n ≡ length tables → IsReadBody tables b → late_field n (joined b) ≡ None
late_none n tables b count h =
    no_late _ _ _
    (all_told (IsRight tables) has_keys (λ v r. r.keys) (views_of (joined b).core) (all_views tables b h))
    (next_not_none b.0.1.1.1)
    (are_all_short n tables b count h)

-- ---- the bytes

-- the parts of a manifest that was made of parts are those
body_back : (b : Body) → body_of (joined b) ≡ b
body_back b = ap (λ (n : ℕ). (let c : Body = ((b.0.0, (b.0.1.0, (b.0.1.1.0, n))), b.1) in c)) (last_is b.0.1.1.1)

-- the bytes of a body among tables that were read, all of which it uses
encoded_body : (tables : List SsTableHandle) (b : Body) (rest : List ℕ) → IsReadBody tables b → ascend tables ≡ true → all_used tables (joined b) ≡ true → list_bytes handle_bytes tables ++ body_bytes b ≡ rest → encoded_manifest (joined b) ≡ Ok (0 ∷ 2 ∷ rest)
encoded_body tables b rest h ascending used is =
    let g = gathered_as (views_of (joined b).core) tables ascending (each_there tables (views_of (joined b).core) (all_views tables b h)) used in
    let count : length g.all ≡ length tables = sym (length-map g.all (λ e. e.1)) ∙ ap (λ (l : List SsTableHandle). length l) g.same in
    ap (λ f. unless_early f (joined b)) (early_none tables b h)
    ∙ ap (λ (o : Option ById). encoded_with o (joined b)) g.at
    ∙ ap (λ f. unless_field f (manifest_bytes g.all (joined b))) (late_none (length g.all) tables b count h)
    ∙ ap (λ (l : List SsTableHandle). Ok (0 ∷ 2 ∷ (list_bytes handle_bytes l ++ body_bytes (body_of (joined b))))) g.same
    ∙ ap (λ (c : Body). Ok (0 ∷ 2 ∷ (list_bytes handle_bytes tables ++ body_bytes c))) (body_back b)
    ∙ ap (λ (l : List ℕ). Ok (0 ∷ 2 ∷ l)) is

if_so : {X : Type 0} (t : Bool) (x y : X) → (if t then Some x else None) ≡ Some y → (t ≡ true) × (x ≡ y)
if_so true x y e = (refl, cc)
if_so false x y e = absurd cc

if_then : {X : Type 0} (t : Bool) (o : Option X) (y : X) → (if t then o else None) ≡ Some y → (t ≡ true) × (o ≡ Some y)
if_then true o y e = (refl, e)
if_then false o y e = absurd cc

-- what version 2 reads was written so
pub only_second : (rest : List ℕ) (m : Manifest) → AreBytes rest → second_version rest ≡ Some m → encoded_manifest m ≡ Ok (0 ∷ 2 ∷ rest)
only_second rest m small e =
    let s = steps (list_in handle_in 8 rest) (λ l. if ascend l.0 then manifest_among l.0 l.1 else None) m e in
    let tables = s.value.0 in
    let one = (list_reads handle_in handle_bytes HandleFits 8 handle_reads).only rest tables s.value.1 small s.at_first in
    let a = if_then (ascend tables) (manifest_among tables s.value.1) m s.at_next in
    let t = steps (made_of (whole (body_in tables s.value.1))) (using_all tables) m a.1 in
    let u = if_so (all_used tables t.value) t.value m t.at_next in
    let w = steps (whole (body_in tables s.value.1)) manifest_of t.value t.at_first in
    let made = if_so (not (w.value.0.1.1.1 == last_number) && are_ascending w.value.1.1.0) (joined w.value) t.value w.at_next in
    let two = (body_reads tables).only s.value.1 w.value [] one.front_is.rest_small (whole_only (body_in tables s.value.1) w.value w.at_first) in
    let both = join_fronts one.front_is two.front_is in
    let body : IsReadBody tables w.value = record { fits = two.fits; each = each_table tables one.fits.each; few_tables = one.fits.few } in
    let used : all_used tables (joined w.value) ≡ true = subst (λ (n : Manifest). all_used tables n ≡ true) (sym made.1) u.0 in
    subst (λ (n : Manifest). encoded_manifest n ≡ Ok (0 ∷ 2 ∷ rest)) (made.1 ∙ u.1) (encoded_body tables w.value rest body a.0 used (all_of (list_bytes handle_bytes tables ++ body_bytes w.value) rest both))
