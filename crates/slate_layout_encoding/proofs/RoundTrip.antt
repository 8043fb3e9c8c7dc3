-- What was encoded of a manifest is read back as its normal form.
use Rattle.std.specs.Prelude.{◌≡◌, ℕ, ◌+◌, ◌-◌, ◌<◌, ◌≤◌, ◌^◌, ◌&&◌, ◌==◌, ◌++◌, nat_le, not, Bool, true, false, List, [], ◌∷◌, map, length, Option, Some, None, Ok, if◌then◌else◌, refl}
use Rattle.std.specs.List.{list_all}
use Rattle.std.specs.Str.{is_utf8}
use Rattle.std.proofs.Common.{ap, sym, ◌∙◌, subst, arith}
use Rattle.std.proofs.lemmas.Bool.{and_parts, and_from}
use Rattle.std.proofs.lemmas.Bool.Decides.{nat_tests}
use Rattle.std.proofs.lemmas.List.{length-map}
use Rattle.slate_ids.specs.Limits.{last_number}
use Rattle.slate_ids.specs.declared.error.FieldName.{FieldName}
use Rattle.slate_ids.specs.declared.error.FieldName.TheVariants.{ExpireTime, CreateTime, WalId, NoKeys, NextWal, Length}
use Rattle.slate_model_tables.specs.declared.ss_table_handle.SsTableHandle.{SsTableHandle}
use Rattle.slate_model_tables.specs.Tables.{is_compacted}
use Rattle.slate_model.specs.declared.checkpoint.Checkpoint.{Checkpoint}
use Rattle.slate_model.specs.declared.external_db.ExternalDb.{ExternalDb}
use Rattle.slate_model.specs.declared.manifest.Manifest.{Manifest}
use Rattle.slate_model.specs.Segments.{are_ascending}
use Rattle.slate_model.specs.Trees.{views_of_tree, views_of}
use Rattle.slate_layout_parts.specs.TablesOfViews.{table_id, ascend}
use Rattle.slate_layout_manifests.specs.UsedTables.{any_of}
use Rattle.slate_layout_parts.specs.Bytes.{is_u64, is_i64, list_bytes}
use Rattle.slate_layout_parts.specs.Reading.{◌>>=◌, u16_in, whole}
use Rattle.slate_layout_parts.specs.laws.Parts.{bind_at}
use Rattle.slate_layout_parts.specs.Reads.{EachFits, ListFits}
use Rattle.slate_layout_parts.specs.laws.Groups.{list_reads}
use Rattle.slate_layout_parts.specs.InfoParts.{handle_bytes, handle_in, HandleFits}
use Rattle.slate_layout_parts.specs.laws.Infos.{handle_reads}
use Rattle.slate_layout_parts.specs.InfoCodec.{is_short, unless_field}
use Rattle.slate_layout_parts.proofs.InfoTrip.{whole_back}
use Rattle.slate_layout_manifests.specs.CheckpointParts.{CheckpointFits, EntryFits}
use Rattle.slate_layout_manifests.specs.ManifestParts.{joined, manifest_of, body_of, body_bytes, body_in, all_used, using_all, made_of, manifest_among, second_version}
use Rattle.slate_layout_manifests.proofs.Bodies.{body_reads, BodyFits}
use Rattle.slate_layout_manifests.specs.Gathered.{ById, gathered}
use Rattle.slate_layout_encoding.proofs.GatheredLaws.{values, AreGathered, gathered_well, each_has}
use Rattle.slate_layout_manifests.specs.Decoding.{or_corrupt, after_version, decoded_manifest}
use Rattle.slate_layout_encodable.specs.Unencodable.{has_second, has_expiry, no_wal_ids, has_keys, short_tree, short_segment, are_short, early_field, late_field}
use Rattle.slate_layout_parts.specs.Lengths.{few}
use Rattle.slate_layout_encoding.specs.Encoding.{manifest_bytes, encoded_with, unless_early, encoded_manifest}
use Rattle.slate_layout_encodable.specs.Normal.{normal_checkpoint, normal_segment, normal_core, normal_manifest}
use Rattle.slate_layout_manifests.specs.TypedManifests as types
use Rattle.slate_layout_parts.specs.Typed as plain
use Rattle.slate_layout_parts.proofs.Fitting.{each_of_two, few_is, two_fit, name_fits, is_writable, handle_fits}
use Rattle.slate_layout_encoding.proofs.FittingCheckpoints.{checkpoint_fits, entry_fits, tracker_fits}
use Rattle.slate_layout_encoding.proofs.FittingTrees.{each_append, IsHad, each_had, tree_fits, segments_fit}
use Rattle.slate_layout_encoding.proofs.GatheredTests.{gathered_used, short_views, gathered_writable}
use Rattle.slate_layout_encoding.proofs.NormalKept.{of_three, ascending_kept, views_kept, body_kept}

-- ---- what was encoded

-- the tables of a manifest, none of whose fields is without bytes
pub record IsEncoded (m : Manifest) (bytes : List ℕ) : Type 0 where
  pub tables : ById
  pub early : early_field m ≡ None
  pub at : gathered (views_of m.core) [] ≡ Some tables
  pub late : late_field (length tables) m ≡ None
  pub is : manifest_bytes tables m ≡ bytes

bytes_of : (f : Option FieldName) (l bytes : List ℕ) → unless_field f l ≡ Ok bytes → (f ≡ None) × (l ≡ bytes)
bytes_of None l bytes h = (refl, cc)
bytes_of (Some f) l bytes h = absurd cc

tables_of : (m : Manifest) (bytes : List ℕ) (tables : Option ById) → early_field m ≡ None → gathered (views_of m.core) [] ≡ tables → encoded_with tables m ≡ Ok bytes → IsEncoded m bytes
tables_of m bytes None early at h = absurd cc
tables_of m bytes (Some tables) early at h =
    let p = bytes_of (late_field (length tables) m) (manifest_bytes tables m) bytes h in
    record { tables = tables; early = early; at = at; late = p.0; is = p.1 }

by_early : (m : Manifest) (bytes : List ℕ) (f : Option FieldName) → early_field m ≡ f → unless_early f m ≡ Ok bytes → IsEncoded m bytes
by_early m bytes None at h = tables_of m bytes (gathered (views_of m.core) []) at refl h
by_early m bytes (Some f) at h = absurd cc

pub is_encoded : (m : Manifest) (bytes : List ℕ) → encoded_manifest m ≡ Ok bytes → IsEncoded m bytes
is_encoded m bytes h = by_early m bytes (early_field m) refl h

three_pass : (a b c : Bool) (x y z : FieldName) → of_three a b c x y z ≡ None → (a ≡ true) × ((b ≡ true) × (c ≡ true))
three_pass true true true x y z h = (refl, (refl, refl))
three_pass true true false x y z h = absurd cc
three_pass true false c x y z h = absurd cc
three_pass false b c x y z h = absurd cc

-- no field is without bytes
record IsWhole (tables : ℕ) (m : Manifest) : Type 0 where
  expiries : list_all (λ c. has_expiry c.expire_time) m.core.checkpoints ≡ true
  creations : list_all (λ c. has_second c.create_time) m.core.checkpoints ≡ true
  compacted : list_all (λ v. is_compacted v.sst.id) (views_of m.core) ≡ true
  entries : list_all (λ e. list_all is_compacted e.sst_ids) m.external_dbs ≡ true
  keys : list_all has_keys (views_of m.core) ≡ true
  next : (m.core.next_wal_sst_id == 0) ≡ false
  few_tables : few tables ≡ true
  tree : short_tree m.core.tree ≡ true
  few_segments : few (length m.core.segments) ≡ true
  segments : list_all short_segment m.core.segments ≡ true
  name : is_short m.core.segment_extractor_name ≡ true
  few_checkpoints : few (length m.core.checkpoints) ≡ true
  names : list_all (λ c. is_short c.name) m.core.checkpoints ≡ true
  few_entries : few (length m.external_dbs) ≡ true
  lists : list_all (λ e. few (length e.sst_ids)) m.external_dbs ≡ true

late_pass : (a b c : Bool) → (if not a then Some NoKeys else if b then Some NextWal else if not c then Some Length else None) ≡ None → (a ≡ true) × ((b ≡ false) × (c ≡ true))
late_pass true false true h = (refl, (refl, refl))
late_pass true false false h = absurd cc
late_pass true true c h = absurd cc
late_pass false b c h = absurd cc

is_whole : (n : ℕ) (m : Manifest) → early_field m ≡ None → late_field n m ≡ None → IsWhole n m
is_whole n m early late =
    let e = three_pass (list_all (λ c. has_expiry c.expire_time) m.core.checkpoints) (list_all (λ c. has_second c.create_time) m.core.checkpoints) (no_wal_ids m) ExpireTime CreateTime WalId early in
    let ids = and_parts (list_all (λ v. is_compacted v.sst.id) (views_of m.core)) (list_all (λ e. list_all is_compacted e.sst_ids) m.external_dbs) e.1.1 in
    let l = late_pass (list_all has_keys (views_of m.core)) (m.core.next_wal_sst_id == 0) (are_short n m) late in
    let s8 = and_parts _ (list_all (λ e. few (length e.sst_ids)) m.external_dbs) l.1.1 in
    let s7 = and_parts _ (few (length m.external_dbs)) s8.0 in
    let s6 = and_parts _ (list_all (λ c. is_short c.name) m.core.checkpoints) s7.0 in
    let s5 = and_parts _ (few (length m.core.checkpoints)) s6.0 in
    let s4 = and_parts _ (is_short m.core.segment_extractor_name) s5.0 in
    let s3 = and_parts _ (list_all short_segment m.core.segments) s4.0 in
    let s2 = and_parts _ (few (length m.core.segments)) s3.0 in
    let s1 = and_parts (few n) (short_tree m.core.tree) s2.0 in
    record {
      expiries = e.0;
      creations = e.1.0;
      compacted = ids.0;
      entries = ids.1;
      keys = l.0;
      next = l.1.0;
      few_tables = s1.0;
      tree = s1.1;
      few_segments = s2.1;
      segments = s3.1;
      name = s4.1;
      few_checkpoints = s5.1;
      names = s6.1;
      few_entries = s7.1;
      lists = s8.1;
    }

-- ---- the tables

-- the tables fit, ascend, and have each view's table at its id
record AreTables (m : Manifest) (tables : ById) : Type 0 where
  fit : ListFits HandleFits (values tables)
  gathered_so : AreGathered tables
  had : EachFits (IsHad tables) (views_of m.core)

are_tables : (m : Manifest) (tables : ById) → gathered (views_of m.core) [] ≡ Some tables → IsWhole (length tables) m → list_all plain.is_handle (values tables) ≡ true → AreTables m tables
are_tables m tables at h typed =
    let short = short_views m.core h.tree h.segments in
    let can = gathered_writable (views_of m.core) tables h.compacted h.keys short at in
    record {
      fit = record {
        each = each_of_two plain.is_handle is_writable HandleFits handle_fits (values tables) typed can;
        few = subst (λ (n : ℕ). n < 2 ^ 32) (sym (length-map tables (λ e. e.1))) (few_is (length tables) h.few_tables);
      };
      gathered_so = gathered_well (views_of m.core) [] tables (record { keyed = tt; ascending = refl }) at;
      had = each_had tables (views_of m.core) h.keys (each_has (views_of m.core) [] tables at);
    }

-- ---- checkpoints and entries

checkpoints_fit : (cs : List Checkpoint) → list_all types.is_checkpoint cs ≡ true → list_all (λ c. has_expiry c.expire_time) cs ≡ true → list_all (λ c. has_second c.create_time) cs ≡ true → list_all (λ c. is_short c.name) cs ≡ true → EachFits CheckpointFits (map normal_checkpoint cs)
checkpoints_fit [] typed expiries creations names = tt
checkpoints_fit (c ∷ cs) typed expiries creations names =
    let t = and_parts (types.is_checkpoint c) (list_all types.is_checkpoint cs) typed in
    let e = and_parts (has_expiry c.expire_time) (list_all (λ c. has_expiry c.expire_time) cs) expiries in
    let f = and_parts (has_second c.create_time) (list_all (λ c. has_second c.create_time) cs) creations in
    let n = and_parts (is_short c.name) (list_all (λ c. is_short c.name) cs) names in
    (checkpoint_fits c t.0 (and_from _ _ e.0 (and_from _ _ f.0 n.0)), checkpoints_fit cs t.1 e.1 f.1 n.1)

entries_fit : (es : List ExternalDb) → list_all types.is_entry es ≡ true → list_all (λ e. list_all is_compacted e.sst_ids) es ≡ true → list_all (λ e. few (length e.sst_ids)) es ≡ true → EachFits EntryFits es
entries_fit [] typed compacted lists = tt
entries_fit (e ∷ es) typed compacted lists =
    let t = and_parts (types.is_entry e) (list_all types.is_entry es) typed in
    let c = and_parts (list_all is_compacted e.sst_ids) (list_all (λ e. list_all is_compacted e.sst_ids) es) compacted in
    let l = and_parts (few (length e.sst_ids)) (list_all (λ e. few (length e.sst_ids)) es) lists in
    (entry_fits e t.0 (and_from _ _ c.0 l.0), entries_fit es t.1 c.1 l.1)

-- ---- the body

body_fits : (m : Manifest) (tables : ById) → IsWhole (length tables) m → AreTables m tables → types.is_body m ≡ true → BodyFits (values tables) (body_of (normal_manifest m))
body_fits m tables h t typed =
    let b = and_parts (types.is_front m) _ typed in
    let front = and_parts (is_u64 m.core.next_wal_sst_id) (types.is_head (body_of m).0) b.0 in
    let head = and_parts (plain.are_two (m.writer_epoch, m.compactor_epoch)) (plain.are_two (m.core.replay_after_wal_id, m.core.next_wal_sst_id - 1)) front.1 in
    let c = and_parts (types.are_trees (m.core.tree, m.core.segments)) (types.is_middle (body_of m).1.1.1.0 && types.is_tail (body_of m).1.1.1.1) b.1 in
    let trees = and_parts (types.is_tree m.core.tree) (list_all types.is_segment m.core.segments && are_ascending m.core.segments) c.0 in
    let segments = and_parts (list_all types.is_segment m.core.segments) (are_ascending m.core.segments) trees.1 in
    let d = and_parts (types.is_middle (body_of m).1.1.1.0) (types.is_tail (body_of m).1.1.1.1) c.1 in
    let middle = and_parts (plain.none_or is_utf8 m.core.segment_extractor_name) _ d.0 in
    let numbers = and_parts (is_i64 m.core.last_l0_clock_tick) (plain.are_two (m.core.last_l0_seq, m.core.recent_snapshot_min_seq)) middle.1 in
    let tail = and_parts (types.is_tracker m.core.sequence_tracker) _ d.1 in
    let checkpoints = and_parts (list_all types.is_checkpoint m.core.checkpoints) _ tail.1 in
    let entries = and_parts (list_all types.is_entry m.external_dbs) (is_u64 m.core.floor) checkpoints.1 in
    let had = each_append (IsHad tables) (views_of_tree m.core.tree) _ t.had in (
      (tt, (two_fit (m.writer_epoch, m.compactor_epoch) head.0, two_fit (m.core.replay_after_wal_id, m.core.next_wal_sst_id - 1) head.1)),
      (
        tree_fits tables t.gathered_so.keyed m.core.tree trees.0 h.tree had.0,
        (
          record { each = segments_fit tables t.gathered_so.keyed m.core.segments segments.0 h.segments had.1; few = subst (λ (n : ℕ). n < 2 ^ 32) (sym (length-map m.core.segments normal_segment)) (few_is (length m.core.segments) h.few_segments) },
          (
            (name_fits m.core.segment_extractor_name middle.0 h.name, (numbers.0, two_fit (m.core.last_l0_seq, m.core.recent_snapshot_min_seq) numbers.1)),
            (
              tracker_fits m.core.sequence_tracker tail.0,
              (
                record { each = checkpoints_fit m.core.checkpoints checkpoints.0 h.expiries h.creations h.names; few = subst (λ (n : ℕ). n < 2 ^ 32) (sym (length-map m.core.checkpoints normal_checkpoint)) (few_is (length m.core.checkpoints) h.few_checkpoints) },
                (record { each = entries_fit m.external_dbs entries.0 h.entries h.lists; few = few_is (length m.external_dbs) h.few_entries }, entries.1),
              ),
            ),
          ),
        ),
      ),
    )

-- ---- the manifest of the body

next_back : (n : ℕ) → (n == 0) ≡ false → n - 1 + 1 ≡ n
next_back n h = grind (arith, nat_tests)

not_last : (n : ℕ) → (n == 0) ≡ false → is_u64 n ≡ true → not (n - 1 == last_number) ≡ true
not_last n h g = grind (arith, nat_tests)

-- the normal form with this next file of the write-ahead log
abbrev with_next : Manifest → ℕ → Manifest
with_next m n = record m { core = record (normal_core m.core) { next_wal_sst_id = n } }

manifest_back : (m : Manifest) → (m.core.next_wal_sst_id == 0) ≡ false → is_u64 m.core.next_wal_sst_id ≡ true → are_ascending m.core.segments ≡ true → manifest_of (body_of (normal_manifest m)) ≡ Some (normal_manifest m)
manifest_back m next number ascending =
    let passes = and_from _ _ (not_last m.core.next_wal_sst_id next number) (ascending_kept m.core.segments ∙ ascending) in
    ap (λ b. if b then Some (joined (body_of (normal_manifest m))) else None) passes
    ∙ ap (λ n. Some (with_next m n)) (next_back m.core.next_wal_sst_id next)

among_back : (m : Manifest) (tables : ById) → gathered (views_of m.core) [] ≡ Some tables → BodyFits (values tables) (body_of (normal_manifest m)) → manifest_of (body_of (normal_manifest m)) ≡ Some (normal_manifest m) → manifest_among (values tables) (body_bytes (body_of m)) ≡ Some (normal_manifest m)
among_back m tables at fits back =
    let b = body_of (normal_manifest m) in
    let used : all_used (values tables) (normal_manifest m) ≡ true = ap (λ l. list_all (λ h. any_of (table_id h.id) l) (values tables)) (views_kept m.core) ∙ gathered_used (views_of m.core) tables at in
    let read : whole (body_in (values tables) (body_bytes b)) ≡ Some b = whole_back (body_in (values tables)) (body_bytes b) b ((body_reads (values tables)).back b [] fits) in
    ap (λ l. manifest_among (values tables) l) (sym (body_kept m))
    ∙ ap (λ o. made_of o >>= using_all (values tables)) read
    ∙ bind_at (using_all (values tables)) back
    ∙ ap (λ t. if t then Some (normal_manifest m) else None) used

second_back : (m : Manifest) (tables : ById) → AreTables m tables → manifest_among (values tables) (body_bytes (body_of m)) ≡ Some (normal_manifest m) → second_version (list_bytes handle_bytes (values tables) ++ body_bytes (body_of m)) ≡ Some (normal_manifest m)
second_back m tables t among =
    bind_at (λ (l : List SsTableHandle × List ℕ). if ascend l.0 then manifest_among l.0 l.1 else None) ((list_reads handle_in handle_bytes HandleFits 8 handle_reads).back (values tables) (body_bytes (body_of m)) t.fit)
    ∙ ap (λ b. if b then manifest_among (values tables) (body_bytes (body_of m)) else None) t.gathered_so.ascending
    ∙ among

long : (m n : ℕ) → m ≤ n → nat_le m n ≡ true
long m n h = grind (arith, nat_tests)

pub version_of : (rest : List ℕ) → u16_in (0 ∷ 2 ∷ rest) ≡ Some (2, rest)
unfolding u16_in
version_of rest = ap (λ (t : Bool). if t then Some (2, rest) else None) (long 2 (length (0 ∷ 2 ∷ rest)) (omega arith))

round_trip_of : (m : Manifest) (tables : ById) → second_version (list_bytes handle_bytes (values tables) ++ body_bytes (body_of m)) ≡ Some (normal_manifest m) → decoded_manifest (manifest_bytes tables m) ≡ Ok (normal_manifest m)
round_trip_of m tables h =
    ap after_version (version_of (list_bytes handle_bytes (values tables) ++ body_bytes (body_of m)))
    ∙ ap or_corrupt h

tables_typed : (m : Manifest) (tables : ById) → gathered (views_of m.core) [] ≡ Some tables → types.are_tables (gathered (views_of m.core) []) ≡ true → list_all plain.is_handle (values tables) ≡ true
tables_typed m tables at h = subst (λ o. types.are_tables o ≡ true) at h

-- decoding what was encoded gives the normal form
pub round_trip : (m : Manifest) (bytes : List ℕ) → types.is_manifest m ≡ true → encoded_manifest m ≡ Ok bytes → decoded_manifest bytes ≡ Ok (normal_manifest m)
round_trip m bytes typed h =
    let e = is_encoded m bytes h in
    let p = and_parts (types.is_body m) (types.are_tables (gathered (views_of m.core) [])) typed in
    let w = is_whole (length e.tables) m e.early e.late in
    let t = are_tables m e.tables e.at w (tables_typed m e.tables e.at p.1) in
    let f = body_fits m e.tables w t p.0 in
    let b = and_parts (types.is_front m) _ p.0 in
    let front = and_parts (is_u64 m.core.next_wal_sst_id) (types.is_head (body_of m).0) b.0 in
    let c = and_parts (types.are_trees (m.core.tree, m.core.segments)) _ b.1 in
    let trees = and_parts (types.is_tree m.core.tree) _ c.0 in
    let segments = and_parts (list_all types.is_segment m.core.segments) (are_ascending m.core.segments) trees.1 in
    let among = among_back m e.tables e.at f (manifest_back m w.next front.0 segments.1) in
    subst (λ (l : List ℕ). decoded_manifest l ≡ Ok (normal_manifest m)) e.is (round_trip_of m e.tables (second_back m e.tables t among))
