-- The rules look at nothing that a manifest's bytes drop: what is read back of a manifest is refused as the manifest itself.
use Rattle.std.proofs.Common.{◌≡◌, ℕ, ◌+◌, ◌==◌, Bool, List, [], ◌∷◌, ◌++◌, map, Option, Some, refl, ap, ◌∙◌}
use Rattle.std.specs.Prelude.{if◌then◌else◌, ◌||◌, ◌&&◌, not}
use Rattle.std.specs.List.{list_all, find, flat_map}
use Rattle.slate_layout_encodable.specs.Normal.{normal_manifest, normal_core, normal_segment, normal_checkpoint}
use Rattle.slate_ids.specs.Keys.{begins_with}
use Rattle.slate_ids.specs.declared.error.SlateDBError.{SlateDBError}
use Rattle.slate_ids.specs.declared.error.SlateDBError.TheVariants.{InvalidSegmentPrefix}
use Rattle.slate_ids.specs.declared.error.UpdateRule.TheVariants.{U1, U2, U3, U5}
use Rattle.slate_txn_log.specs.declared.right.Right.{Right}
use Rattle.slate_layout_encoding.proofs.NormalKept.{views_kept}
use Rattle.slate_model_tables.specs.declared.ss_table_id.SsTableId.{SsTableId}
use Rattle.slate_model.specs.declared.checkpoint.Checkpoint.{Checkpoint}
use Rattle.slate_model.specs.declared.manifest.Manifest.{Manifest}
use Rattle.slate_model.specs.Cores.{Core}
use Rattle.slate_model.specs.Segments.{Prefixed}
use Rattle.slate_model.specs.Trees.{segment_trees, tables_of, tables_of_views, views_of_runs}
use Rattle.slate_state_updates.specs.Checkpoints.{is_named}
use Rattle.slate_state_updates.specs.ExternalEntries.{entries_known, used_stay, entries_kept}
use Rattle.slate_state_updates.specs.FlushedTables.{flushed_tables, least_tick, is_early, early_refusal, tick_refusal}
use Rattle.slate_state_updates.specs.Prefixes.{nested_after, prefix_refusal}
use Rattle.slate_state_updates.specs.Rules.{falls, names_known, unless_kept, first_refusal, manifest_refusal}
use Rattle.slate_state_updates.specs.RunTables.{run_tables, outputs_of, attaches, runs_known}
use Rattle.slate_state_updates.specs.TableSets.{is_among}

names_normal : (n : ℕ) (old : Manifest) (cs : List Checkpoint)
    → list_all (λ c. c.manifest_id == n + 1 || is_named c.manifest_id old.core.checkpoints) (map normal_checkpoint cs) ≡ list_all (λ c. c.manifest_id == n + 1 || is_named c.manifest_id old.core.checkpoints) cs
names_normal n old [] = refl
names_normal n old (c ∷ cs) = ap (λ (b : Bool). (c.manifest_id == n + 1 || is_named c.manifest_id old.core.checkpoints) && b) (names_normal n old cs)

tables_normal : (c : Core) → tables_of (normal_core c) ≡ tables_of c
tables_normal c = ap tables_of_views (views_kept c)

entries_normal : (old m : Manifest) → entries_kept old (normal_manifest m) ≡ entries_kept old m
entries_normal old m = ap (λ (ids : List SsTableId). entries_known old.external_dbs m.external_dbs && list_all (used_stay ids m.external_dbs) old.external_dbs) (tables_normal m.core)

segments_flushed : (ss : List Prefixed) → flat_map (λ tree. tables_of_views tree.l0) (segment_trees (map normal_segment ss)) ≡ flat_map (λ tree. tables_of_views tree.l0) (segment_trees ss)
segments_flushed [] = refl
segments_flushed (s ∷ ss) = ap (λ (ids : List SsTableId). tables_of_views s.tree.l0 ++ ids) (segments_flushed ss)

flushed_normal : (c : Core) → flushed_tables (normal_core c) ≡ flushed_tables c
flushed_normal c = ap (λ (ids : List SsTableId). tables_of_views c.tree.l0 ++ ids) (segments_flushed c.segments)

ticks_normal : (old m : Manifest) → tick_refusal old (normal_manifest m) ≡ tick_refusal old m
ticks_normal old m = ap (λ (ids : List SsTableId). early_refusal (least_tick old) (find (is_early (least_tick old) (flushed_tables old.core)) ids)) (flushed_normal m.core)

segments_runs : (ss : List Prefixed) → flat_map (λ tree. tables_of_views (views_of_runs tree.compacted)) (segment_trees (map normal_segment ss)) ≡ flat_map (λ tree. tables_of_views (views_of_runs tree.compacted)) (segment_trees ss)
segments_runs [] = refl
segments_runs (s ∷ ss) = ap (λ (ids : List SsTableId). tables_of_views (views_of_runs s.tree.compacted) ++ ids) (segments_runs ss)

runs_normal : (c : Core) → run_tables (normal_core c) ≡ run_tables c
runs_normal c = ap (λ (ids : List SsTableId). tables_of_views (views_of_runs c.tree.compacted) ++ ids) (segments_runs c.segments)

known_normal : (old m : Manifest) (right : Right) → runs_known old (normal_manifest m) right ≡ runs_known old m right
known_normal old m right = ap (λ (ids : List SsTableId). attaches right || list_all (is_among (tables_of old.core ++ outputs_of right)) ids) (runs_normal m.core)

nested_normal : (s : Prefixed) (ss : List Prefixed) → nested_after (normal_segment s) (map normal_segment ss) ≡ nested_after s ss
nested_normal s [] = refl
nested_normal s (t ∷ ss) = ap (λ (o : Option SlateDBError). if begins_with s.prefix t.prefix then Some (InvalidSegmentPrefix t.prefix s.prefix) else o) (nested_normal t ss)

pub prefixes_normal : (ss : List Prefixed) → prefix_refusal (map normal_segment ss) ≡ prefix_refusal ss
prefixes_normal [] = refl
prefixes_normal (s ∷ ss) = nested_normal s ss

pub refusal_normal : (n : ℕ) (old m : Manifest) (right : Right) → manifest_refusal n old (normal_manifest m) right ≡ manifest_refusal n old m right
refusal_normal n old m right =
    ap (λ (names : Bool). first_refusal (unless_kept U1 (not (falls old m)) ∷ unless_kept U2 names ∷ unless_kept U3 (entries_kept old (normal_manifest m)) ∷ tick_refusal old (normal_manifest m) ∷ unless_kept U5 (runs_known old (normal_manifest m) right) ∷ prefix_refusal (normal_manifest m).core.segments ∷ [])) (names_normal n old m.core.checkpoints)
    ∙ ap (λ (entries : Bool). first_refusal (unless_kept U1 (not (falls old m)) ∷ unless_kept U2 (names_known n old m) ∷ unless_kept U3 entries ∷ tick_refusal old (normal_manifest m) ∷ unless_kept U5 (runs_known old (normal_manifest m) right) ∷ prefix_refusal (normal_manifest m).core.segments ∷ [])) (entries_normal old m)
    ∙ ap (λ (ticks : Option SlateDBError). first_refusal (unless_kept U1 (not (falls old m)) ∷ unless_kept U2 (names_known n old m) ∷ unless_kept U3 (entries_kept old m) ∷ ticks ∷ unless_kept U5 (runs_known old (normal_manifest m) right) ∷ prefix_refusal (normal_manifest m).core.segments ∷ [])) (ticks_normal old m)
    ∙ ap (λ (runs : Bool). first_refusal (unless_kept U1 (not (falls old m)) ∷ unless_kept U2 (names_known n old m) ∷ unless_kept U3 (entries_kept old m) ∷ tick_refusal old m ∷ unless_kept U5 runs ∷ prefix_refusal (normal_manifest m).core.segments ∷ [])) (known_normal old m right)
    ∙ ap (λ (prefixes : Option SlateDBError). first_refusal (unless_kept U1 (not (falls old m)) ∷ unless_kept U2 (names_known n old m) ∷ unless_kept U3 (entries_kept old m) ∷ tick_refusal old m ∷ unless_kept U5 (runs_known old m right) ∷ prefixes ∷ [])) (prefixes_normal m.core.segments)
