-- Tables that flushes wrote: a change of a manifest brings those of its batch alone.
use Rattle.std.proofs.Common.{◌≡◌, ℕ, ℤ, ◌+◌, ◌==◌, Bool, true, false, List, [], ◌∷◌, map, length, Option, Some, None, Result, Ok, Err, subst}
use Rattle.std.specs.Prelude.{bytes_eq, option_map, if◌then◌else◌}
use Rattle.std.specs.List.{filter, find, list_any}
use Rattle.slate_ids.specs.Keys.{key_lt}
use Rattle.slate_ids.specs.Limits.{last_number}
use Rattle.slate_ids.specs.declared.error.SlateDBError.{SlateDBError}
use Rattle.slate_ids.specs.declared.error.SlateDBError.TheVariants.{CheckpointMissing, Exhausted}
use Rattle.slate_layout_encodable.specs.Normal.{normal_manifest, normal_segment}
use Rattle.slate_model.specs.Cores.{Core}
use Rattle.slate_model.specs.Insertion.{or_empty, placed, tree_for, tree_in, with_tree}
use Rattle.slate_model.specs.Segments.{Prefixed, segment_at}
use Rattle.slate_model.specs.declared.checkpoint.Checkpoint.{Checkpoint}
use Rattle.slate_model.specs.declared.checkpoint.CheckpointOptions.{CheckpointOptions}
use Rattle.slate_model.specs.declared.lsm_tree_state.LsmTreeState.{LsmTreeState}
use Rattle.slate_model.specs.declared.manifest.Manifest.{Manifest}
use Rattle.slate_model_tables.specs.Views.{View}
use Rattle.slate_model_tables.specs.declared.ss_table_id.SsTableId.{SsTableId}
use Rattle.slate_state_merges.specs.LocalTrees.{with_merged, with_segments}
use Rattle.slate_state_merges.specs.Merging.{front, is_at_marker, merged}
use Rattle.slate_state_merges.specs.SegmentMerging.{from_compactor, holds_tables, is_orphan, merged_with, unless_orphan, with_prefixes}
use Rattle.slate_state_updates.specs.Checkpoints.{deleted, has_checkpoint, is_expired, pushed, refreshed, replaced, unexpired, version_to_name, without_checkpoint, written}
use Rattle.slate_state_updates.specs.Flushes.{fresh_tables, whole_view, with_all_flushed, with_flushed, with_newest}
use Rattle.slate_state_updates.specs.ManifestChanges.{floored, keeping, made as manifest_made, some_merged}
use Rattle.slate_state_updates.specs.TableSets.{is_among}
use Rattle.slate_state_updates.specs.Writers.{with_epoch}
use Rattle.slate_state_updates.specs.declared.epochs.ManifestEpochs.TheVariants as epochs
use Rattle.slate_state_updates.specs.declared.flush_batch.FlushedTable.{FlushedTable}
use Rattle.slate_state_updates.specs.declared.manifest_change.ManifestChange.{ManifestChange}
use Rattle.slate_state_updates.specs.declared.manifest_change.ManifestChange.TheVariants.{RaiseWriter, RaiseCompactor, Flush, WriteCheckpoint, ReplaceCheckpoint, RefreshCheckpoint, DeleteCheckpoint, DropExpired, KeepTrees, MergeTrees}
use Rattle.slate_txn_changes.specs.Changes.{made_by}
use Rattle.slate_cluster_protocol.specs.Logs.{Puts, OfManifest, OfRecord, First, change_by}

module _ (Q : SsTableId → Type 0) where
  -- it holds of the table of each of these views
  abbrev pub EachView : List View → Type 0
  EachView [] = Unit {0}
  EachView (v ∷ views) = Q v.sst.id × EachView views

  abbrev pub EachSegment : List Prefixed → Type 0
  EachSegment [] = Unit {0}
  EachSegment (s ∷ segments) = EachView s.tree.l0 × EachSegment segments

  -- of each table that flushes wrote and no compaction took
  abbrev pub EachNew : Core → Type 0
  EachNew c = EachView c.tree.l0 × EachSegment c.segments

  -- of each of a batch
  abbrev pub EachFlushed : List FlushedTable → Type 0
  EachFlushed [] = Unit {0}
  EachFlushed (t ∷ tables) = Q t.sst.id × EachFlushed tables

  -- of each that a change brings
  abbrev pub ChangeBrings : ManifestChange → Type 0
  ChangeBrings (Flush writer batch) = EachFlushed batch.tables
  ChangeBrings _ = Unit {0}

  -- ---- merges

  front_has : (t : LsmTreeState) (views : List View) → EachView views → EachView (front t views)
  front_has t [] h = tt
  front_has t (v ∷ views) h = by (is_at_marker t v) (front_has t views h.1)
    where
      by : (b : Bool) → EachView (front t views) → EachView (if b then [] else v ∷ front t views)
      by true rest = tt
      by false rest = (h.0, rest)

  with_has : (others segments : List Prefixed) → EachSegment segments → EachSegment (map (merged_with others) segments)
  with_has others [] h = tt
  with_has others (s ∷ segments) h = (front_has (or_empty (tree_in s.prefix others)) s.tree.l0 h.0, with_has others segments h.1)

  filter_has : (f : Prefixed → Bool) (segments : List Prefixed) → EachSegment segments → EachSegment (filter f segments)
  filter_has f [] h = tt
  filter_has f (s ∷ segments) h = by (f s) (filter_has f segments h.1)
    where
      by : (b : Bool) → EachSegment (filter f segments) → EachSegment (if b then s ∷ filter f segments else filter f segments)
      by true rest = (h.0, rest)
      by false rest = rest

  found_has : (prefix : List ℕ) (segments : List Prefixed) → EachSegment segments → EachView (or_empty (tree_in prefix segments)).l0
  found_has prefix [] h = tt
  found_has prefix (s ∷ segments) h = by (bytes_eq s.prefix prefix) (found_has prefix segments h.1)
    where
      by : (b : Bool) → EachView (or_empty (tree_in prefix segments)).l0 → EachView (or_empty (option_map (λ x. x.tree) (if b then Some s else segment_at prefix segments))).l0
      by true rest = h.0
      by false rest = rest

  placed_has : (prefix : List ℕ) (tree : LsmTreeState) (segments : List Prefixed) → EachView tree.l0 → EachSegment segments → EachSegment (placed prefix tree segments)
  placed_has prefix tree [] own h = (own, tt)
  placed_has prefix tree (s ∷ segments) own h = by (key_lt s.prefix prefix) (bytes_eq s.prefix prefix) (placed_has prefix tree segments own h.1)
    where
      by : (a b : Bool) → EachSegment (placed prefix tree segments) → EachSegment (if a then s ∷ placed prefix tree segments else record { prefix = prefix; tree = tree } ∷ (if b then segments else s ∷ segments))
      by true b rest = (h.0, rest)
      by false true rest = (own, h.1)
      by false false rest = (own, h)

  prefixes_have : (others segments : List Prefixed) → EachSegment segments → EachSegment (with_prefixes others segments)
  prefixes_have [] segments h = h
  prefixes_have (s ∷ others) segments h = placed_has s.prefix (or_empty (tree_in s.prefix segments)) (with_prefixes others segments) (found_has s.prefix segments h) (prefixes_have others segments h)

  from_has : (writer compactor : List Prefixed) → EachSegment writer → EachSegment (from_compactor writer compactor)
  from_has writer compactor h = filter_has (λ s. holds_tables s.tree) (map (merged_with compactor) (with_prefixes compactor writer)) (with_has compactor (with_prefixes compactor writer) (prefixes_have compactor writer h))

  -- ---- flushes

  tree_has : (prefix : List ℕ) (c : Core) → EachNew c → EachView (or_empty (tree_for prefix c)).l0
  tree_has prefix c h = by (length prefix == 0)
    where
      by : (b : Bool) → EachView (or_empty (if b then Some c.tree else tree_in prefix c.segments)).l0
      by true = h.0
      by false = found_has prefix c.segments h.1

  tree_put : (prefix : List ℕ) (c : Core) (tree : LsmTreeState) → EachView tree.l0 → EachNew c → EachNew (with_tree prefix c tree)
  tree_put prefix c tree own h = by (length prefix == 0)
    where
      by : (b : Bool) → EachNew (if b then record c { tree = tree } else record c { segments = placed prefix tree c.segments })
      by true = (own, h.1)
      by false = (h.0, placed_has prefix tree c.segments own h.1)

  flushed_has : (tables : List FlushedTable) (c : Core) → EachFlushed tables → EachNew c → EachNew (with_all_flushed c tables)
  flushed_has [] c own h = h
  flushed_has (t ∷ tables) c own h = flushed_has tables (with_flushed c t) own.1 (tree_put t.prefix c (with_newest (whole_view t.view t.sst) (or_empty (tree_for t.prefix c))) (own.0, tree_has t.prefix c h) h)

  fresh_has : (known : List SsTableId) (tables : List FlushedTable) → EachFlushed tables → EachFlushed (fresh_tables known tables)
  fresh_has known [] h = tt
  fresh_has known (t ∷ tables) h = by (is_among known t.sst.id) (fresh_has (t.sst.id ∷ known) tables h.1)
    where
      by : (b : Bool) → EachFlushed (fresh_tables (t.sst.id ∷ known) tables) → EachFlushed (if b then fresh_tables (t.sst.id ∷ known) tables else t ∷ fresh_tables (t.sst.id ∷ known) tables)
      by true rest = rest
      by false rest = (h.0, rest)

  -- ---- a change

  abbrev HasIt : Result (Option Manifest) SlateDBError → Type 0
  HasIt (Ok (Some m)) = EachNew m.core
  HasIt _ = Unit {0}

  has_it : (r : Result (Option Manifest) SlateDBError) (m : Manifest) → HasIt r → r ≡ Ok (Some m) → EachNew m.core
  has_it (Ok (Some k)) m h is = let same : k ≡ m = cc is in subst (λ (x : Manifest). EachNew x.core) same h
  has_it (Ok None) m h is = absurd (cc is)
  has_it (Err error) m h is = absurd (cc is)

  floored_has : (floor : ℕ) (r : Result (Option Manifest) SlateDBError) → HasIt r → HasIt (floored floor r)
  floored_has floor (Ok (Some m)) h = h
  floored_has floor (Ok None) h = tt
  floored_has floor (Err error) h = tt

  if_has : (b : Bool) (x y : Result (Option Manifest) SlateDBError) → HasIt x → HasIt y → HasIt (if b then x else y)
  if_has true x y h k = h
  if_has false x y h k = k

  unless_has : (b : Bool) (e : SlateDBError) (m : Manifest) → EachNew m.core → HasIt (if b then Err e else Ok (Some m))
  unless_has true e m h = tt
  unless_has false e m h = h

  module _ (m : Manifest) (h : EachNew m.core) where
    pushed_has : (cs : List Checkpoint) (id : List ℕ) (options : CheckpointOptions) (now : ℤ) (r : Result ℕ SlateDBError) → HasIt (pushed cs id options now m r)
    pushed_has cs id options now (Ok version) = h
    pushed_has cs id options now (Err error) = tt

    written_has : (id : List ℕ) (options : CheckpointOptions) (now : ℤ) (n : ℕ) → HasIt (written id options now n m)
    written_has id options now n =
        if_has (has_checkpoint id m) (Ok None) (pushed m.core.checkpoints id options now m (version_to_name n options.source m)) tt (pushed_has m.core.checkpoints id options now (version_to_name n options.source m))

    replaced_has : (old id : List ℕ) (options : CheckpointOptions) (now : ℤ) (n : ℕ) → HasIt (replaced old id options now n m)
    replaced_has old id options now n =
        if_has (has_checkpoint id m) (Ok None) (pushed (without_checkpoint old m.core.checkpoints) id options now m (version_to_name n options.source m)) tt
        (pushed_has (without_checkpoint old m.core.checkpoints) id options now (version_to_name n options.source m))

    segments_merged : (o : Option Prefixed) (tree : LsmTreeState) (segments : List Prefixed) → EachView tree.l0 → EachSegment segments → HasIt (some_merged (with_merged m (with_segments tree (unless_orphan o segments))))
    segments_merged None tree segments own rest = (own, rest)
    segments_merged (Some s) tree segments own rest = tt

    pub made_has : (change : ManifestChange) (now : ℤ) (n : ℕ) → ChangeBrings change → HasIt (manifest_made change now n m)
    made_has RaiseWriter now n b = unless_has (m.writer_epoch == last_number) (Exhausted m.writer_epoch) (with_epoch epochs.Writer m (m.writer_epoch + 1)) h
    made_has RaiseCompactor now n b = unless_has (m.compactor_epoch == last_number) (Exhausted m.compactor_epoch) (with_epoch epochs.Compactor m (m.compactor_epoch + 1)) h
    made_has (Flush writer batch) now n b =
        flushed_has (fresh_tables _ batch.tables) _ (fresh_has _ batch.tables b) (front_has m.core.tree m.core.tree.l0 h.0, from_has m.core.segments m.core.segments h.1)
    made_has (WriteCheckpoint id options) now n b = floored_has m.core.floor (written id options now n m) (written_has id options now n)
    made_has (ReplaceCheckpoint old id options) now n b = floored_has m.core.floor (replaced old id options now n m) (replaced_has old id options now n)
    made_has (RefreshCheckpoint id lifetime) now n b = floored_has m.core.floor (refreshed id lifetime now m) (if_has (has_checkpoint id m) (Ok (Some _)) (Err (CheckpointMissing id)) h tt)
    made_has (DeleteCheckpoint id) now n b = floored_has m.core.floor (deleted id m) (if_has (has_checkpoint id m) (Ok (Some _)) (Ok None) h tt)
    made_has DropExpired now n b = floored_has m.core.floor (unexpired now m) (if_has (list_any (is_expired now) m.core.checkpoints) (Ok (Some _)) (Ok None) h tt)
    made_has (KeepTrees compactor checkpoint) now n b = floored_has m.core.floor (written checkpoint keeping now n m) (written_has checkpoint keeping now n)
    made_has (MergeTrees compactor trees outputs) now n b =
        segments_merged (find (is_orphan m.core.segments) trees.segments) (merged m.core.tree trees.tree) (map (merged_with trees.segments) m.core.segments) (front_has trees.tree m.core.tree.l0 h.0) (with_has trees.segments m.core.segments h.1)

  normal_segments : (segments : List Prefixed) → EachSegment segments → EachSegment (map normal_segment segments)
  normal_segments [] h = tt
  normal_segments (s ∷ segments) h = (h.0, normal_segments segments h.1)

  abbrev pub PutsTables : Puts → Type 0
  PutsTables (OfManifest change) = ChangeBrings change
  PutsTables _ = Unit {0}

  -- what is read back of what an author makes has tables of flushes of the one before, and of the author's batch
  pub puts_new : (puts : Puts) (now : ℤ) (n : ℕ) (old made : Manifest) → made_by manifest_made (change_by puts) now n old ≡ Ok (Some made) → PutsTables puts → EachNew old.core → EachNew (normal_manifest made).core
  puts_new (OfManifest change) now n old made is b h = let new = has_it (manifest_made change now n old) made (made_has old h change now n b) is in (new.0, normal_segments made.core.segments new.1)
  puts_new (OfRecord change) now n old made is b h = absurd (cc is)
  puts_new First now n old made is b h = absurd (cc is)
