-- Of each committed manifest the watermark is at most its floor.
use Rattle.std.proofs.Common.{◌≡◌, ℕ, ℤ, ◌+◌, ◌≤◌, ◌++◌, ◌==◌, Bool, true, false, List, [], ◌∷◌, map, max, Option, Some, None, Result, Ok, Err, refl, sym, ap, subst, arith}
use Rattle.std.specs.Prelude.{if◌then◌else◌}
use Rattle.std.specs.List.{flat_map}
use Rattle.slate_ids.specs.Limits.{last_number}
use Rattle.slate_ids.specs.declared.error.SlateDBError.{SlateDBError}
use Rattle.slate_ids.specs.declared.error.SlateDBError.TheVariants.{Exhausted}
use Rattle.slate_layout_encodable.specs.Normal.{normal_core, normal_manifest, normal_segment}
use Rattle.slate_model.specs.Cores.{Core}
use Rattle.slate_model.specs.Externals.{pruned}
use Rattle.slate_model.specs.Segments.{Prefixed}
use Rattle.slate_model.specs.Trees.{segment_trees}
use Rattle.slate_model.specs.Watermark.{flushed_of_tree, greatest, watermark}
use Rattle.slate_model.specs.declared.manifest.Manifest.{Manifest}
use Rattle.slate_state_merges.specs.LocalTrees.{Trees, floor_raised, manifest_with, trees_merged, with_merged}
use Rattle.slate_state_updates.specs.Checkpoints.{deleted, refreshed, replaced, unexpired, written}
use Rattle.slate_state_updates.specs.Flushes.{tables_flushed}
use Rattle.slate_state_updates.specs.ManifestChanges.{floored, keeping, made, some_merged, with_floor}
use Rattle.slate_state_updates.specs.Writers.{epoch_of, raised, with_epoch}
use Rattle.slate_state_updates.specs.declared.epochs.ManifestEpochs.{ManifestEpochs}
use Rattle.slate_state_updates.specs.declared.epochs.ManifestEpochs.TheVariants as epochs
use Rattle.slate_state_updates.specs.declared.manifest_change.ManifestChange.{ManifestChange}
use Rattle.slate_state_updates.specs.declared.manifest_change.ManifestChange.TheVariants.{RaiseWriter, RaiseCompactor, Flush, WriteCheckpoint, ReplaceCheckpoint, RefreshCheckpoint, DeleteCheckpoint, DropExpired, KeepTrees, MergeTrees}
use Rattle.slate_txn_changes.specs.Changes.{made_by}
use Rattle.slate_cluster_protocol.specs.Chains.{Link, IsFirst, Follows}
use Rattle.slate_cluster_protocol.specs.Chains.IsFirst.{Opens, Begins}
use Rattle.slate_cluster_protocol.specs.Logs.{Author, change_by, manifests}

abbrev pub IsMarked : Manifest → Type 0
IsMarked m = watermark m.core ≤ m.core.floor

-- ---- what is read back of a manifest

segments_timed : (ss : List Prefixed) → flat_map flushed_of_tree (segment_trees (map normal_segment ss)) ≡ flat_map flushed_of_tree (segment_trees ss)
segments_timed [] = refl
segments_timed (s ∷ ss) = ap (λ (ids : List (ℕ × ℕ)). flushed_of_tree s.tree ++ ids) (segments_timed ss)

watermark_normal : (c : Core) → watermark (normal_core c) ≡ watermark c
watermark_normal c = ap (λ (ids : List (ℕ × ℕ)). greatest (map (λ id. id.0) (flushed_of_tree c.tree ++ ids))) (segments_timed c.segments)

normal_marked : (m : Manifest) → IsMarked m → IsMarked (normal_manifest m)
normal_marked m h = subst (λ (n : ℕ). n ≤ m.core.floor) (sym (watermark_normal m.core)) h

-- ---- what a change makes

below_greater : (a b : ℕ) → b ≤ max a b
below_greater a b = grind arith

floor_marked : (old : ℕ) (m : Manifest) → IsMarked (floor_raised old m)
floor_marked old m = below_greater old (watermark m.core)

module _ (new : Manifest) where
  floored_marked : (old : ℕ) (r : Result (Option Manifest) SlateDBError) → floored old r ≡ Ok (Some new) → IsMarked new
  floored_marked old (Ok (Some m)) h = let same : with_floor old m ≡ new = cc h in subst IsMarked same (below_greater old (watermark m.core))
  floored_marked old (Ok None) h = absurd (cc h)
  floored_marked old (Err e) h = absurd (cc h)

  merged_marked : (m : Manifest) (r : Result Trees SlateDBError) → some_merged (with_merged m r) ≡ Ok (Some new) → IsMarked new
  merged_marked m (Ok trees) h = marked (pruned (manifest_with trees m)) h
    where
      marked : (n : Manifest) → some_merged (Ok (floor_raised m.core.floor n)) ≡ Ok (Some new) → IsMarked new
      marked n k = let same : floor_raised m.core.floor n ≡ new = cc k in subst IsMarked same (floor_marked m.core.floor n)
  merged_marked m (Err e) h = absurd (cc h)

  epoch_marked : (kind : ManifestEpochs) (m : Manifest) (n : ℕ) → IsMarked m → IsMarked (with_epoch kind m n)
  epoch_marked epochs.Writer m n h = h
  epoch_marked epochs.Compactor m n h = h

  raised_marked : (kind : ManifestEpochs) (n : ℕ) (m : Manifest) → raised kind n m ≡ Ok (Some new) → IsMarked m → IsMarked new
  raised_marked kind n m is h = by (epoch_of kind m == last_number) is
    where
      by : (b : Bool) → (let r : Result (Option Manifest) SlateDBError = if b then Err (Exhausted (epoch_of kind m)) else Ok (Some (with_epoch kind m (epoch_of kind m + 1))) in r) ≡ Ok (Some new) → IsMarked new
      by true k = absurd (cc k)
      by false k = let same : with_epoch kind m (epoch_of kind m + 1) ≡ new = cc k in subst IsMarked same (epoch_marked kind m (epoch_of kind m + 1) h)

  made_marked : (change : ManifestChange) (now : ℤ) (n : ℕ) (m : Manifest) → made change now n m ≡ Ok (Some new) → IsMarked m → IsMarked new
  made_marked RaiseWriter now n m is h = raised_marked epochs.Writer n m is h
  made_marked RaiseCompactor now n m is h = raised_marked epochs.Compactor n m is h
  made_marked (Flush writer batch) now n m is h = floored_marked m.core.floor (Ok (Some (tables_flushed batch m))) is
  made_marked (WriteCheckpoint id options) now n m is h = floored_marked m.core.floor (written id options now n m) is
  made_marked (ReplaceCheckpoint old id options) now n m is h = floored_marked m.core.floor (replaced old id options now n m) is
  made_marked (RefreshCheckpoint id lifetime) now n m is h = floored_marked m.core.floor (refreshed id lifetime now m) is
  made_marked (DeleteCheckpoint id) now n m is h = floored_marked m.core.floor (deleted id m) is
  made_marked DropExpired now n m is h = floored_marked m.core.floor (unexpired now m) is
  made_marked (KeepTrees compactor checkpoint) now n m is h = floored_marked m.core.floor (written checkpoint keeping now n m) is
  made_marked (MergeTrees compactor trees outputs) now n m is h = merged_marked m (trees_merged m.core trees) is

  by_marked : (o : Option ManifestChange) (now : ℤ) (n : ℕ) (m : Manifest) → made_by made o now n m ≡ Ok (Some new) → IsMarked m → IsMarked new
  by_marked None now n m is h = absurd (cc is)
  by_marked (Some change) now n m is h = made_marked change now n m is h

-- ---- the versions of a chain

pub next_marked : (old new : Link Manifest Author) → Follows manifests old new → IsMarked old.value → IsMarked new.value
next_marked old new f h =
    subst IsMarked (sym f.value) (normal_marked f.made (by_marked f.made (change_by f.author.puts) f.author.now old.number old.value f.makes h))

-- who put a first manifest made none
pub none_begins : (P : Manifest → Type 0) (author : Author) (l : Link Manifest Author) → l.by ≡ Some author → IsFirst manifests l → P l.value
none_begins P author l by (Opens number none value own) = absurd (cc (by, none))
none_begins P author l by (Begins who made number is makes bytes value) = absurd (cc makes)
