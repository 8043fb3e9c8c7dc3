-- What the end of a compaction leaves of a tree, in words of what stands in it.
use Rattle.std.specs.Prelude.{◌≡◌, ℕ, ◌&&◌, ◌++◌, nat_lt, Bool, true, false, List, [], ◌∷◌}
use Rattle.std.specs.List.{list_all, list_any}
use Rattle.slate_state_compactor.specs.Sources.{source_views}
use Rattle.slate_model.specs.declared.lsm_tree_state.LsmTreeState.{LsmTreeState}
use Rattle.slate_model_records.specs.Compactions.{sources_of}
use Rattle.slate_model_records.specs.Retaining.{has_id}
use Rattle.slate_model_records.specs.declared.compaction_spec.CompactionSpec.{CompactionSpec}
use Rattle.slate_model_tables.specs.SortedRuns.{Run}
use Rattle.slate_model_tables.specs.Views.{View}

-- whether the numbers of runs descend strictly
abbrev pub descend : List Run → Bool
descend [] = true
descend (r ∷ runs) = list_all (λ s. nat_lt s.id r.id) runs && descend runs

-- views are these, none of which a test takes, and older ones, all of which it takes
pub record IsNewer (takes : ℕ × ℕ → Bool) (views left : List View) : Type 0 where
  pub dropped : List View
  pub whole : views ≡ left ++ dropped
  pub taken : list_all (λ v. takes v.id) dropped ≡ true
  pub stays : list_any (λ v. takes v.id) left ≡ false

-- the L0 that is left is the newer part of what was there, up to the views that the sources name
abbrev pub LeavesNewer : CompactionSpec → LsmTreeState → LsmTreeState → Type 0
LeavesNewer spec old new = IsNewer (has_id (source_views (sources_of spec))) old.l0 new.l0
