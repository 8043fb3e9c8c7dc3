-- Which tables views are of.
use Rattle.std.specs.Prelude.{ℕ, Bool, List}
use Rattle.std.specs.List.{list_any}
use Rattle.std.specs.BTreeSet.{BTreeSet, contains}
use Rattle.slate_model_tables.specs.Views.{View}
use Rattle.slate_layout_parts.specs.TablesOfViews.{table_id}
use Rattle.slate_ids.specs.Ulids.{same_id, id_cmp}

-- whether ids have this one
abbrev pub has : BTreeSet (ℕ × ℕ) → ℕ × ℕ → Bool
has ids q = contains id_cmp ids q

-- whether a view is of the table of this id
abbrev pub any_of : ℕ × ℕ → List View → Bool
any_of q views = list_any (λ v. same_id (table_id v.sst.id) q) views
