-- Views of one table that differ in what they know of it.
use Rattle.std.specs.Prelude.{◌≡◌, ◌⊎◌, List, [], ◌∷◌}
use Rattle.slate_model_tables.specs.Views.{View}
use Rattle.slate_layout_parts.specs.TablesOfViews.{table_id}

-- a view stands among others
abbrev pub Among : View → List View → Type 0
Among v [] = ⊥
Among v (w ∷ views) = (v ≡ w) ⊎ Among v views

-- two views of one table have unequal handles
pub record HaveUnequal (views : List View) : Type 0 where
  pub one : View
  pub other : View
  pub has_one : Among one views
  pub has_other : Among other views
  pub same_table : table_id one.sst.id ≡ table_id other.sst.id
  pub unequal : one.sst ≡ other.sst → ⊥
