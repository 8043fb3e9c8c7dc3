-- Items of trees by prefix.
use Rattle.std.specs.Prelude.{ℕ, List, [], ◌++◌, filter, unwrap_or}
use Rattle.std.specs.Ordering.{nat_cmp}
use Rattle.std.specs.Cmp.Lexicographic.{slice_cmp}
use Rattle.std.specs.BTreeMap.{BTreeMap, get}
use Rattle.slate_script_databases.specs.declared.tree_items.L0Item.{L0Item}
use Rattle.slate_script_databases.specs.declared.tree_items.RunItem.{RunItem}
use Rattle.slate_script_databases.specs.declared.tree_items.MarkerItem.{MarkerItem}
use Rattle.slate_script_databases.specs.declared.tree_items.TreeItems.{TreeItems}
use Rattle.slate_script_databases.specs.Databases.{is_l0_of, is_run_of, is_marker_of}

-- no items
abbrev pub no_items : TreeItems
no_items = record { l0 = []; runs = []; markers = [] }

-- the items of a prefix; none where the map has none
abbrev pub group_at : BTreeMap (List ℕ) TreeItems → List ℕ → TreeItems
group_at groups prefix = unwrap_or (get (slice_cmp nat_cmp) groups prefix) no_items

-- items, and others at the end
abbrev pub with_l0 : TreeItems → List L0Item → TreeItems
with_l0 group items = record group { l0 = group.l0 ++ items }

abbrev pub with_runs : TreeItems → List RunItem → TreeItems
with_runs group items = record group { runs = group.runs ++ items }

abbrev pub with_markers : TreeItems → List MarkerItem → TreeItems
with_markers group items = record group { markers = group.markers ++ items }

-- those of the items that are in the tree of a prefix
abbrev pub items_of : List ℕ → TreeItems → TreeItems
items_of prefix items = record {
  l0 = filter (is_l0_of prefix) items.l0;
  runs = filter (is_run_of prefix) items.runs;
  markers = filter (is_marker_of prefix) items.markers;
}
