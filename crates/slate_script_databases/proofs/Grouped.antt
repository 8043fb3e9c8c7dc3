-- Items by prefix: one more of them, and the trees of them.
use Rattle.std.specs.Prelude.{◌≡◌, ℕ, ◌+◌, ◌<◌, Bool, true, false, cond, List, [], ◌∷◌, ◌++◌, length, map, filter, Option, None, Some, unwrap_or, bytes_eq, if◌then◌else◌}
use Rattle.std.specs.List.{find}
use Rattle.std.specs.Ordering.{nat_cmp, is_eq}
use Rattle.std.specs.Cmp.Lexicographic.{slice_cmp}
use Rattle.std.proofs.Common.{refl, sym, ◌∙◌, ap, take, get_or}
use Rattle.std.proofs.lemmas.List.{take_more, append_assoc, append-nil}
use Rattle.std.proofs.lemmas.List.Elements.{filter-append}
use Rattle.std.proofs.lemmas.Map.Text.{is_eq-slice_cmp}
use Rattle.slate_script_databases.specs.declared.tree_items.L0Item.{L0Item}
use Rattle.slate_script_databases.specs.declared.tree_items.RunItem.{RunItem}
use Rattle.slate_script_databases.specs.declared.tree_items.MarkerItem.{MarkerItem}
use Rattle.slate_script_databases.specs.declared.tree_items.TreeItems.{TreeItems}
use Rattle.slate_script_databases.specs.Databases.{is_l0_of, is_run_of, is_marker_of, tree_of, segment_of}
use Rattle.slate_script_databases.specs.PrefixGroups.{no_items, items_of, with_l0, with_runs, with_markers}

-- ---- the map

-- a map with a group at a prefix, read at another
pub put_at : (new old : Option TreeItems) (prefix q : List ℕ) (group : TreeItems) → new ≡ cond (is_eq (slice_cmp nat_cmp prefix q)) (Some group) old → unwrap_or new no_items ≡ (if bytes_eq prefix q then group else unwrap_or old no_items)
put_at new old prefix q group h = ap (λ o. unwrap_or o no_items) (h ∙ ap (λ b. cond b (Some group) old) (is_eq-slice_cmp prefix q)) ∙ by (bytes_eq prefix q)
  where
    by : (b : Bool) → unwrap_or (cond b (Some group) old) no_items ≡ (if b then group else unwrap_or old no_items)
    by true = refl
    by false = refl

-- a map without the group of a prefix, read at another
pub taken_at : (new old : Option TreeItems) (prefix q : List ℕ) → bytes_eq prefix q ≡ false → new ≡ cond (is_eq (slice_cmp nat_cmp prefix q)) None old → unwrap_or new no_items ≡ unwrap_or old no_items
taken_at new old prefix q e h = ap (λ o. unwrap_or o no_items) (h ∙ ap (λ b. cond b None old) (is_eq-slice_cmp prefix q ∙ e))

-- ---- loops

-- what passes a test of the first items, with the next
next_passes : {X : Type 0} (test : X → Bool) (items : List X) (i : ℕ) (x : X) → i < length items → x ≡ get_or items i x → filter test (take (i + 1) items) ≡ filter test (take i items) ++ (if test x then x ∷ [] else [])
next_passes test items i x lt at = ap (filter test) (take_more items i x lt ∙ ap (λ y. take i items ++ y ∷ []) (sym at)) ∙ filter-append test (take i items) (x ∷ [])

-- one more item of a kind, where `more` adds items of it
one_more : {X : Type 0} (test : X → Bool) (more : TreeItems → List X → TreeItems) → ((g : TreeItems) (xs ys : List X) → more (more g xs) ys ≡ more g (xs ++ ys)) → ((g : TreeItems) → more g [] ≡ g)
    → (items : List X) (i : ℕ) (x : X) (first was now : TreeItems) → i < length items → x ≡ get_or items i x → was ≡ more first (filter test (take i items)) → now ≡ (if test x then more was (x ∷ []) else was) → now ≡ more first (filter test (take (i + 1) items))
one_more {X} test more joins none items i x first was now lt at so_far put =
    put ∙ by (test x) ∙ ap (λ g. more g (if test x then x ∷ [] else [])) so_far ∙ joins first (filter test (take i items)) (if test x then x ∷ [] else [])
    ∙ ap (more first) (sym (next_passes test items i x lt at))
  where
    by : (b : Bool) → (if b then more was (x ∷ []) else was) ≡ more was (if b then x ∷ [] else [])
    by true = refl
    by false = sym (none was)

l0_joins : (g : TreeItems) (xs ys : List L0Item) → with_l0 (with_l0 g xs) ys ≡ with_l0 g (xs ++ ys)
l0_joins g xs ys = ap (λ l. record g { l0 = l }) (append_assoc g.l0 xs ys)

runs_join : (g : TreeItems) (xs ys : List RunItem) → with_runs (with_runs g xs) ys ≡ with_runs g (xs ++ ys)
runs_join g xs ys = ap (λ l. record g { runs = l }) (append_assoc g.runs xs ys)

markers_join : (g : TreeItems) (xs ys : List MarkerItem) → with_markers (with_markers g xs) ys ≡ with_markers g (xs ++ ys)
markers_join g xs ys = ap (λ l. record g { markers = l }) (append_assoc g.markers xs ys)

-- no more items
pub no_l0 : (g : TreeItems) → with_l0 g [] ≡ g
no_l0 g = ap (λ l. record g { l0 = l }) (append-nil g.l0)

pub no_runs : (g : TreeItems) → with_runs g [] ≡ g
no_runs g = ap (λ l. record g { runs = l }) (append-nil g.runs)

pub no_markers : (g : TreeItems) → with_markers g [] ≡ g
no_markers g = ap (λ l. record g { markers = l }) (append-nil g.markers)

pub next_l0 : (q : List ℕ) (items : List L0Item) (i : ℕ) (x : L0Item) (first was now : TreeItems) → i < length items → x ≡ get_or items i x → was ≡ with_l0 first (filter (is_l0_of q) (take i items)) → now ≡ (if is_l0_of q x then with_l0 was (x ∷ []) else was)
    → now ≡ with_l0 first (filter (is_l0_of q) (take (i + 1) items))
next_l0 q = one_more (is_l0_of q) with_l0 l0_joins no_l0

pub next_run : (q : List ℕ) (items : List RunItem) (i : ℕ) (x : RunItem) (first was now : TreeItems) → i < length items → x ≡ get_or items i x → was ≡ with_runs first (filter (is_run_of q) (take i items)) → now ≡ (if is_run_of q x then with_runs was (x ∷ []) else was)
    → now ≡ with_runs first (filter (is_run_of q) (take (i + 1) items))
next_run q = one_more (is_run_of q) with_runs runs_join no_runs

pub next_marker : (q : List ℕ) (items : List MarkerItem) (i : ℕ) (x : MarkerItem) (first was now : TreeItems) → i < length items → x ≡ get_or items i x → was ≡ with_markers first (filter (is_marker_of q) (take i items)) → now ≡ (if is_marker_of q x then with_markers was (x ∷ []) else was)
    → now ≡ with_markers first (filter (is_marker_of q) (take (i + 1) items))
next_marker q = one_more (is_marker_of q) with_markers markers_join no_markers

-- ---- trees

filter_twice : {X : Type 0} (test : X → Bool) (xs : List X) → filter test (filter test xs) ≡ filter test xs
filter_twice test [] = refl
filter_twice {X} test (x ∷ xs) = by (filter_twice test xs) (test x) refl
  where
    by : filter test (filter test xs) ≡ filter test xs → (b : Bool) → test x ≡ b → filter test (if b then x ∷ filter test xs else filter test xs) ≡ (if b then x ∷ filter test xs else filter test xs)
    by more true e = ap (λ (t : Bool). if t then x ∷ filter test (filter test xs) else filter test (filter test xs)) e ∙ ap (λ (l : List X). x ∷ l) more
    by more false e = more

find_passed : {X : Type 0} (test : X → Bool) (xs : List X) → find test (filter test xs) ≡ find test xs
find_passed test [] = refl
find_passed test (x ∷ xs) = by (find_passed test xs) (test x) refl
  where
    by : find test (filter test xs) ≡ find test xs → (b : Bool) → test x ≡ b → find test (if b then x ∷ filter test xs else filter test xs) ≡ (if b then Some x else find test xs)
    by more true e = ap (λ (t : Bool). if t then Some x else find test (filter test xs)) e
    by more false e = more

-- the items of a prefix have the tree that all have there
same_tree : (q : List ℕ) (items : TreeItems) → tree_of q (items_of q items) ≡ tree_of q items
same_tree q items = rw (filter_twice (is_l0_of q) items.l0, filter_twice (is_run_of q) items.runs, find_passed (is_marker_of q) items.markers) refl

-- the segments of groups are those of all items
pub same_segments : (group : List ℕ → TreeItems) (items : TreeItems) → ((q : List ℕ) → group q ≡ items_of q items) → (ps : List (List ℕ)) → map (λ p. segment_of (group p) p) ps ≡ map (segment_of items) ps
same_segments group items are [] = refl
same_segments group items are (p ∷ ps) =
    let one : segment_of (group p) p ≡ segment_of items p = ap (λ g. segment_of g p) (are p) ∙ ap (λ t. record { prefix = p; tree = t }) (same_tree p items) in
    ap (λ s. s ∷ map (λ q. segment_of (group q) q) ps) one ∙ ap (λ l. segment_of items p ∷ l) (same_segments group items are ps)
