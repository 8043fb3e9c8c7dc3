-- A writer's merge of a compactor's segments, turn by turn.
use Rattle.std.specs.Prelude.{ℕ, Bool, true, false, List, [], ◌∷◌, ◌++◌, map, filter, Option, if◌then◌else◌}
use Rattle.std.proofs.Common.{◌≡◌, refl, sym, ap, ◌∙◌, subst, append_assoc}
use Rattle.std.specs.Option.{option_map}
use Rattle.std.proofs.lemmas.Bool.{and_parts}
use Rattle.std.proofs.lemmas.List.{append-nil}
use Rattle.slate_ids.specs.Keys.{key_lt, key_le}
use Rattle.slate_ids.proofs.KeyOrder.{le_lt_trans, lt_le, le_refl}
use Rattle.slate_model.specs.Segments.{Prefixed, ascend_from, IsAscending}
use Rattle.slate_model.specs.Insertion.{tree_in, or_empty, placed}
use Rattle.slate_model.specs.Cores.{empty_tree}
use Rattle.slate_state_merges.specs.Merging.{merged}
use Rattle.slate_state_merges.specs.SegmentMerging.{Ascends, holds_tables, merged_with, with_prefixes, from_compactor}
use Rattle.slate_state_merges.specs.SideBySide.{Takes, turn_merged, kept}
use Rattle.slate_state_merges.specs.declared.side_by_side.Turn.{Turn}
use Rattle.slate_state_merges.specs.declared.side_by_side.Turn.TheVariants.{Writer, Compactor, Both}
use Rattle.slate_state_merges.proofs.Ascents.{none_at, passed, found, is_lower, before_all, from_below, placed_ascends, placed_ascend, placed_first, placed_after, placed_here, merged_ascends, merged_ascend, some_ascends, some_ascend}
use Rattle.slate_state_merges.proofs.WriterTurns.{merged_above}

-- the merge of a segment and others
abbrev pub kept_of : List Prefixed → List Prefixed
kept_of ss = filter (λ s. holds_tables s.tree) ss

keeps : (s : Prefixed) (ss : List Prefixed) → kept_of (s ∷ ss) ≡ kept s ++ kept_of ss
keeps s ss = by (holds_tables s.tree)
  where
    by : (b : Bool) → (if b then s ∷ kept_of ss else kept_of ss) ≡ (if b then s ∷ [] else []) ++ kept_of ss
    by true = refl
    by false = refl

-- ---- segments with the prefixes of others

-- they ascend above a lower key
pub prefixes_ascend : (last : List ℕ) (cs ss : List Prefixed) → ascend_from last cs ≡ true → ascend_from last ss ≡ true → ascend_from last (with_prefixes cs ss) ≡ true
prefixes_ascend last [] ss b a = a
prefixes_ascend last (t ∷ cs) ss b a =
    let parts = and_parts (key_lt last t.prefix) (ascend_from t.prefix cs) b in
    placed_ascends t.prefix last (or_empty (tree_in t.prefix ss)) (with_prefixes cs ss) parts.0 (prefixes_ascend last cs ss (from_below last t.prefix cs parts.0 parts.1) a)

-- and by themselves
pub with_prefixes_ascend : (cs ss : List Prefixed) → Ascends ss → Ascends (with_prefixes cs ss)
with_prefixes_ascend [] ss a = a
with_prefixes_ascend (t ∷ cs) ss a = placed_ascend t.prefix (or_empty (tree_in t.prefix ss)) (with_prefixes cs ss) (with_prefixes_ascend cs ss a)

-- the first segment stays first before prefixes that stand above it
first_stays : (s : Prefixed) (last : List ℕ) (cs ss : List Prefixed) → key_le s.prefix last ≡ true → ascend_from last cs ≡ true → with_prefixes cs (s ∷ ss) ≡ s ∷ with_prefixes cs ss
first_stays s last [] ss l b = refl
first_stays s last (t ∷ cs) ss l b =
    let parts = and_parts (key_lt last t.prefix) (ascend_from t.prefix cs) b in
    let up : key_lt s.prefix t.prefix ≡ true = le_lt_trans s.prefix last t.prefix l parts.0 in
    ap (λ (r : List Prefixed). placed t.prefix (or_empty (tree_in t.prefix (s ∷ ss))) r) (first_stays s t.prefix cs ss (lt_le s.prefix t.prefix up) parts.1)
    ∙ ap (λ (o : Option Prefixed). placed t.prefix (or_empty (option_map (λ x. x.tree) o)) (s ∷ with_prefixes cs ss)) (passed t.prefix s ss (is_lower s.prefix t.prefix up))
    ∙ placed_after t.prefix (or_empty (tree_in t.prefix ss)) s (with_prefixes cs ss) up

-- a prefix that stands below all others comes first, without tables
first_added : (t : Prefixed) (cs ss : List Prefixed) → ascend_from t.prefix cs ≡ true → ascend_from t.prefix ss ≡ true → with_prefixes (t ∷ cs) ss ≡ record { prefix = t.prefix; tree = empty_tree } ∷ with_prefixes cs ss
first_added t cs ss b a =
    placed_first t.prefix (or_empty (tree_in t.prefix ss)) (with_prefixes cs ss) (prefixes_ascend t.prefix cs ss b a)
    ∙ ap (λ (o : Option Prefixed). record { prefix = t.prefix; tree = or_empty (option_map (λ x. x.tree) o) } ∷ with_prefixes cs ss) (none_at t.prefix t.prefix ss (le_refl t.prefix) a)

-- a prefix that is the first one's own changes nothing
first_shared : (s t : Prefixed) (cs ss : List Prefixed) → s.prefix ≡ t.prefix → ascend_from s.prefix cs ≡ true → with_prefixes (t ∷ cs) (s ∷ ss) ≡ s ∷ with_prefixes cs ss
first_shared s t cs ss e b =
    ap (λ (r : List Prefixed). placed t.prefix (or_empty (tree_in t.prefix (s ∷ ss))) r) (first_stays s s.prefix cs ss (le_refl s.prefix) b)
    ∙ placed_here t.prefix (or_empty (tree_in t.prefix (s ∷ ss))) s (with_prefixes cs ss) e
    ∙ ap (λ (o : Option Prefixed). record { prefix = t.prefix; tree = or_empty (option_map (λ x. x.tree) o) } ∷ with_prefixes cs ss) (found t.prefix s ss e)
    ∙ ap (λ (k : List ℕ). record { prefix = k; tree = s.tree } ∷ with_prefixes cs ss) (sym e)

-- ---- the walk

-- a turn of the walk
pub compactor_turn : (turn : Turn) (w c w1 c1 : List Prefixed) → Takes turn w c w1 c1 → Ascends w → Ascends c → from_compactor w c ≡ kept (turn_merged turn) ++ from_compactor w1 c1
compactor_turn (Writer s) w c w1 c1 takes a b = subst (λ (l : List Prefixed). Ascends l → from_compactor l c ≡ kept (turn_merged (Writer s)) ++ from_compactor w1 c1) (sym takes.0) (λ aw.
    let all : ascend_from s.now.prefix c ≡ true = before_all s.now c takes.2 b in
    let alone : merged_with c s.now ≡ turn_merged (Writer s) = ap (λ (o : Option Prefixed). record s.now { tree = merged s.now.tree (or_empty (option_map (λ x. x.tree) o)) }) (none_at s.now.prefix s.now.prefix c (le_refl s.now.prefix) all) in
    ap (λ (l : List Prefixed). kept_of (map (merged_with c) l)) (first_stays s.now s.now.prefix c w1 (le_refl s.now.prefix) all)
    ∙ ap (λ (x : Prefixed). kept_of (x ∷ map (merged_with c) (with_prefixes c w1))) alone
    ∙ keeps (turn_merged (Writer s)) (map (merged_with c) (with_prefixes c w1))
    ∙ ap (λ (l : List Prefixed). kept (turn_merged (Writer s)) ++ from_compactor w1 l) takes.1) a
compactor_turn (Compactor s) w c w1 c1 takes a b = subst (λ (l : List Prefixed). Ascends l → from_compactor w l ≡ kept (turn_merged (Compactor s)) ++ from_compactor w1 c1) (sym takes.0) (λ bc.
    let all : ascend_from s.now.prefix w ≡ true = before_all s.now w takes.2 a in
    let own : merged_with (s.now ∷ c1) (record { prefix = s.now.prefix; tree = empty_tree }) ≡ turn_merged (Compactor s) = ap (λ (o : Option Prefixed). record { prefix = s.now.prefix; tree = merged empty_tree (or_empty (option_map (λ x. x.tree) o)) }) (found s.now.prefix s.now c1 refl) in
    ap (λ (l : List Prefixed). kept_of (map (merged_with (s.now ∷ c1)) l)) (first_added s.now c1 w bc all)
    ∙ ap (λ (x : Prefixed). kept_of (x ∷ map (merged_with (s.now ∷ c1)) (with_prefixes c1 w))) own
    ∙ ap (λ (l : List Prefixed). kept_of (turn_merged (Compactor s) ∷ l)) (merged_above s.now c1 s.now.prefix (with_prefixes c1 w) (le_refl s.now.prefix) (prefixes_ascend s.now.prefix c1 w bc all))
    ∙ keeps (turn_merged (Compactor s)) (map (merged_with c1) (with_prefixes c1 w))
    ∙ ap (λ (l : List Prefixed). kept (turn_merged (Compactor s)) ++ from_compactor l c1) takes.1) b
compactor_turn (Both s t) w c w1 c1 takes a b = subst (λ (l : List Prefixed). Ascends l → from_compactor l c ≡ kept (turn_merged (Both s t)) ++ from_compactor w1 c1) (sym takes.0) (λ aw.
    subst (λ (l : List Prefixed). Ascends l → from_compactor (s.now ∷ w1) l ≡ kept (turn_merged (Both s t)) ++ from_compactor w1 c1) (sym takes.1) (λ bc.
    let ours : ascend_from t.now.prefix w1 ≡ true = ap (λ (k : List ℕ). ascend_from k w1) (sym takes.2) ∙ aw in
    let theirs : ascend_from s.now.prefix c1 ≡ true = ap (λ (k : List ℕ). ascend_from k c1) takes.2 ∙ bc in
    let both : merged_with (t.now ∷ c1) s.now ≡ turn_merged (Both s t) = ap (λ (o : Option Prefixed). record s.now { tree = merged s.now.tree (or_empty (option_map (λ x. x.tree) o)) }) (found s.now.prefix t.now c1 (sym takes.2)) in
    ap (λ (l : List Prefixed). kept_of (map (merged_with (t.now ∷ c1)) l)) (first_shared s.now t.now c1 w1 takes.2 theirs)
    ∙ ap (λ (x : Prefixed). kept_of (x ∷ map (merged_with (t.now ∷ c1)) (with_prefixes c1 w1))) both
    ∙ ap (λ (l : List Prefixed). kept_of (turn_merged (Both s t) ∷ l)) (merged_above t.now c1 t.now.prefix (with_prefixes c1 w1) (le_refl t.now.prefix) (prefixes_ascend t.now.prefix c1 w1 bc ours))
    ∙ keeps (turn_merged (Both s t)) (map (merged_with c1) (with_prefixes c1 w1))) b) a

-- what is merged so far goes on by a turn
pub compactor_on : (turn : Turn) (w c w1 c1 done all : List Prefixed) → Takes turn w c w1 c1 → Ascends w → Ascends c → done ++ from_compactor w c ≡ all → (done ++ kept (turn_merged turn)) ++ from_compactor w1 c1 ≡ all
compactor_on turn w c w1 c1 done all takes a b so_far = append_assoc done (kept (turn_merged turn)) (from_compactor w1 c1) ∙ ap (λ (r : List Prefixed). done ++ r) (sym (compactor_turn turn w c w1 c1 takes a b)) ∙ so_far

-- where nothing is left, what is merged so far is all
pub compactor_over : (w c done all : List Prefixed) → w ≡ [] → c ≡ [] → done ++ from_compactor w c ≡ all → done ≡ all
compactor_over w c done all no_writer no_compactor so_far =
    sym (append-nil done)
    ∙ ap (λ (r : List Prefixed). done ++ r) (sym (ap (λ (l : List Prefixed). from_compactor l c) no_writer ∙ ap (from_compactor []) no_compactor))
    ∙ so_far

-- ---- the order of what comes of it

pub merge_ascends : (w c : List Prefixed) → Ascends w → Ascends (from_compactor w c)
merge_ascends w c a = some_ascend (λ s. holds_tables s.tree) (map (merged_with c) (with_prefixes c w)) (merged_ascend c (with_prefixes c w) (with_prefixes_ascend c w a))

pub merge_is_ascending : (w c : List Prefixed) → IsAscending w → IsAscending c → IsAscending (from_compactor w c)
merge_is_ascending w c a b = some_ascends (λ s. holds_tables s.tree) [] (map (merged_with c) (with_prefixes c w)) (merged_ascends c [] (with_prefixes c w) (prefixes_ascend [] c w b a))
