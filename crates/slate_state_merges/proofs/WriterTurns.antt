-- A compactor's merge of a writer's segments, turn by turn.
use Rattle.std.specs.Prelude.{ℕ, Bool, true, false, ◌&&◌, not, List, [], ◌∷◌, ◌++◌, map, Option, Some, None, is_some, Result, Ok, Err, if◌then◌else◌}
use Rattle.std.proofs.Common.{◌≡◌, refl, sym, ap, ◌∙◌, subst, append_assoc, inl, inr}
use Rattle.std.specs.List.{find}
use Rattle.std.specs.Option.{option_to_list}
use Rattle.std.specs.Option.{option_map}
use Rattle.std.proofs.lemmas.Bool.{and_parts}
use Rattle.std.proofs.lemmas.List.{append-nil}
use Rattle.slate_ids.specs.Answers.{Gives}
use Rattle.slate_ids.specs.Keys.{key_lt, key_le}
use Rattle.slate_ids.proofs.KeyOrder.{le_lt_trans, lt_le, le_refl}
use Rattle.slate_ids.specs.declared.error.SlateDBError.{SlateDBError}
use Rattle.slate_ids.specs.declared.error.SlateDBError.TheVariants.{SegmentWithoutWriter}
use Rattle.slate_model.specs.Segments.{Prefixed, ascend_from, IsAscending}
use Rattle.slate_model.specs.Insertion.{or_empty}
use Rattle.slate_state_merges.specs.Merging.{merged}
use Rattle.slate_state_merges.specs.SegmentMerging.{Ascends, holds_tables, merged_with, is_orphan, unless_orphan, from_writer}
use Rattle.slate_state_merges.specs.SideBySide.{Takes, turn_merged, followed}
use Rattle.slate_state_merges.specs.declared.side_by_side.Turn.{Turn}
use Rattle.slate_state_merges.specs.declared.side_by_side.Turn.TheVariants.{Writer, Compactor, Both}
use Rattle.slate_state_merges.proofs.Ascents.{none_at, passed, found, is_lower, before_all, others_ascend, merged_ascend, merged_ascends}

-- what is merged so far, and then the rest
abbrev pub after : List Prefixed → Result (List Prefixed) SlateDBError → Result (List Prefixed) SlateDBError
after done (Ok rest) = Ok (done ++ rest)
after done (Err e) = Err e

-- a turn's segment, and then the rest
abbrev pub then_rest : Result (Option Prefixed) SlateDBError → Result (List Prefixed) SlateDBError → Result (List Prefixed) SlateDBError
then_rest (Ok (Some s)) rest = after (s ∷ []) rest
then_rest (Ok None) rest = rest
then_rest (Err e) rest = Err e

-- above a prefix the segment of it has no part in a merge
pub merged_above : (t : Prefixed) (c : List Prefixed) (last : List ℕ) (ss : List Prefixed) → key_le t.prefix last ≡ true → ascend_from last ss ≡ true → map (merged_with (t ∷ c)) ss ≡ map (merged_with c) ss
merged_above t c last [] l a = refl
merged_above t c last (s ∷ ss) l a =
    let parts = and_parts (key_lt last s.prefix) (ascend_from s.prefix ss) a in
    let up : key_lt t.prefix s.prefix ≡ true = le_lt_trans t.prefix last s.prefix l parts.0 in
    let same : merged_with (t ∷ c) s ≡ merged_with c s = ap (λ (o : Option Prefixed). record s { tree = merged s.tree (or_empty (option_map (λ x. x.tree) o)) }) (passed s.prefix t c (is_lower t.prefix s.prefix up)) in
    ap (λ (x : Prefixed). x ∷ map (merged_with (t ∷ c)) ss) same
    ∙ ap (λ (r : List Prefixed). merged_with c s ∷ r) (merged_above t c s.prefix ss (lt_le t.prefix s.prefix up) parts.1)

-- above a prefix the writer's segment of it makes no difference to orphans
pub orphans_above : (s : Prefixed) (w : List Prefixed) (last : List ℕ) (c : List Prefixed) → key_le s.prefix last ≡ true → ascend_from last c ≡ true → find (is_orphan (s ∷ w)) c ≡ find (is_orphan w) c
orphans_above s w last [] l a = refl
orphans_above s w last (t ∷ c) l a =
    let parts = and_parts (key_lt last t.prefix) (ascend_from t.prefix c) a in
    let up : key_lt s.prefix t.prefix ≡ true = le_lt_trans s.prefix last t.prefix l parts.0 in
    let same : is_orphan (s ∷ w) t ≡ is_orphan w t = ap (λ (o : Option Prefixed). holds_tables t.tree && not (is_some o)) (passed t.prefix s w (is_lower s.prefix t.prefix up)) in
    ap (λ b. if b then Some t else find (is_orphan (s ∷ w)) c) same
    ∙ ap (λ (o : Option Prefixed). if is_orphan w t then Some t else o) (orphans_above s w t.prefix c (lt_le s.prefix t.prefix up) parts.1)

never : (b : Bool) → (b && false) ≡ false
never true = refl
never false = refl

always : (b : Bool) → (b && true) ≡ b
always true = refl
always false = refl

pushed : (o : Option Prefixed) (s : Prefixed) (ss : List Prefixed) → unless_orphan o (s ∷ ss) ≡ after (s ∷ []) (unless_orphan o ss)
pushed None s ss = refl
pushed (Some t) s ss = refl

-- a turn of the walk
pub writer_turn : (turn : Turn) (w c w1 c1 : List Prefixed) → Takes turn w c w1 c1 → Ascends w → Ascends c → from_writer c w ≡ then_rest (followed turn) (from_writer c1 w1)
writer_turn (Writer s) w c w1 c1 takes a b = subst (λ (l : List Prefixed). Ascends l → from_writer c l ≡ then_rest (followed (Writer s)) (from_writer c1 w1)) (sym takes.0) (λ aw.
    let all : ascend_from s.now.prefix c ≡ true = before_all s.now c takes.2 b in
    let alone : merged_with c s.now ≡ turn_merged (Writer s) = ap (λ (o : Option Prefixed). record s.now { tree = merged s.now.tree (or_empty (option_map (λ x. x.tree) o)) }) (none_at s.now.prefix s.now.prefix c (le_refl s.now.prefix) all) in
    ap (λ (o : Option Prefixed). unless_orphan o (map (merged_with c) (s.now ∷ w1))) (orphans_above s.now w1 s.now.prefix c (le_refl s.now.prefix) all)
    ∙ ap (λ (x : Prefixed). unless_orphan (find (is_orphan w1) c) (x ∷ map (merged_with c) w1)) alone
    ∙ pushed (find (is_orphan w1) c) (turn_merged (Writer s)) (map (merged_with c) w1)
    ∙ ap (λ (l : List Prefixed). after (turn_merged (Writer s) ∷ []) (from_writer l w1)) takes.1) a
writer_turn (Compactor s) w c w1 c1 takes a b = subst (λ (l : List Prefixed). Ascends l → from_writer l w ≡ then_rest (followed (Compactor s)) (from_writer c1 w1)) (sym takes.0) (λ bc.
    let all : ascend_from s.now.prefix w ≡ true = before_all s.now w takes.2 a in
    let lone : is_orphan w s.now ≡ holds_tables s.now.tree = ap (λ (o : Option Prefixed). holds_tables s.now.tree && not (is_some o)) (none_at s.now.prefix s.now.prefix w (le_refl s.now.prefix) all) ∙ always (holds_tables s.now.tree) in
    ap (λ (l : List Prefixed). unless_orphan (find (is_orphan w) (s.now ∷ c1)) l) (merged_above s.now c1 s.now.prefix w (le_refl s.now.prefix) all)
    ∙ ap (λ x. unless_orphan (if x then Some s.now else find (is_orphan w) c1) (map (merged_with c1) w)) lone
    ∙ by (holds_tables s.now.tree)
    ∙ ap (λ (l : List Prefixed). then_rest (followed (Compactor s)) (from_writer c1 l)) takes.1) b
  where
    by : (h : Bool) → unless_orphan (if h then Some s.now else find (is_orphan w) c1) (map (merged_with c1) w) ≡ then_rest (if h then Err (SegmentWithoutWriter s.now.prefix) else Ok None) (from_writer c1 w)
    by true = refl
    by false = refl
writer_turn (Both s t) w c w1 c1 takes a b = subst (λ (l : List Prefixed). Ascends l → from_writer c l ≡ then_rest (followed (Both s t)) (from_writer c1 w1)) (sym takes.0) (λ aw.
    subst (λ (l : List Prefixed). Ascends l → from_writer l (s.now ∷ w1) ≡ then_rest (followed (Both s t)) (from_writer c1 w1)) (sym takes.1) (λ bc.
    let ours : ascend_from t.now.prefix w1 ≡ true = ap (λ (k : List ℕ). ascend_from k w1) (sym takes.2) ∙ aw in
    let theirs : ascend_from s.now.prefix c1 ≡ true = ap (λ (k : List ℕ). ascend_from k c1) takes.2 ∙ bc in
    let met : is_orphan (s.now ∷ w1) t.now ≡ false = ap (λ (o : Option Prefixed). holds_tables t.now.tree && not (is_some o)) (found t.now.prefix s.now w1 takes.2) ∙ never (holds_tables t.now.tree) in
    let both : merged_with (t.now ∷ c1) s.now ≡ turn_merged (Both s t) = ap (λ (o : Option Prefixed). record s.now { tree = merged s.now.tree (or_empty (option_map (λ x. x.tree) o)) }) (found s.now.prefix t.now c1 (sym takes.2)) in
    ap (λ x. unless_orphan (if x then Some t.now else find (is_orphan (s.now ∷ w1)) c1) (map (merged_with (t.now ∷ c1)) (s.now ∷ w1))) met
    ∙ ap (λ (o : Option Prefixed). unless_orphan o (map (merged_with (t.now ∷ c1)) (s.now ∷ w1))) (orphans_above s.now w1 s.now.prefix c1 (le_refl s.now.prefix) theirs)
    ∙ ap (λ (x : Prefixed). unless_orphan (find (is_orphan w1) c1) (x ∷ map (merged_with (t.now ∷ c1)) w1)) both
    ∙ ap (λ (l : List Prefixed). unless_orphan (find (is_orphan w1) c1) (turn_merged (Both s t) ∷ l)) (merged_above t.now c1 t.now.prefix w1 (le_refl t.now.prefix) ours)
    ∙ pushed (find (is_orphan w1) c1) (turn_merged (Both s t)) (map (merged_with c1) w1)) b) a

-- what is merged so far with a turn more
pub after_twice : (done : List Prefixed) (s : Prefixed) (rest : Result (List Prefixed) SlateDBError) → after done (after (s ∷ []) rest) ≡ after (done ++ s ∷ []) rest
after_twice done s (Ok rest) = ap (λ (l : List Prefixed). Ok l) (sym (append_assoc done (s ∷ []) rest))
after_twice done s (Err e) = refl

tail_ascends : (s : Prefixed) (w w1 : List Prefixed) → w ≡ s ∷ w1 → Ascends w → Ascends w1
tail_ascends s w w1 e a = others_ascend s.prefix w1 (subst Ascends e a)

-- what is left ascends
pub left_ascend : (turn : Turn) (w c w1 c1 : List Prefixed) → Takes turn w c w1 c1 → Ascends w → Ascends c → Ascends w1 × Ascends c1
left_ascend (Writer s) w c w1 c1 takes a b = (tail_ascends s.now w w1 takes.0 a, subst Ascends takes.1 b)
left_ascend (Compactor s) w c w1 c1 takes a b = (subst Ascends takes.1 a, tail_ascends s.now c c1 takes.0 b)
left_ascend (Both s t) w c w1 c1 takes a b = (tail_ascends s.now w w1 takes.0 a, tail_ascends t.now c c1 takes.1 b)

-- the answer of a call that ended well
pub gives_ok : {X : Type 0} (x : X) (wanted : Result X SlateDBError) → Gives (Ok x) wanted → wanted ≡ Ok x
gives_ok x wanted (inl h) = h
gives_ok x wanted (inr h) = absurd cc

-- what is merged so far goes on by a turn that is no refusal
pub writer_on : (turn : Turn) (w c w1 c1 done : List Prefixed) (o : Option Prefixed) (all : Result (List Prefixed) SlateDBError) → Takes turn w c w1 c1 → Ascends w → Ascends c → after done (from_writer c w) ≡ all → followed turn ≡ Ok o → after (done ++ option_to_list o) (from_writer c1 w1) ≡ all
writer_on turn w c w1 c1 done o all takes a b so_far is = by o (ap (after done) (sym (writer_turn turn w c w1 c1 takes a b ∙ ap (λ (f : Result (Option Prefixed) SlateDBError). then_rest f (from_writer c1 w1)) is)) ∙ so_far)
  where
    by : (o : Option Prefixed) → after done (then_rest (Ok o) (from_writer c1 w1)) ≡ all → after (done ++ option_to_list o) (from_writer c1 w1) ≡ all
    by None h = ap (λ (l : List Prefixed). after l (from_writer c1 w1)) (append-nil done) ∙ h
    by (Some s) h = sym (after_twice done s (from_writer c1 w1)) ∙ h

-- a turn that is a refusal refuses all
pub writer_refused : (turn : Turn) (w c w1 c1 done : List Prefixed) (e : SlateDBError) (all : Result (List Prefixed) SlateDBError) → Takes turn w c w1 c1 → Ascends w → Ascends c → after done (from_writer c w) ≡ all → followed turn ≡ Err e → all ≡ Err e
writer_refused turn w c w1 c1 done e all takes a b so_far is = sym so_far ∙ ap (after done) (writer_turn turn w c w1 c1 takes a b ∙ ap (λ (f : Result (Option Prefixed) SlateDBError). then_rest f (from_writer c1 w1)) is)

-- where nothing is left, what is merged so far is all
pub writer_over : (w c done : List Prefixed) (all : Result (List Prefixed) SlateDBError) → w ≡ [] → c ≡ [] → after done (from_writer c w) ≡ all → all ≡ Ok done
writer_over w c done all no_writer no_compactor so_far =
    sym so_far
    ∙ ap (after done) (ap (from_writer c) no_writer ∙ ap (λ (l : List Prefixed). from_writer l []) no_compactor)
    ∙ ap (λ (l : List Prefixed). Ok l) (append-nil done)

-- what comes of it is the writer's segments with other trees
pub merge_is : (c w merge : List Prefixed) → from_writer c w ≡ Ok merge → merge ≡ map (merged_with c) w
merge_is c w merge h = by (find (is_orphan w) c) h
  where
    by : (o : Option Prefixed) → unless_orphan o (map (merged_with c) w) ≡ Ok merge → merge ≡ map (merged_with c) w
    by None h = cc
    by (Some s) h = absurd cc

pub merge_ascends : (c w merge : List Prefixed) → from_writer c w ≡ Ok merge → Ascends w → Ascends merge
merge_ascends c w merge h a = subst Ascends (sym (merge_is c w merge h)) (merged_ascend c w a)

pub merge_is_ascending : (c w merge : List Prefixed) → from_writer c w ≡ Ok merge → IsAscending w → IsAscending merge
merge_is_ascending c w merge h a = subst IsAscending (sym (merge_is c w merge h)) (merged_ascends c [] w a)
