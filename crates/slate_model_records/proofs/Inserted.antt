-- What an insertion leaves.
use Rattle.std.specs.Prelude.{ℕ, ◌++◌, Bool, true, false, List, [], ◌∷◌, if◌then◌else◌}
use Rattle.std.specs.List.{filter, list_all}
use Rattle.std.specs.BTreeMap.{insert_entry}
use Rattle.std.specs.Ordering.{match_ordering}
use Rattle.std.specs.declared.cmp.Ordering.{Ordering}
use Rattle.std.specs.declared.cmp.Ordering.TheVariants.{Less, Equal, Greater}
use Rattle.std.proofs.Common.{◌≡◌, refl, sym, ap, ◌∙◌, append_assoc}
use Rattle.std.proofs.lemmas.Bool.{and_from, and_parts}
use Rattle.slate_model_records.specs.declared.compaction.Compaction.{Compaction}
use Rattle.slate_model_records.specs.Records.{are_ascending, inserted}
use Rattle.slate_ids.specs.Ulids.{id_lt, id_cmp}
use Rattle.slate_model_records.specs.Entries.{compactions_of, UnderOwnIds}
use Rattle.slate_ids.proofs.IdOrder.{less, greater, equal, one_way, chained, not_before_itself}
use Rattle.slate_model_records.proofs.Ordered.{Entry}

-- those after an id
abbrev pub after : ℕ × ℕ → Compaction → Bool
after id d = id_lt id d.id

-- those before it
abbrev pub before : ℕ × ℕ → Compaction → Bool
before id d = id_lt d.id id

-- where all stand after an id, all pass the one test and none the other
all_pass : (id : ℕ × ℕ) (cs : List Compaction) → list_all (after id) cs ≡ true → filter (after id) cs ≡ cs
all_pass id [] h = refl
all_pass id (d ∷ cs) h =
    let p : (after id d ≡ true) × (list_all (after id) cs ≡ true) = and_parts (after id d) (list_all (after id) cs) h in
    ap (λ b. if b then d ∷ filter (after id) cs else filter (after id) cs) p.0 ∙ ap (λ l. d ∷ l) (all_pass id cs p.1)

none_passes : (id : ℕ × ℕ) (cs : List Compaction) → list_all (after id) cs ≡ true → filter (before id) cs ≡ []
none_passes id [] h = refl
none_passes id (d ∷ cs) h =
    let p : (after id d ≡ true) × (list_all (after id) cs ≡ true) = and_parts (after id d) (list_all (after id) cs) h in
    ap (λ b. if b then d ∷ filter (before id) cs else filter (before id) cs) (one_way id d.id p.0) ∙ none_passes id cs p.1

-- what stands after a later id stands after an earlier one
pub all_later : (a b : ℕ × ℕ) (cs : List Compaction) → id_lt a b ≡ true → list_all (after b) cs ≡ true → list_all (after a) cs ≡ true
all_later a b [] h k = refl
all_later a b (d ∷ cs) h k =
    let p : (after b d ≡ true) × (list_all (after b) cs ≡ true) = and_parts (after b d) (list_all (after b) cs) k in
    and_from (after a d) (list_all (after a) cs) (chained a b d.id h p.0) (all_later a b cs h p.1)

-- a compaction before all others
at_the_front : (c : Compaction) (cs : List Compaction) → list_all (after c.id) cs ≡ true → inserted c cs ≡ c ∷ cs
at_the_front c cs h = ap (λ l. l ++ c ∷ filter (after c.id) cs) (none_passes c.id cs h) ∙ ap (λ l. c ∷ l) (all_pass c.id cs h)

-- in the place of the first
in_place : (c d : Compaction) (cs : List Compaction) → c.id ≡ d.id → list_all (after d.id) cs ≡ true → inserted c (d ∷ cs) ≡ c ∷ cs
in_place c d cs same h =
    let not_below : before c.id d ≡ false = ap (id_lt d.id) same ∙ not_before_itself d.id in
    let not_above : after c.id d ≡ false = ap (λ id. id_lt id d.id) same ∙ not_before_itself d.id in
    ap (λ b. (if b then d ∷ filter (before c.id) cs else filter (before c.id) cs) ++ c ∷ filter (after c.id) (d ∷ cs)) not_below
    ∙ ap (λ b. filter (before c.id) cs ++ c ∷ (if b then d ∷ filter (after c.id) cs else filter (after c.id) cs)) not_above
    ∙ at_the_front c cs (ap (λ id. list_all (after id) cs) same ∙ h)

-- past the first
past : (c d : Compaction) (cs : List Compaction) → id_lt d.id c.id ≡ true → inserted c (d ∷ cs) ≡ d ∷ inserted c cs
past c d cs below =
    ap (λ b. (if b then d ∷ filter (before c.id) cs else filter (before c.id) cs) ++ c ∷ filter (after c.id) (d ∷ cs)) below
    ∙ ap (λ b. d ∷ filter (before c.id) cs ++ c ∷ (if b then d ∷ filter (after c.id) cs else filter (after c.id) cs)) (one_way d.id c.id below)

-- an insertion into a map
pub inserted_is : (c : Compaction) (es : List Entry) → UnderOwnIds es → are_ascending (compactions_of es) ≡ true → compactions_of (insert_entry id_cmp es c.id c) ≡ inserted c (compactions_of es)
inserted_is c [] own a = refl
inserted_is c (e ∷ es) own a = step (id_cmp c.id e.0) refl (inserted_is c es own.1 p.1)
  where
    p : (list_all (after e.1.id) (compactions_of es) ≡ true) × (are_ascending (compactions_of es) ≡ true)
    p = and_parts (list_all (after e.1.id) (compactions_of es)) (are_ascending (compactions_of es)) a

    step : (o : Ordering) → id_cmp c.id e.0 ≡ o → compactions_of (insert_entry id_cmp es c.id c) ≡ inserted c (compactions_of es) → compactions_of (match_ordering o ((c.id, c) ∷ e ∷ es) ((e.0, c) ∷ es) (e ∷ insert_entry id_cmp es c.id c)) ≡ inserted c (e.1 ∷ compactions_of es)
    step Less is rest =
        let first : id_lt c.id e.1.id ≡ true = ap (id_lt c.id) (sym own.0) ∙ less c.id e.0 is in
        sym (at_the_front c (e.1 ∷ compactions_of es) (and_from (after c.id e.1) (list_all (after c.id) (compactions_of es)) first (all_later c.id e.1.id (compactions_of es) first p.0)))
    step Equal is rest = sym (in_place c e.1 (compactions_of es) (equal c.id e.0 is ∙ own.0) p.0)
    step Greater is rest = ap (λ l. e.1 ∷ l) rest ∙ sym (past c e.1 (compactions_of es) (ap (λ k. id_lt k c.id) (sym own.0) ∙ greater c.id e.0 is))

-- each compaction still stands under its own id
pub still_own : (c : Compaction) (es : List Entry) → UnderOwnIds es → UnderOwnIds (insert_entry id_cmp es c.id c)
still_own c [] own = (refl, tt)
still_own c (e ∷ es) own = step (id_cmp c.id e.0) refl (still_own c es own.1)
  where
    step : (o : Ordering) → id_cmp c.id e.0 ≡ o → UnderOwnIds (insert_entry id_cmp es c.id c) → UnderOwnIds (match_ordering o ((c.id, c) ∷ e ∷ es) ((e.0, c) ∷ es) (e ∷ insert_entry id_cmp es c.id c))
    step Less is rest = (refl, own)
    step Equal is rest = (sym (equal c.id e.0 is), own.1)
    step Greater is rest = (own.0, rest)

-- what stands after all others goes to their end
last_of_all : (id : ℕ × ℕ) (cs rest : List Compaction) (c : Compaction) → list_all (after id) (cs ++ c ∷ rest) ≡ true → after id c ≡ true
last_of_all id [] rest c h = (and_parts (after id c) (list_all (after id) rest) h).0
last_of_all id (d ∷ cs) rest c h = last_of_all id cs rest c (and_parts (after id d) (list_all (after id) (cs ++ c ∷ rest)) h).1

appended : (cs rest : List Compaction) (c : Compaction) → are_ascending (cs ++ c ∷ rest) ≡ true → inserted c cs ≡ cs ++ c ∷ []
appended [] rest c a = refl
appended (d ∷ cs) rest c a =
    let p : (list_all (after d.id) (cs ++ c ∷ rest) ≡ true) × (are_ascending (cs ++ c ∷ rest) ≡ true) = and_parts (list_all (after d.id) (cs ++ c ∷ rest)) (are_ascending (cs ++ c ∷ rest)) a in
    past c d cs (last_of_all d.id cs rest c p.0) ∙ ap (λ l. d ∷ l) (appended cs rest c p.1)

-- one more compaction is copied
pub copied_more : (copied rest left all new : List Compaction) (c : Compaction) → copied ++ rest ≡ all → rest ≡ c ∷ left → are_ascending all ≡ true → new ≡ inserted c copied → new ++ left ≡ all
copied_more copied rest left all new c so_far next ascend put =
    let whole : copied ++ c ∷ left ≡ all = sym (ap (λ l. copied ++ l) next) ∙ so_far in
    ap (λ l. l ++ left) (put ∙ appended copied left c (ap are_ascending whole ∙ ascend)) ∙ append_assoc copied (c ∷ []) left ∙ whole
