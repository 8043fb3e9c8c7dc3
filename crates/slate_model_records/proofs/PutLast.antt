-- A compaction that is put after all others stands last.
use Rattle.std.specs.Prelude.{◌≡◌, ℕ, ◌++◌, true, List, [], ◌∷◌, if◌then◌else◌, refl}
use Rattle.std.specs.List.{list_all, filter}
use Rattle.std.proofs.Common.{ap, sym, ◌∙◌, subst}
use Rattle.std.proofs.lemmas.Bool.{and_parts, and_from}
use Rattle.std.proofs.lemmas.List.{append_assoc}
use Rattle.slate_ids.specs.Ulids.{id_lt}
use Rattle.slate_ids.proofs.IdOrder.{one_way}
use Rattle.slate_model_records.specs.declared.compaction.Compaction.{Compaction}
use Rattle.slate_model_records.specs.Records.{are_ascending, inserted}

all_before : (c : Compaction) (xs ys : List Compaction) → are_ascending (xs ++ c ∷ ys) ≡ true → list_all (λ d. id_lt d.id c.id) xs ≡ true
all_before c [] ys h = refl
all_before c (x ∷ xs) ys h =
    let p = and_parts (list_all (λ d. id_lt x.id d.id) (xs ++ c ∷ ys)) (are_ascending (xs ++ c ∷ ys)) h in
    and_from _ _ (of_middle x.id xs p.0) (all_before c xs ys p.1)
  where
    of_middle : (id : ℕ × ℕ) (zs : List Compaction) → list_all (λ d. id_lt id d.id) (zs ++ c ∷ ys) ≡ true → id_lt id c.id ≡ true
    of_middle id [] g = (and_parts (id_lt id c.id) (list_all (λ d. id_lt id d.id) ys) g).0
    of_middle id (z ∷ zs) g = of_middle id zs (and_parts (id_lt id z.id) (list_all (λ d. id_lt id d.id) (zs ++ c ∷ ys)) g).1

kept_all : (c : Compaction) (xs : List Compaction) → list_all (λ d. id_lt d.id c.id) xs ≡ true → filter (λ d. id_lt d.id c.id) xs ≡ xs
kept_all c [] h = refl
kept_all c (x ∷ xs) h =
    let p = and_parts (id_lt x.id c.id) (list_all (λ d. id_lt d.id c.id) xs) h in
    ap (λ b. if b then x ∷ filter (λ d. id_lt d.id c.id) xs else filter (λ d. id_lt d.id c.id) xs) p.0 ∙ ap (λ (l : List Compaction). x ∷ l) (kept_all c xs p.1)

kept_none : (c : Compaction) (xs : List Compaction) → list_all (λ d. id_lt d.id c.id) xs ≡ true → filter (λ d. id_lt c.id d.id) xs ≡ []
kept_none c [] h = refl
kept_none c (x ∷ xs) h =
    let p = and_parts (id_lt x.id c.id) (list_all (λ d. id_lt d.id c.id) xs) h in
    ap (λ b. if b then x ∷ filter (λ d. id_lt c.id d.id) xs else filter (λ d. id_lt c.id d.id) xs) (one_way x.id c.id p.0) ∙ kept_none c xs p.1

-- what is put after all that are before it stands last
inserted_last : (c : Compaction) (xs ys : List Compaction) → are_ascending (xs ++ c ∷ ys) ≡ true → inserted c xs ≡ xs ++ c ∷ []
inserted_last c xs ys h =
    let all = all_before c xs ys h in
    ap (λ (l : List Compaction). l ++ c ∷ filter (λ d. id_lt c.id d.id) xs) (kept_all c xs all) ∙ ap (λ (l : List Compaction). xs ++ c ∷ l) (kept_none c xs all)

-- the same, with those that come after it
pub put_last : (c : Compaction) (xs ys all : List Compaction) → xs ++ c ∷ ys ≡ all → are_ascending all ≡ true → inserted c xs ++ ys ≡ all
put_last c xs ys all e h =
    ap (λ (l : List Compaction). l ++ ys) (inserted_last c xs ys (subst (λ (l : List Compaction). are_ascending l ≡ true) (sym e) h))
    ∙ (append_assoc xs (c ∷ []) ys ∙ e)
