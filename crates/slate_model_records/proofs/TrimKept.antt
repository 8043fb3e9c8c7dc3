-- What a trim keeps: in the order of ids, the last that is over is the one with none after it that is.
use Rattle.std.specs.Prelude.{ℕ, ◌&&◌, ◌||◌, Bool, true, false, List, [], ◌∷◌, Option, Some, None, is_some, if◌then◌else◌}
use Rattle.std.specs.List.{filter, list_all, AllByRecursion}
use Rattle.std.proofs.Common.{◌≡◌, refl, sym, ap, ◌∙◌}
use Rattle.std.proofs.lemmas.Bool.{and_parts}
use Rattle.slate_model_records.specs.declared.compaction.Compaction.{Compaction}
use Rattle.slate_model_records.specs.Compactions.{is_terminal}
use Rattle.slate_model_records.specs.Records.{are_ascending}
use Rattle.slate_ids.specs.Ulids.{id_lt}
use Rattle.slate_model_records.specs.Entries.{compactions_of, UnderOwnIds}
use Rattle.slate_model_records.specs.Retaining.{has_id, is_passed, is_kept, retained}
use Rattle.slate_model_records.specs.LastFinished.{last_finished, finished_or, is_one, is_kept_by}
use Rattle.slate_ids.proofs.IdOrder.{one_way, is_itself, not_before_itself, apart}
use Rattle.slate_model_records.proofs.Ordered.{Entry, clash}
use Rattle.slate_model_records.proofs.Inserted.{after}

-- the other answer
abbrev pub other : Bool → Bool
other true = false
other false = true

-- whether a compaction that is over counts as the last is whether no later one is over
abbrev pub Agrees : List Compaction → Compaction → Type 0
Agrees cs c = is_terminal c.status ≡ true → is_one (last_finished cs) c.id ≡ other (is_passed cs c.id)

-- where a compaction is over, some is the last
abbrev pub IsFollowed : List Compaction → Compaction → Type 0
IsFollowed cs c = is_terminal c.status ≡ true → is_some (last_finished cs) ≡ true

still_some : (c : Compaction) (o : Option (ℕ × ℕ)) → is_some o ≡ true → is_some (finished_or c o) ≡ true
still_some c (Some id) h = refl
still_some c None h = clash false h refl

one_over : (c : Compaction) (o : Option (ℕ × ℕ)) → is_terminal c.status ≡ true → is_some (finished_or c o) ≡ true
one_over c (Some id) h = refl
one_over c None h = ap (λ b. is_some (if b then Some c.id else None)) h

more_followed : (c : Compaction) (cs ds : List Compaction) → AllByRecursion (IsFollowed cs) ds → AllByRecursion (IsFollowed (c ∷ cs)) ds
more_followed c cs [] h = tt
more_followed c cs (d ∷ ds) h = (λ t. still_some c (last_finished cs) (h.0 t), more_followed c cs ds h.1)

followed : (cs : List Compaction) → AllByRecursion (IsFollowed cs) cs
followed [] = tt
followed (c ∷ cs) = (one_over c (last_finished cs), more_followed c cs cs (followed cs))

-- of compactions after an id, some is over exactly where there is a last one that is
last_is_over : (c : Compaction) (o : Option (ℕ × ℕ)) → is_some (finished_or c o) ≡ (is_terminal c.status || is_some o)
last_is_over c (Some id) = by (is_terminal c.status)
  where
    by : (b : Bool) → true ≡ (b || true)
    by true = refl
    by false = refl
last_is_over c None = by (is_terminal c.status)
  where
    by : (b : Bool) → is_some (if b then Some c.id else None) ≡ (b || false)
    by true = refl
    by false = refl

right : (a b : Bool) → b ≡ true → (a && b) ≡ a
right true b h = h
right false b h = refl

passed_by : (id : ℕ × ℕ) (cs : List Compaction) → list_all (after id) cs ≡ true → is_passed cs id ≡ is_some (last_finished cs)
passed_by id [] h = refl
passed_by id (c ∷ cs) h =
    let p : (after id c ≡ true) × (list_all (after id) cs ≡ true) = and_parts (after id c) (list_all (after id) cs) h in
    ap (λ b. b || is_passed cs id) (right (is_terminal c.status) (id_lt id c.id) p.0)
    ∙ ap (λ b. is_terminal c.status || b) (passed_by id cs p.1)
    ∙ sym (last_is_over c (last_finished cs))

-- the last one that is over stands after what all stand after
not_one : (id : ℕ × ℕ) (cs : List Compaction) → list_all (after id) cs ≡ true → is_one (last_finished cs) id ≡ false
not_one id [] h = refl
not_one id (c ∷ cs) h = step (last_finished cs) (not_one id cs p.1)
  where
    p : (after id c ≡ true) × (list_all (after id) cs ≡ true)
    p = and_parts (after id c) (list_all (after id) cs) h

    by : (b : Bool) → is_one (if b then Some c.id else None) id ≡ false
    by true = apart id c.id p.0
    by false = refl

    step : (o : Option (ℕ × ℕ)) → is_one o id ≡ false → is_one (finished_or c o) id ≡ false
    step (Some last) k = k
    step None k = by (is_terminal c.status)

not_passed_here : (c : Compaction) (rest : Bool) → ((is_terminal c.status && id_lt c.id c.id) || rest) ≡ rest
not_passed_here c rest = ap (λ b. (is_terminal c.status && b) || rest) (not_before_itself c.id) ∙ by (is_terminal c.status)
  where
    by : (b : Bool) → ((b && false) || rest) ≡ rest
    by true = refl
    by false = refl

not_passed_by : (id : ℕ × ℕ) (c : Compaction) (rest : Bool) → id_lt id c.id ≡ false → ((is_terminal c.status && id_lt id c.id) || rest) ≡ rest
not_passed_by id c rest h = ap (λ b. (is_terminal c.status && b) || rest) h ∙ by (is_terminal c.status)
  where
    by : (b : Bool) → ((b && false) || rest) ≡ rest
    by true = refl
    by false = refl

-- the first
first_agrees : (c : Compaction) (o : Option (ℕ × ℕ)) → is_one o c.id ≡ false → is_terminal c.status ≡ true → is_one (finished_or c o) c.id ≡ other (is_some o)
first_agrees c (Some id) h t = h
first_agrees c None h t = ap (λ b. is_one (if b then Some c.id else None) c.id) t ∙ is_itself c.id

-- the others
kept_one : (c : Compaction) (o : Option (ℕ × ℕ)) (id : ℕ × ℕ) → is_some o ≡ true → is_one (finished_or c o) id ≡ is_one o id
kept_one c (Some last) id h = refl
kept_one c None id h = clash false h refl

others_agree : (c : Compaction) (cs ds : List Compaction) → list_all (after c.id) ds ≡ true → AllByRecursion (IsFollowed cs) ds → AllByRecursion (Agrees cs) ds → AllByRecursion (Agrees (c ∷ cs)) ds
others_agree c cs [] h f a = tt
others_agree c cs (d ∷ ds) h f a =
    let p : (after c.id d ≡ true) × (list_all (after c.id) ds ≡ true) = and_parts (after c.id d) (list_all (after c.id) ds) h in (
      λ t. kept_one c (last_finished cs) d.id (f.0 t) ∙ a.0 t ∙ ap other (sym (not_passed_by d.id c (is_passed cs d.id) (one_way c.id d.id p.0))),
      others_agree c cs ds p.1 f.1 a.1,
    )

pub agree : (cs : List Compaction) → are_ascending cs ≡ true → AllByRecursion (Agrees cs) cs
agree [] a = tt
agree (c ∷ cs) a =
    let p : (list_all (after c.id) cs ≡ true) × (are_ascending cs ≡ true) = and_parts (list_all (after c.id) cs) (are_ascending cs) a in (
      λ t. first_agrees c (last_finished cs) (not_one c.id cs p.0) t ∙ ap other (sym (not_passed_here c (is_passed cs c.id) ∙ passed_by c.id cs p.0)),
      others_agree c cs cs p.0 (followed cs) (agree cs p.1),
    )

-- both tests keep the same
same_test : (pending : List (ℕ × ℕ)) (cs : List Compaction) (c : Compaction) → Agrees cs c → is_kept_by pending (last_finished cs) c ≡ is_kept pending cs c
same_test pending cs c a = by (is_terminal c.status) refl
  where
    turned : (b : Bool) → (if other b then true else has_id pending c.id) ≡ (if b then has_id pending c.id else true)
    turned true = refl
    turned false = refl

    by : (b : Bool) → is_terminal c.status ≡ b → (if b then (if is_one (last_finished cs) c.id then true else has_id pending c.id) else true) ≡ (if b then (if is_passed cs c.id then has_id pending c.id else true) else true)
    by true t = ap (λ x. if x then true else has_id pending c.id) (a t) ∙ turned (is_passed cs c.id)
    by false t = refl

same_filter : (pending : List (ℕ × ℕ)) (cs ds : List Compaction) → AllByRecursion (Agrees cs) ds → filter (is_kept_by pending (last_finished cs)) ds ≡ filter (is_kept pending cs) ds
same_filter pending cs [] a = refl
same_filter pending cs (d ∷ ds) a =
    ap (λ b. if b then d ∷ filter (is_kept_by pending (last_finished cs)) ds else filter (is_kept_by pending (last_finished cs)) ds) (same_test pending cs d a.0)
    ∙ ap (λ l. if is_kept pending cs d then d ∷ l else l) (same_filter pending cs ds a.1)

pub trimmed : (pending : List (ℕ × ℕ)) (cs : List Compaction) → are_ascending cs ≡ true → filter (is_kept_by pending (last_finished cs)) cs ≡ retained pending cs
trimmed pending cs a = same_filter pending cs cs (agree cs a)

-- a filter of a map by its compactions
pub filtered : (p : Compaction → Bool) (es : List Entry) → compactions_of (filter (λ e. p e.1) es) ≡ filter p (compactions_of es)
filtered p [] = refl
filtered p (e ∷ es) = by (p e.1) (filtered p es)
  where
    by : (b : Bool) → compactions_of (filter (λ e. p e.1) es) ≡ filter p (compactions_of es) → compactions_of (if b then e ∷ filter (λ e. p e.1) es else filter (λ e. p e.1) es) ≡ (if b then e.1 ∷ filter p (compactions_of es) else filter p (compactions_of es))
    by true rest = ap (λ l. e.1 ∷ l) rest
    by false rest = rest

pub filtered_own : (p : Entry → Bool) (es : List Entry) → UnderOwnIds es → UnderOwnIds (filter p es)
filtered_own p [] own = tt
filtered_own p (e ∷ es) own = by (p e) (filtered_own p es own.1)
  where
    by : (b : Bool) → UnderOwnIds (filter p es) → UnderOwnIds (if b then e ∷ filter p es else filter p es)
    by true rest = (own.0, rest)
    by false rest = rest
