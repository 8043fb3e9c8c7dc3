-- The greatest of ids, part by part.
use Rattle.std.specs.Prelude.{ℕ, max, ◌||◌, Bool, true, false, List, [], ◌∷◌, ◌++◌, map, Option, Some, None, if◌then◌else◌}
use Rattle.std.specs.List.{list_any}
use Rattle.std.proofs.Common.{◌≡◌, refl, ◌∙◌, ap, sym, arith}
use Rattle.std.proofs.lemmas.Bool.{or_parts, or_from, or_left, or_right}
use Rattle.std.proofs.lemmas.Bool.Decides.{nat_tests}
use Rattle.slate_ids.specs.Ulids.{id_lt, same_id}
use Rattle.slate_ids.proofs.IdOrder.{is_itself, not_before_itself, one_way, chained, not_before}
use Rattle.slate_model.specs.Watermark.{later, latest, moment_of, greatest, IsGreatestOf}

-- the tests of three ids: a before b, b before c, and a before c
three_by : (a b c : ℕ × ℕ) (p q r : Bool) → (p ≡ true → q ≡ true → r ≡ true) → (p ≡ false → q ≡ false → r ≡ false) → Some (if p then (if q then c else b) else (if r then c else a)) ≡ Some (if q then (if r then c else a) else (if p then b else a))
three_by a b c true true true f g = refl
three_by a b c true true false f g = let e : false ≡ true = f refl refl in absurd cc
three_by a b c true false r f g = refl
three_by a b c false true r f g = refl
three_by a b c false false true f g = let e : true ≡ false = g refl refl in absurd cc
three_by a b c false false false f g = refl

chosen_left : (a b c : ℕ × ℕ) (p : Bool) → later (Some (if p then b else a)) (Some c) ≡ Some (if p then (if id_lt b c then c else b) else (if id_lt a c then c else a))
chosen_left a b c true = refl
chosen_left a b c false = refl

chosen_right : (a b c : ℕ × ℕ) (p q r : Bool) → id_lt a b ≡ p → id_lt a c ≡ r → later (Some a) (Some (if q then c else b)) ≡ Some (if q then (if r then c else a) else (if p then b else a))
chosen_right a b c p true r e h = ap (λ t. Some (if t then c else a)) h
chosen_right a b c p false r e h = ap (λ t. Some (if t then b else a)) e

-- the greatest of three
three : (a b c : ℕ × ℕ) → later (later (Some a) (Some b)) (Some c) ≡ later (Some a) (later (Some b) (Some c))
three a b c =
    chosen_left a b c (id_lt a b)
    ∙ three_by a b c (id_lt a b) (id_lt b c) (id_lt a c) (chained a b c) (not_before a b c)
    ∙ sym (chosen_right a b c (id_lt a b) (id_lt b c) (id_lt a c) refl refl)

pub later-assoc : (a b c : Option (ℕ × ℕ)) → later (later a b) c ≡ later a (later b c)
later-assoc None b c = refl
later-assoc (Some a) None c = refl
later-assoc (Some a) (Some b) None = refl
later-assoc (Some a) (Some b) (Some c) = three a b c

pub later-none : (a : Option (ℕ × ℕ)) → later a None ≡ a
later-none None = refl
later-none (Some a) = refl

-- the greatest of lists that are joined
pub latest-append : (xs ys : List (ℕ × ℕ)) → latest (xs ++ ys) ≡ later (latest xs) (latest ys)
latest-append [] ys = refl
latest-append (x ∷ xs) ys = ap (later (Some x)) (latest-append xs ys) ∙ sym (later-assoc (Some x) (latest xs) (latest ys))

-- the milliseconds of the later of two
moment-later : (a : ℕ × ℕ) (b : Option (ℕ × ℕ)) → moment_of (later (Some a) b) ≡ max a.0 (moment_of b)
moment-later a None = grind (arith, nat_tests)
moment-later a (Some b) = grind (arith, nat_tests)

-- the greatest has the most milliseconds
pub moment-latest : (ids : List (ℕ × ℕ)) → moment_of (latest ids) ≡ greatest (map (λ id. id.0) ids)
moment-latest [] = refl
moment-latest (id ∷ ids) = moment-later id (latest ids) ∙ ap (max id.0) (moment-latest ids)

-- ---- it is one of the ids, and none is above it

-- where none is above an id that isn't above another, none is above the other
none_above : (a b : ℕ × ℕ) (ids : List (ℕ × ℕ)) → id_lt a b ≡ false → list_any (id_lt b) ids ≡ false → list_any (id_lt a) ids ≡ false
none_above a b [] h k = refl
none_above a b (id ∷ ids) h k =
    or_from (id_lt a id) (list_any (id_lt a) ids)
    (not_before a b id h (or_parts (id_lt b id) (list_any (id_lt b) ids) k).0)
    (none_above a b ids h (or_parts (id_lt b id) (list_any (id_lt b) ids) k).1)

one_more : (id : ℕ × ℕ) (ids : List (ℕ × ℕ)) (o : Option (ℕ × ℕ)) → IsGreatestOf ids o → IsGreatestOf (id ∷ ids) (later (Some id) o)
one_more id ids None h =
    let alone : list_any (id_lt id) ids ≡ false = ap (list_any (id_lt id)) h in
    (or_left (same_id id id) (list_any (same_id id) ids) (is_itself id), or_from (id_lt id id) (list_any (id_lt id) ids) (not_before_itself id) alone)
one_more id ids (Some b) h = by (id_lt id b) refl
  where
    by : (t : Bool) → id_lt id b ≡ t → IsGreatestOf (id ∷ ids) (Some (if t then b else id))
    by true e = (or_right (same_id b id) (list_any (same_id b) ids) h.0, or_from (id_lt b id) (list_any (id_lt b) ids) (one_way id b e) h.1)
    by false e = (or_left (same_id id id) (list_any (same_id id) ids) (is_itself id), or_from (id_lt id id) (list_any (id_lt id) ids) (not_before_itself id) (none_above id b ids e h.1))

pub latest-greatest : (ids : List (ℕ × ℕ)) → IsGreatestOf ids (latest ids)
latest-greatest [] = refl
latest-greatest (id ∷ ids) = one_more id ids (latest ids) (latest-greatest ids)
