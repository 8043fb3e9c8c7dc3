-- Whether fresh ids are stale, decided by a set of the ids that were seen.
use Rattle.std.proofs.Common.{◌≡◌, ℕ, ◌+◌, ◌<◌, ◌||◌, Bool, true, false, List, [], ◌∷◌, ◌++◌, length, get_or, drop, refl, sym, ap, ◌∙◌, cond}
use Rattle.std.specs.List.{list_any}
use Rattle.std.proofs.lemmas.List.Folds.{list_any-append}
use Rattle.std.specs.BTreeMap.{is_at}
use Rattle.std.specs.declared.cmp.Ordering.{Ordering}
use Rattle.slate_cluster_protocol.specs.Ids.{Pool, is_carried, is_stale_among}
use Rattle.slate_cluster_opening.proofs.Openings.{next_item}

-- ---- tests

one_seen_more : (a b c d e f : Bool) → (c || (d || cond a true e) || (b || f)) ≡ ((a || b) || (c || (d || e) || f))
one_seen_more true b true d e f = refl
one_seen_more true b false true e f = refl
one_seen_more true b false false e f = refl
one_seen_more false true true d e f = refl
one_seen_more false true false true e f = refl
one_seen_more false true false false true f = refl
one_seen_more false true false false false f = refl
one_seen_more false false true d e f = refl
one_seen_more false false false d e f = refl

one_new : (c d e f : Bool) → (c || e) ≡ false → (c || (d || e) || f) ≡ (d || f)
one_new true d e f h = absurd cc
one_new false d true f h = absurd cc
one_new false true false f h = refl
one_new false false false f h = refl

-- ---- lists of ids

module _ {K : Type 0} (cmp : K → K → Ordering) where
  -- the same ids are among both
  abbrev pub HaveSame : List K → List K → Type 0
  HaveSame a b = (id : K) → list_any (is_at (cmp id)) a ≡ list_any (is_at (cmp id)) b

  -- the one has the ids of the other, and one more
  abbrev pub HasMore : K → List K → List K → Type 0
  HasMore id old new = (q : K) → list_any (is_at (cmp q)) new ≡ cond (is_at (cmp id) q) true (list_any (is_at (cmp q)) old)

  module _ (pool : Pool K) where
    -- the same ids are named
    pub same_named : (ids a b : List K) → HaveSame a b → is_stale_among cmp ids a pool ≡ is_stale_among cmp ids b pool
    same_named [] a b h = refl
    same_named (id ∷ ids) a b h =
        let is = is_at (cmp id) in
        ap (λ t. is_carried cmp id pool || t || is_stale_among cmp ids a pool) (list_any-append is ids a ∙ (ap (λ t. list_any is ids || t) (h id) ∙ sym (list_any-append is ids b)))
        ∙ ap (λ t. is_carried cmp id pool || list_any is (ids ++ b) || t) (same_named ids a b h)

    -- one id more was seen
    seen_more : (id : K) (ids old new : List K) → HasMore id old new → is_stale_among cmp ids new pool ≡ (list_any (is_at (cmp id)) ids || is_stale_among cmp ids old pool)
    seen_more id [] old new more = refl
    seen_more id (x ∷ xs) old new more =
        let is = is_at (cmp x) in
        let there = is_carried cmp x pool in
        let seen = cond (is_at (cmp id) x) true (list_any is old) in
        let stale = is_stale_among cmp xs old pool in
        ap (λ t. there || t || is_stale_among cmp xs new pool) (list_any-append is xs new ∙ ap (λ t. list_any is xs || t) (more x))
        ∙ (ap (λ t. there || (list_any is xs || seen) || t) (seen_more id xs old new more)
        ∙ (one_seen_more (is_at (cmp id) x) (list_any (is_at (cmp id)) xs) there (list_any is xs) (list_any is old) stale
        ∙ ap (λ t. list_any (is_at (cmp id)) (x ∷ xs) || (there || t || stale)) (sym (list_any-append is xs old))))

    new_one : (id : K) (ids old new : List K) → (is_carried cmp id pool || list_any (is_at (cmp id)) old) ≡ false → HasMore id old new → is_stale_among cmp (id ∷ ids) old pool ≡ is_stale_among cmp ids new pool
    new_one id ids old new h more =
        ap (λ t. is_carried cmp id pool || t || is_stale_among cmp ids old pool) (list_any-append (is_at (cmp id)) ids old)
        ∙ (one_new (is_carried cmp id pool) (list_any (is_at (cmp id)) ids) (list_any (is_at (cmp id)) old) (is_stale_among cmp ids old pool) h
        ∙ sym (seen_more id ids old new more))

    -- the id at a place is new: those after it decide
    pub stale_later : (fresh : List K) (i : ℕ) (id : K) (old new : List K) (is all : Bool) → i < length fresh → id ≡ get_or fresh i id → is ≡ (is_carried cmp id pool || list_any (is_at (cmp id)) old) → is ≡ false
        → HasMore id old new → is_stale_among cmp (drop i fresh) old pool ≡ all → is_stale_among cmp (drop (i + 1) fresh) new pool ≡ all
    stale_later fresh i id old new is all lt at told not more so_far =
        sym (new_one id (drop (i + 1) fresh) old new (sym told ∙ not) more) ∙ (sym (ap (λ (xs : List K). is_stale_among cmp xs old pool) (next_item fresh i id lt at)) ∙ so_far)
