-- Prefixes put at their places one after the other: they ascend, and so do the segments of them.
use Rattle.std.specs.Prelude.{ℕ, suc, ◌+◌, ◌<◌, length, ◌&&◌, ◌||◌, Bool, true, false, List, [], ◌∷◌, map, filter, bytes_eq, if◌then◌else◌}
use Rattle.std.specs.List.{fold, insert, list_any, prefix_len}
use Rattle.std.specs.Ordering.{nat_cmp, is_lt, is_eq, ordering_reverse, match_ordering}
use Rattle.std.specs.BTreeSet.{insert_key}
use Rattle.std.specs.Cmp.Lexicographic.{slice_cmp, nat_list_cmp_total}
use Rattle.std.specs.declared.cmp.Ordering.{Ordering}
use Rattle.std.specs.declared.cmp.Ordering.TheVariants.{Less, Equal, Greater}
use Rattle.std.proofs.Common.{◌≡◌, refl, sym, ◌∙◌, ap, arith, drop, get_or}
use Rattle.std.proofs.lemmas.List.{at_drop_more}
use Rattle.std.proofs.lemmas.Map.Text.{is_eq-slice_cmp}
use Rattle.slate_ids.specs.Keys.{key_lt}
use Rattle.slate_ids.proofs.KeyOrder.{other_way}
use Rattle.slate_model.specs.Segments.{ascend_from, are_ascending}
use Rattle.slate_script_databases.specs.declared.tree_items.TreeItems.{TreeItems}
use Rattle.slate_script_databases.specs.Databases.{with_prefix, is_some_prefix, named_prefixes, segment_prefixes, segment_of, segments_of}

-- whether prefixes ascend strictly, from above this one
abbrev pub ascend : List ℕ → List (List ℕ) → Bool
ascend last [] = true
ascend last (p ∷ ps) = key_lt last p && ascend p ps

both : (a b : Bool) → (a && b) ≡ true → (a ≡ true) × (b ≡ true)
both true b h = (refl, h)
both false b h = absurd cc

and_true : (a b : Bool) → a ≡ true → b ≡ true → (a && b) ≡ true
and_true a b h k = rw (h, k) refl

is_less : (o : Ordering) → is_lt o ≡ true → o ≡ Less
is_less Less h = refl
is_less Equal h = absurd cc
is_less Greater h = absurd cc

-- the empty prefix stands before all others
first_of_all : (p : List ℕ) → is_some_prefix p ≡ true → key_lt [] p ≡ true
first_of_all [] h = absurd cc
first_of_all (c ∷ cs) h = refl

one_more : (n : ℕ) → suc n ≡ 1 + n
one_more n = omega arith

-- where a prefix is put
abbrev place : List ℕ → List (List ℕ) → ℕ
place p ps = prefix_len (λ q. key_lt q p) ps

neither : (a b : Bool) → (a || b) ≡ false → (a ≡ false) × (b ≡ false)
neither true b h = absurd cc
neither false b h = (refl, h)

put_ascends : (last p : List ℕ) (ps : List (List ℕ)) → key_lt last p ≡ true → ascend last ps ≡ true → list_any (λ q. bytes_eq q p) ps ≡ false → ascend last (insert ps (place p ps) p) ≡ true
put_ascends last p [] l a n = rw l refl
put_ascends last p (q ∷ qs) l a n = by (λ h. put_ascends q p qs h parts.1 others.1) (key_lt q p) refl
  where
    parts : (key_lt last q ≡ true) × (ascend q qs ≡ true)
    parts = both (key_lt last q) (ascend q qs) a

    others : (bytes_eq q p ≡ false) × (list_any (λ r. bytes_eq r p) qs ≡ false)
    others = neither (bytes_eq q p) (list_any (λ r. bytes_eq r p) qs) n

    by : (key_lt q p ≡ true → ascend q (insert qs (place p qs) p) ≡ true) → (b : Bool) → key_lt q p ≡ b → ascend last (insert (q ∷ qs) (if b then 1 + place p qs else 0) p) ≡ true
    by more true e = ap (λ i. ascend last (insert (q ∷ qs) i p)) (sym (one_more (place p qs))) ∙ and_true (key_lt last q) (ascend q (insert qs (place p qs) p)) parts.0 (more e)
    by more false e = and_true (key_lt last p) (ascend p (q ∷ qs)) l (and_true (key_lt p q) (ascend q qs) (other_way q p e others.0) parts.1)

with_ascends : (last p : List ℕ) (ps : List (List ℕ)) → key_lt last p ≡ true → ascend last ps ≡ true → ascend last (with_prefix ps p) ≡ true
with_ascends last p ps l a = by (list_any (λ q. bytes_eq q p) ps) refl
  where
    by : (b : Bool) → list_any (λ q. bytes_eq q p) ps ≡ b → ascend last (if b then ps else insert ps (place p ps) p) ≡ true
    by true e = a
    by false e = put_ascends last p ps l a e

all_ascend : (found named : List (List ℕ)) → ascend [] found ≡ true → ascend [] (fold with_prefix found (filter is_some_prefix named)) ≡ true
all_ascend found [] a = a
all_ascend found (p ∷ ps) a = by (λ h. all_ascend (with_prefix found p) ps h) (all_ascend found ps a) (is_some_prefix p) refl
  where
    by : (ascend [] (with_prefix found p) ≡ true → ascend [] (fold with_prefix (with_prefix found p) (filter is_some_prefix ps)) ≡ true) → ascend [] (fold with_prefix found (filter is_some_prefix ps)) ≡ true → (b : Bool) → is_some_prefix p ≡ b → ascend [] (fold with_prefix found (if b then p ∷ filter is_some_prefix ps else filter is_some_prefix ps)) ≡ true
    by with_it without true e = with_it (with_ascends [] p found (first_of_all p e) a)
    by with_it without false e = without

of_segments : (items : TreeItems) (last : List ℕ) (ps : List (List ℕ)) → ascend_from last (map (segment_of items) ps) ≡ ascend last ps
of_segments items last [] = refl
of_segments items last (p ∷ ps) = ap (λ b. key_lt last p && b) (of_segments items p ps)

-- the segments of a database ascend
pub segments_ascend : (items : TreeItems) → are_ascending (segments_of items) ≡ true
segments_ascend items = of_segments items [] (segment_prefixes (named_prefixes items)) ∙ all_ascend [] (named_prefixes items) refl

-- where all prefixes stand above another, it isn't among them
none_is : (p q : List ℕ) (qs : List (List ℕ)) → slice_cmp nat_cmp p q ≡ Less → ascend q qs ≡ true → list_any (λ r. bytes_eq r p) qs ≡ false
none_is p q [] l a = refl
none_is p q (r ∷ rs) l a = ap (λ b. b || list_any (λ s. bytes_eq s p) rs) differs ∙ none_is p r rs above parts.1
  where
    parts : (key_lt q r ≡ true) × (ascend r rs ≡ true)
    parts = both (key_lt q r) (ascend r rs) a

    above : slice_cmp nat_cmp p r ≡ Less
    above = nat_list_cmp_total.trans p q r l (is_less (slice_cmp nat_cmp q r) parts.0)

    differs : bytes_eq r p ≡ false
    differs = sym (is_eq-slice_cmp r p) ∙ ap is_eq (nat_list_cmp_total.antisymm r p ∙ ap ordering_reverse above)

-- the prefixes with one more, by tests: whether the first is it, whether it's among the others, and whether the first stands before it
abbrev put : List ℕ → List ℕ → List (List ℕ) → Bool → Bool → Bool → List (List ℕ)
put q p qs same among before = if same || among then q ∷ qs else insert (q ∷ qs) (if before then 1 + place p qs else 0) p

-- a set of prefixes takes one more where `with_prefix` puts it
pub put_is : (last p : List ℕ) (ps : List (List ℕ)) → ascend last ps ≡ true → insert_key (slice_cmp nat_cmp) ps p ≡ with_prefix ps p
put_is last p [] a = refl
put_is last p (q ∷ qs) a = by (put_is q p qs (both (key_lt last q) (ascend q qs) a).1) (slice_cmp nat_cmp p q) refl
  where
    parts : (key_lt last q ≡ true) × (ascend q qs ≡ true)
    parts = both (key_lt last q) (ascend q qs) a

    back : (o : Ordering) → slice_cmp nat_cmp p q ≡ o → slice_cmp nat_cmp q p ≡ ordering_reverse o
    back o e = nat_list_cmp_total.antisymm q p ∙ ap ordering_reverse e

    same_is : (o : Ordering) → slice_cmp nat_cmp p q ≡ o → bytes_eq q p ≡ is_eq (ordering_reverse o)
    same_is o e = sym (is_eq-slice_cmp q p) ∙ ap is_eq (back o e)

    moved : (b : Bool) → (if b then q ∷ qs else insert (q ∷ qs) (1 + place p qs) p) ≡ q ∷ (if b then qs else insert qs (place p qs) p)
    moved true = refl
    moved false = ap (λ i. insert (q ∷ qs) i p) (sym (one_more (place p qs)))

    by : insert_key (slice_cmp nat_cmp) qs p ≡ with_prefix qs p → (o : Ordering) → slice_cmp nat_cmp p q ≡ o → match_ordering o (p ∷ q ∷ qs) (q ∷ qs) (q ∷ insert_key (slice_cmp nat_cmp) qs p) ≡ put q p qs (bytes_eq q p) (list_any (λ r. bytes_eq r p) qs) (key_lt q p)
    by more Less e = rw (same_is Less e, none_is p q qs e parts.1, ap is_lt (back Less e)) refl
    by more Equal e = rw (same_is Equal e) refl
    by more Greater e = ap (λ l. q ∷ l) more ∙ sym (moved (list_any (λ r. bytes_eq r p) qs)) ∙ rw (same_is Greater e, ap is_lt (back Greater e)) refl

module _ (keys now named all : List (List ℕ)) (i : ℕ) (p : List ℕ) (lt : i < length named) (at : p ≡ get_or named i p) (a : ascend [] keys ≡ true) (so_far : fold with_prefix keys (filter is_some_prefix (drop i named)) ≡ all) where
  abbrev rest : List (List ℕ)
  rest = filter is_some_prefix (drop (i + 1) named)

  here : (b : Bool) → is_some_prefix p ≡ b → fold with_prefix keys (if b then p ∷ rest else rest) ≡ all
  here b e =
      ap (λ (t : Bool). fold with_prefix keys (if t then p ∷ rest else rest)) (sym e)
      ∙ sym (at_drop_more (λ l. fold with_prefix keys (filter is_some_prefix l)) named i p lt ∙ ap (λ x. fold with_prefix keys (filter is_some_prefix (x ∷ drop (i + 1) named))) (sym at))
      ∙ so_far

  by_test : (b : Bool) → is_some_prefix p ≡ b → now ≡ (if b then insert_key (slice_cmp nat_cmp) keys p else keys) → (fold with_prefix now rest ≡ all) × (ascend [] now ≡ true)
  by_test true e h = let is = h ∙ put_is [] p keys a in (ap (λ ks. fold with_prefix ks rest) is ∙ here true e, ap (ascend []) is ∙ with_ascends [] p keys (first_of_all p e) a)
  by_test false e h = (ap (λ ks. fold with_prefix ks rest) h ∙ here false e, ap (ascend []) h ∙ a)

  -- one more prefix is in the set
  pub next_prefix : now ≡ (if is_some_prefix p then insert_key (slice_cmp nat_cmp) keys p else keys) → (fold with_prefix now rest ≡ all) × (ascend [] now ≡ true)
  next_prefix h = by_test (is_some_prefix p) refl h
