-- Ids that are noted and taken out again, and ids that are noted one list after the other.
use Rattle.std.proofs.Common.{◌≡◌, ℕ, ◌+◌, ◌<◌, ◌||◌, Bool, true, false, List, [], ◌∷◌, ◌++◌, length, get_or, drop, map, Option, Some, None, is_some, refl, sym, ap, ◌∙◌, cond}
use Rattle.std.specs.List.{flat_map}
use Rattle.std.proofs.lemmas.List.{map-append}
use Rattle.std.specs.Map.{lookup, remove_entry, set_value}
use Rattle.std.specs.BTreeMap.{is_at, insert_entry}
use Rattle.std.specs.Ordering.{is_eq}
use Rattle.std.specs.declared.cmp.Ordering.{Ordering}
use Rattle.slate_cluster_protocol.specs.Ids.{Pool, with_id, with_ids, carried_again, only_named}
use Rattle.slate_cluster_protocol.specs.declared.carrier.Carrier.{Carrier}
use Rattle.slate_cluster_protocol.proofs.TakenBack.{taken_back}
use Rattle.slate_cluster_opening.specs.Pools.{unpinned, without}
use Rattle.slate_cluster_opening.proofs.Openings.{next_item}

-- a value that is set as it is leaves the entries as they are
set_same : {K X : Type 0} (is : K → Bool) (es : List (K × X)) (v : X) → lookup is es ≡ Some v → set_value is es v ≡ es
set_same is [] v h = absurd cc
set_same {K} {X} is (e ∷ es) v h = by (is e.0) h (set_same is es v)
  where
    by : (b : Bool) → cond b (Some e.1) (lookup is es) ≡ Some v → (lookup is es ≡ Some v → set_value is es v ≡ es) → cond b ((e.0, v) ∷ es) (e ∷ set_value is es v) ≡ e ∷ es
    by true found rest = ap (λ (x : X). (e.0, x) ∷ es) (the_same e.1 v found)
      where
        the_same : (a b : X) → Some a ≡ Some b → b ≡ a
        the_same a b h = cc
    by false found rest = ap (λ (xs : List (K × X)). e ∷ xs) (rest found)

-- where there is no entry, none is removed
none_removed : {K X : Type 0} (is : K → Bool) (es : List (K × X)) → lookup is es ≡ None → remove_entry is es ≡ es
none_removed is [] h = refl
none_removed {K} {X} is (e ∷ es) h = by (is e.0) h (none_removed is es)
  where
    by : (b : Bool) → cond b (Some e.1) (lookup is es) ≡ None → (lookup is es ≡ None → remove_entry is es ≡ es) → cond b es (e ∷ remove_entry is es) ≡ e ∷ es
    by true found rest = absurd cc
    by false found rest = ap (λ (xs : List (K × X)). e ∷ xs) (rest found)

or_false : (b : Bool) → (b || false) ≡ b
or_false true = refl
or_false false = refl

nothing : {X : Type 0} (o : Option X) → is_some o ≡ false → o ≡ None
nothing None h = refl
nothing (Some x) h = absurd cc

module _ {K : Type 0} (cmp : K → K → Ordering) (id : K) (party : Option ℕ) (pool : Pool K) where
  -- an id that is there stays as it is
  pub id_there : is_some (lookup (is_at (cmp id)) pool) ≡ true → with_id cmp (unpinned party id) pool ≡ pool
  id_there h = by (lookup (is_at (cmp id)) pool) refl h
    where
      by : (found : Option Carrier) → lookup (is_at (cmp id)) pool ≡ found → is_some found ≡ true
          → elim found [ None ↦ insert_entry cmp pool id (unpinned party id).1 | Some known ↦ set_value (is_at (cmp id)) pool (carried_again known (unpinned party id).1) ] ≡ pool
      by None at h = absurd cc
      by (Some known) at h =
          ap (λ (pin : Bool). set_value (is_at (cmp id)) pool (record { party = known.party; pin = pin })) (or_false known.pin)
          ∙ set_same (is_at (cmp id)) pool known at

  -- an id that wasn't there is put in
  pub id_put_in : is_some (lookup (is_at (cmp id)) pool) ≡ false → with_id cmp (unpinned party id) pool ≡ insert_entry cmp pool id (unpinned party id).1
  id_put_in h =
      ap (λ (found : Option Carrier). elim found [ None ↦ insert_entry cmp pool id (unpinned party id).1 | Some known ↦ set_value (is_at (cmp id)) pool (carried_again known (unpinned party id).1) ])
      (nothing (lookup (is_at (cmp id)) pool) h)

-- ids that are taken out after others
without_append : {K : Type 0} (cmp : K → K → Ordering) (xs ys : List K) (pool : Pool K) → without cmp (xs ++ ys) pool ≡ without cmp xs (without cmp ys pool)
without_append cmp [] ys pool = refl
without_append cmp (x ∷ xs) ys pool = ap (remove_entry (is_at (cmp x))) (without_append cmp xs ys pool)

module _ {K : Type 0} (cmp : K → K → Ordering) (added : List K) (id : K) (pool : Pool K) (absent : is_some (lookup (is_at (cmp id)) pool) ≡ false) where
  -- the last id was put in
  pub without_put : (items : List K) (entries : Pool K) (carrier : Carrier) → items ≡ added ++ id ∷ [] → entries ≡ insert_entry cmp pool id carrier → is_eq (cmp id id) ≡ true → without cmp items entries ≡ without cmp added pool
  without_put items entries carrier more made itself =
      ap (λ (ids : List K). without cmp ids entries) more
      ∙ (ap (without cmp (added ++ id ∷ [])) made
      ∙ (without_append cmp added (id ∷ []) (insert_entry cmp pool id carrier)
      ∙ ap (without cmp added) (taken_back cmp id carrier itself pool (nothing (lookup (is_at (cmp id)) pool) absent))))

  -- the last id was not put in
  pub without_absent : (items : List K) (entries : Pool K) → items ≡ added ++ id ∷ [] → entries ≡ pool → without cmp items entries ≡ without cmp added pool
  without_absent items entries more same =
      ap (λ (ids : List K). without cmp ids entries) more
      ∙ (ap (without cmp (added ++ id ∷ [])) same
      ∙ (without_append cmp added (id ∷ []) pool
      ∙ ap (without cmp added) (none_removed (is_at (cmp id)) pool (nothing (lookup (is_at (cmp id)) pool) absent))))

-- one id more is taken out: the last one
pub one_taken_out : {K : Type 0} (cmp : K → K → Ordering) (all left : List K) (id : K) (old new whole : Pool K) → all ≡ left ++ id ∷ [] → new ≡ remove_entry (is_at (cmp id)) old
    → without cmp all old ≡ whole → without cmp left new ≡ whole
one_taken_out {K} cmp all left id old new whole last made so_far =
    ap (without cmp left) made ∙ (sym (without_append cmp left (id ∷ []) old) ∙ (sym (ap (λ (ids : List K). without cmp ids old) last) ∙ so_far))

-- ids, and then others
pub with_ids_append : {K : Type 0} (cmp : K → K → Ordering) (xs ys : List (K × Carrier)) (pool : Pool K) → with_ids cmp ys (with_ids cmp xs pool) ≡ with_ids cmp (xs ++ ys) pool
with_ids_append cmp [] ys pool = refl
with_ids_append cmp (x ∷ xs) ys pool = with_ids_append cmp xs ys (with_id cmp x pool)

-- ids were noted, and then others
pub others_after : {K : Type 0} (cmp : K → K → Ordering) (xs ys : List (K × Carrier)) (pool noted all : Pool K) → noted ≡ with_ids cmp xs pool → all ≡ with_ids cmp ys noted → all ≡ with_ids cmp (xs ++ ys) pool
others_after cmp xs ys pool noted all first later = later ∙ (ap (with_ids cmp ys) first ∙ with_ids_append cmp xs ys pool)

-- one id more was noted: the one at a place
pub one_id_more : {K : Type 0} (cmp : K → K → Ordering) (xs : List (K × Carrier)) (i : ℕ) (x : K × Carrier) (old new whole : Pool K) → i < length xs → x ≡ get_or xs i x
    → new ≡ with_id cmp x old → with_ids cmp (drop i xs) old ≡ whole → with_ids cmp (drop (i + 1) xs) new ≡ whole
one_id_more {K} cmp xs i x old new whole lt at made so_far =
    ap (with_ids cmp (drop (i + 1) xs)) made ∙ (sym (ap (λ (ys : List (K × Carrier)). with_ids cmp ys old) (next_item xs i x lt at)) ∙ so_far)

-- one list of ids more was noted: those of the item at a place
pub one_more : {X K : Type 0} (cmp : K → K → Ordering) (f : X → List (K × Carrier)) (xs : List X) (i : ℕ) (x : X) (ids : List (K × Carrier)) (old new whole : Pool K) → i < length xs → x ≡ get_or xs i x
    → ids ≡ f x → new ≡ with_ids cmp ids old → with_ids cmp (flat_map f (drop i xs)) old ≡ whole → with_ids cmp (flat_map f (drop (i + 1) xs)) new ≡ whole
one_more {X} {K} cmp f xs i x ids old new whole lt at told made so_far =
    let rest = flat_map f (drop (i + 1) xs) in
    ap (with_ids cmp rest) (made ∙ ap (λ (ys : List (K × Carrier)). with_ids cmp ys old) told)
    ∙ (with_ids_append cmp (f x) rest old ∙ (sym (ap (λ (ys : List X). with_ids cmp (flat_map f ys) old) (next_item xs i x lt at)) ∙ so_far))

-- the same of ids that are only named
pub one_more_named : {X K : Type 0} (cmp : K → K → Ordering) (f : X → List K) (xs : List X) (i : ℕ) (x : X) (ids : List (K × Carrier)) (old new whole : Pool K) → i < length xs → x ≡ get_or xs i x
    → ids ≡ map only_named (f x) → new ≡ with_ids cmp ids old → with_ids cmp (map only_named (flat_map f (drop i xs))) old ≡ whole → with_ids cmp (map only_named (flat_map f (drop (i + 1) xs))) new ≡ whole
one_more_named {X} {K} cmp f xs i x ids old new whole lt at told made so_far =
    let rest = flat_map f (drop (i + 1) xs) in
    ap (with_ids cmp (map only_named rest)) (made ∙ ap (λ (ys : List (K × Carrier)). with_ids cmp ys old) told)
    ∙ (with_ids_append cmp (map only_named (f x)) (map only_named rest) old
    ∙ (ap (λ (ys : List (K × Carrier)). with_ids cmp ys old) (sym (map-append only_named (f x) rest))
    ∙ (sym (ap (λ (ys : List X). with_ids cmp (map only_named (flat_map f ys)) old) (next_item xs i x lt at)) ∙ so_far)))
