-- Sets of ids and of numbers answer as the lists that they were made of.
use Rattle.std.specs.Prelude.{ℕ, ◌==◌, Bool, List, [], ◌∷◌, ◌||◌, Result, Ok, Err, IfOk}
use Rattle.std.specs.BTreeSet.{BTreeSet, contains}
use Rattle.std.specs.List.{list_any}
use Rattle.std.specs.BTreeMap.{is_at}
use Rattle.std.specs.Ordering.{nat_cmp, is_eq}
use Rattle.std.specs.declared.cmp.Ordering.{Ordering}
use Rattle.std.proofs.Common.{◌≡◌, refl, ap, ◌∙◌, arith}
use Rattle.std.proofs.lemmas.Bool.Decides.{nat_tests}
use mathlib.Core.Path.{fun_ext}
use Rattle.slate_ids.proofs.IdOrder.{is_at_is}
use Rattle.slate_ids.specs.Ulids.{id_cmp, same_id}
use Rattle.slate_model_records.specs.Retaining.{has_id}
use Rattle.slate_state_compactor.specs.Sources.{has_number}

-- the same keys are among both
abbrev pub HaveSame : {K : Type 0} → (K → K → Ordering) → List K → List K → Type 0
HaveSame {K} cmp a b = (key : K) → list_any (is_at (cmp key)) a ≡ list_any (is_at (cmp key)) b

id_among : (id : ℕ × ℕ) (ids : List (ℕ × ℕ)) → list_any (is_at (id_cmp id)) ids ≡ has_id ids id
id_among id [] = refl
id_among id (x ∷ ids) = ap (λ (b : Bool). b || list_any (is_at (id_cmp id)) ids) (is_at_is id x) ∙ ap (λ (b : Bool). same_id x id || b) (id_among id ids)

same_number : (a b : ℕ) → is_eq (nat_cmp a b) ≡ (b == a)
same_number a b = grind (arith, nat_tests)

number_among : (n : ℕ) (ns : List ℕ) → list_any (is_at (nat_cmp n)) ns ≡ has_number ns n
number_among n [] = refl
number_among n (m ∷ ns) = ap (λ (b : Bool). b || list_any (is_at (nat_cmp n)) ns) (same_number n m) ∙ ap (λ (b : Bool). (m == n) || b) (number_among n ns)

pub same_ids : (has : ℕ × ℕ → Bool) (ids : List (ℕ × ℕ)) → ((id : ℕ × ℕ) → has id ≡ list_any (is_at (id_cmp id)) ids) → has ≡ has_id ids
same_ids has ids is = fun_ext (λ id. is id ∙ id_among id ids)

pub same_numbers : (has : ℕ → Bool) (ns : List ℕ) → ((n : ℕ) → has n ≡ list_any (is_at (nat_cmp n)) ns) → has ≡ has_number ns
same_numbers has ns is = fun_ext (λ n. is n ∙ number_among n ns)

-- a set of ids, where memory was enough for it
pub if_ids : {E : Type 0} (made : Result (BTreeSet (ℕ × ℕ)) E) (ids : List (ℕ × ℕ)) → IfOk made (λ set. (id : ℕ × ℕ) → contains id_cmp set id ≡ list_any (is_at (id_cmp id)) ids) → IfOk made (λ set. contains id_cmp set ≡ has_id ids)
if_ids (Ok set) ids is = same_ids (contains id_cmp set) ids is
if_ids (Err e) ids is = is
