-- The order of ids, and its tests.
use Rattle.std.specs.Prelude.{ℕ, ◌||◌, Bool, true, false, List, [], ◌∷◌}
use Rattle.std.specs.List.{list_any}
use Rattle.std.specs.Cmp.{IsTotalOrder}
use Rattle.std.specs.Ordering.{is_eq, is_gt}
use Rattle.std.specs.declared.cmp.Ordering.TheVariants.{Less, Equal, Greater}
use Rattle.std.proofs.Common.{◌≡◌, refl, ap, ◌∙◌, arith}
use Rattle.std.proofs.lemmas.Bool.Decides.{nat_tests}
use Rattle.std.proofs.lemmas.Cmp.{nat_cmp_total, on_total, then_total}
use Rattle.slate_ids.specs.Ulids.{same_id, id_lt, id_cmp}

pub order : IsTotalOrder id_cmp
order = then_total (on_total (λ (a : ℕ × ℕ). a.0) nat_cmp_total) (on_total (λ (a : ℕ × ℕ). a.1) nat_cmp_total)

-- what an answer says of the tests
pub less : (a b : ℕ × ℕ) → id_cmp a b ≡ Less → id_lt a b ≡ true
less a b h = grind (arith, nat_tests)

pub greater : (a b : ℕ × ℕ) → id_cmp a b ≡ Greater → id_lt b a ≡ true
greater a b h = grind (arith, nat_tests)

first_parts : (a b : ℕ × ℕ) → id_cmp a b ≡ Equal → a.0 ≡ b.0
first_parts a b h = grind (arith, nat_tests)

second_parts : (a b : ℕ × ℕ) → id_cmp a b ≡ Equal → a.1 ≡ b.1
second_parts a b h = grind (arith, nat_tests)

-- two are one exactly where the order finds them equal
pub equal : (a b : ℕ × ℕ) → id_cmp a b ≡ Equal → a ≡ b
equal a b h = ap (λ x. (x, a.1)) (first_parts a b h) ∙ ap (λ y. (b.0, y)) (second_parts a b h)

-- what a look-up by the order tests
pub is_at_is : (a b : ℕ × ℕ) → is_eq (id_cmp a b) ≡ same_id b a
is_at_is a b = grind (arith, nat_tests)

pub is_at_is_back : (a b : ℕ × ℕ) → is_eq (id_cmp a b) ≡ same_id a b
is_at_is_back a b = grind (arith, nat_tests)

pub not_above : (a b : ℕ × ℕ) → is_gt (id_cmp a b) ≡ false → id_lt b a ≡ false
not_above a b h = grind (arith, nat_tests)

-- ---- the tests alone

pub is_itself : (a : ℕ × ℕ) → same_id a a ≡ true
is_itself a = grind (arith, nat_tests)

pub not_before_itself : (a : ℕ × ℕ) → id_lt a a ≡ false
not_before_itself a = grind (arith, nat_tests)

pub one_way : (a b : ℕ × ℕ) → id_lt a b ≡ true → id_lt b a ≡ false
one_way a b h = grind (arith, nat_tests)

pub chained : (a b d : ℕ × ℕ) → id_lt a b ≡ true → id_lt b d ≡ true → id_lt a d ≡ true
chained a b d h k = grind (arith, nat_tests)

-- what isn't before one that isn't before another isn't before the other
pub not_before : (a b d : ℕ × ℕ) → id_lt a b ≡ false → id_lt b d ≡ false → id_lt a d ≡ false
not_before a b d h k = grind (arith, nat_tests)

-- what stands above one that isn't before an id isn't before it either
pub stays_above : (a b d : ℕ × ℕ) → id_lt a b ≡ true → id_lt a d ≡ false → id_lt b d ≡ false
stays_above a b d h k = grind (arith, nat_tests)

-- of two of which one is before the other, they aren't one
pub not_same : (a b : ℕ × ℕ) → id_lt a b ≡ true → same_id a b ≡ false
not_same a b h = grind (arith, nat_tests)

pub apart : (a b : ℕ × ℕ) → id_lt a b ≡ true → same_id b a ≡ false
apart a b h = grind (arith, nat_tests)

pub not_same_above : (a b d : ℕ × ℕ) → id_lt a b ≡ true → id_lt a d ≡ false → same_id b d ≡ false
not_same_above a b d h k = grind (arith, nat_tests)
