-- A set takes the versions that checkpoints name one by one.
use Rattle.std.specs.Prelude.{ℕ, ◌+◌, ◌<◌, ◌||◌, ◌&&◌, ◌==◌, cond, Bool, true, false, List, [], ◌∷◌, length}
use Rattle.std.specs.List.{list_all}
use Rattle.std.specs.BTreeSet.{BTreeSet, contains}
use Rattle.std.specs.Ordering.{nat_cmp, is_eq}
use Rattle.std.proofs.Common.{◌≡◌, refl, sym, ◌∙◌, ap, arith, drop, get_or}
use Rattle.std.proofs.lemmas.Bool.Decides.{nat_tests}
use Rattle.std.proofs.lemmas.List.{at_drop_more}
use Rattle.slate_state_updates.specs.Checkpoints.{is_named}
use Rattle.slate_state_updates.specs.NamedSets.{IsSetOf}
use Rattle.slate_model.specs.declared.checkpoint.Checkpoint.{Checkpoint}

-- what the set has, or one of the checkpoints that are left names
abbrev pub Left : (ℕ → Bool) → List Checkpoint → List Checkpoint → Type 0
Left has rest all = (n : ℕ) → (has n || is_named n rest) ≡ is_named n all

same : (a b : ℕ) → is_eq (nat_cmp a b) ≡ (a == b)
same a b = grind (arith, nat_tests)

turned : (b x r : Bool) → (cond b true x || r) ≡ (x || (b || r))
turned true true r = refl
turned true false r = refl
turned false true r = refl
turned false false r = refl

-- one more checkpoint's version is in the set
pub one_more : (has new : ℕ → Bool) (cs all : List Checkpoint) (i : ℕ) (c : Checkpoint) → i < length cs → c ≡ get_or cs i c
    → ((n : ℕ) → new n ≡ cond (is_eq (nat_cmp c.manifest_id n)) true (has n)) → Left has (drop i cs) all → Left new (drop (i + 1) cs) all
one_more has new cs all i c lt at made left n =
    let rest = is_named n (drop (i + 1) cs) in
    let here : is_named n (drop i cs) ≡ ((c.manifest_id == n) || rest) = at_drop_more (is_named n) cs i c lt ∙ ap (λ (x : Checkpoint). is_named n (x ∷ drop (i + 1) cs)) (sym at) in
    ap (λ (b : Bool). b || rest) (made n ∙ ap (λ (b : Bool). cond b true (has n)) (same c.manifest_id n)) ∙ turned (c.manifest_id == n) (has n) rest ∙ ap (λ (b : Bool). has n || b) (sym here) ∙ left n

-- what a set of them answers for checkpoints
pub all_known : (named : BTreeSet ℕ) (old : List Checkpoint) (n : ℕ) (cs : List Checkpoint) → IsSetOf named old
    → list_all (λ c. c.manifest_id == n || contains nat_cmp named c.manifest_id) cs ≡ list_all (λ c. c.manifest_id == n || is_named c.manifest_id old) cs
all_known named old n [] is = refl
all_known named old n (c ∷ cs) is =
    ap (λ (b : Bool). (c.manifest_id == n || b) && list_all (λ x. x.manifest_id == n || contains nat_cmp named x.manifest_id) cs) (is c.manifest_id)
    ∙ ap (λ (b : Bool). (c.manifest_id == n || is_named c.manifest_id old) && b) (all_known named old n cs is)
