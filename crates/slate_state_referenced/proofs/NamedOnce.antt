-- The numbers that checkpoints name: each once, never the own one, and exactly those.
use Rattle.std.specs.Prelude.{◌≡◌, ◌||◌, ◌&&◌, ◌==◌, not, ℕ, Bool, true, false, List, [], ◌∷◌, ◌++◌, if◌then◌else◌, refl}
use Rattle.std.proofs.Common.{ap, subst, sym, ◌∙◌}
use Rattle.std.proofs.lemmas.Bool.Decides.{Decides-eqb}
use Rattle.std.proofs.lemmas.List.Folds.{list_any-append}
use Rattle.slate_model.specs.declared.checkpoint.Checkpoint.{Checkpoint}
use Rattle.slate_state_updates.specs.Checkpoints.{is_named}
use Rattle.slate_state_referenced.specs.Named.{each_once, has_number, named_from, named_numbers, with_name}

-- ---- tests

or_none : (b : Bool) → (b || false) ≡ b
or_none true = refl
or_none false = refl

or_assoc : (a b c : Bool) → ((a || b) || c) ≡ (a || (b || c))
or_assoc true b c = refl
or_assoc false b c = refl

right_or : (a b : Bool) → a ≡ false → (a || b) ≡ true → b ≡ true
right_or true b h t = absurd cc
right_or false b h t = t

or_true : (b : Bool) → b ≡ true → b ≡ (b || true)
or_true true h = refl
or_true false h = absurd cc

both_false : (a b : Bool) → a ≡ false → b ≡ false → (a || b) ≡ false
both_false true b h k = absurd cc
both_false false b h k = k

left_false : (a b : Bool) → (a || b) ≡ false → a ≡ false
left_false true b h = absurd cc
left_false false b h = refl

right_false : (a b : Bool) → (a || b) ≡ false → b ≡ false
right_false true b h = absurd cc
right_false false b h = h

left_and : (a b : Bool) → (not a && b) ≡ true → a ≡ false
left_and true b h = absurd cc
left_and false b h = refl

right_and : (a b : Bool) → (not a && b) ≡ true → b ≡ true
right_and true b h = absurd cc
right_and false b h = h

and_both : (a b : Bool) → a ≡ false → b ≡ true → (not a && b) ≡ true
and_both true b h k = absurd cc
and_both false b h k = k

-- ---- one number more

any_end : (n m : ℕ) (ks : List ℕ) → has_number n (ks ++ m ∷ []) ≡ (has_number n ks || (m == n))
any_end n m ks = list_any-append (λ (k : ℕ). k == n) ks (m ∷ []) ∙ ap (λ (b : Bool). has_number n ks || b) (or_none (m == n))

flip : (b : Bool) (k m : ℕ) → (m == k) ≡ b → (k == m) ≡ false → b ≡ false
flip false k m is other = refl
flip true k m is other =
    let same : m ≡ k = (Decides-eqb m k).0 is in
    let back : (k == m) ≡ true = (Decides-eqb k m).1 (sym same) in
    absurd cc

if_there : (q : Bool) (own n m : ℕ) (ks : List ℕ) → (m == n) ≡ q → ((m == own) || has_number m ks) ≡ true → (n == own) ≡ false → has_number n ks ≡ (has_number n ks || q)
if_there false own n m ks is test other = sym (or_none (has_number n ks))
if_there true own n m ks is test other =
    let same : m ≡ n = (Decides-eqb m n).0 is in
    let there : ((n == own) || has_number n ks) ≡ true = subst (λ (k : ℕ). ((k == own) || has_number k ks) ≡ true) same test in
    or_true (has_number n ks) (right_or (n == own) (has_number n ks) other there)

with_other : (b : Bool) (own n m : ℕ) (ks : List ℕ) → ((m == own) || has_number m ks) ≡ b → (n == own) ≡ false → has_number n (if b then ks else ks ++ m ∷ []) ≡ (has_number n ks || (m == n))
with_other false own n m ks test other = any_end n m ks
with_other true own n m ks test other = if_there (m == n) own n m ks refl test other

own_absent : (b : Bool) (own m : ℕ) (ks : List ℕ) → ((m == own) || has_number m ks) ≡ b → has_number own ks ≡ false → has_number own (if b then ks else ks ++ m ∷ []) ≡ false
own_absent true own m ks test h = h
own_absent false own m ks test h = any_end own m ks ∙ both_false (has_number own ks) (m == own) h (left_false (m == own) (has_number m ks) test)

end_once : (m : ℕ) (ks : List ℕ) → has_number m ks ≡ false → each_once ks ≡ true → each_once (ks ++ m ∷ []) ≡ true
end_once m [] absent h = refl
end_once m (k ∷ ks) absent h =
    let here = any_end k m ks ∙ both_false (has_number k ks) (m == k) (left_and (has_number k ks) (each_once ks) h) (flip (m == k) k m refl (left_false (k == m) (has_number m ks) absent)) in
    and_both (has_number k (ks ++ m ∷ [])) (each_once (ks ++ m ∷ [])) here (end_once m ks (right_false (k == m) (has_number m ks) absent) (right_and (has_number k ks) (each_once ks) h))

with_once : (b : Bool) (own m : ℕ) (ks : List ℕ) → ((m == own) || has_number m ks) ≡ b → each_once ks ≡ true → each_once (if b then ks else ks ++ m ∷ []) ≡ true
with_once true own m ks test h = h
with_once false own m ks test h = end_once m ks (right_false (m == own) (has_number m ks) test) h

-- ---- all of them

others_from : (own n : ℕ) (ks : List ℕ) (cs : List Checkpoint) → (n == own) ≡ false → has_number n (named_from own ks cs) ≡ (has_number n ks || is_named n cs)
others_from own n ks [] other = sym (or_none (has_number n ks))
others_from own n ks (c ∷ cs) other =
    others_from own n (with_name own ks c.manifest_id) cs other
    ∙ ap (λ (b : Bool). b || is_named n cs) (with_other ((c.manifest_id == own) || has_number c.manifest_id ks) own n c.manifest_id ks refl other)
    ∙ or_assoc (has_number n ks) (c.manifest_id == n) (is_named n cs)

own_from : (own : ℕ) (ks : List ℕ) (cs : List Checkpoint) → has_number own ks ≡ false → has_number own (named_from own ks cs) ≡ false
own_from own ks [] h = h
own_from own ks (c ∷ cs) h = own_from own (with_name own ks c.manifest_id) cs (own_absent ((c.manifest_id == own) || has_number c.manifest_id ks) own c.manifest_id ks refl h)

once_from : (own : ℕ) (ks : List ℕ) (cs : List Checkpoint) → each_once ks ≡ true → each_once (named_from own ks cs) ≡ true
once_from own ks [] h = h
once_from own ks (c ∷ cs) h = once_from own (with_name own ks c.manifest_id) cs (with_once ((c.manifest_id == own) || has_number c.manifest_id ks) own c.manifest_id ks refl h)

pub named_once : (own : ℕ) (cs : List Checkpoint) → each_once (named_numbers own cs) ≡ true
named_once own cs = once_from own [] cs refl

pub own_unnamed : (own : ℕ) (cs : List Checkpoint) → has_number own (named_numbers own cs) ≡ false
own_unnamed own cs = own_from own [] cs refl

pub others_named : (own n : ℕ) (cs : List Checkpoint) → (n == own) ≡ false → has_number n (named_numbers own cs) ≡ is_named n cs
others_named own n cs other = others_from own n [] cs other
