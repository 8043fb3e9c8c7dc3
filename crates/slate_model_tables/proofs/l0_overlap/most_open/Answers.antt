use Rattle.std.proofs.Common.{◌≡◌, ◌⊎◌, ◌∙◌, ◌+◌, ◌<◌, ◌≤◌, ℕ, Bool, true, false, List, length, nat_lt, inl, inr, refl, arith}
use Rattle.std.proofs.lemmas.Bool.Decides.{nat_tests}
use Rattle.slate_model_tables.specs.Overlap.{open_at}
use Rattle.slate_model_tables.proofs.l0_overlap.most_open.Goals as goal

-- the most of some starts
record SoFar (starts ends limits : List (List ℕ)) (i most : ℕ) : Type 0 where
  greatest : (k : ℕ) (d : List ℕ) → k < i → open_at starts ends limits k d ≤ most
  reached : (most ≡ 0) ⊎ ((k : ℕ) × (k < length starts) × ((d : List ℕ) → most ≡ open_at starts ends limits k d))

below_next : (k i : ℕ) → k < i + 1 → (k < i) ⊎ (k ≡ i)
below_next k i l = by (nat_lt k i) refl
  where
    by : (b : Bool) → nat_lt k i ≡ b → (k < i) ⊎ (k ≡ i)
    by true e = inl (grind (arith, nat_tests))
    by false e = inr (grind (arith, nat_tests))

more : (starts ends limits : List (List ℕ)) (i most count next : ℕ) → i < length starts → ((d : List ℕ) → count ≡ open_at starts ends limits i d) → most ≤ next → count ≤ next → (next ≡ most) ⊎ (next ≡ count) → SoFar starts ends limits i most → SoFar starts ends limits (i + 1) next
more starts ends limits i most count next l o a b one h = record {
  greatest = λ k d m. fits k d (below_next k i m);
  reached = from one h.reached;
}
  where
    fits : (k : ℕ) (d : List ℕ) → (k < i) ⊎ (k ≡ i) → open_at starts ends limits k d ≤ next
    fits k d (inl m) = let w = h.greatest k d m in omega arith
    fits k d (inr e) = let w = o d in rw e (omega arith)

    from : (next ≡ most) ⊎ (next ≡ count) → (most ≡ 0) ⊎ ((k : ℕ) × (k < length starts) × ((d : List ℕ) → most ≡ open_at starts ends limits k d)) → (next ≡ 0) ⊎ ((k : ℕ) × (k < length starts) × ((d : List ℕ) → next ≡ open_at starts ends limits k d))
    from (inl e) (inl z) = inl (e ∙ z)
    from (inl e) (inr w) = inr (w.0, w.1, λ d. e ∙ w.2 d)
    from (inr e) r = inr (i, l, λ d. e ∙ o d)

pub loop-i-preserved : goal.loop-i-preserved
loop-i-preserved c =
    let next = more c.args.starts.now c.args.ends.now c.args.limits.now c.loop-i.i c.loop-i.most c.open_at-count.result c.larger-most.result c.loop-i-test.true c.open_at-count.ensures c.larger-most.ensures.first c.larger-most.ensures.second c.larger-most.ensures.one (record { greatest = c.loop-i.invariant.greatest; reached = c.loop-i.invariant.reached }) in
    record { greatest = next.greatest; reached = next.reached }

pub returns : goal.returns
returns c = record { greatest = λ k d l. c.loop-i.invariant.greatest k d (omega (arith, c.loop-i-test.false)); reached = c.loop-i.invariant.reached }
