-- Which numbers are spare: the greatest version has no need of them.
use Rattle.std.proofs.Common.{◌≡◌, ◌≢◌, ℕ, ◌+◌, ◌<◌, Bool, true, false, List, [], ◌∷◌, Some, None, ⊎_elim, refl, sym, ◌∙◌, subst, arith}
use Rattle.slate_cluster_protocol.specs.Chains.{Link, Log, link_at, IsChain}
use Rattle.slate_cluster_protocol.specs.Reach.{names_top, IsNeeded, IsSpare}
use Rattle.slate_cluster_protocol.specs.Reach.IsNeeded.{Greatest, Named}
use Rattle.slate_cluster_chain_laws.proofs.LogRules.{IsLog}
use Rattle.slate_cluster_chain_laws.proofs.Links.{link_here, link_there, same_or_not, at_most}

module _ {V A : Type 0} (log : Log V A) where
  -- what is spare isn't needed
  pub not_needed : (c : List (Link V A)) (k : ℕ) → IsSpare log c k → IsNeeded log c k → ⊥
  not_needed c k h (Greatest pos e) = let lt = h.below in omega arith
  not_needed c k h (Named named) = cc (named, h.unnamed)

  -- so a spare number is another than a needed one
  pub spare_else : (c : List (Link V A)) (k n : ℕ) → IsSpare log c n → IsNeeded log c k → k ≢ n
  spare_else c k n h needed e = not_needed c n h (subst (λ j. IsNeeded log c j) e needed)

  module _ (laws : IsLog log) where
    -- what a value doesn't name, and is no number of a later one, the next doesn't name
    unnamed_next : (n : ℕ) (old new : V) (k : ℕ) (right : _) → log.refusal n old new right ≡ None → k ≢ n + 1 → log.names old k ≡ false → (b : Bool) → log.names new k ≡ b → b ≡ false
    unnamed_next n old new k right lawful ne h false is = refl
    unnamed_next n old new k right lawful ne h true is = absurd (⊎_elim (λ (e : k ≡ n + 1). ne e) (λ (named : log.names old k ≡ true). cc (named, h)) (laws.known n old new right k lawful is))

    pub stays_unnamed : (n : ℕ) (old new : V) (k : ℕ) (right : _) → log.refusal n old new right ≡ None → k ≢ n + 1 → log.names old k ≡ false → log.names new k ≡ false
    stays_unnamed n old new k right lawful ne h = unnamed_next n old new k right lawful ne h (log.names new k) refl

    -- an old number that a version doesn't name, the greatest doesn't name
    pub unnamed_up : (c : List (Link V A)) (n k : ℕ) (l : Link V A) → IsChain log c → link_at n c ≡ Some l → k < n → log.names l.value k ≡ false → names_top log c k ≡ false
    unnamed_up [] n k l h at lt un = absurd cc
    unnamed_up (first ∷ []) n k l h at lt un =
        ⊎_elim
        (λ (e : first.number ≡ n). let same : first ≡ l = cc (link_here n first [] e, at) in subst (λ (x : Link V A). log.names x.value k ≡ false) (sym same) un)
        (λ (ne : first.number ≢ n). absurd (cc (link_there n first [] ne, at)))
        (same_or_not first.number n)
    unnamed_up (new ∷ old ∷ c) n k l h at lt un =
        ⊎_elim
        (λ (e : new.number ≡ n). let same : new ≡ l = cc (link_here n new (old ∷ c) e, at) in subst (λ (x : Link V A). log.names x.value k ≡ false) (sym same) un)
        (λ (ne : new.number ≢ n).
        let there : link_at n (old ∷ c) ≡ Some l = sym (link_there n new (old ∷ c) ne) ∙ at in
        let before = unnamed_up (old ∷ c) n k l h.1 there lt un in
        let le = at_most log n l (old ∷ c) h.1 there in
        stays_unnamed old.number old.value new.value k (log.right h.0.author) h.0.lawful (λ (e : k ≡ old.number + 1). omega arith) before)
        (same_or_not new.number n)

    -- an old number that a committed version doesn't name is spare
    pub spare_below : (c : List (Link V A)) (n k : ℕ) (l : Link V A) → IsChain log c → link_at n c ≡ Some l → k < n → log.names l.value k ≡ false → IsSpare log c k
    spare_below c n k l h at lt un = let le = at_most log n l c h at in record { below = omega arith; unnamed = unnamed_up c n k l h at lt un }
