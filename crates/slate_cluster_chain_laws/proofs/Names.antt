-- No committed version names a number above its own, and numbers begin at 1.
use Rattle.std.proofs.Common.{◌≡◌, ◌≢◌, ℕ, ◌+◌, ◌<◌, ◌≤◌, true, List, [], ◌∷◌, Some, ◌⊎◌, ⊎_elim, sym, ap, ◌∙◌, subst, arith}
use Rattle.slate_cluster_protocol.specs.Chains.{Link, Log, link_at, top, IsFirst, IsChain}
use Rattle.slate_cluster_protocol.specs.Chains.IsFirst.{Opens, Begins}
use Rattle.slate_cluster_chain_laws.proofs.LogRules.{IsLog}
use Rattle.slate_cluster_chain_laws.proofs.Links.{first_number, link_here, link_there, same_or_not}

module _ {V A : Type 0} (log : Log V A) where
  -- a chain with a version has a greatest number of at least 1
  pub some_top : (c : List (Link V A)) (n : ℕ) (l : Link V A) → IsChain log c → link_at n c ≡ Some l → 0 < top c
  some_top [] n l h at = absurd cc
  some_top (first ∷ []) n l h at = let one = first_number log first h in omega arith
  some_top (new ∷ old ∷ c) n l h at = let up = h.0.number in omega arith

  -- so has each version
  pub some_number : (c : List (Link V A)) (n : ℕ) (l : Link V A) → IsChain log c → link_at n c ≡ Some l → 0 < n
  some_number [] n l h at = absurd cc
  some_number (first ∷ []) n l h at =
      ⊎_elim
      (λ (e : first.number ≡ n). let one = first_number log first h in omega arith)
      (λ (ne : first.number ≢ n). absurd (cc (link_there n first [] ne, at)))
      (same_or_not first.number n)
  some_number (new ∷ old ∷ c) n l h at =
      ⊎_elim
      (λ (e : new.number ≡ n). let up = h.0.number in omega arith)
      (λ (ne : new.number ≢ n). some_number (old ∷ c) n l h.1 (sym (link_there n new (old ∷ c) ne) ∙ at))
      (same_or_not new.number n)

  module _ (laws : IsLog log) where
    first_names : (first : Link V A) → IsFirst log first → (k : ℕ) → log.names first.value k ≡ true → k ≤ first.number
    first_names first (Opens number by value own) k named = let one = own k named in omega arith
    first_names first (Begins author made number by makes bytes value) k named =
        let one = laws.first author made k makes (sym (ap (λ (v : V). log.names v k) value) ∙ named) in
        omega arith

    top_names : (new : Link V A) (c : List (Link V A)) → IsChain log (new ∷ c) → (k : ℕ) → log.names new.value k ≡ true → k ≤ new.number
    top_names new [] h k named = first_names new h k named
    top_names new (old ∷ c) h k named =
        let up = h.0.number in
        ⊎_elim
        (λ (e : k ≡ old.number + 1). omega arith)
        (λ (before : log.names old.value k ≡ true). let le = top_names old c h.1 k before in omega arith)
        (laws.known old.number old.value new.value (log.right h.0.author) k h.0.lawful named)

    pub names_below : (c : List (Link V A)) (n k : ℕ) (l : Link V A) → IsChain log c → link_at n c ≡ Some l → log.names l.value k ≡ true → k ≤ n
    names_below [] n k l h at named = absurd cc
    names_below (new ∷ c) n k l h at named =
        ⊎_elim
        (λ (e : new.number ≡ n).
        let same : new ≡ l = cc (link_here n new c e, at) in
        let le = top_names new c h k (subst (λ (x : Link V A). log.names x.value k ≡ true) (sym same) named) in
        omega arith)
        (λ (ne : new.number ≢ n). below c h (sym (link_there n new c ne) ∙ at) (λ g there. names_below c n k l g there named))
        (same_or_not new.number n)
      where
        below : (c : List (Link V A)) → IsChain log (new ∷ c) → link_at n c ≡ Some l → (IsChain log c → link_at n c ≡ Some l → k ≤ n) → k ≤ n
        below [] h there f = absurd cc
        below (old ∷ c) h there f = f h.1 there
