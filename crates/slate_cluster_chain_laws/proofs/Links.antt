-- What holds of chains alone.
use Rattle.std.proofs.Common.{◌≡◌, ◌≢◌, ℕ, ◌+◌, ◌<◌, ◌≤◌, ◌==◌, Bool, true, false, List, [], ◌∷◌, Some, None, Ok, ◌⊎◌, ⊎_elim, refl, sym, ap, ◌∙◌, subst, arith}
use Rattle.std.proofs.lemmas.Bool.Decides.{nat_tests}
use Rattle.std.specs.Prelude.{if◌then◌else◌}
use Rattle.slate_cluster_protocol.specs.Chains.{Link, Log, link_at, top, IsFirst, IsChain}
use Rattle.slate_cluster_protocol.specs.Chains.IsFirst.{Opens, Begins}
use Rattle.slate_cluster_chain_laws.proofs.LogRules.{IsLog, IsMade}
use Rattle.slate_cluster_chain_laws.proofs.LogRules.IsMade.{OfVersion, OfNone}

pub same_or_not : (a b : ℕ) → (a ≡ b) ⊎ (a ≢ b)
same_or_not a b = grind (arith, nat_tests)

pub le_or_lt : (a b : ℕ) → (a ≤ b) ⊎ (b < a)
le_or_lt a b = grind arith

eq_test : (a b : ℕ) → a ≡ b → (a == b) ≡ true
eq_test a b e = grind (arith, nat_tests)

ne_test : (a b : ℕ) → a ≢ b → (a == b) ≡ false
ne_test a b ne = grind (arith, nat_tests)

module _ {V A : Type 0} where
  pub link_here : (n : ℕ) (l : Link V A) (c : List (Link V A)) → l.number ≡ n → link_at n (l ∷ c) ≡ Some l
  link_here n l c e = ap (λ (b : Bool). if b then Some l else link_at n c) (eq_test l.number n e)

  pub link_there : (n : ℕ) (l : Link V A) (c : List (Link V A)) → l.number ≢ n → link_at n (l ∷ c) ≡ link_at n c
  link_there n l c ne = ap (λ (b : Bool). if b then Some l else link_at n c) (ne_test l.number n ne)

  -- what is found at a number has it
  pub link_number : (n : ℕ) (l : Link V A) (c : List (Link V A)) → link_at n c ≡ Some l → l.number ≡ n
  link_number n l [] h = absurd cc
  link_number n l (m ∷ c) h =
      ⊎_elim
      (λ (e : m.number ≡ n). let same : m ≡ l = cc (link_here n m c e, h) in subst (λ (k : Link V A). k.number ≡ n) same e)
      (λ (ne : m.number ≢ n). link_number n l c (sym (link_there n m c ne) ∙ h))
      (same_or_not m.number n)

module _ {V A : Type 0} (log : Log V A) where
  -- the first version has the number 1
  pub first_number : (first : Link V A) → IsFirst log first → first.number ≡ 1
  first_number first (Opens number by value own) = number
  first_number first (Begins author made number by makes bytes value) = number

  -- its bytes decode to its value
  first_decodes : IsLog log → (first : Link V A) → IsFirst log first → log.decoded first.bytes ≡ Ok first.value
  first_decodes laws first (Opens number by value own) = value
  first_decodes laws first (Begins author made number by makes bytes value) = laws.round made first.bytes bytes ∙ ap (λ (v : V). Ok v) (sym value)

  -- no number above the greatest is committed
  pub none_above : (k : ℕ) (c : List (Link V A)) → IsChain log c → top c < k → link_at k c ≡ None
  none_above k [] h lt = refl
  none_above k (l ∷ []) h lt = link_there k l [] (λ (e : l.number ≡ k). omega arith)
  none_above k (l ∷ m ∷ c) h lt =
      let up = h.0.number in
      link_there k l (m ∷ c) (λ (e : l.number ≡ k). omega arith) ∙ none_above k (m ∷ c) h.1 (omega arith)

  -- each number from 1 to the greatest is
  pub some_below : (k : ℕ) (c : List (Link V A)) → IsChain log c → 0 < k → k ≤ top c → link_at k c ≢ None
  some_below k [] h pos le = absurd (omega arith)
  some_below k (l ∷ []) h pos le =
      let one = first_number l h in
      λ (none : link_at k (l ∷ []) ≡ None). absurd (cc (link_here k l [] (omega arith), none))
  some_below k (l ∷ m ∷ c) h pos le =
      let up = h.0.number in
      ⊎_elim
      (λ (e : l.number ≡ k). λ (none : link_at k (l ∷ m ∷ c) ≡ None). absurd (cc (link_here k l (m ∷ c) e, none)))
      (λ (ne : l.number ≢ k). λ (none : link_at k (l ∷ m ∷ c) ≡ None). some_below k (m ∷ c) h.1 pos (omega arith) (sym (link_there k l (m ∷ c) ne) ∙ none))
      (same_or_not l.number k)

  -- what is committed is at or below the greatest
  pub at_most : (k : ℕ) (l : Link V A) (c : List (Link V A)) → IsChain log c → link_at k c ≡ Some l → k ≤ top c
  at_most k l c h at = ⊎_elim (λ (le : k ≤ top c). le) (λ (lt : top c < k). absurd (cc (none_above k c h lt, at))) (le_or_lt k (top c))

  -- a number after a committed one that is not committed is the one after the greatest
  pub next_is_top : (n : ℕ) (l : Link V A) (c : List (Link V A)) → IsChain log c → link_at n c ≡ Some l → link_at (n + 1) c ≡ None → n ≡ top c
  next_is_top n l c h at fresh =
      let le = at_most n l c h at in
      ⊎_elim
      (λ (more : n + 1 ≤ top c). absurd (some_below (n + 1) c h (omega arith) more fresh))
      (λ (over : top c < n + 1). omega arith)
      (le_or_lt (n + 1) (top c))

  -- where no first number is committed, none is
  zero_top : (c : List (Link V A)) → IsChain log c → link_at 1 c ≡ None → top c ≡ 0
  zero_top c h none =
      ⊎_elim
      (λ (some : 1 ≤ top c). absurd (some_below 1 c h (omega arith) some none))
      (λ (lt : top c < 1). omega arith)
      (le_or_lt 1 (top c))

  -- the number of what was made is the one after the greatest, unless it is committed
  pub next_number : (c : List (Link V A)) → IsChain log c → (author : A) (n : ℕ) (v : V) → IsMade log c author n v → link_at n c ≡ None → n ≡ top c + 1
  next_number c h author n v (OfVersion old at number makes lawful passed) fresh = number ∙ ap (λ k. k + 1) (next_is_top old.number old c h at (subst (λ k. link_at k c ≡ None) number fresh))
  next_number c h author n v (OfNone number makes) fresh = number ∙ sym (ap (λ k. k + 1) (zero_top c h (subst (λ k. link_at k c ≡ None) number fresh)))

  -- the bytes of a committed version decode to its value
  pub decodes : IsLog log → (n : ℕ) (l : Link V A) (c : List (Link V A)) → IsChain log c → link_at n c ≡ Some l → log.decoded l.bytes ≡ Ok l.value
  decodes laws n l [] h at = absurd cc
  decodes laws n l (first ∷ []) h at =
      ⊎_elim
      (λ (e : first.number ≡ n). let same : first ≡ l = cc (link_here n first [] e, at) in subst (λ (k : Link V A). log.decoded k.bytes ≡ Ok k.value) same (first_decodes laws first h))
      (λ (ne : first.number ≢ n). absurd (cc (link_there n first [] ne, at)))
      (same_or_not first.number n)
  decodes laws n l (new ∷ old ∷ c) h at =
      ⊎_elim
      (λ (e : new.number ≡ n). let same : new ≡ l = cc (link_here n new (old ∷ c) e, at) in
      subst (λ (k : Link V A). log.decoded k.bytes ≡ Ok k.value) same (laws.round h.0.made new.bytes h.0.bytes ∙ ap (λ (v : V). Ok v) (sym h.0.value)))
      (λ (ne : new.number ≢ n). decodes laws n l (old ∷ c) h.1 (sym (link_there n new (old ∷ c) ne) ∙ at))
      (same_or_not new.number n)
