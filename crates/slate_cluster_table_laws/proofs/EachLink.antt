-- What holds of each version of a chain, after an event.
use Rattle.std.proofs.Common.{◌≡◌, ◌==◌, ℕ, Bool, true, false, List, [], ◌∷◌, Some, sym, subst}
use Rattle.std.specs.Prelude.{if◌then◌else◌}
use Rattle.slate_cluster_protocol.specs.Chains.{Link, Log, link_at, IsChain, IsFirst, Follows, Changed}
use Rattle.slate_cluster_protocol.specs.Chains.Changed.{Stays, Gets}
use Rattle.slate_cluster_protocol.specs.Logs.{Author}
use Rattle.slate_cluster_table_laws.specs.Links.{EachValue}

-- what holds of each holds of each also in weaker words
pub each_weaker : {V : Type 0} (P Q : V → Type 0) → ((v : V) → P v → Q v) → (c : List (Link V Author)) → EachValue P c → EachValue Q c
each_weaker P Q f [] h = tt
each_weaker P Q f (l ∷ c) h = (f l.value h.0, each_weaker P Q f c h.1)

-- the chain stays, or its new version has it
module _ {V : Type 0} (log : Log V Author) (P : V → Type 0) (author : Author)
    (first : (l : Link V Author) → l.by ≡ Some author → IsFirst log l → P l.value)
    (next : (old new : Link V Author) → (f : Follows log old new) → f.author ≡ author → P old.value → P new.value) where
  new_has : (new : Link V Author) (c : List (Link V Author)) → new.by ≡ Some author → IsChain log (new ∷ c) → EachValue P c → P new.value
  new_has new [] by chain h = first new by chain
  new_has new (old ∷ c) by chain h = let same : chain.0.author ≡ author = cc (chain.0.by, by) in next old new chain.0 same h.0

  pub each_next : (c c' : List (Link V Author)) → Changed (λ (a : Author). a ≡ author) c c' → IsChain log c' → EachValue P c → EachValue P c'
  each_next c c' (Stays same) chain h = subst (EachValue P) (sym same) h
  each_next c c' (Gets new who by is same) chain h =
      let own : new.by ≡ Some author = cc (by, is) in
      subst (EachValue P) (sym same) (new_has new c own (subst (IsChain log) same chain) h, h)

-- so of the version of a number
module _ {V : Type 0} (P : V → Type 0) where
  pub each_at : (c : List (Link V Author)) → EachValue P c → (number : ℕ) (l : Link V Author) → link_at number c ≡ Some l → P l.value
  each_at [] h number l at = absurd (cc at)
  each_at (m ∷ c) h number l at = by (m.number == number) at (each_at c h.1 number l)
    where
      by : (b : Bool) → (if b then Some m else link_at number c) ≡ Some l → (link_at number c ≡ Some l → P l.value) → P l.value
      by true is rest = let same : m ≡ l = cc is in subst (λ (x : Link V Author). P x.value) same h.0
      by false is rest = rest is
