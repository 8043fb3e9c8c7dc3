-- What follows from a version to the next holds of each step of a chain.
use Rattle.std.proofs.Common.{List, [], ◌∷◌}
use Rattle.slate_cluster_protocol.specs.Chains.{Link, Log, IsChain, Follows}
use Rattle.slate_cluster_protocol.specs.Logs.{Author}
use Rattle.slate_cluster_chain_laws.specs.ChainSteps.{EachStep}

module _ {V : Type 0} (log : Log V Author) (P : Author → V → V → Type 0) (step : (old new : Link V Author) (f : Follows log old new) → P f.author old.value new.value) where
  pub each_step : (c : List (Link V Author)) → IsChain log c → EachStep P c
  each_step [] h = tt
  each_step (first ∷ []) h = tt
  each_step (new ∷ old ∷ c) h = (record { author = h.0.author; is = h.0.by; has = step old new h.0 }, each_step (old ∷ c) h.1)
