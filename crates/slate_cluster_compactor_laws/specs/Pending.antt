-- What a compactor holds beside the greatest record of its database, while no other has raised the epoch above its own.
use Rattle.std.specs.Prelude.{◌≡◌, ℕ, List, [], ◌∷◌, Some}
use Rattle.slate_txn_log.specs.declared.log_kind.LogKind.TheVariants as logs
use Rattle.slate_state_calls.specs.declared.compactor.Compactor.{Compactor}
use Rattle.slate_cluster_protocol.specs.Chains.{Link}
use Rattle.slate_cluster_protocol.specs.Logs.{Author, Chain, Chains}
use Rattle.slate_cluster_protocol.specs.declared.party.Party.{Party}
use Rattle.slate_cluster_chain_laws.specs.Locals.{IsHeldIn, ObeyOutputs}

-- the compactors' epoch of the greatest manifest is this one
abbrev pub IsTopEpoch : ℕ → Chain logs.Manifest → Type 0
IsTopEpoch epoch [] = ⊥
IsTopEpoch epoch (l ∷ c) = l.value.compactor_epoch ≡ epoch

-- the greatest version of a chain is there, and has it
abbrev pub OfTop : {V : Type 0} → (V → Type 0) → List (Link V Author) → Type 0
OfTop P [] = ⊥
OfTop P (l ∷ c) = P l.value

-- what the compactor of a party holds
pub record HoldsPending (chains : Chains) (p : Party) : Type 0 where
  -- while its epoch is that of the greatest manifest, it is in the greatest record
  pub held : (c : Compactor) → p.facts.compactor ≡ Some c → IsTopEpoch c.epoch (chains logs.Manifest p.facts.db) → OfTop (λ r. IsHeldIn r c.local) (chains logs.Compactions p.facts.db)
  -- its compactions obey the rule on outputs
  pub outputs : (c : Compactor) → p.facts.compactor ≡ Some c → ObeyOutputs c.local.compactions.entries
