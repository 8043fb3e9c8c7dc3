-- The order of fences: who raised the epochs that parties hold, and with which records were put.
use Rattle.std.specs.Prelude.{◌≡◌, ℕ, ◌<◌, Some}
use Rattle.slate_txn_log.specs.declared.log_kind.LogKind.TheVariants as logs
use Rattle.slate_model_records.specs.Records.{Record}
use Rattle.slate_state_calls.specs.declared.compactor.Compactor.{Compactor}
use Rattle.slate_cluster_protocol.specs.Chains.{Link, link_at}
use Rattle.slate_cluster_protocol.specs.Fenced.{record_epoch_in}
use Rattle.slate_cluster_protocol.specs.Holding.{open_in, raised_at}
use Rattle.slate_cluster_protocol.specs.Logs.{Author, Chain, Chains, record_change_by}
use Rattle.slate_cluster_protocol.specs.declared.party.Party.{Party}
use Rattle.slate_cluster_chain_laws.specs.Raises.{HasRaised}

-- the epochs that a party holds are its own
pub record OwnEpochs (chains : Chains) (n : ℕ) (p : Party) : Type 0 where
  -- the epoch that an open of a compactor has raised, this party raised
  pub raised : (epoch : ℕ) → open_in raised_at p.state ≡ Some epoch → HasRaised (chains logs.Manifest p.facts.db) n epoch
  -- so did it the epoch of the compactor that it holds
  pub opened : (c : Compactor) → p.facts.compactor ≡ Some c → HasRaised (chains logs.Manifest p.facts.db) n c.epoch
  -- and once it has raised another one in an open again, the one held is below that
  pub again : (c : Compactor) (epoch : ℕ) → p.facts.compactor ≡ Some c → open_in raised_at p.state ≡ Some epoch → c.epoch < epoch

-- each epoch with which a record was put was raised by the party that put it
abbrev pub PutByRaisers : Chain logs.Manifest → Chain logs.Compactions → Type 0
PutByRaisers manifests c = (number : ℕ) (l : Link Record Author) (author : Author) (epoch : ℕ) → link_at number c ≡ Some l → l.by ≡ Some author → record_epoch_in (record_change_by author.puts) ≡ Some epoch
    → HasRaised manifests author.party epoch
