-- Who raised the epoch of the compactors of a database.
use Rattle.std.specs.Prelude.{◌≡◌, ◌≢◌, ℕ, ◌+◌, Some}
use Rattle.slate_model.specs.declared.manifest.Manifest.{Manifest}
use Rattle.slate_state_updates.specs.declared.manifest_change.ManifestChange.TheVariants.{RaiseCompactor}
use Rattle.slate_txn_log.specs.declared.log_kind.LogKind.TheVariants as logs
use Rattle.slate_cluster_protocol.specs.Chains.{Link, link_at}
use Rattle.slate_cluster_protocol.specs.Logs.{Author, Chain, Puts, OfManifest}

-- a committed manifest by which a party raised the compactors' epoch to this one
pub record HasRaised (c : Chain logs.Manifest) (n e : ℕ) : Type 0 where
  pub number : ℕ
  pub link : Link Manifest Author
  pub at : link_at number c ≡ Some link
  pub author : Author
  pub by : link.by ≡ Some author
  pub party : author.party ≡ n
  pub puts : author.puts ≡ OfManifest RaiseCompactor
  pub epoch : link.value.compactor_epoch ≡ e

-- how the compactors' epoch goes from a manifest to the next: a raise adds one to it, and what else is put leaves it as it is
pub data RaisesOrKeeps (puts : Puts) (old new : Manifest) : Type 0 where
  Raises : puts ≡ OfManifest RaiseCompactor → new.compactor_epoch ≡ old.compactor_epoch + 1 → RaisesOrKeeps puts old new
  Keeps : puts ≢ OfManifest RaiseCompactor → new.compactor_epoch ≡ old.compactor_epoch → RaisesOrKeeps puts old new
