-- What a step of a party's call did, at the store itself.
use Rattle.std.specs.Prelude.{◌≡◌, ℤ}
use Rattle.slate_store.specs.Store.{Store, effect}
use Rattle.slate_store.specs.declared.mark.Mark.{Mark}
use Rattle.slate_store.specs.declared.made.Made.{Made}
use Rattle.slate_cluster_protocol.specs.Works.{asks}
use Rattle.slate_cluster_protocol.specs.Rows.{Standing, moved}
use Rattle.slate_cluster_protocol.specs.declared.party.Facts.{Facts}
use Rattle.slate_cluster_protocol.specs.declared.party.Task.{Task}

-- the one store call that the work asks was made under a mark, its answer is the store's, and the call stands as its row says
pub record IsPartyStep (known : Facts) (task : Task) (moment : ℤ) (mark : Mark) (old new : Store) (made : Made) (to : Standing) : Type 0 where
  pub call : made.call ≡ asks task.work
  pub answer : made.answer ≡ (effect mark (asks task.work) moment old).answer
  pub store : new ≡ (effect mark (asks task.work) moment old).store
  pub stands : moved known task.call task.work moment (effect mark (asks task.work) moment old).answer ≡ to
