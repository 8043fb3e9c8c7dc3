use Rattle.slate_txn_laws.proofs.Inside.{update_inside}
use Rattle.slate_txn_laws.proofs.UpdateWalks.{update_ends}
use Rattle.slate_txn_laws.proofs.updates.update_ends.Goals as goal

pub returns : goal.returns
returns g c = record {
  answers = λ refusal encoded moment holder dirty right named small old new s result updates serves ready. update_ends refusal encoded moment old new s holder dirty right result updates named small serves ready;
  inside = λ refusal encoded moment holder dirty right own encodes allows named small old new s result updates serves ready latest.
      update_inside refusal encoded s new holder dirty right result latest own encodes allows (update_ends refusal encoded moment old new s holder dirty right result updates named small serves ready);
}
