use Rattle.std.proofs.Common.{refl}
use Rattle.slate_txn_laws.proofs.beginnings.first_ready.Goals as goal

pub returns : goal.returns
returns c = λ db log tag. record { fine = tt; below = refl }
