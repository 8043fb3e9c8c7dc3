use Rattle.slate_layout_encodable.proofs.NormalLaws.{normal_again, normal_only, normal_told}
use Rattle.slate_layout_encoding.proofs.NormalKept.{encoded_kept}
use Rattle.slate_layout.proofs.laws.normal_laws.Goals as goal

pub returns-clause-again : goal.returns-clause-again
returns-clause-again c = normal_again

pub returns-clause-same : goal.returns-clause-same
returns-clause-same c = encoded_kept

pub returns-clause-test : goal.returns-clause-test
returns-clause-test c = λ m. (normal_only m, normal_told m)
