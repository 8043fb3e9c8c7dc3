use Rattle.slate_state_complete.proofs.ReferencedWalks.{referenced_ends, referenced_inside}
use Rattle.slate_state_complete.proofs.referenced_reads.referenced_ends.Goals as goal

pub returns-clause-answers : goal.returns-clause-answers
returns-clause-answers c = referenced_ends

pub returns-clause-inside : goal.returns-clause-inside
returns-clause-inside c = λ db decoded n m inside old new s result ran serves. referenced_inside db decoded n m new s result inside (referenced_ends db decoded n m old new s result ran serves)
