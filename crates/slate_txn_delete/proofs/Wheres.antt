-- What holds where memory runs out, made another fact.
use Rattle.std.specs.Prelude.{◌≡◌, true}
use Rattle.slate_ids.specs.Answers.{ran_out}
use Rattle.slate_txn_log.specs.Due.{WhereOut}
use Rattle.slate_store.specs.declared.step.Step.{Step}
use Rattle.slate_store.specs.declared.step.Step.TheVariants.{Again, Done}

-- where memory runs out, one fact gives another
pub where_out : {R P Q : Type 0} (step : Step R) → (P → Q) → WhereOut step P → WhereOut step Q
where_out Again f h = tt
where_out (Done r) f h = λ out. f (h out)
