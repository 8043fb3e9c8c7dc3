use Rattle.slate_txn_log.specs.declared.right.Right.TheVariants.{Plain}
use Rattle.slate_state_updates.specs.ManifestChanges.{made}
use Rattle.slate_txn_laws.proofs.ApplyWalks.{apply_ends, apply_latest}
use Rattle.slate_state_holders.specs.ManifestHolders.{manifest_ways}
use Rattle.slate_state_complete.proofs.Commits.{answers_by, commit_inside, gives_inside}
use Rattle.slate_state_complete.proofs.Refusals.{changes_inside}
use Rattle.slate_state_complete.proofs.checkpoint_calls.checkpoint_calls_end.Goals as goal

pub returns-clause-answers : goal.returns-clause-answers
returns-clause-answers c = λ id change moment tries from to two named small old new s result call serves ready.
    answers_by (manifest_ways (made change moment) Plain) id s new from to result call.reply (apply_ends (manifest_ways (made change moment) Plain) moment tries old new s from to call.reply call.changed two named small serves ready) call.answers

pub returns-clause-latest : goal.returns-clause-latest
returns-clause-latest c = λ id change moment tries from to some named small old new s result call serves ready top.
    answers_by (manifest_ways (made change moment) Plain) id s new from to result call.reply (apply_latest (manifest_ways (made change moment) Plain) moment tries old new s from to call.reply call.changed some named small serves ready top) call.answers

pub returns-clause-inside : goal.returns-clause-inside
returns-clause-inside c = λ id change moment tries from to two named small old new s result call serves ready.
    gives_inside id to.object call.reply result (commit_inside (manifest_ways (made change moment) Plain) (changes_inside change moment) moment tries old new s from to call.reply call.changed two named small serves ready) call.answers
