use Rattle.slate_txn_log.specs.declared.right.Right.TheVariants.{Plain}
use Rattle.slate_state_updates.specs.ManifestChanges.{made}
use Rattle.slate_txn_laws.proofs.ApplyWalks.{apply_ends, apply_latest}
use Rattle.slate_state_holders.specs.ManifestHolders.{manifest_ways}
use Rattle.slate_state_complete.proofs.Commits.{commit_inside}
use Rattle.slate_state_complete.proofs.Refusals.{changes_inside}
use Rattle.slate_state_complete.proofs.change_calls.changes_end.Goals as goal

pub returns-clause-answers : goal.returns-clause-answers
returns-clause-answers c = λ change moment tries from to two named small old new s result applies serves ready. apply_ends (manifest_ways (made change moment) Plain) moment tries old new s from to result applies two named small serves ready

pub returns-clause-latest : goal.returns-clause-latest
returns-clause-latest c = λ change moment tries from to some named small old new s result applies serves ready top. apply_latest (manifest_ways (made change moment) Plain) moment tries old new s from to result applies some named small serves ready top

pub returns-clause-inside : goal.returns-clause-inside
returns-clause-inside c = λ change moment tries from to two named small old new s result applies serves ready. commit_inside (manifest_ways (made change moment) Plain) (changes_inside change moment) moment tries old new s from to result applies two named small serves ready
