use Rattle.slate_cluster_pass_laws.proofs.DryRuns as dry
use Rattle.slate_cluster_pass_laws.proofs.exact_passes.dry_run.Goals as goal

pub returns : goal.returns
returns c = dry.dry_run
