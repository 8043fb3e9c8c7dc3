use Rattle.slate_cluster_pass_laws.proofs.ExactByRule as rule
use Rattle.slate_cluster_pass_laws.proofs.exact_passes.exact_by_rule.Goals as goal

pub returns : goal.returns
returns c = rule.exact_by_rule
