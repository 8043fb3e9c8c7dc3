use Rattle.slate_cluster_laws.proofs.OpeningStands.{opening_stands}
use Rattle.slate_cluster_laws.proofs.OpeningTags.{go_by_path}
use Rattle.slate_cluster_laws.proofs.openings.opening_stands.Goals as goal

pub returns : goal.returns
returns c = record { objects = λ specs path accepted fine. opening_stands specs accepted path fine; tags = go_by_path }
