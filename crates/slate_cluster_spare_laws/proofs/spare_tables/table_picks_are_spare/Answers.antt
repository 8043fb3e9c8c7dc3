use Rattle.slate_cluster_spare_laws.proofs.Picks.{picks_spare}
use Rattle.slate_cluster_spare_laws.proofs.spare_tables.table_picks_are_spare.Goals as goal

pub returns : goal.returns
returns c = λ specs front middle back db least n versions accepted good has reads min_age now id is. picks_spare specs accepted front middle back good db has least n versions reads min_age now id is
