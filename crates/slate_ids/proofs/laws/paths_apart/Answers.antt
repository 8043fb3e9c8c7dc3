use Rattle.slate_ids.proofs.PathsApart.{same_path}
use Rattle.slate_ids.proofs.laws.paths_apart.Goals as goal

pub returns : goal.returns
returns c = same_path
