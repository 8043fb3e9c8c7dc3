use Rattle.slate_layout.proofs.OldLists.{views_whole, runs_whole}
use Rattle.slate_layout.proofs.laws.first_version_lists.Goals as goal

pub returns-clause-views : goal.returns-clause-views
returns-clause-views c = views_whole

pub returns-clause-runs : goal.returns-clause-runs
returns-clause-runs c = runs_whole
