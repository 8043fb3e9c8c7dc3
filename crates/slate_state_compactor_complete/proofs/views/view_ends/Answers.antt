use Rattle.slate_state_compactor_complete.proofs.BothViews as views
use Rattle.slate_state_compactor_complete.proofs.views.view_ends.Goals as goal

pub returns : goal.returns
returns c = λ logs tries some old new s result reads serves ready. views.view_ends logs tries old new s result reads some serves ready
