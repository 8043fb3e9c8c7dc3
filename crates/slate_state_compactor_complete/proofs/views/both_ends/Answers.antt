use Rattle.slate_state_compactor_complete.proofs.BothViews as views
use Rattle.slate_state_compactor_complete.proofs.views.both_ends.Goals as goal

pub returns : goal.returns
returns g c = λ one_decoded other_decoded first second tries some old new s result reads serves ready. views.both_ends one_decoded other_decoded first second s ready tries old new result reads some serves
