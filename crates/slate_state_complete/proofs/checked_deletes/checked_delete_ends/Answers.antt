use Rattle.slate_state_complete.proofs.CheckedWalks.{checked_ends, checked_inside}
use Rattle.slate_state_complete.proofs.checked_deletes.checked_delete_ends.Goals as goal

pub returns : goal.returns
returns g c = record {
  answers = λ decoded names sequenced n tries some old new s result ran serves ready. (checked_ends decoded names sequenced n tries old new s result ran some serves ready).0;
  ready = λ decoded names sequenced n tries some named first small old new s result ran serves ready. (checked_ends decoded names sequenced n tries old new s result ran some serves ready).1 named first small;
  inside = λ decoded names sequenced n tries some inside old new s result ran serves ready. checked_inside (decoded sequenced.codec) names sequenced.db sequenced.log s new n result inside (checked_ends decoded names sequenced n tries old new s result ran some serves ready).0;
}
