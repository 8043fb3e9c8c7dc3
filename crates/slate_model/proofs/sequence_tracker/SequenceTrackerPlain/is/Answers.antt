use Rattle.std.proofs.lemmas.Slice.Eq.{slice_eq-Decides}
use Rattle.slate_model.proofs.Trackers.{same_pair}
use Rattle.slate_model.proofs.sequence_tracker.SequenceTrackerPlain.is.Goals as goal

pub returns : goal.returns
returns c = rw (← c.self.view_is, ← c.other.view_is) (slice_eq-Decides same_pair c.self.inside.pairs.items c.other.inside.pairs.items c.eq.result c.eq.ensures)
