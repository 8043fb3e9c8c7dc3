use Rattle.std.proofs.Common.{◌≡◌, false, take}
use Rattle.slate_model_records.specs.Retaining.{has_id}
use Rattle.slate_model_records.proofs.retained.has.Given as goal

-- the id isn't among those so far
abbrev pub invariant-loop-other : goal.invariant-loop-other
invariant-loop-other l = has_id (take l.other-index l.ids) l.id ≡ false
