use Rattle.std.proofs.Common.{◌≡◌, drop}
use Rattle.slate_state_referenced.specs.Named as spec
use Rattle.slate_state_referenced.specs.Seen.{IsSeen}
use Rattle.slate_state_referenced.proofs.number_queue.NumberQueue.name_all.Given as goal

-- the numbers so far, with those that the checkpoints left name
abbrev pub invariant-loop-checkpoint : goal.invariant-loop-checkpoint
invariant-loop-checkpoint l = record {
  named : spec.named_from l.own l.self (drop l.checkpoint-index l.checkpoints) ≡ spec.named_from l.own l.initial.self l.checkpoints;
  seen : IsSeen l.seen l.self;
}
