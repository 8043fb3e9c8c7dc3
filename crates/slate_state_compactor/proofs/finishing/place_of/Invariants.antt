use Rattle.std.proofs.Common.{◌≡◌, ◌+◌, drop}
use Rattle.std.specs.Prelude.{not, nat_lt}
use Rattle.std.specs.List.{prefix_len}
use Rattle.slate_state_compactor.proofs.finishing.place_of.Given as goal

-- the runs so far stand before it
abbrev pub invariant-loop-other : goal.invariant-loop-other
invariant-loop-other l = (l.place ≡ l.other-index) × (l.place + prefix_len (λ r. not (nat_lt r.id l.run.id)) (drop l.other-index l.runs) ≡ prefix_len (λ r. not (nat_lt r.id l.run.id)) l.runs)
