use Rattle.std.proofs.Common.{◌≡◌, ◌==◌, ◌≤◌, length, drop, true}
use Rattle.std.specs.List.{list_all}
use Rattle.slate_ids.proofs.bounds.used_len.Given as goal

-- the bytes from here on are 255
abbrev pub invariant-loop-used : goal.invariant-loop-used
invariant-loop-used l = (l.used ≤ length l.prefix) × (list_all (λ b. b == 255) (drop l.used l.prefix) ≡ true)

abbrev pub decreases-loop-used : goal.decreases-loop-used
decreases-loop-used l = l.used
