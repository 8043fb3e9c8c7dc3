use Rattle.std.proofs.Common.{◌≡◌, ◌⊎◌, ◌<◌, ◌≤◌, ℕ, List, length}
use Rattle.slate_model_tables.specs.Overlap.{open_at}
use Rattle.slate_model_tables.proofs.l0_overlap.most_open.Given as goal

-- the most that are open at the starts so far
abbrev pub invariant-loop-i : goal.invariant-loop-i
invariant-loop-i l = record {
  greatest : (k : ℕ) (d : List ℕ) → k < l.i → open_at l.starts l.ends l.limits k d ≤ l.most;
  reached : (l.most ≡ 0) ⊎ ((k : ℕ) × (k < length l.starts) × ((d : List ℕ) → l.most ≡ open_at l.starts l.ends l.limits k d));
}
