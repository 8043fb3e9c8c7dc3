-- The parts of a state that its report tells.
use Rattle.std.specs.Prelude.{ℕ, List, []}
use Rattle.slate_store.specs.Store.{Store}
use Rattle.slate_cluster_protocol.specs.World.{World}
use Rattle.slate_cluster_protocol.specs.declared.tally.Tally.{Tally}

-- a state of which these parts are told
abbrev pub world_of : List (List ℕ × Tally) → ℕ → Store → World
world_of tallies deleted store = record { tallies = tallies; deleted = deleted; store = store; parties = []; carried = record { checkpoints = []; ulids = [] } }
