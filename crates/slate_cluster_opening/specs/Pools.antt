-- Pools of ids that new ones are put into and taken out of.
use Rattle.std.specs.Prelude.{ℕ, List, [], ◌∷◌, Option, false}
use Rattle.std.specs.Map.{remove_entry}
use Rattle.std.specs.BTreeMap.{is_at}
use Rattle.std.specs.declared.cmp.Ordering.{Ordering}
use Rattle.slate_ids.specs.Ulids.{id_cmp as ulid_cmp}
use Rattle.slate_cluster_protocol.specs.Ids.{Carried, Pool, checkpoint_cmp}
use Rattle.slate_cluster_protocol.specs.declared.carrier.Carrier.{Carrier}
use Rattle.slate_cluster_opening.specs.declared.carried.Noted.{Noted}

-- an id that a party brings, or nobody, and that is no pin
abbrev pub unpinned : {K : Type 0} → Option ℕ → K → K × Carrier
unpinned party id = (id, record { party = party; pin = false })

-- a pool from which these ids are taken out, the last one first
abbrev pub without : {K : Type 0} → (K → K → Ordering) → List K → Pool K → Pool K
without cmp [] pool = pool
without cmp (id ∷ ids) pool = remove_entry (is_at (cmp id)) (without cmp ids pool)

-- what was carried, without ids that were noted after it
abbrev pub uncarried : Noted → Carried → Carried
uncarried noted carried = record { checkpoints = without checkpoint_cmp noted.checkpoints.items carried.checkpoints; ulids = without ulid_cmp noted.ulids.items carried.ulids }
