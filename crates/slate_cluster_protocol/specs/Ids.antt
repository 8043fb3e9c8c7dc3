-- The ids that events and opening values carry, in two pools: those of checkpoints, and those of tables, views and compactions. A fresh id
-- must not have been carried before.
use Rattle.std.specs.Prelude.{ℕ, Bool, true, false, ◌||◌, List, [], ◌∷◌, ◌++◌, Some, None, is_some, map}
use Rattle.std.specs.List.{list_any}
use Rattle.std.specs.Map.{lookup, set_value}
use Rattle.std.specs.BTreeMap.{is_at, insert_entry}
use Rattle.std.specs.Ordering.{nat_cmp}
use Rattle.std.specs.Cmp.Lexicographic.{slice_cmp}
use Rattle.std.specs.declared.cmp.Ordering.{Ordering}
use Rattle.slate_ids.specs.Ulids.{id_cmp as ulid_cmp}
use Rattle.slate_script_events.specs.declared.call.Call.{Call}
use Rattle.slate_cluster_protocol.specs.Calls.{fresh_checkpoints, named_checkpoints, fresh_ulids, named_ulids}
use Rattle.slate_cluster_protocol.specs.declared.call_ids.CallIds.{CallIds}
use Rattle.slate_cluster_protocol.specs.declared.carrier.Carrier.{Carrier}

-- a pool of ids: those that were carried, ascending, each with what is known of it
abbrev pub Pool : Type 0 → Type 0
Pool K = List (K × Carrier)

-- the ids that were carried
pub record Carried : Type 0 where
  -- of checkpoints
  pub checkpoints : Pool (List ℕ)
  -- of tables, views and compactions
  pub ulids : Pool (ℕ × ℕ)

-- the order of ids of checkpoints: by their bytes
abbrev pub checkpoint_cmp : List ℕ → List ℕ → Ordering
checkpoint_cmp = slice_cmp nat_cmp

-- whether an id was carried
abbrev pub is_carried : {K : Type 0} → (K → K → Ordering) → K → Pool K → Bool
is_carried cmp id pool = is_some (lookup (is_at (cmp id)) pool)

-- ---- fresh ids

-- whether one of these ids was carried before, or comes again among themselves or the others that a call names
abbrev pub is_stale_among : {K : Type 0} → (K → K → Ordering) → List K → List K → Pool K → Bool
is_stale_among cmp [] named pool = false
is_stale_among cmp (id ∷ ids) named pool = is_carried cmp id pool || list_any (is_at (cmp id)) (ids ++ named) || is_stale_among cmp ids named pool

-- the ids that a call carries
abbrev pub call_ids : Call → CallIds
call_ids call = record { fresh_checkpoints = fresh_checkpoints call; named_checkpoints = named_checkpoints call; fresh_ulids = fresh_ulids call; named_ulids = named_ulids call }

-- whether a fresh one of these ids was carried before, or comes twice among them
abbrev pub are_stale : Carried → CallIds → Bool
are_stale carried ids =
    is_stale_among checkpoint_cmp ids.fresh_checkpoints ids.named_checkpoints carried.checkpoints
    || is_stale_among ulid_cmp ids.fresh_ulids ids.named_ulids carried.ulids

-- whether a fresh id of a call was carried before, or comes twice in the call itself
abbrev pub is_stale : Carried → Call → Bool
is_stale carried call = are_stale carried (call_ids call)

-- ---- what is carried

-- an id that a party brings
abbrev pub brought_by : {K : Type 0} → ℕ → K → K × Carrier
brought_by n id = (id, record { party = Some n; pin = false })

-- an id that nobody brings
abbrev pub only_named : {K : Type 0} → K → K × Carrier
only_named id = (id, record { party = None; pin = false })

-- a pin that nobody brings
abbrev pub only_pinned : {K : Type 0} → K → K × Carrier
only_pinned id = (id, record { party = None; pin = true })

-- the ids that a call of a party carries: those that it brings anew, and the others that it names
abbrev pub ids_of : {K : Type 0} → ℕ → List K → List K → List (K × Carrier)
ids_of n fresh named = map (brought_by n) fresh ++ map only_named named

-- what is known of an id once it is carried again: who brought it stays, and a pin stays one
abbrev pub carried_again : Carrier → Carrier → Carrier
carried_again old new = record { party = old.party; pin = old.pin || new.pin }

-- one id more
abbrev pub with_id : {K : Type 0} → (K → K → Ordering) → K × Carrier → Pool K → Pool K
with_id cmp id pool = elim (lookup (is_at (cmp id.0)) pool) [ None ↦ insert_entry cmp pool id.0 id.1 | Some old ↦ set_value (is_at (cmp id.0)) pool (carried_again old id.1) ]

-- these ids more
abbrev pub with_ids : {K : Type 0} → (K → K → Ordering) → List (K × Carrier) → Pool K → Pool K
with_ids cmp [] pool = pool
with_ids cmp (id ∷ ids) pool = with_ids cmp ids (with_id cmp id pool)

-- the ids after a start of a call with these ids
abbrev pub with_call_ids : ℕ → CallIds → Carried → Carried
with_call_ids n ids carried = record {
  checkpoints = with_ids checkpoint_cmp (ids_of n ids.fresh_checkpoints ids.named_checkpoints) carried.checkpoints;
  ulids = with_ids ulid_cmp (ids_of n ids.fresh_ulids ids.named_ulids) carried.ulids;
}

-- the ids after a start
abbrev pub with_call : ℕ → Call → Carried → Carried
with_call n call carried = with_call_ids n (call_ids call) carried
