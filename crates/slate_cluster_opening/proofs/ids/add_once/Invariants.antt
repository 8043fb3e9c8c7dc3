use Rattle.std.proofs.Common.{◌≡◌, drop}
use Rattle.std.specs.List.{list_all}
use Rattle.slate_ids.specs.Ulids.{is_id}
use Rattle.slate_cluster_protocol.specs.Specs.{seen_from}
use Rattle.slate_cluster_opening.proofs.ids.add_once.Given as goal

-- the ids so far and those that are left
abbrev pub invariant-loop-id : goal.invariant-loop-id
invariant-loop-id l = (seen_from l.seen.keys (drop l.id-index l.ids) ≡ seen_from l.fn.seen.keys l.ids) × (list_all is_id (drop l.id-index l.ids) ≡ list_all is_id l.ids)
