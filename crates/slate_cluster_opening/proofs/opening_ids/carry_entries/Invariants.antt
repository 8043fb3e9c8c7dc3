use Rattle.std.proofs.Common.{◌≡◌, drop}
use Rattle.std.specs.List.{flat_map}
use Rattle.slate_cluster_protocol.specs.Ids.{checkpoint_cmp, with_ids}
use Rattle.slate_cluster_protocol.specs.Specs.{entry_checkpoints}
use Rattle.slate_cluster_opening.proofs.opening_ids.carry_entries.Given as goal

-- the ids so far and the databases that are left
abbrev pub invariant-loop-spec : goal.invariant-loop-spec
invariant-loop-spec l =
    with_ids checkpoint_cmp (flat_map (λ spec. flat_map entry_checkpoints spec.manifest.external_dbs) (drop l.spec-index l.specs)) l.pool.entries
    ≡ with_ids checkpoint_cmp (flat_map (λ spec. flat_map entry_checkpoints spec.manifest.external_dbs) l.specs) l.fn.pool.entries
