use Rattle.std.proofs.Common.{rules, ◌≡◌}
use Rattle.std.specs.List.{flat_map}
use Rattle.slate_cluster_protocol.specs.Ids.{checkpoint_cmp, with_ids}
use Rattle.slate_cluster_protocol.specs.Specs.{entry_checkpoints}
use Rattle.slate_cluster_opening.proofs.Carrying.{one_more}
use Rattle.slate_cluster_opening.proofs.opening_ids.carry_entries.Goals as goal

pub loop-spec-preserved : goal.loop-spec-preserved
loop-spec-preserved c =
    let ids : c.in_ok-all.all.items ≡ flat_map entry_checkpoints c.spec-item.result.manifest.external_dbs = search rules in
    let made : c.note_ids.new.pool.entries ≡ with_ids checkpoint_cmp c.in_ok-all.all.items c.loop-spec.pool.entries = search rules in
    one_more checkpoint_cmp (λ spec. flat_map entry_checkpoints spec.manifest.external_dbs) c.args.specs.now c.loop-spec.spec-index c.spec-item.result _ _ _ _ c.loop-spec-test.true c.spec-item.is ids made c.loop-spec.invariant
