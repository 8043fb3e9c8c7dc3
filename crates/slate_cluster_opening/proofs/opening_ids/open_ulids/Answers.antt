use Rattle.std.proofs.Common.{rules, ◌≡◌, map}
use Rattle.slate_ids.specs.Ulids.{id_cmp as ulid_cmp}
use Rattle.slate_cluster_protocol.specs.Ids.{only_named, with_ids}
use Rattle.slate_cluster_protocol.specs.Specs.{spec_ulids}
use Rattle.slate_cluster_opening.proofs.Carrying.{one_more_named}
use Rattle.slate_cluster_opening.proofs.opening_ids.open_ulids.Goals as goal

pub loop-spec-preserved : goal.loop-spec-preserved
loop-spec-preserved c =
    let ids : c.in_ok-all.all.items ≡ map only_named (spec_ulids c.spec-item.result) = search rules in
    let made : c.note_ids.new.pool.entries ≡ with_ids ulid_cmp c.in_ok-all.all.items c.loop-spec.pool.entries = search rules in
    one_more_named ulid_cmp spec_ulids c.args.specs.now c.loop-spec.spec-index c.spec-item.result _ _ _ _ c.loop-spec-test.true c.spec-item.is ids made c.loop-spec.invariant
