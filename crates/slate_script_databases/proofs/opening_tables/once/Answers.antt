use Rattle.std.proofs.Common.{sym, ◌∙◌, ap}
use Rattle.std.proofs.lemmas.List.{drop_all}
use Rattle.std.specs.List.{fold}
use Rattle.std.specs.BTreeSet.{contains}
use Rattle.slate_script_databases.specs.Databases.{with_id}
use Rattle.slate_script_databases.proofs.Ids.{one_more, left_over}
use Rattle.slate_ids.specs.Ulids.{id_cmp}
use Rattle.slate_script_databases.proofs.opening_tables.once.Goals as goal

pub loop-id-preserved : goal.loop-id-preserved
loop-id-preserved c =
    let next = one_more (contains id_cmp c.loop-id.seen) (contains id_cmp c.insert.new.self) c.loop-id.ids c.push_new.new.ids c.id-item.result c.in_ok-is_new.is_new c.loop-id.invariant.seen c.in_ok-is_new.ensures.updates.0 c.in_ok-is_new.ensures.added c.in_ok-push_new.ensures in
    record {
      so_far = left_over c.loop-id.ids c.push_new.new.ids c.args.named.now c.loop-id.id-index c.id-item.result _ c.loop-id-test.true c.id-item.is next.0 c.loop-id.invariant.so_far;
      seen = next.1;
    }

pub returns : goal.returns
returns c = sym (ap (fold with_id c.loop-id.ids) (drop_all c.loop-id.id-index c.args.named.now c.loop-id-test.false)) ∙ c.loop-id.invariant.so_far
