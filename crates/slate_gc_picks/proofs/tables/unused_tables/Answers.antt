use Rattle.std.proofs.Common.{rules, w64}
use Rattle.std.proofs.lemmas.Int.{to_z-of_z}
use Rattle.slate_gc_picks.specs.TablePicks.{is_unused, unused_tables, used_tables}
use Rattle.slate_gc_picks.proofs.OneMore.{kept}
use Rattle.slate_state_updates.specs.TableSets.{IsTableSet}
use Rattle.slate_gc_picks.proofs.tables.unused_tables.Goals as goal

pub loop-object-preserved : goal.loop-object-preserved
loop-object-preserved c =
    let used = used_tables c.args.versions.now.entries in
    let set : IsTableSet c.in_ok-used.used used = search rules in
    let same = to_z-of_z w64 c.args.now c.ranges.now in
    let keeps = rw same at c.may_go-keeps.ensures in
    let before = rw same at c.loop-object.invariant in
    rw same (kept (λ m. is_unused c.args.min_age c.args.now c.args.least c.args.watermark used m.location) c.args.found.now c.loop-object.object-index c.object-item.result c.may_go-keeps.result c.loop-object.objects c.push_if.new.objects
    (unused_tables c.args.min_age c.args.now c.args.least c.args.watermark c.args.versions.now.entries c.args.found.now) c.loop-object-test.true c.object-item.is (keeps used set) (search rules) before)
