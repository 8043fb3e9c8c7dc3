use Rattle.std.proofs.Common.{sym, arith, ◌-◌}
use Rattle.std.specs.Ordering.{nat_cmp}
use Rattle.std.specs.Cmp.Lexicographic.{slice_cmp}
use Rattle.std.specs.BTreeSet.{contains}
use Rattle.slate_script_databases.proofs.Markers.{seen_from_here, once_from_here, twice}
use Rattle.slate_script_databases.proofs.tree_items.one_each.Goals as goal

pub returns-then-not-branch : goal.returns-then-not-branch
returns-then-not-branch c =
    sym (twice c.args.markers.now c.loop-i.i (c.loop-i.i - 1) c.index-markers-i.result c.in_ok-clone.field-0 (contains (slice_cmp nat_cmp) c.loop-i.seen) c.in_ok-insert.field-0 (omega arith) (omega arith) c.index-markers-i.is c.in_ok-clone.ensures.cases c.loop-i.invariant.seen c.in_ok-insert.ensures.added c.if-not-branch.true)

pub loop-i-preserved : goal.loop-i-preserved
loop-i-preserved c =
    let ms = c.args.markers.now in
    let has = contains (slice_cmp nat_cmp) c.loop-i.seen in
    record {
      within = omega arith;
      seen = seen_from_here ms c.loop-i.i (c.loop-i.i - 1) c.index-markers-i.result c.in_ok-clone.field-0 has c.in_ok-insert.field-0 (omega arith) (omega arith) c.index-markers-i.is c.in_ok-clone.ensures.cases c.loop-i.invariant.seen c.in_ok-insert.ensures.added (contains (slice_cmp nat_cmp) c.insert.new.self) c.in_ok-insert.ensures.updates.0;
      once = once_from_here ms c.loop-i.i (c.loop-i.i - 1) c.index-markers-i.result c.in_ok-clone.field-0 has c.in_ok-insert.field-0 (omega arith) (omega arith) c.index-markers-i.is c.in_ok-clone.ensures.cases c.loop-i.invariant.seen c.in_ok-insert.ensures.added c.if-not-branch.false c.loop-i.invariant.once;
    }
