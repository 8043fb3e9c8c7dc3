use Rattle.std.proofs.Common.{◌++◌, append_assoc, rules}
use Rattle.slate_model.specs.Trees.{tables_of}
use Rattle.slate_gc_picks.proofs.tables.used_tables.Goals as goal

pub loop-manifest-preserved : goal.loop-manifest-preserved
loop-manifest-preserved c =
    let before = c.loop-manifest.invariant in
    record {
      known = before.known ++ tables_of c.in-Some.manifest.now.core;
      has = c.in_ok-note_tables.ensures before.known before.has;
      whole = search (rules, append_assoc, before.whole);
    }
