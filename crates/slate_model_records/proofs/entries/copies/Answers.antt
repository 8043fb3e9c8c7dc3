use Rattle.std.proofs.Common.{◌∙◌, ap}
use Rattle.slate_model_records.specs.Entries.{compactions_of}
use Rattle.slate_model_records.specs.Records.{inserted}
use Rattle.slate_model_records.proofs.Ordered.{ascending}
use Rattle.slate_model_records.proofs.Inserted.{copied_more}
use Rattle.slate_model_records.proofs.entries.copies.Goals as goal

pub loop-compaction-preserved : goal.loop-compaction-preserved
loop-compaction-preserved c =
    let copied = compactions_of c.loop-compaction.copied.entries in
    record {
      own = c.keep_copy.ensures.own;
      so_far = copied_more copied c.loop-compaction.compaction-iterator c.next.new.self (compactions_of c.args.entries.now.entries) (compactions_of c.keep_copy.new.entries.entries) c.in-Some.compaction.now c.loop-compaction.invariant.so_far c.in-Some.ensures.steps (ascending c.args.entries.now.entries c.values-compaction-items.ensures.ordered c.requires) c.in-Ok.ensures.ok;
    }
