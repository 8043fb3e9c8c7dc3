use Rattle.slate_model_records.proofs.PutLast.{put_last}
use Rattle.std.specs.Prelude.{◌≡◌, ◌++◌, ◌∷◌, map}
use Rattle.std.proofs.Common.{rules, ap, ◌∙◌}
use Rattle.std.specs.Vec.Iter.{into_iter_items}
use Rattle.slate_model_records.specs.Records.{Record, inserted}
use Rattle.slate_layout_records.specs.RecordBytes as records
use Rattle.slate_layout_records.proofs.record_reading.record_in_order.Goals as goal

pub loop-raw-preserved : goal.loop-raw-preserved
loop-raw-preserved c =
    let rest = map records.compaction_of (into_iter_items c.next.new.self) in
    let before : c.loop-raw.made.entries ++ c.compaction_of.result ∷ rest ≡ map records.compaction_of c.args.raws = search rules in
    let after : c.insert.new.self ≡ record { compactor_epoch = c.loop-raw.made.compactor_epoch; entries = inserted c.compaction_of.result c.loop-raw.made.entries } = c.in-Ok.ensures.ok in (
      ap (λ (r : Record). r.compactor_epoch) after ∙ c.loop-raw.invariant.0,
      ap (λ (r : Record). r.entries ++ rest) after ∙ put_last c.compaction_of.result c.loop-raw.made.entries rest (map records.compaction_of c.args.raws) before c.requires.ascending,
    )
