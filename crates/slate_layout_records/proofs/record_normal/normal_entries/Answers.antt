use Rattle.slate_model_records.proofs.PutLast.{put_last}
use Rattle.std.specs.Prelude.{◌≡◌, ◌++◌, ◌∷◌, map}
use Rattle.std.proofs.Common.{rules, ap, ◌∙◌}
use Rattle.slate_model_records.specs.Records.{Record, inserted}
use Rattle.slate_layout_records.specs.RecordNormal.{normal_compaction}
use Rattle.slate_layout_records.proofs.RecordOrder.{normal_ascend}
use Rattle.slate_layout_records.proofs.record_normal.normal_entries.Goals as goal

pub loop-compaction-preserved : goal.loop-compaction-preserved
loop-compaction-preserved c =
    let rest = map normal_compaction c.next.new.self in
    let made = normal_compaction c.in-Some.compaction.now in
    let before : c.loop-compaction.made.entries ++ made ∷ rest ≡ map normal_compaction c.args.entries = search rules in
    let after : c.insert_normal.new.made ≡ record { compactor_epoch = c.loop-compaction.made.compactor_epoch; entries = inserted made c.loop-compaction.made.entries } = c.in-Ok.ensures in (
      ap (λ (r : Record). r.compactor_epoch) after ∙ c.loop-compaction.invariant.0,
      ap (λ (r : Record). r.entries ++ rest) after ∙ put_last made c.loop-compaction.made.entries rest (map normal_compaction c.args.entries) before (normal_ascend c.args.entries c.requires.ascending),
    )
