use Rattle.slate_model_records.proofs.PutLast.{put_last}
use Rattle.std.specs.Prelude.{◌≡◌, ◌++◌, ◌∷◌, map}
use Rattle.std.proofs.Common.{rules, ap, ◌∙◌}
use Rattle.slate_model_records.specs.Records.{Record, inserted}
use Rattle.slate_state_record_updates.specs.EntrySteps.{unscheduled}
use Rattle.slate_state_record_updates.proofs.MappedRecords.{unscheduled_ascend}
use Rattle.slate_state_record_updates.proofs.whole_records.all_unscheduled.Goals as goal

pub loop-compaction-preserved : goal.loop-compaction-preserved
loop-compaction-preserved c =
    let rest = map unscheduled c.next.new.self in
    let made = c.in_ok-unscheduled.field-0 in
    let before : c.loop-compaction.made.entries ++ made ∷ rest ≡ map unscheduled c.args.entries = search rules in
    let after : c.insert.new.self ≡ record { compactor_epoch = c.loop-compaction.made.compactor_epoch; entries = inserted made c.loop-compaction.made.entries } = c.in_ok-insert.ensures.ok in (
      ap (λ (r : Record). r.compactor_epoch) after ∙ c.loop-compaction.invariant.0,
      ap (λ (r : Record). r.entries ++ rest) after ∙ put_last made c.loop-compaction.made.entries rest (map unscheduled c.args.entries) before (unscheduled_ascend c.args.entries c.requires.ascending),
    )
