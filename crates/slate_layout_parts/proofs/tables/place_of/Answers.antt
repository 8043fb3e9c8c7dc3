use Rattle.std.proofs.Common.{rules}
use Rattle.std.proofs.lemmas.List.Sorted.{IsPartitionPoint-from_clause}
use Rattle.slate_model_tables.specs.Tables.{no_info}
use Rattle.slate_layout_parts.specs.TablesOfViews.{is_before}
use Rattle.slate_layout_parts.proofs.Lookups.{parted, place_is}
use Rattle.slate_model_tables.specs.declared.ss_table_id.SsTableId.TheVariants.{Wal}
use Rattle.slate_layout_parts.proofs.tables.place_of.Goals as goal

pub returns-clause-place : goal.returns-clause-place
returns-clause-place c =
    place_is c.args.id c.args.handles.now (record { id = Wal 0; format_version = 0; info = no_info }) _ c.partition_point.ensures.bound
    (IsPartitionPoint-from_clause (is_before c.args.id) _ _ c.partition_point.ensures.partitioned (parted c.args.id c.args.handles.now c.requires) (λ a r q k. search rules))
