use Rattle.std.specs.Prelude.{List}
use Rattle.std.proofs.Common.{sym, ◌∙◌, ap}
use Rattle.std.proofs.lemmas.List.{drop_all}
use Rattle.slate_model_tables.specs.declared.ss_table_id.SsTableId.{SsTableId}
use Rattle.slate_state_updates.specs.ExternalEntries.{are_sublist}
use Rattle.slate_state_updates.proofs.entries.are_sublist.Goals as goal

pub returns : goal.returns
returns c = c.are_found.ensures ∙ sym (ap (λ (ids : List SsTableId). are_sublist c.loop-id.left.now ids) (drop_all c.loop-id.id-index c.args.ids.now c.loop-id-test.false)) ∙ c.loop-id.invariant
