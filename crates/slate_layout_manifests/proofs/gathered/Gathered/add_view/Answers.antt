use Rattle.std.specs.Prelude.{◌≡◌, Bool, Some, None, Option, if◌then◌else◌}
use Rattle.std.specs.Map.{lookup}
use Rattle.std.specs.BTreeMap.{is_at}
use Rattle.std.proofs.Common.{rules, ap, ◌∙◌}
use Rattle.slate_model_tables.specs.declared.ss_table_handle.SsTableHandle.{SsTableHandle}
use Rattle.slate_layout_parts.specs.TablesOfViews.{table_id}
use Rattle.slate_ids.specs.Ulids.{id_cmp}
use Rattle.slate_layout_manifests.specs.Gathered.{ById, with_table, same_handle}
use Rattle.slate_layout_manifests.proofs.gathered.Gathered.add_view.Goals as goal

chosen : Bool → ById → Option ById
chosen b tables = if b then Some tables else None

pub returns-in-Some : goal.returns-in-Some
unfolding chosen
returns-in-Some c =
    let h = c.args.view.now.sst in
    let tables : ById = c.args.self.now in
    let found : lookup (is_at (id_cmp (table_id h.id))) tables ≡ Some c.in-Some.table.now = search rules in
    let same : same_handle c.in-Some.table.now h ≡ c.same_handle.result = search rules in
    ap (λ (o : Option SsTableHandle). with_table h tables o) found ∙ ap (λ b. chosen b tables) same
