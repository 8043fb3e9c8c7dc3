use Rattle.std.proofs.Common.{sym, ◌∙◌}
use Rattle.slate_layout_parts.specs.TablesOfViews.{ascend}
use Rattle.slate_layout_manifests.specs.ManifestParts as parts
use Rattle.slate_layout_decoding.proofs.Chains.{passed}
use Rattle.slate_layout_decoding.proofs.second_version.manifest_after.Goals as goal

pub returns-in_ok-manifest_among-in-Some : goal.returns-in_ok-manifest_among-in-Some
returns-in_ok-manifest_among-in-Some c =
    c.in_ok-manifest_among-in-Some.ensures ∙ passed (ascend c.args.handles.items) c.args.handles.items c.in-Some.tables (λ tables. parts.manifest_among tables c.args.from) (sym c.from_vec.ensures ∙ c.in-Some.is)
