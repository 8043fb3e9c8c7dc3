use Rattle.std.specs.Prelude.{◌≡◌, Some, None, if◌then◌else◌}
use Rattle.std.proofs.Common.{rules, sym, ◌∙◌}
use Rattle.slate_layout_parts.specs.TablesOfViews.{ascend}
use Rattle.slate_layout_parts.specs.Reading.{list_in}
use Rattle.slate_layout_parts.specs.laws.Parts.{bind_at}
use Rattle.slate_layout_parts.specs.InfoParts.{handle_in}
use Rattle.slate_layout_manifests.specs.ManifestParts as parts
use Rattle.slate_layout_decoding.proofs.second_version.read_second_version.Goals as goal

pub returns-in-Some : goal.returns-in-Some
returns-in-Some c =
    let read : list_in handle_in 8 c.args.from ≡ Some (c.into_vec.result.items, c.in-Some.from) = search rules in
    c.in_ok-manifest_after-in-Some.ensures ∙ sym (bind_at (λ tables. if ascend tables.0 then parts.manifest_among tables.0 tables.1 else None) read)
