use Rattle.std.specs.BTreeMap.Range.{entries_between}
use Rattle.std.specs.declared.ops.Bound.{Bound}
use Rattle.std.proofs.Common.{rules, ◌≡◌, ap, ◌∙◌}
use Rattle.slate_ids.specs.PathText.{path_cmp}
use Rattle.slate_ids.specs.declared.object_path.ObjectPath.{ObjectPath}
use Rattle.slate_store.specs.Folders.{bounds_of as bounds_in}
use Rattle.slate_store.proofs.Folders.{within}
use Rattle.slate_store.proofs.listing.listing.Goals as goal

-- src/listing.rt:79:5
pub loop-path-init : goal.loop-path-init
loop-path-init c =
    let bounds : c.in_ok-bounds.bounds ≡ bounds_in c.args.dir.now = search rules in
    let all : c.range-within.result ≡ entries_between path_cmp (bounds_in c.args.dir.now).0 (bounds_in c.args.dir.now).1 c.args.objects.now.entries = c.range-within.ensures.between tt ∙ ap (λ (b : Bound ObjectPath × Bound ObjectPath). entries_between path_cmp b.0 b.1 c.args.objects.now.entries) bounds in
    let fewer = within c.args.dir.now c.args.objects.now.entries in
    search (rules, all, fewer)
