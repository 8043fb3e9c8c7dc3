use Rattle.std.proofs.Common.{◌≡◌, []}
use Rattle.slate_cluster_protocol.specs.Specs.{no_objects, store_from}
use Rattle.slate_cluster_opening.proofs.objects.open_store.Given as goal

abbrev pub invariant-loop-path : goal.invariant-loop-path
invariant-loop-path l = (store_from l.store.store l.path-iterator ≡ store_from no_objects l.objects.entries) × (l.store.marks ≡ [])
