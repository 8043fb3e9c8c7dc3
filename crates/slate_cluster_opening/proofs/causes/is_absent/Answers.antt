use Rattle.slate_cluster_opening.proofs.Absent.{absent_told}
use Rattle.slate_cluster_opening.proofs.causes.is_absent.Goals as goal

pub returns-in-Compacted : goal.returns-in-Compacted
returns-in-Compacted c =
    absent_told c.args.objects.now.entries c.args.spec.now c.args.id.now c.in-Compacted.ulid c.as_slice.result.now c.home_of-place.result c.is_there.result c.in-Compacted.is c.as_slice.ensures c.home_of-place.ensures c.is_there.ensures
