-- Which work is the put of a table.
use Rattle.std.specs.Prelude.{Bool, true, false}
use Rattle.slate_cluster_protocol.specs.declared.work.Work.{Work}
use Rattle.slate_cluster_protocol.specs.declared.work.Work.TheVariants.{PutTable}

-- whether a table is put
abbrev pub is_upload : Work → Bool
is_upload (PutTable db upload bytes) = true
is_upload _ = false
