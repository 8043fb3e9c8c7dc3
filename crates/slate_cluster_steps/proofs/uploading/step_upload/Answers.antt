use Rattle.std.proofs.Common.{w64}
use Rattle.std.proofs.lemmas.Int.{to_z-of_z}
use Rattle.slate_cluster_steps.proofs.PutSteps.{upload_step}
use Rattle.slate_cluster_steps.proofs.uploading.step_upload.Goals as goal

pub returns-clause-ok : goal.returns-clause-ok
returns-clause-ok c =
    let put = rw (to_z-of_z w64 c.args.moment c.ranges.moment) at c.put_table.ensures.ok in
    upload_step c.args.facts.now c.put_table.new.facts c.args.task.now c.in-PutTable.db c.in-PutTable.upload c.in-PutTable.bytes c.args.moment c.args.mark c.args.store.now.store c.put_table.new.store.store c.put_table.result c.in-PutTable.is put
