use Rattle.std.proofs.Common.{◌≡◌, w64, ap, ◌∙◌, List, ℕ}
use Rattle.std.proofs.lemmas.Int.{to_z-of_z}
use Rattle.slate_model_tables.specs.declared.ss_table_info.SsTableInfo.{SsTableInfo}
use Rattle.slate_cluster_protocol.specs.Uploaded.{info_of, with_upload}
use Rattle.slate_cluster_protocol.specs.declared.party.Facts.{Facts}
use Rattle.slate_cluster_protocol.specs.declared.uploads.Upload.{Upload}
use Rattle.slate_cluster_steps.proofs.PutSteps.{put_step}
use Rattle.slate_cluster_steps.proofs.uploading.put_table.Goals as goal

pub returns-in-Ok-clause-ok : goal.returns-in-Ok-clause-ok
returns-in-Ok-clause-ok c =
    let facts : Facts = c.args.facts.now in
    let noted : c.note.new.self ≡ with_upload c.args.upload.now facts.uploads = c.in_ok-before.ensures.ok ∙ ap (λ (u : Upload). with_upload u facts.uploads) c.in_ok-copy_of.ensures in
    let known : c.in_ok-before.before ≡ info_of c.args.upload.now.table facts.uploads = c.in_ok-before.ensures.before ∙ ap (λ (u : Upload). info_of u.table facts.uploads) c.in_ok-copy_of.ensures in
    λ call.
    put_step facts c.reply_to.new.facts call c.args.db c.args.upload.now c.args.bytes.now c.args.moment c.args.mark c.args.store.now.store c.perform_under.new.store.store c.in_ok-call.call c.in-Ok.answer c.reply_to.result
    c.in_ok-call.ensures
    (rw (to_z-of_z w64 c.args.moment c.ranges.moment) at c.in-Ok.ensures.answer)
    (rw (to_z-of_z w64 c.args.moment c.ranges.moment) at c.in-Ok.ensures.store)
    (c.reply_to.ensures facts (ap (λ (us : List ((ℕ × ℕ) × SsTableInfo)). record facts { uploads = us }) noted) known)
