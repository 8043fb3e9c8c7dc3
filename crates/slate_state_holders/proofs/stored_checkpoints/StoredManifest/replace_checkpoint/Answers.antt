use Rattle.std.proofs.Common.{◌≡◌, rules, true}
use Rattle.slate_ids.specs.Answers.{ran_out}
use Rattle.slate_state_updates.specs.declared.manifest_change.ManifestChange.TheVariants.{ReplaceCheckpoint}
use Rattle.slate_state_holders.proofs.NotBegun.{not_begun}
use Rattle.slate_state_holders.proofs.stored_checkpoints.StoredManifest.replace_checkpoint.Goals as goal

pub returns-in_err-options-clause-answer : goal.returns-in_err-options-clause-answer
returns-in_err-options-clause-answer g c =
    let out : ran_out c.from_residual.result ≡ true = search rules in
    not_begun c.args.new (ReplaceCheckpoint c.args.old c.args.new c.args.options.now) c.args.moment c.args.tries (g.S.ObjectStore.told c.args.store.now) c.args.self.now c.from_residual.result out
