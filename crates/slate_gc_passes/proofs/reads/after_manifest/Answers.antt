use Rattle.std.proofs.Common.{[], ◌∷◌, subst}
use Rattle.slate_gc_passes.proofs.Always.{goes_on}
use Rattle.slate_gc_passes.specs.Pass.{fetched_goes}
use Rattle.slate_gc_passes.specs.declared.heads.Heads.{Heads}
use Rattle.slate_state_referenced.specs.Named.{named_numbers}
use Rattle.slate_state_referenced.specs.Referenced.{rest_goes}
use Rattle.slate_store.specs.Machines.{GoesOnAlways}
use Rattle.slate_gc_passes.proofs.reads.after_manifest.Goals as goal

pub returns-in-Ok-clause-goes : goal.returns-in-Ok-clause-goes
returns-in-Ok-clause-goes c =
    let fetched = c.after_fetched.ensures.goes _ c.in-Ok.ensures.goes in
    let first = rest_goes (named_numbers c.args.n c.args.value.core.checkpoints) ((c.args.n, c.args.value) ∷ []) in
    goes_on _ _ _ _ (subst (λ (heads : Heads). GoesOnAlways (fetched_goes heads first) c.after_fetched.result.0 c.after_fetched.result.1) c.at-heads.ensures fetched)

pub returns-in-Ok-clause-due : goal.returns-in-Ok-clause-due
returns-in-Ok-clause-due c = c.after_fetched.ensures.due c.in-Ok.ensures.more
