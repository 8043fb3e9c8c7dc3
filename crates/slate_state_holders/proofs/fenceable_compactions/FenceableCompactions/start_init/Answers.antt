use Rattle.slate_state_holders.proofs.fenceable_compactions.FenceableCompactions.start_init.Goals as goal

pub returns-clause-init : goal.returns-clause-init
returns-clause-init c = (_, c.in_ok-start_fence.ensures.init)
