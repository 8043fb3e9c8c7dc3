use Rattle.std.proofs.Common.{ap, ◌∙◌, ℕ}
use Rattle.std.specs.List.{insert}
use Rattle.slate_state_compactor.proofs.Placing.{run_inserted}
use Rattle.slate_state_compactor.proofs.finishing.put_run.Goals as goal

pub returns : goal.returns
returns c =
    let runs = c.args.runs.now.items in
    c.in_ok-insert.ensures.items ∙ (ap (λ (p : ℕ). insert runs p c.args.run) (rw c.as_slice.ensures.value at c.place_of-place.ensures.place) ∙ run_inserted c.args.run runs)
