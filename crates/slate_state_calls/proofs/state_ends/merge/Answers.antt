use Rattle.std.proofs.Common.{ℕ, sym, w64, ◌∙◌}
use Rattle.std.proofs.lemmas.Int.{to_z-of_z}
use Rattle.slate_state_calls.proofs.Leading.{merges_refuse, refused_so}
use Rattle.slate_state_calls.specs.Commits.{manifest_put_of, merge_of}
use Rattle.slate_state_calls.specs.Compactors.{with_manifest}
use Rattle.slate_ids.specs.Answers.{is_memory}
use Rattle.slate_model.specs.declared.manifest.Manifest.{Manifest}
use Rattle.slate_state_calls.proofs.state_ends.merge.Goals as goal

pub returns-else-is_memory-clause-leads : goal.returns-else-is_memory-clause-leads
returns-else-is_memory-clause-leads c =
    let holds = c.args.compactor.now in
    let version : ℕ × Manifest = (c.args.n, c.args.manifest) in
    let put = manifest_put_of (merge_of holds.epoch holds.local) c.args.now version in
    let refuses = merges_refuse c.args.write (with_manifest version holds) c.in-Err.e put (rw (to_z-of_z w64 c.args.now c.ranges.now) at c.in-Err.ensures.begun) in
    rw c.hold_manifest-else-is_memory.ensures (refused_so (is_memory c.in-Err.e) refuses (sym c.is_memory.ensures ∙ c.if-is_memory.false))
