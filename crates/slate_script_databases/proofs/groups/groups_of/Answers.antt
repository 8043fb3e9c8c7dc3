use Rattle.std.proofs.Common.{refl}
use Rattle.slate_script_databases.proofs.groups.groups_of.Goals as goal

pub returns : goal.returns
returns c q = rw (c.in_ok-add_markers.ensures q, c.as_slice-3.ensures, c.in_ok-add_runs.ensures q, c.as_slice-2.ensures, c.in_ok-add_all_l0.ensures q, c.as_slice.ensures, c.new-groups.ensures.empty) refl
