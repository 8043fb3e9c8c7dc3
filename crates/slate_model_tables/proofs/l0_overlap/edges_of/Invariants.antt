use Rattle.std.proofs.Common.{◌≡◌, take}
use Rattle.slate_model_tables.specs.Overlap.{start_keys, end_keys, limit_keys}
use Rattle.slate_model_tables.proofs.l0_overlap.edges_of.Given as goal

-- the keys of the views so far
abbrev pub invariant-loop-i : goal.invariant-loop-i
invariant-loop-i l = record {
  starts : l.edges.starts.items ≡ start_keys (take l.i l.views.items);
  ends : l.edges.ends.items ≡ end_keys (take l.i l.views.items);
  limits : l.edges.limits.items ≡ limit_keys (take l.i l.views.items);
}
