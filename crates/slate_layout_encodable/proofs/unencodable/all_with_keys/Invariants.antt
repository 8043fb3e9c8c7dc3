use Rattle.std.proofs.Common.{◌≡◌}
use Rattle.std.specs.List.{list_all}
use Rattle.slate_model.specs.Trees.{views_of}
use Rattle.slate_layout_encodable.specs.Unencodable.{has_keys}
use Rattle.slate_layout_encodable.proofs.unencodable.all_with_keys.Given as goal

-- the views that are left decide
abbrev pub invariant-loop-view : goal.invariant-loop-view
invariant-loop-view l = list_all has_keys l.view-iterator ≡ list_all has_keys (views_of l.core)
