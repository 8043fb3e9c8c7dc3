use Rattle.std.proofs.Common.{◌≡◌}
use Rattle.std.specs.List.{list_all}
use Rattle.slate_model_tables.specs.Tables.{is_compacted}
use Rattle.slate_model.specs.Trees.{views_of}
use Rattle.slate_layout_encodable.proofs.unencodable.all_of_compacted.Given as goal

-- the views that are left decide
abbrev pub invariant-loop-view : goal.invariant-loop-view
invariant-loop-view l = list_all (λ v. is_compacted v.sst.id) l.view-iterator ≡ list_all (λ v. is_compacted v.sst.id) (views_of l.core)
