use Rattle.std.proofs.Common.{◌≡◌, ◌++◌}
use Rattle.std.specs.List.{filter}
use Rattle.slate_model.specs.Trees.{tables_of_views}
use Rattle.slate_model.specs.Externals.{is_owned, owned}
use Rattle.slate_model.proofs.manifest.Manifest.owned_ssts.Given as goal

-- the owned tables so far, and those of the views that are left
abbrev pub invariant-loop-view : goal.invariant-loop-view
invariant-loop-view l = l.ids.items ++ filter (is_owned l.self.external_dbs) (tables_of_views l.view-iterator) ≡ owned l.self
