use Rattle.std.proofs.Common.{◌≡◌, map, take}
use Rattle.slate_script_databases.specs.Databases.{own_view}
use Rattle.slate_script_databases.proofs.trees.own_views.Given as goal

-- the views of the ids so far are there
abbrev pub invariant-loop-id : goal.invariant-loop-id
invariant-loop-id l = l.views.items ≡ map own_view (take l.id-index l.ids)
