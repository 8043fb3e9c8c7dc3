use Rattle.std.proofs.Common.{◌≡◌, ◌++◌, map, take}
use Rattle.slate_script_databases.proofs.prefixes.push_prefixes.Given as goal

-- the prefixes of the items so far are there
abbrev pub invariant-loop-item : goal.invariant-loop-item
invariant-loop-item g l = l.prefixes ≡ l.fn.prefixes ++ map g.T.InTree.its_prefix (take l.item-index l.items)
