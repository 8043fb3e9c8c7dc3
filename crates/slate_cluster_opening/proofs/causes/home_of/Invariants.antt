use Rattle.std.proofs.Common.{◌≡◌, drop}
use Rattle.slate_cluster_protocol.specs.Specs.{home_of}
use Rattle.slate_cluster_opening.proofs.causes.home_of.Given as goal

-- the entries that are left decide
abbrev pub invariant-loop-entry : goal.invariant-loop-entry
invariant-loop-entry l = home_of l.own l.id (drop l.entry-index l.entries) ≡ home_of l.own l.id l.entries
