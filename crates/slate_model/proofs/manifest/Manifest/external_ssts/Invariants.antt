use Rattle.std.proofs.Common.{◌≡◌, take}
use Rattle.std.specs.List.{flat_map}
use Rattle.slate_model.specs.Externals.{shared_by}
use Rattle.slate_model.proofs.manifest.Manifest.external_ssts.Given as goal

-- the tables of the entries so far are there
abbrev pub invariant-loop-entry : goal.invariant-loop-entry
invariant-loop-entry l = l.shared.items ≡ flat_map shared_by (take l.entry-index l.self.external_dbs)
