use Rattle.std.proofs.Common.{◌≡◌, [], drop}
use Rattle.std.specs.List.{list_all}
use Rattle.slate_ids.specs.Ids.{is_db_path}
use Rattle.slate_cluster_protocol.specs.Specs.{tallies_from}
use Rattle.slate_cluster_opening.proofs.opening.open_tallies.Given as goal

abbrev pub invariant-loop-spec : goal.invariant-loop-spec
invariant-loop-spec l = (tallies_from l.tallies.entries (drop l.spec-index l.specs) ≡ tallies_from [] l.specs) × (list_all (λ spec. is_db_path spec.path) (drop l.spec-index l.specs) ≡ list_all (λ spec. is_db_path spec.path) l.specs)
