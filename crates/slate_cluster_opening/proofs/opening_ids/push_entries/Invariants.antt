use Rattle.std.proofs.Common.{◌≡◌, ◌++◌, drop, map}
use Rattle.std.specs.List.{flat_map, filter_map}
use Rattle.slate_cluster_protocol.specs.Ids.{only_named}
use Rattle.slate_cluster_protocol.specs.Specs.{ulid_of}
use Rattle.slate_cluster_opening.proofs.opening_ids.push_entries.Given as goal

-- the ids so far and the entries that are left
abbrev pub invariant-loop-entry : goal.invariant-loop-entry
invariant-loop-entry l =
    l.all.items ++ map only_named (flat_map (λ entry. filter_map ulid_of entry.sst_ids) (drop l.entry-index l.spec.manifest.external_dbs))
    ≡ l.fn.all.items ++ map only_named (flat_map (λ entry. filter_map ulid_of entry.sst_ids) l.spec.manifest.external_dbs)
