use Rattle.std.proofs.Common.{◌≡◌, drop}
use Rattle.std.specs.List.{fold}
use Rattle.std.specs.BTreeSet.{contains}
use Rattle.slate_script_databases.specs.Databases.{with_id}
use Rattle.slate_script_databases.specs.Databases as databases
use Rattle.slate_script_databases.proofs.Ids.{Seen}
use Rattle.slate_ids.specs.Ulids.{id_cmp}
use Rattle.slate_script_databases.proofs.opening_tables.once.Given as goal

-- the ids that are left still come to those so far, and these were seen
abbrev pub invariant-loop-id : goal.invariant-loop-id
invariant-loop-id l = record {
  so_far : fold with_id l.ids (drop l.id-index l.named) ≡ databases.once l.named;
  seen : Seen (contains id_cmp l.seen) l.ids;
}
