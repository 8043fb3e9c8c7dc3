use Rattle.std.proofs.Common.{rules, ◌≡◌, ◌∷◌, ◌++◌, []}
use Rattle.std.specs.Map.{remove_entry}
use Rattle.std.specs.BTreeMap.{is_at}
use Rattle.slate_cluster_opening.specs.Pools.{without}
use Rattle.slate_cluster_opening.proofs.Carrying.{one_taken_out}
use Rattle.slate_cluster_opening.proofs.pools.take_back.Goals as goal

pub loop-id-preserved : goal.loop-id-preserved
loop-id-preserved g c =
    let last : c.loop-id.added.items ≡ c.pop.new.self.items ++ c.in-Some.id ∷ [] = search rules in
    let made : c.remove.new.self.entries ≡ remove_entry (is_at (g.K.Ord.cmp c.in-Some.id)) c.loop-id.pool.entries = search rules in
    one_taken_out g.K.Ord.cmp c.loop-id.added.items c.pop.new.self.items c.in-Some.id c.loop-id.pool.entries c.remove.new.self.entries (without g.K.Ord.cmp c.args.added.items c.args.pool.now.entries) last made
    c.loop-id.invariant
