use Rattle.std.proofs.Common.{rules, ◌≡◌, ◌∷◌, ◌++◌, [], sym, ◌∙◌}
use Rattle.std.specs.BTreeMap.{insert_entry}
use Rattle.std.proofs.lemmas.Cmp.{eq_by_cmp_equiv}
use Rattle.slate_cluster_opening.specs.Pools.{unpinned}
use Rattle.slate_cluster_opening.proofs.Carrying.{id_there, without_put, without_absent}
use Rattle.slate_cluster_opening.proofs.pools.add_new.Goals as goal

-- the id was there
pub returns-then-contains_key-clause-ok : goal.returns-then-contains_key-clause-ok
returns-then-contains_key-clause-ok g c =
    sym (id_there g.K.Ord.cmp c.args.id c.args.party c.args.pool.now.entries (sym c.contains_key.ensures ∙ c.if-contains_key.true))

-- the id was not put in
pub returns-in_err-insert-clause-back : goal.returns-in_err-insert-clause-back
returns-in_err-insert-clause-back g c =
    let more : c.push.new.self.items ≡ c.args.added.now.items ++ c.args.id ∷ [] = search rules in
    let same : c.insert.new.self.entries ≡ c.args.pool.now.entries = search rules in
    without_absent g.K.Ord.cmp c.args.added.now.items c.args.id c.args.pool.now.entries (sym c.contains_key.ensures ∙ c.if-contains_key.false) _ _ more same

-- the id was put in
pub returns-clause-back : goal.returns-clause-back
returns-clause-back g c =
    let more : c.push.new.self.items ≡ c.args.added.now.items ++ c.args.id ∷ [] = search rules in
    let made : c.insert.new.self.entries ≡ insert_entry g.K.Ord.cmp c.args.pool.now.entries c.args.id (unpinned c.args.party c.args.id).1 = search rules in
    without_put g.K.Ord.cmp c.args.added.now.items c.args.id c.args.pool.now.entries (sym c.contains_key.ensures ∙ c.if-contains_key.false) _ _ _ more made
    ((eq_by_cmp_equiv g.met.K.Ord.total).refl c.args.id)
