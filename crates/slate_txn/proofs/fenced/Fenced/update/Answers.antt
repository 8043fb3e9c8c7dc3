use Rattle.std.proofs.Common.{w64, sym, subst, ap, ◌∙◌}
use Rattle.std.proofs.lemmas.Int.{to_z-of_z}
use Rattle.slate_txn.proofs.FencedUpdates.{update_free}
use Rattle.slate_txn.specs.FencedHolder.{FencedHolder}
use Rattle.slate_txn.specs.Fencing.{UnlessFenced}
use Rattle.slate_txn.specs.Holder.{Holder}
use Rattle.slate_txn.specs.Updating.{Updates, started}
use Rattle.slate_txn.proofs.fenced.Fenced.update.Goals as goal

pub returns-in-None-clause-update : goal.returns-in-None-clause-update
returns-in-None-clause-update g c =
    let old = g.S.ObjectStore.told c.args.store.now in
    let new = g.S.ObjectStore.told c.update.new.store in
    let refusal = g.R.Rules.refusal in
    let encoded = g.C.ObjectCodec.encoded in
    let inside = rw (to_z-of_z w64 c.args.moment c.ranges.moment) at c.update.ensures.update in
    let updates = subst (λ (h : Holder _ _ _). Updates refusal encoded c.args.moment old new h c.args.dirty c.args.right.now c.update.result) (ap (λ (f : FencedHolder _ _ _ _). f.holder) c.self.view_is) inside in
    subst (λ e. UnlessFenced e old new c.update.result (Updates refusal encoded c.args.moment old new c.args.self.now.holder c.args.dirty c.args.right.now c.update.result)) (sym c.in-None.is ∙ c.fence_held.ensures) updates

pub returns-in-None-clause-fenced : goal.returns-in-None-clause-fenced
returns-in-None-clause-fenced g c = λ free own read same.
    let old = g.S.ObjectStore.told c.args.store.now in
    let new = g.S.ObjectStore.told c.update.new.store in
    let refusal = g.R.Rules.refusal in
    let encoded = g.C.ObjectCodec.encoded in
    let holder = c.args.self.now.holder in
    let inside = rw (to_z-of_z w64 c.args.moment c.ranges.moment) at c.update.ensures.update in
    let updates = subst (λ (h : Holder _ _ _). Updates refusal encoded c.args.moment old new h c.args.dirty c.args.right.now c.update.result) (ap (λ (f : FencedHolder _ _ _ _). f.holder) c.self.view_is) inside in
    absurd (update_free holder c.args.moment old new (started refusal encoded holder c.args.dirty c.args.right.now) c.update.result free updates own read same)
