use Rattle.std.proofs.Common.{rules, sym, subst, w64}
use Rattle.std.proofs.lemmas.Int.{to_z-of_z}
use Rattle.slate_txn.proofs.AppliesBy.{applies_more, fenced_applies, may_made, wraps_fenced}
use Rattle.slate_txn.proofs.FencedApplies.{applies_fence, unfenced_made}
use Rattle.slate_txn.proofs.MovesFaults.{fenced_never, never_less}
use Rattle.slate_txn.specs.Apply.{Applies, FaultFree, ways_of}
use Rattle.slate_txn.specs.FencedApplying.{fenced_made}
use Rattle.slate_txn.specs.FencedHolder.{FencedHolder}
use Rattle.slate_txn.proofs.fenced.Fenced.maybe_apply.Goals as goal

pub returns-clause-apply : goal.returns-clause-apply
returns-clause-apply g c = λ made computes.
    let old = g.S.ObjectStore.told c.args.store.now in
    let new = g.S.ObjectStore.told c.apply.new.store in
    let inside = c.self.inside in
    let ran = c.apply.ensures.apply (fenced_made g.E.Epochs.epoch inside.epochs inside.epoch made) (λ codec id value reply answers. search (rules, computes, answers)) in
    let here = rw (to_z-of_z w64 c.args.moment c.ranges.moment) at ran in
    subst (λ (f : FencedHolder _ _ _ _). Applies (record { decoded = g.C.ObjectCodec.decoded; encoded = g.C.ObjectCodec.encoded; refusal = g.R.Rules.refusal; changed = fenced_made g.E.Epochs.epoch f.epochs f.epoch made; right = c.args.right.now }) c.args.moment c.args.tries old new f.holder c.apply.new.self c.apply.result) c.self.view_is here

pub returns-clause-unfenced : goal.returns-clause-unfenced
returns-clause-unfenced g c = λ free.
    let old = g.S.ObjectStore.told c.args.store.now in
    let new = g.S.ObjectStore.told c.apply.new.store in
    let inside = c.self.inside in
    applies_fence _ g.E.Epochs.epoch inside.epochs inside.epoch free _ c.args.tries old new inside.stored c.apply.new.self c.apply.result
    (applies_more _ _ (wraps_fenced _ g.E.Epochs.epoch inside.epochs inside.epoch _ (λ codec id shown reply answers. search (rules, answers))) _ c.args.tries old new inside.stored c.apply.new.self c.apply.result c.apply.ensures.moves)

pub returns-clause-fenced : goal.returns-clause-fenced
returns-clause-fenced g c = λ made computes free. returns-clause-unfenced g c (unfenced_made _ made (may_made _ made computes) free)

pub returns-clause-moves : goal.returns-clause-moves
returns-clause-moves g c =
    let old = g.S.ObjectStore.told c.args.store.now in
    let new = g.S.ObjectStore.told c.apply.new.store in
    let inside = c.self.inside in
    let moves = rw (to_z-of_z w64 c.args.moment c.ranges.moment) at c.apply.ensures.moves in
    fenced_applies g.C.ObjectCodec.decoded g.C.ObjectCodec.encoded g.R.Rules.refusal g.E.Epochs.epoch c.args.right.now _ (record { holder = inside.stored; epochs = inside.epochs; epoch = inside.epoch }) c.args.self.now c.args.moment c.args.tries old new c.apply.new.self c.apply.result c.self.view_is
    (applies_more _ _ (wraps_fenced _ g.E.Epochs.epoch inside.epochs inside.epoch _ (λ codec id shown reply answers. search (rules, answers))) c.args.moment c.args.tries old new inside.stored c.apply.new.self c.apply.result moves)

pub returns-clause-never : goal.returns-clause-never
returns-clause-never g c = λ free.
    let inside = c.self.inside in
    let seen : FencedHolder _ _ _ _ = record { holder = inside.stored; epochs = inside.epochs; epoch = inside.epoch } in
    let here = fenced_never g.C.ObjectCodec.decoded g.C.ObjectCodec.encoded g.R.Rules.refusal g.E.Epochs.epoch c.args.right.now _ seen c.args.self.now c.self.view_is free in
    c.apply.ensures.never (never_less _ _ (wraps_fenced _ g.E.Epochs.epoch inside.epochs inside.epoch _ (λ codec id shown reply answers. search (rules, answers))) here)

pub returns-clause-fault : goal.returns-clause-fault
returns-clause-fault g c = λ made computes free.
    let inside = c.self.inside in
    let codec = g.C.ObjectCodec in
    let here = subst (λ (f : FencedHolder _ _ _ _). FaultFree (ways_of codec.decoded codec.encoded g.R.Rules.refusal (fenced_made g.E.Epochs.epoch f.epochs f.epoch made) c.args.right.now)) (sym c.self.view_is) free in
    c.apply.ensures.fault (fenced_made g.E.Epochs.epoch inside.epochs inside.epoch made) (λ codec id value reply answers. search (rules, computes, answers)) here
