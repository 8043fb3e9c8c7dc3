use Rattle.std.proofs.Common.{w64}
use Rattle.std.proofs.lemmas.Int.{to_z-of_z}
use Rattle.slate_txn.proofs.AppliesBy.{by_made, applies_made, began_applies, refused_applies, nothing_applies}
use Rattle.slate_txn.proofs.MovesFaults.{never_made, never_refused}
use Rattle.slate_txn.proofs.stored.Stored.apply.Goals as goal

pub returns-in-Err-clause-moves : goal.returns-in-Err-clause-moves
returns-in-Err-clause-moves g c = refused_applies _ c.args.moment c.args.tries (g.S.ObjectStore.told c.args.store.now) c.in-Err.e c.args.self.now c.in-Err.ensures.moves

pub returns-in-Err-clause-apply : goal.returns-in-Err-clause-apply
returns-in-Err-clause-apply g c = λ made computes.
    let told = g.S.ObjectStore.told c.args.store.now in
    applies_made _ made (by_made _ made computes) c.args.moment c.args.tries told told c.args.self.now c.args.self.now _ (returns-in-Err-clause-moves g c)

pub returns-in-Err-clause-never : goal.returns-in-Err-clause-never
returns-in-Err-clause-never g c = λ free.
    let told = g.S.ObjectStore.told c.args.store.now in
    let holder = c.args.self.now in
    never_refused _ free holder holder.id holder.object c.in-Err.e told told c.in-Err.ensures.moves

pub returns-in-Err-clause-fault : goal.returns-in-Err-clause-fault
returns-in-Err-clause-fault g c = λ made computes free. returns-in-Err-clause-never g c (never_made _ made (by_made _ made computes) free)

pub returns-in-Ok-None-clause-moves : goal.returns-in-Ok-None-clause-moves
returns-in-Ok-None-clause-moves g c = nothing_applies _ c.args.moment c.args.tries (g.S.ObjectStore.told c.args.store.now) c.in-Ok-None.field-0 c.args.self.now c.in-Ok-None.field-0-is c.in-Ok-None.ensures.moves

pub returns-in-Ok-None-clause-apply : goal.returns-in-Ok-None-clause-apply
returns-in-Ok-None-clause-apply g c = λ made computes.
    let told = g.S.ObjectStore.told c.args.store.now in
    applies_made _ made (by_made _ made computes) c.args.moment c.args.tries told told c.args.self.now c.args.self.now _ (returns-in-Ok-None-clause-moves g c)

pub returns-in-Ok-Some-clause-moves : goal.returns-in-Ok-Some-clause-moves
returns-in-Ok-Some-clause-moves g c =
    let old = g.S.ObjectStore.told c.args.store.now in
    let new = g.S.ObjectStore.told c.drive.new.store in
    let ran = rw (to_z-of_z w64 c.args.moment c.ranges.moment) at c.drive.ensures.moves in
    began_applies _ c.args.moment c.args.tries old new c.in-Ok-Some.commit c.in-Ok-Some.field-0 c.args.self.now c.drive.new.self c.drive.result c.in-Ok-Some.field-0-is c.in-Ok-Some.ensures.moves ran

pub returns-in-Ok-Some-clause-apply : goal.returns-in-Ok-Some-clause-apply
returns-in-Ok-Some-clause-apply g c = λ made computes.
    let old = g.S.ObjectStore.told c.args.store.now in
    let new = g.S.ObjectStore.told c.drive.new.store in
    applies_made _ made (by_made _ made computes) c.args.moment c.args.tries old new c.args.self.now c.drive.new.self c.drive.result (returns-in-Ok-Some-clause-moves g c)

pub returns-in-Ok-Some-clause-fault : goal.returns-in-Ok-Some-clause-fault
returns-in-Ok-Some-clause-fault g c = λ made computes free. c.drive.ensures.never (never_made _ made (by_made _ made computes) free)
