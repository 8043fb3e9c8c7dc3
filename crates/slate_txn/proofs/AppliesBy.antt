-- Laws of an apply by a function that may answer differently each time.
use Rattle.std.proofs.Common.{◌≡◌, ◌⊎◌, ℤ, ℕ, Bool, true, false, List, Option, Some, None, Result, Ok, Err, inl, inr, ap, sym, subst, ◌∙◌, refl}
use Rattle.std.specs.Prelude.{nat_lt, if◌then◌else◌}
use denote.Ref.{Bor}
use Rattle.slate_ids.specs.Answers.{Gives, OrMemory, OrMemory-map, ran_out, is_memory}
use Rattle.slate_ids.specs.declared.error.SlateDBError.{SlateDBError}
use Rattle.slate_ids.specs.declared.error.SlateDBError.TheVariants.{Fenced}
use Rattle.slate_store.specs.StoreCalls.{Told}
use Rattle.slate_store.specs.Machines.{Stay, End}
use Rattle.slate_store.specs.declared.store_answer.StoreAnswer.{StoreAnswer}
use Rattle.slate_txn_log.specs.Change.{wanted}
use Rattle.slate_txn_log.specs.CommitPhase.{prepared}
use Rattle.slate_txn_log.specs.Fence.{fence, unless}
use Rattle.slate_txn_log.specs.ReadPhase.{read_goes, Reply}
use Rattle.slate_txn_log.specs.declared.commit_phase.CommitPhase.{CommitPhase}
use Rattle.slate_txn_log.specs.declared.right.Right.{Right}
use Rattle.slate_txn.proofs.Moves.{ran_of, began_of, ran_more, began_more}
use Rattle.slate_txn.specs.Apply.{ApplyGoes, Applies, Begins, ApplyStopped, apply_goes, ways_of, renews, read_on, begun}
use Rattle.slate_txn.specs.ApplyMoves.{RenewedBy, MayWays, ways_by, RenewsBy, ReadMoves, ApplyMoves, AppliedBy, ApplyBeganBy, BeginsBy, ApplyStoppedBy, AppliesBy, MaybeBy}
use Rattle.slate_txn.specs.Changing.{Computes, ComputesWith, May, MayWith}
use Rattle.slate_txn.specs.FencedApplying.{UnlessMay, FencedMay, fenced_made}
use Rattle.slate_txn.specs.FencedHolder.{FencedHolder}
use Rattle.slate_txn.specs.Holder.{Holder, at_version}
use Rattle.slate_txn.specs.Updating.{maybe_of}
use Rattle.slate_txn.specs.declared.update.UpdateMachine.{UpdateMachine}
use Rattle.slate_txn.specs.declared.update.UpdateMachine.TheVariants.{Refused}
use Rattle.slate_txn.specs.declared.apply.ApplyPhase.{ApplyPhase}
use Rattle.slate_txn.specs.declared.apply.ApplyPhase.TheVariants.{Reading, Committing}

-- a function that refused: its refusal is the answer, or memory ran out
refused_if : {T : Type 0} (b : Bool) (may : ℕ → T → Result (Option T) SlateDBError → Type 0) (refusal : ℕ → T → T → Right → Option SlateDBError) (encoded : T → Result (List ℕ) SlateDBError) (right : Right) (id : ℕ) (value : T) (e : SlateDBError)
    → is_memory e ≡ b → may id value (Err e) → (b ≡ true) ⊎ RenewedBy may refusal encoded right id value (Err e)
refused_if true may refusal encoded right id value e is given = inl refl
refused_if false may refusal encoded right id value e is given = inr (record { reply = Err e; given = given; enough = is; commits = refl })

pub renewed_err : {C T : Type 0} (answers : Bor C → ℕ → Bor T → Result (Option T) SlateDBError → Type 0) (codec : Bor C) (shown : Bor T) (refusal : ℕ → T → T → Right → Option SlateDBError) (encoded : T → Result (List ℕ) SlateDBError) (right : Right) (id : ℕ) (e : SlateDBError) (result : Result (Option (CommitPhase T)) SlateDBError)
    → answers codec id shown (Err e) → result ≡ Err e → (ran_out result ≡ true) ⊎ RenewedBy (MayWith answers) refusal encoded right id shown.now result
renewed_err answers codec shown refusal encoded right id e result says same =
    subst (λ (r : Result (Option (CommitPhase _)) SlateDBError). (ran_out r ≡ true) ⊎ RenewedBy (MayWith answers) refusal encoded right id shown.now r) (sym same)
    (refused_if (is_memory e) (MayWith answers) refusal encoded right id shown.now e refl (record { codec = codec; shown = shown; shows = refl; says = says }))

-- a function that answered: what it made is committed, unless memory runs out
pub renewed_ok : {C T : Type 0} (answers : Bor C → ℕ → Bor T → Result (Option T) SlateDBError → Type 0) (codec : Bor C) (shown : Bor T) (refusal : ℕ → T → T → Right → Option SlateDBError) (encoded : T → Result (List ℕ) SlateDBError) (right : Right) (id : ℕ) (changed : Option T) (result : Result (Option (CommitPhase T)) SlateDBError)
    → answers codec id shown (Ok changed) → Gives result (wanted (λ new. prepared refusal encoded id shown.now new right) (Ok changed)) → (ran_out result ≡ true) ⊎ RenewedBy (MayWith answers) refusal encoded right id shown.now result
renewed_ok answers codec shown refusal encoded right id changed result says (inl gives) =
    inr (record { reply = Ok changed; given = record { codec = codec; shown = shown; shows = refl; says = says }; enough = refl; commits = gives })
renewed_ok answers codec shown refusal encoded right id changed result says (inr out) = inl out

-- what is said of what is within a holder is said of the holder
pub renewed_within : {T C R : Type 0} (may : ℕ → T → Result (Option T) SlateDBError → Type 0) (refusal : R → ℕ → T → T → Right → Option SlateDBError) (encoded : C → T → Result (List ℕ) SlateDBError) (right : Right) (inside holder : Holder T C R) (start : Result (Option (CommitPhase T)) SlateDBError)
    → inside ≡ holder → (ran_out start ≡ true) ⊎ RenewedBy may (refusal inside.rules) (encoded inside.sequenced.codec) right inside.id inside.object start
    → (ran_out start ≡ true) ⊎ RenewedBy may (refusal holder.rules) (encoded holder.sequenced.codec) right holder.id holder.object start
renewed_within may refusal encoded right inside holder start same renewed =
    subst (λ (h : Holder _ _ _). (ran_out start ≡ true) ⊎ RenewedBy may (refusal h.rules) (encoded h.sequenced.codec) right h.id h.object start) same renewed

-- the function that a relation of answers is, where memory is enough
abbrev pub ByMade : {T : Type 0} → (ℕ → T → Result (Option T) SlateDBError → Type 0) → (ℕ → T → Result (Option T) SlateDBError) → Type 0
ByMade may made = (id : ℕ) (value : _) (reply : Result (Option _) SlateDBError) → may id value reply → ran_out reply ≡ false → made id value ≡ reply

gives_enough : {T : Type 0} (reply wanted : Result (Option T) SlateDBError) → Gives reply wanted → ran_out reply ≡ false → wanted ≡ reply
gives_enough reply wanted (inl same) enough = same
gives_enough reply wanted (inr out) enough = absurd (let both : false ≡ true = sym enough ∙ out in cc)

pub by_made : {C T : Type 0} (answers : Bor C → ℕ → Bor T → Result (Option T) SlateDBError → Type 0) (made : ℕ → T → Result (Option T) SlateDBError) → ComputesWith answers made → ByMade (MayWith answers) made
by_made answers made computes id value reply may enough =
    subst (λ v. made id v ≡ reply) may.shows (gives_enough reply (made id may.shown.now) (computes may.codec id may.shown reply may.says) enough)

pub may_made : {T : Type 0} (answers : ℕ → Bor T → Result (Option T) SlateDBError → Type 0) (made : ℕ → T → Result (Option T) SlateDBError) → Computes answers made → ByMade (May answers) made
may_made answers made computes id value reply may enough =
    subst (λ v. made id v ≡ reply) may.shows (gives_enough reply (made id may.shown.now) (computes id may.shown reply may.says) enough)

-- what is begun by it
pub renews_made : {T C R : Type 0} (ways : MayWays T C R) (made : ℕ → T → Result (Option T) SlateDBError) → ByMade ways.may made → (holder : Holder T C R) (id : ℕ) (value : T) (start : Result (Option (CommitPhase T)) SlateDBError)
    → RenewsBy ways holder id value start → renews (ways_of ways.decoded ways.encoded ways.refusal made ways.right) holder id value ≡ start
renews_made ways made by holder id value start renewed =
    ap (wanted (λ new. prepared (ways.refusal holder.rules) (ways.encoded holder.sequenced.codec) id value new ways.right)) (by id value renewed.reply renewed.given renewed.enough) ∙ renewed.commits

read_made : {T C R : Type 0} (ways : MayWays T C R) (made : ℕ → T → Result (Option T) SlateDBError) → ByMade ways.may made → (holder : Holder T C R) (went : Reply T) (out : ApplyGoes T C R)
    → ReadMoves holder (RenewsBy ways holder) went out → read_on holder (renews (ways_of ways.decoded ways.encoded ways.refusal made ways.right) holder) went ≡ out
read_made ways made by holder (Stay read) out moves = moves
read_made ways made by holder (End read (Err e)) out moves = moves
read_made ways made by holder (End read (Ok None)) out moves = moves
read_made ways made by holder (End read (Ok (Some version))) out moves =
    ap (begun (Reading read) (at_version holder version.0 version.1)) (renews_made ways made by holder version.0 version.1 moves.0 moves.1) ∙ moves.2

moves_made : {T C R : Type 0} (ways : MayWays T C R) (made : ℕ → T → Result (Option T) SlateDBError) → ByMade ways.may made → (phase : ApplyPhase T) (holder : Holder T C R) (answer : StoreAnswer) (out : ApplyGoes T C R)
    → ApplyMoves ways (phase, holder) answer out → apply_goes (ways_of ways.decoded ways.encoded ways.refusal made ways.right) (phase, holder) answer ≡ out
moves_made ways made by (Reading read) holder answer out moves = read_made ways made by holder (read_goes holder.sequenced.log (ways.decoded holder.sequenced.codec) read answer) out moves
moves_made ways made by (Committing commit) holder answer out moves = moves

begins_made : {T C R : Type 0} (ways : MayWays T C R) (made : ℕ → T → Result (Option T) SlateDBError) → ByMade ways.may made → (moment : ℤ) (tries : ℕ) (old new : Told) (start : Result (Option (CommitPhase T)) SlateDBError) (from to : Holder T C R) (result : Result (Unit {0}) SlateDBError)
    → BeginsBy ways moment tries old new start from to result → Begins (ways_of ways.decoded ways.encoded ways.refusal made ways.right) moment tries old new start from to result
begins_made ways made by moment tries old new (Err e) from to result begins = begins
begins_made ways made by moment tries old new (Ok None) from to result begins = begins
begins_made ways made by moment tries old new (Ok (Some commit)) from to result begins =
    (begins.0, ran_of (apply_goes (ways_of ways.decoded ways.encoded ways.refusal made ways.right)) (λ p answer out moves. moves_made ways made by p.0 p.1 answer out moves) begins.1)

stopped_made : {T C R : Type 0} (ways : MayWays T C R) (made : ℕ → T → Result (Option T) SlateDBError) → ByMade ways.may made → (moment : ℤ) (tries : ℕ) (old new : Told) (from to : Holder T C R)
    → ApplyStoppedBy ways moment tries old new from to → ApplyStopped (ways_of ways.decoded ways.encoded ways.refusal made ways.right) moment tries old new (renews (ways_of ways.decoded ways.encoded ways.refusal made ways.right) from from.id from.object) from to
stopped_made ways made by moment tries old new from to (inl same) = inl same
stopped_made ways made by moment tries old new from to (inr began) =
    inr (began.0, renews_made ways made by from from.id from.object (Ok (Some began.0)) began.1, (began.2.0, began_of (apply_goes (ways_of ways.decoded ways.encoded ways.refusal made ways.right)) (λ p answer out moves. moves_made ways made by p.0 p.1 answer out moves) began.2.1))

-- an apply by what a function may answer is one by the function
pub applies_made : {T C R : Type 0} (ways : MayWays T C R) (made : ℕ → T → Result (Option T) SlateDBError) → ByMade ways.may made → (moment : ℤ) (tries : ℕ) (old new : Told) (from to : Holder T C R) (result : Result (Unit {0}) SlateDBError)
    → AppliesBy ways moment tries old new from to result → Applies (ways_of ways.decoded ways.encoded ways.refusal made ways.right) moment tries old new from to result
applies_made ways made by moment tries old new from to result (inl begun) =
    inl (subst (λ (s : Result (Option (CommitPhase _)) SlateDBError). Begins (ways_of ways.decoded ways.encoded ways.refusal made ways.right) moment tries old new s from to result) (sym (renews_made ways made by from from.id from.object begun.0 begun.1))
    (begins_made ways made by moment tries old new begun.0 from to result begun.2))
applies_made ways made by moment tries old new from to result (inr m) = inr (m.0, stopped_made ways made by moment tries old new from to m.1)

-- these ways with other answers
abbrev pub with_may : {T C R : Type 0} → MayWays T C R → (ℕ → T → Result (Option T) SlateDBError → Type 0) → MayWays T C R
with_may ways more = ways_by ways.decoded ways.encoded ways.refusal more ways.right

-- where each answer is one of these too, as far as memory is enough
abbrev pub Within : {T : Type 0} → (ℕ → T → Result (Option T) SlateDBError → Type 0) → (ℕ → T → Result (Option T) SlateDBError → Type 0) → Type 0
Within may more = (id : ℕ) (value : _) (reply : Result (Option _) SlateDBError) → may id value reply → ran_out reply ≡ false → more id value reply

pub renewed_more : {T : Type 0} {may : ℕ → T → Result (Option T) SlateDBError → Type 0} (more : ℕ → T → Result (Option T) SlateDBError → Type 0) {refusal : ℕ → T → T → Right → Option SlateDBError} {encoded : T → Result (List ℕ) SlateDBError} {right : Right} {id : ℕ} {value : T} {start : Result (Option (CommitPhase T)) SlateDBError}
    → Within may more → RenewedBy may refusal encoded right id value start → RenewedBy more refusal encoded right id value start
renewed_more more {id = id} {value = value} by renewed = record { reply = renewed.reply; given = by id value renewed.reply renewed.given renewed.enough; enough = renewed.enough; commits = renewed.commits }

read_more : {T C R : Type 0} (ways : MayWays T C R) (more : ℕ → T → Result (Option T) SlateDBError → Type 0) → Within ways.may more → (holder : Holder T C R) (went : Reply T) (out : ApplyGoes T C R)
    → ReadMoves holder (RenewsBy ways holder) went out → ReadMoves holder (RenewsBy (with_may ways more) holder) went out
read_more ways more by holder (Stay read) out moves = moves
read_more ways more by holder (End read (Err e)) out moves = moves
read_more ways more by holder (End read (Ok None)) out moves = moves
read_more ways more by holder (End read (Ok (Some version))) out moves = (moves.0, renewed_more more by moves.1, moves.2)

moves_more : {T C R : Type 0} (ways : MayWays T C R) (more : ℕ → T → Result (Option T) SlateDBError → Type 0) → Within ways.may more → (phase : ApplyPhase T) (holder : Holder T C R) (answer : StoreAnswer) (out : ApplyGoes T C R)
    → ApplyMoves ways (phase, holder) answer out → ApplyMoves (with_may ways more) (phase, holder) answer out
moves_more ways more by (Reading read) holder answer out moves = read_more ways more by holder (read_goes holder.sequenced.log (ways.decoded holder.sequenced.codec) read answer) out moves
moves_more ways more by (Committing commit) holder answer out moves = moves

begins_more : {T C R : Type 0} (ways : MayWays T C R) (more : ℕ → T → Result (Option T) SlateDBError → Type 0) → Within ways.may more → (moment : ℤ) (tries : ℕ) (old new : Told) (start : Result (Option (CommitPhase T)) SlateDBError) (from to : Holder T C R) (result : Result (Unit {0}) SlateDBError)
    → BeginsBy ways moment tries old new start from to result → BeginsBy (with_may ways more) moment tries old new start from to result
begins_more ways more by moment tries old new (Err e) from to result begins = begins
begins_more ways more by moment tries old new (Ok None) from to result begins = begins
begins_more ways more by moment tries old new (Ok (Some commit)) from to result begins = (begins.0, ran_more (ApplyMoves (with_may ways more)) (λ p answer out moves. moves_more ways more by p.0 p.1 answer out moves) begins.1)

stopped_more : {T C R : Type 0} (ways : MayWays T C R) (more : ℕ → T → Result (Option T) SlateDBError → Type 0) → Within ways.may more → (moment : ℤ) (tries : ℕ) (old new : Told) (from to : Holder T C R)
    → ApplyStoppedBy ways moment tries old new from to → ApplyStoppedBy (with_may ways more) moment tries old new from to
stopped_more ways more by moment tries old new from to (inl same) = inl same
stopped_more ways more by moment tries old new from to (inr began) =
    inr (began.0, renewed_more more by began.1, (began.2.0, began_more (ApplyMoves (with_may ways more)) (λ p answer out moves. moves_more ways more by p.0 p.1 answer out moves) began.2.1))

-- an apply by some answers is one by more
pub applies_more : {T C R : Type 0} (ways : MayWays T C R) (more : ℕ → T → Result (Option T) SlateDBError → Type 0) → Within ways.may more → (moment : ℤ) (tries : ℕ) (old new : Told) (from to : Holder T C R) (result : Result (Unit {0}) SlateDBError)
    → AppliesBy ways moment tries old new from to result → AppliesBy (with_may ways more) moment tries old new from to result
applies_more ways more by moment tries old new from to result applies =
    OrMemory-map result (λ stopped. stopped_more ways more by moment tries old new from to stopped) (λ begun. (begun.0, renewed_more more by begun.1, begins_more ways more by moment tries old new begun.0 from to result begun.2)) applies

-- a commit that began and ran is an apply
pub began_applies : {T C R : Type 0} (ways : MayWays T C R) (moment : ℤ) (tries : ℕ) (old new : Told) (commit : CommitPhase T) (found : Option (CommitPhase T)) (from to : Holder T C R) (result : Result (Unit {0}) SlateDBError)
    → found ≡ Some commit → (ran_out {X = Option (CommitPhase T)} (Ok found) ≡ true) ⊎ RenewsBy ways from from.id from.object (Ok found) → OrMemory result (ApplyBeganBy ways moment tries old new commit from to) (AppliedBy ways moment tries old new commit from to result)
    → AppliesBy ways moment tries old new from to result
began_applies ways moment tries old new commit found from to result is (inl out) ran = absurd (let both : false ≡ true = out in cc)
began_applies ways moment tries old new commit found from to result is (inr renewed) ran =
    let here = subst (λ (o : Option (CommitPhase _)). RenewsBy ways from from.id from.object (Ok o)) is renewed in
    OrMemory-map result (λ began. inr (commit, here, began)) (λ done. (Ok (Some commit), here, done)) ran

-- one that is refused at once is an apply too, also where memory runs out
pub refused_applies : {T C R : Type 0} (ways : MayWays T C R) (moment : ℤ) (tries : ℕ) (told : Told) (e : SlateDBError) (holder : Holder T C R) → (is_memory e ≡ true) ⊎ RenewsBy ways holder holder.id holder.object (Err e) → AppliesBy ways moment tries told told holder holder (Err e)
refused_applies ways moment tries told e holder (inl out) = inr (out, inl (refl, refl))
refused_applies ways moment tries told e holder (inr renewed) = inl (Err e, renewed, (refl, refl, refl))

-- and one that commits nothing
pub nothing_applies : {T C R : Type 0} (ways : MayWays T C R) (moment : ℤ) (tries : ℕ) (told : Told) (found : Option (CommitPhase T)) (holder : Holder T C R) → found ≡ None → (ran_out {X = Option (CommitPhase T)} (Ok found) ≡ true) ⊎ RenewsBy ways holder holder.id holder.object (Ok found) → AppliesBy ways moment tries told told holder holder (Ok tt)
nothing_applies ways moment tries told found holder is (inl out) = absurd (let both : false ≡ true = out in cc)
nothing_applies ways moment tries told found holder is (inr renewed) =
    inl (Ok None, subst (λ (o : Option (CommitPhase _)). RenewsBy ways holder holder.id holder.object (Ok o)) is renewed, (refl, refl, refl))

-- a wrapped function answers what the function may answer
pub wraps : {C T : Type 0} (answers : Bor C → ℕ → Bor T → Result (Option T) SlateDBError → Type 0) (inner : ℕ → Bor T → Result (Option T) SlateDBError → Type 0)
    → ((codec : Bor C) (id : ℕ) (shown : Bor T) (reply : Result (Option T) SlateDBError) → answers codec id shown reply → inner id shown reply) → Within (MayWith answers) (May inner)
wraps answers inner says id value reply may enough = record { shown = may.shown; shows = may.shows; says = says may.codec id may.shown reply may.says }

unless_may : {T : Type 0} (inner : ℕ → Bor T → Result (Option T) SlateDBError → Type 0) (e : Option SlateDBError) (id : ℕ) (shown : Bor T) (value : T) (reply : Result (Option T) SlateDBError)
    → shown.now ≡ value → UnlessMay e (inner id shown) reply → UnlessMay e (May inner id value) reply
unless_may inner (Some e) id shown value reply shows says = says
unless_may inner None id shown value reply shows says = record { shown = shown; shows = shows; says = says }

-- one that asks a fence before answers the fence, or what the function may answer
pub wraps_fenced : {C T E : Type 0} (answers : Bor C → ℕ → Bor T → Result (Option T) SlateDBError → Type 0) (epoch : E → T → ℕ) (epochs : E) (own : ℕ) (inner : ℕ → Bor T → Result (Option T) SlateDBError → Type 0)
    → ((codec : Bor C) (id : ℕ) (shown : Bor T) (reply : Result (Option T) SlateDBError) → answers codec id shown reply → UnlessMay (fence own (epoch epochs shown.now)) (inner id shown) reply) → Within (MayWith answers) (FencedMay epoch epochs own (May inner))
wraps_fenced answers epoch epochs own inner says id value reply may enough =
    let here = unless_may inner (fence own (epoch epochs may.shown.now)) id may.shown value reply may.shows (says may.codec id may.shown reply may.says) in
    subst (λ v. UnlessMay (fence own (epoch epochs v)) (May inner id value) reply) may.shows here

-- the machine of a commit that was made
maybe_made : {T : Type 0} {may : ℕ → T → Result (Option T) SlateDBError → Type 0} (more : ℕ → T → Result (Option T) SlateDBError → Type 0) {refusal : ℕ → T → T → Right → Option SlateDBError} {encoded : T → Result (List ℕ) SlateDBError} {right : Right} {id : ℕ} {value : T} (start : Result (Option (CommitPhase T)) SlateDBError) (machine : UpdateMachine T)
    → Within may more → ran_out start ≡ false → machine ≡ maybe_of start → (ran_out start ≡ true) ⊎ RenewedBy may refusal encoded right id value start → MaybeBy more refusal encoded right id value machine
maybe_made more start machine by enough same (inl out) = absurd (let both : false ≡ true = sym enough ∙ out in cc)
maybe_made more start machine by enough same (inr renewed) = (start, renewed_more more by renewed, same)

-- and that of the fence, where it refuses
unless_fenced : {T E : Type 0} (epoch : E → T → ℕ) (epochs : E) (own : ℕ) (may : ℕ → T → Result (Option T) SlateDBError → Type 0) (id : ℕ) (value : T) (e : SlateDBError) (f : Option SlateDBError) → f ≡ Some e → UnlessMay f (may id value) (Err e)
unless_fenced epoch epochs own may id value e f same = subst (λ (o : Option SlateDBError). UnlessMay o (may id value) (Err e)) (sym same) refl

no_memory : (b : Bool) (own read : ℕ) (e : SlateDBError) → (if b then Some (Fenced own read) else None) ≡ Some e → is_memory e ≡ false
no_memory true own read e same = let is : Fenced own read ≡ e = cc in ap is_memory (sym is)
no_memory false own read e same = absurd cc

pub maybe_fenced : {T E : Type 0} (epoch : E → T → ℕ) (epochs : E) (own : ℕ) (may : ℕ → T → Result (Option T) SlateDBError → Type 0) (refusal : ℕ → T → T → Right → Option SlateDBError) (encoded : T → Result (List ℕ) SlateDBError) (right : Right) (id : ℕ) (value : T) (e : SlateDBError) (machine : UpdateMachine T)
    → fence own (epoch epochs value) ≡ Some e → machine ≡ Refused e → MaybeBy (FencedMay epoch epochs own may) refusal encoded right id value machine
maybe_fenced epoch epochs own may refusal encoded right id value e machine same is =
    (Err e, record { reply = Err e; given = unless_fenced epoch epochs own may id value e (fence own (epoch epochs value)) same; enough = no_memory (nat_lt own (epoch epochs value)) own (epoch epochs value) e same; commits = refl }, is)

-- the machine of a commit by a wrapped function
pub maybe_wrapped : {C T : Type 0} (answers : Bor C → ℕ → Bor T → Result (Option T) SlateDBError → Type 0) (inner : ℕ → Bor T → Result (Option T) SlateDBError → Type 0) (refusal : ℕ → T → T → Right → Option SlateDBError) (encoded : T → Result (List ℕ) SlateDBError) (right : Right) (id : ℕ) (value : T) (start : Result (Option (CommitPhase T)) SlateDBError) (machine : UpdateMachine T)
    → ((codec : Bor C) (id : ℕ) (shown : Bor T) (reply : Result (Option T) SlateDBError) → answers codec id shown reply → inner id shown reply)
    → ran_out start ≡ false → machine ≡ maybe_of start → (ran_out start ≡ true) ⊎ RenewedBy (MayWith answers) refusal encoded right id value start → MaybeBy (May inner) refusal encoded right id value machine
maybe_wrapped answers inner refusal encoded right id value start machine says enough same either = maybe_made (May inner) start machine (wraps answers inner says) enough same either

-- what is said of what is within a fenced holder is said of it
pub fenced_applies : {T C R E : Type 0} (decoded : C → List ℕ → Result T SlateDBError) (encoded : C → T → Result (List ℕ) SlateDBError) (refusal : R → ℕ → T → T → Right → Option SlateDBError) (epoch : E → T → ℕ) (right : Right) (may : ℕ → T → Result (Option T) SlateDBError → Type 0)
    (inside fenced : FencedHolder T C R E) (moment : ℤ) (tries : ℕ) (old new : Told) (to : Holder T C R) (result : Result (Unit {0}) SlateDBError) → inside ≡ fenced
    → AppliesBy (ways_by decoded encoded refusal (FencedMay epoch inside.epochs inside.epoch may) right) moment tries old new inside.holder to result
    → AppliesBy (ways_by decoded encoded refusal (FencedMay epoch fenced.epochs fenced.epoch may) right) moment tries old new fenced.holder to result
fenced_applies decoded encoded refusal epoch right may inside fenced moment tries old new to result same applies =
    subst (λ (f : FencedHolder _ _ _ _). AppliesBy (ways_by decoded encoded refusal (FencedMay epoch f.epochs f.epoch may) right) moment tries old new f.holder to result) same applies

-- a function that asks a fence first answers the fence, or what it computes
unless_made : {T : Type 0} (e : Option SlateDBError) (made reply : Result (Option T) SlateDBError) → unless e made ≡ reply → UnlessMay e (λ r. made ≡ r) reply
unless_made (Some e) made reply same = sym same
unless_made None made reply same = same

pub computes_fenced : {C T E : Type 0} (answers : Bor C → ℕ → Bor T → Result (Option T) SlateDBError → Type 0) (epoch : E → T → ℕ) (epochs : E) (own : ℕ) (made : ℕ → T → Result (Option T) SlateDBError)
    → ComputesWith answers (fenced_made epoch epochs own made) → Within (MayWith answers) (FencedMay epoch epochs own (λ id value reply. made id value ≡ reply))
computes_fenced answers epoch epochs own made computes id value reply may enough =
    unless_made (fence own (epoch epochs value)) (made id value) reply (by_made answers (fenced_made epoch epochs own made) computes id value reply may enough)
