-- An apply by what a function may answer ends in a fault only where the store faults.
use Rattle.std.specs.Prelude.{◌≡◌, ◌≤◌, ℤ, ℕ, Bool, true, false, Option, Some, None, Result, Ok, Err, List, [], ◌∷◌, refl}
use Rattle.std.proofs.Common.{◌⊎◌, inl, inr, arith, ap, subst, sym, ◌∙◌}
use Rattle.std.proofs.lemmas.Bool.Decides.{nat_tests}
use Rattle.slate_ids.specs.Answers.{OrMemory, ran_out, is_memory}
use Rattle.slate_ids.specs.Limits.{next_count}
use Rattle.slate_ids.specs.declared.error.SlateDBError.{SlateDBError}
use Rattle.slate_ids.specs.declared.error.SlateDBError.TheVariants.{StoreFault, Contended, LatestTransactionalObjectVersionMissing}
use Rattle.slate_store.specs.StoreCalls.{Told, Makes, Rose, IsAnswerTo, moment_of, fault_rose}
use Rattle.slate_store.specs.Machines.{Goes, Stay, End, IsEnd}
use Rattle.slate_store.specs.declared.store_answer.StoreAnswer.{StoreAnswer}
use Rattle.slate_store.specs.declared.store_answer.StoreAnswer.TheVariants.{Fault}
use Rattle.slate_store.specs.declared.store_call.StoreCall.{StoreCall}
use Rattle.slate_txn_log.proofs.Commits.{commit_faults}
use Rattle.slate_txn_log.proofs.Faults.{Fine, fine_stay, fine_err}
use Rattle.slate_txn_log.proofs.ReadFaults.{read_faults}
use Rattle.slate_txn_log.specs.CommitPhase.{is_putting}
use Rattle.slate_txn_log.specs.Due.{FaultOf}
use Rattle.slate_txn_log.specs.ReadPhase.{read_due, read_goes, Reply}
use Rattle.slate_txn_log.specs.declared.commit_phase.CommitPhase.{CommitPhase}
use Rattle.slate_txn_log.specs.declared.read_phase.ReadPhase.{ReadPhase}
use Rattle.slate_txn_log.specs.declared.read_phase.ReadPhase.TheVariants.{Listing, Getting, Bounding as BoundingRead, Over}
use Rattle.slate_txn.proofs.ApplyFaults.{Due, due_wanted, fine_begun, sound_commit}
use Rattle.slate_txn.proofs.ApplyRuns.{putting_due}
use Rattle.slate_txn.specs.Apply.{FaultFree, ApplyGoes, apply_asks, state_due, ways_of}
use Rattle.slate_txn.proofs.AppliesBy.{ByMade, Within, renewed_more, renews_made, with_may}
use Rattle.slate_txn_log.specs.declared.right.Right.{Right}
use Rattle.slate_txn.specs.FencedApplying.{FencedMay}
use Rattle.slate_txn.specs.FencedHolder.{FencedHolder}
use Rattle.slate_txn.specs.ApplyMoves.{ways_by, MayWays, RenewsBy, ReadMoves, ApplyMoves, AppliedBy, NeverFaults}
use Rattle.slate_txn.specs.Holder.{Holder, at_version}
use Rattle.slate_txn.specs.Moves.{Move, RunBy, RanBy}
use Rattle.slate_txn.specs.declared.apply.ApplyPhase.{ApplyPhase}
use Rattle.slate_txn.specs.declared.apply.ApplyPhase.TheVariants.{Reading, Committing}

-- from a phase in which a call is due, only a fault of the store leads to a fault
abbrev Sound : {P R : Type 0} → (P → Bool) → StoreAnswer → Goes P R → Type 0
Sound due answer out = ((answer ≡ Fault) × IsEnd out) ⊎ Fine due out

record OnlyFaultsBy {P R : Type 0} (due : P → Bool) (asks : P → StoreCall) (may : P → StoreAnswer → Goes P R → Type 0) : Type 0 where
  sound : (p : P) (answer : StoreAnswer) (out : Goes P R) → due p ≡ true → IsAnswerTo (asks p) answer → may p answer out → Sound due answer out

rose_later : (a b c : ℕ) → a ≤ b → next_count b ≤ c → next_count a ≤ c
rose_later a b c less h = grind (arith, nat_tests)

stays_due : {P R : Type 0} (due : P → Bool) (q : P) (answer : StoreAnswer) → Sound {R = R} due answer (Stay q) → due q ≡ true
stays_due due q answer (inl f) = absurd f.1
stays_due due q answer (inr fine) = fine.stays q refl

ends_fault : {P R : Type 0} (due : P → Bool) (q : P) (answer : StoreAnswer) (out : Goes P R) → Sound due answer out → out ≡ End q (Err StoreFault) → answer ≡ Fault
ends_fault due q answer out (inl f) same = f.0
ends_fault due q answer out (inr fine) same = absurd (fine.ends q same)

went_rose : {P R : Type 0} (due : P → Bool) (asks : P → StoreCall) (may : P → StoreAnswer → Goes P R → Type 0) (moment : ℤ) (old mid new : Told) (call wanted : StoreCall) (answer : StoreAnswer) (ms : List (Move P R)) (q : P) (went : Goes P R)
    → ((r : P) → due r ≡ true → RunBy asks may moment mid new ms (Stay r) (End q (Err StoreFault)) → Rose mid.faults new.faults)
    → call ≡ wanted → Makes old mid call (moment_of call moment) answer → (IsAnswerTo wanted answer → Sound due answer went) → RunBy asks may moment mid new ms went (End q (Err StoreFault)) → Rose old.faults new.faults
went_rose due asks may moment old mid new call wanted answer ms q (Stay next) rest same makes sound run =
    let kind = subst (λ (c : StoreCall). IsAnswerTo c answer) same makes.kind in
    rose_later old.faults mid.faults new.faults makes.later (rest next (stays_due due next answer (sound kind)) run)
went_rose due asks may moment old mid new call wanted answer [] q (End last r) rest same makes sound run =
    let rose : Rose old.faults mid.faults = fault_rose makes same (λ kind. ends_fault due q answer (End last r) (sound kind) (sym run.0)) in
    subst (λ (t : Told). Rose old.faults t.faults) (sym run.1) rose
went_rose due asks may moment old mid new call wanted answer (n ∷ ms) q (End last r) rest same makes sound run = absurd run

run_rose : {P R : Type 0} (due : P → Bool) (asks : P → StoreCall) (may : P → StoreAnswer → Goes P R → Type 0) → OnlyFaultsBy due asks may → (moment : ℤ) (old new : Told) (moves : List (Move P R)) (p q : P)
    → due p ≡ true → RunBy asks may moment old new moves (Stay p) (End q (Err StoreFault)) → Rose old.faults new.faults
run_rose due asks may only moment old new [] p q here run = absurd cc
run_rose due asks may only moment old new (m ∷ ms) p q here run =
    went_rose due asks may moment old run.0 new m.made.call (asks p) m.made.answer ms q m.went (λ r later after. run_rose due asks may only moment run.0 new ms r q later after)
    run.1 run.2 (λ kind. only.sound p m.made.answer m.went here kind run.3) run.4

ran_rose : {P R : Type 0} {is_start : P → Bool} (due : P → Bool) (asks : P → StoreCall) (may : P → StoreAnswer → Goes P R → Type 0) → OnlyFaultsBy due asks may → {moment : ℤ} {tries : ℕ} {old new : Told} {start to : P} {result : Result R SlateDBError}
    → due start ≡ true → RanBy is_start asks may moment tries old new start to result → FaultOf old new result
ran_rose due asks may only {moment = moment} {old = old} {new = new} {start = start} {to = to} {result = result} here ran = λ fault. elim ran.ends [
  | inl e ↦ run_rose due asks may only moment old new ran.moves start to here (subst (λ (out : Goes _ _). RunBy asks may moment old new ran.moves (Stay start) out) (e.0 ∙ ap (λ (r : Result _ SlateDBError). End to r) fault) ran.run)
  | inr e ↦ absurd (let other : Err Contended ≡ result = sym e.1 in let both : Err Contended ≡ Err StoreFault = other ∙ fault in cc)
]

due_renewed : {T C R : Type 0} (ways : MayWays T C R) (holder : Holder T C R) (id : ℕ) (value : T) (start : Result (Option (CommitPhase T)) SlateDBError) → RenewsBy ways holder id value start → Due start
due_renewed ways holder id value start renewed =
    subst (λ (s : Result (Option (CommitPhase _)) SlateDBError). Due s) renewed.commits (due_wanted (ways.refusal holder.rules) (ways.encoded holder.sequenced.codec) ways.right id value renewed.reply)

fine_read : {T C R : Type 0} (ways : MayWays T C R) → NeverFaults ways → (holder : Holder T C R) (went : Reply T) (out : ApplyGoes T C R) → Fine read_due went → ReadMoves holder (RenewsBy ways holder) went out → Fine state_due out
fine_read ways free holder (Stay read) out fine moves = subst (λ (g : Goes _ _). Fine state_due g) moves (fine_stay state_due (Reading read, holder) (fine.stays read refl))
fine_read ways free holder (End read (Err e)) out fine moves =
    subst (λ (g : Goes _ _). Fine state_due g) moves (fine_err state_due (Reading read, holder) e (λ same. fine.ends read (ap (λ (k : SlateDBError). End read (Err k)) same)))
fine_read ways free holder (End read (Ok None)) out fine moves = subst (λ (g : Goes _ _). Fine state_due g) moves (fine_err state_due (Reading read, holder) LatestTransactionalObjectVersionMissing (λ same. absurd cc))
fine_read ways free holder (End read (Ok (Some version))) out fine moves =
    subst (λ (g : Goes _ _). Fine state_due g) moves.2
    (fine_begun (Reading read) (at_version holder version.0 version.1) moves.0 (free.renewal holder version.0 version.1 moves.0 moves.1) (due_renewed ways holder version.0 version.1 moves.0 moves.1))

read_ends : {T C R : Type 0} (ways : MayWays T C R) (holder : Holder T C R) (read : ReadPhase T) (out : ApplyGoes T C R) → ApplyMoves ways (Reading read, holder) Fault out → IsEnd out
read_ends ways holder Listing out moves = subst (λ (g : Goes _ _). IsEnd g) moves tt
read_ends ways holder (Getting n) out moves = subst (λ (g : Goes _ _). IsEnd g) moves tt
read_ends ways holder (BoundingRead n value) out moves = subst (λ (g : Goes _ _). IsEnd g) moves tt
read_ends ways holder Over out moves = subst (λ (g : Goes _ _). IsEnd g) moves tt

sound_read : {T C R : Type 0} (ways : MayWays T C R) → NeverFaults ways → (holder : Holder T C R) (read : ReadPhase T) (answer : StoreAnswer) (out : ApplyGoes T C R)
    → ((answer ≡ Fault) × IsEnd (read_goes holder.sequenced.log (ways.decoded holder.sequenced.codec) read answer)) ⊎ Fine read_due (read_goes holder.sequenced.log (ways.decoded holder.sequenced.codec) read answer)
    → ApplyMoves ways (Reading read, holder) answer out → Sound state_due answer out
sound_read ways free holder read answer out (inl f) moves = inl (f.0, read_ends ways holder read out (subst (λ (a : StoreAnswer). ApplyMoves ways (Reading read, holder) a out) f.0 moves))
sound_read ways free holder read answer out (inr fine) moves = inr (fine_read ways free holder (read_goes holder.sequenced.log (ways.decoded holder.sequenced.codec) read answer) out fine moves)

by_phase : {T C R : Type 0} (ways : MayWays T C R) → NeverFaults ways → (phase : ApplyPhase T) (holder : Holder T C R) (answer : StoreAnswer) (out : ApplyGoes T C R) → state_due (phase, holder) ≡ true → IsAnswerTo (apply_asks (phase, holder)) answer
    → ApplyMoves ways (phase, holder) answer out → Sound state_due answer out
by_phase ways free (Reading read) holder answer out due kind moves =
    let only = read_faults holder.sequenced.db holder.sequenced.log (ways.decoded holder.sequenced.codec) (free.decodes holder.sequenced.codec) in
    sound_read ways free holder read answer out (only.sound read answer due kind) moves
by_phase ways free (Committing commit) holder answer out due kind moves =
    let only = commit_faults holder.sequenced.db holder.sequenced.log in
    subst (λ (g : Goes _ _). Sound state_due answer g) moves
    (sound_commit (ways_of ways.decoded ways.encoded ways.refusal (λ id value. Ok None) ways.right) holder commit answer (only.sound commit answer due kind))

apply_only : {T C R : Type 0} (ways : MayWays T C R) → NeverFaults ways → OnlyFaultsBy state_due apply_asks (ApplyMoves ways)
apply_only ways free = record { sound = λ p answer out due kind moves. by_phase ways free p.0 p.1 answer out due kind moves }

-- the fault of a run from a commit is the store's
pub applied_rose : {T C R M : Type 0} (ways : MayWays T C R) → NeverFaults ways → (moment : ℤ) (tries : ℕ) (old new : Told) (commit : CommitPhase T) (from to : Holder T C R) (result : Result (Unit {0}) SlateDBError) → is_putting commit ≡ true
    → OrMemory result M (AppliedBy ways moment tries old new commit from to result) → FaultOf old new result
applied_rose ways free moment tries old new commit from to result putting (inl ran) = ran_rose state_due apply_asks (ApplyMoves ways) (apply_only ways free) (putting_due commit putting) ran.1
applied_rose ways free moment tries old new commit from to result putting (inr m) = λ fault. absurd (let out : ran_out result ≡ true = m.0 in let not : ran_out result ≡ false = ap ran_out fault in cc)

-- a refusal before any call is no fault
pub never_refused : {T C R X : Type 0} (ways : MayWays T C R) → NeverFaults ways → (holder : Holder T C R) (id : ℕ) (value : T) (e : SlateDBError) (old new : Told) → (is_memory e ≡ true) ⊎ RenewsBy ways holder id value (Err e) → FaultOf {R = X} old new (Err e)
never_refused ways free holder id value e old new (inl out) = λ fault.
    let is : e ≡ StoreFault = cc in let no_memory : is_memory e ≡ false = ap is_memory is in absurd (let both : false ≡ true = sym no_memory ∙ out in cc)
never_refused ways free holder id value e old new (inr renewed) = λ fault. (let is : e ≡ StoreFault = cc in absurd (free.renewal holder id value (Err e) renewed (ap (λ (k : SlateDBError). Err k) is)))

-- where neither codec, rules nor a function answer a fault, nor does what it may answer
pub never_made : {T C R : Type 0} (ways : MayWays T C R) (made : ℕ → T → Result (Option T) SlateDBError) → ByMade ways.may made → FaultFree (ways_of ways.decoded ways.encoded ways.refusal made ways.right) → NeverFaults ways
never_made ways made by free = record {
  decodes = free.decodes;
  renewal = λ holder id value start renewed same. free.renewal holder id value (renews_made ways made by holder id value start renewed ∙ same);
}

-- where more answers are never a fault, nor are these
pub never_less : {T C R : Type 0} (ways : MayWays T C R) (more : ℕ → T → Result (Option T) SlateDBError → Type 0) → Within ways.may more → NeverFaults (with_may ways more) → NeverFaults ways
never_less ways more by free = record { decodes = free.decodes; renewal = λ holder id value start renewed. free.renewal holder id value start (renewed_more more by renewed) }

-- what is said of a fenced holder is said of what is within it
pub fenced_never : {T C R E : Type 0} (decoded : C → List ℕ → Result T SlateDBError) (encoded : C → T → Result (List ℕ) SlateDBError) (refusal : R → ℕ → T → T → Right → Option SlateDBError) (epoch : E → T → ℕ) (right : Right) (may : ℕ → T → Result (Option T) SlateDBError → Type 0) (inside fenced : FencedHolder T C R E)
    → inside ≡ fenced → NeverFaults (ways_by decoded encoded refusal (FencedMay epoch fenced.epochs fenced.epoch may) right) → NeverFaults (ways_by decoded encoded refusal (FencedMay epoch inside.epochs inside.epoch may) right)
fenced_never decoded encoded refusal epoch right may inside fenced same free =
    subst (λ (f : FencedHolder _ _ _ _). NeverFaults (ways_by decoded encoded refusal (FencedMay epoch f.epochs f.epoch may) right)) (sym same) free
