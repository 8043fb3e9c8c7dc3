-- What a commit that ran leaves in the store.
use Rattle.std.specs.Prelude.{◌≡◌, ◌||◌, ◌&&◌, not, nat_lt, nat_le, ℤ, ℕ, Bool, true, false, List, [], ◌∷◌, Option, Some, None, Result, Ok, Err, OnOk, OnErr, IfErr, if◌then◌else◌, refl}
use Rattle.std.proofs.Common.{◌⊎◌, inl, inr, ap, sym, subst, ◌∙◌, arith}
use Rattle.slate_ids.specs.Answers.{Gives, OrMemory, ran_out}
use Rattle.slate_ids.specs.Limits.{last_number}
use Rattle.slate_ids.specs.declared.error.SlateDBError.{SlateDBError}
use Rattle.slate_ids.specs.declared.error.SlateDBError.TheVariants.{TransactionalObjectVersionExists, StoreFault}
use Rattle.slate_store.specs.StoreCalls.{Told, Makes, Answers, contents_after, moment_of}
use Rattle.slate_store.specs.Machines.{Goes, Stay, End}
use Rattle.slate_store.specs.CallRuns.{Run, turns, one_if}
use Rattle.slate_store.specs.Store.{Store, Outcome, put_new, under, writes, object_at, whole}
use Rattle.slate_store.specs.declared.made.Made.{Made}
use Rattle.slate_store.specs.declared.mark.Mark.{Mark}
use Rattle.slate_store.specs.declared.mark.Mark.TheVariants.{Good, Fail, Lost}
use Rattle.slate_store.specs.declared.object.StoredObject.{StoredObject}
use Rattle.slate_store.specs.declared.store_answer.StoreAnswer.{StoreAnswer}
use Rattle.slate_store.specs.declared.store_answer.StoreAnswer.TheVariants.{Found, Got, Created, Replaced, Written, Deleted, Fault}
use Rattle.slate_store.specs.declared.store_call.StoreCall.{StoreCall}
use Rattle.slate_store.specs.declared.store_call.StoreCall.TheVariants.{PutNew, Get}
use Rattle.slate_ids.specs.declared.object_path.ObjectPath.{ObjectPath}
use Rattle.slate_txn_log.proofs.Steps.{reads_keep}
use Rattle.slate_txn_log.specs.Boundary.{boundary_got}
use Rattle.slate_txn_log.specs.CommitPhase.{commit_asks, commit_goes, bounded_goes, is_putting}
use Rattle.slate_txn_log.specs.Commit.{Committed, CommitBegan, never}
use Rattle.slate_txn_log.specs.LogPaths.{version_path, boundary_path}
use Rattle.slate_txn_log.specs.declared.commit_phase.CommitPhase.{CommitPhase}
use Rattle.slate_txn_log.specs.declared.commit_phase.CommitPhase.TheVariants.{Putting, Bounding, Over}
use Rattle.slate_txn_log.specs.declared.log_kind.LogKind.{LogKind}
use Rattle.slate_txn.specs.Holder.{Holder}
use Rattle.slate_txn.specs.Standing.{SameContents, PutStands, CommitStands, after_put, may_stand, UpdateStands}
use Rattle.slate_txn.specs.Updating.{done_of}

-- under any mark a call has its whole effect or none
under_either : (b : Bool) (mark : Mark) (o : Outcome) (s : Store) → (Some (under (if b then Fail else mark) o s).store ≡ Some s) ⊎ (Some (under (if b then Fail else mark) o s).store ≡ Some (under (if b then Fail else Good) o s).store)
under_either true mark o s = inl refl
under_either false Good o s = inr refl
under_either false Fail o s = inl refl
under_either false Lost o s = inr refl

either_contents : (mark : Mark) (path : ObjectPath) (bytes : List ℕ) (moment : ℤ) (contents : Option Store)
    → (contents_after mark (PutNew path bytes) moment contents ≡ contents) ⊎ (contents_after mark (PutNew path bytes) moment contents ≡ contents_after Good (PutNew path bytes) moment contents)
either_contents mark path bytes moment None = inl refl
either_contents mark path bytes moment (Some s) = under_either (writes (PutNew path bytes) s && not (nat_lt s.last_tag last_number)) mark (whole (PutNew path bytes) moment s) s

-- where no object was made the store is as it was
under_none : (b : Bool) (mark : Mark) (object : Option StoredObject) (path : ObjectPath) (bytes : List ℕ) (moment : ℤ) (s : Store)
    → Created None ≡ (under (if b then Fail else mark) (put_new object path bytes moment s) s).answer → Some (under (if b then Fail else mark) (put_new object path bytes moment s) s).store ≡ Some s
under_none true mark object path bytes moment s same = refl
under_none false Good (Some object) path bytes moment s same = refl
under_none false Good None path bytes moment s same = absurd cc
under_none false Fail object path bytes moment s same = refl
under_none false Lost object path bytes moment s same = absurd cc

none_contents : (mark : Mark) (path : ObjectPath) (bytes : List ℕ) (moment : ℤ) (contents : Option Store) → Answers mark contents (PutNew path bytes) moment (Created None) → contents_after mark (PutNew path bytes) moment contents ≡ contents
none_contents mark path bytes moment None answers = refl
none_contents mark path bytes moment (Some s) answers = under_none (writes (PutNew path bytes) s && not (nat_lt s.last_tag last_number)) mark (object_at path s) path bytes moment s answers

-- where one was made the put had its whole effect
under_some : (b : Bool) (mark : Mark) (o : Outcome) (s : Store) (tag : ℕ) → Created (Some tag) ≡ (under (if b then Fail else mark) o s).answer → Some (under (if b then Fail else mark) o s).store ≡ Some (under (if b then Fail else Good) o s).store
under_some true mark o s tag same = refl
under_some false Good o s tag same = refl
under_some false Fail o s tag same = absurd cc
under_some false Lost o s tag same = refl

some_contents : (mark : Mark) (path : ObjectPath) (bytes : List ℕ) (moment : ℤ) (contents : Option Store) (tag : ℕ) → Answers mark contents (PutNew path bytes) moment (Created (Some tag)) → contents_after mark (PutNew path bytes) moment contents ≡ contents_after Good (PutNew path bytes) moment contents
some_contents mark path bytes moment None tag answers = refl
some_contents mark path bytes moment (Some s) tag answers = under_some (writes (PutNew path bytes) s && not (nat_lt s.last_tag last_number)) mark (whole (PutNew path bytes) moment s) s tag answers

-- what stands where the commit is: its put may stand, stands after Ok, and doesn't after any refusal but these
abbrev Fate : {T : Type 0} → Type 0 → Type 0 → Goes (CommitPhase T) (ℕ × T) → Type 0
Fate same stands (Stay p) = same ⊎ stands
Fate same stands (End p (Ok version)) = stands
Fate same stands (End p (Err e)) = (same ⊎ stands) × (may_stand e ≡ false → same)

-- after the read of the boundary
abbrev Ends : {T : Type 0} → Goes (CommitPhase T) (ℕ × T) → Type 0
Ends (Stay p) = ⊥
Ends (End p (Ok version)) = Unit {0}
Ends (End p (Err e)) = may_stand e ≡ true

ends_if : {T : Type 0} (n b : ℕ) (value : T) (test : Bool) → Ends (if test then End Over (Err (TransactionalObjectVersionExists n (Some b))) else End Over (Ok (n, value)))
ends_if n b value true = refl
ends_if n b value false = tt

ends_bounded : {T : Type 0} (n : ℕ) (value : T) (b : Option ℕ) → Ends (bounded_goes n value b)
ends_bounded n value None = refl
ends_bounded n value (Some b) = ends_if n b value (nat_le n b)

bounding_ends : {T : Type 0} (n : ℕ) (value : T) (answer : StoreAnswer) → Ends (commit_goes (Bounding n value) answer)
bounding_ends n value (Got object) = ends_bounded n value (boundary_got object)
bounding_ends n value _ = refl

-- the run ends where it stands
end_fate : {T : Type 0} (db : List ℕ) (log : LogKind) (moment : ℤ) (old mid new : Told) (commit : CommitPhase T) (ms : List Made) (went out : Goes (CommitPhase T) (ℕ × T))
    → Ends went → PutStands db log moment old mid commit → Run (commit_asks db log) commit_goes moment mid new ms went out → Fate (SameContents old new) (PutStands db log moment old new commit) out
end_fate db log moment old mid new commit ms (Stay p) out ends stands run = absurd ends
end_fate db log moment old mid new commit [] (End p (Ok version)) out ends stands run =
    subst (λ (g : Goes _ _). Fate (SameContents old new) (PutStands db log moment old new commit) g) (sym run.0) (subst (λ (t : Told). PutStands db log moment old t commit) (sym run.1) stands)
end_fate db log moment old mid new commit [] (End p (Err e)) out ends stands run =
    let here = subst (λ (t : Told). PutStands db log moment old t commit) (sym run.1) stands in
    subst (λ (g : Goes _ _). Fate (SameContents old new) (PutStands db log moment old new commit) g) (sym run.0) (inr here, λ no. absurd (let both : false ≡ true = sym no ∙ ends in cc))
end_fate db log moment old mid new commit (m ∷ ms) (End p r) out ends stands run = absurd run

-- from the read of the boundary on
bounding_fate : {T : Type 0} (db : List ℕ) (log : LogKind) (moment : ℤ) (old mid new : Told) (commit : CommitPhase T) (n : ℕ) (value : T) (ms : List Made) (out : Goes (CommitPhase T) (ℕ × T))
    → PutStands db log moment old mid commit → Run (commit_asks db log) commit_goes moment mid new ms (Stay (Bounding n value)) out → Fate (SameContents old new) (PutStands db log moment old new commit) out
bounding_fate db log moment old mid new commit n value [] out stands run =
    subst (λ (g : Goes _ _). Fate (SameContents old new) (PutStands db log moment old new commit) g) (sym run.0) (inr (subst (λ (t : Told). PutStands db log moment old t commit) (sym run.1) stands))
bounding_fate db log moment old mid new commit n value (m ∷ ms) out stands run =
    let here : Makes mid run.0 (Get (boundary_path log db)) (moment_of (Get (boundary_path log db)) moment) m.answer = subst (λ (c : StoreCall). Makes mid run.0 c (moment_of c moment) m.answer) run.1 run.2 in
    let kept : run.0.contents ≡ mid.contents = reads_keep refl here in
    end_fate db log moment old run.0 new commit ms (commit_goes (Bounding n value) m.answer) out (bounding_ends n value m.answer) (kept ∙ stands) run.3

-- after a fault
fault_fate : {T : Type 0} (db : List ℕ) (log : LogKind) (moment : ℤ) (old mid new : Told) (commit : CommitPhase T) (ms : List Made) (out : Goes (CommitPhase T) (ℕ × T))
    → SameContents old mid ⊎ PutStands db log moment old mid commit → Run (commit_asks db log) commit_goes moment mid new ms (End Over (Err StoreFault)) out → Fate (SameContents old new) (PutStands db log moment old new commit) out
fault_fate db log moment old mid new commit [] out either run =
    subst (λ (g : Goes _ _). Fate (SameContents old new) (PutStands db log moment old new commit) g) (sym run.0)
    (subst (λ (t : Told). SameContents old t ⊎ PutStands db log moment old t commit) (sym run.1) either, λ no. absurd cc)
fault_fate db log moment old mid new commit (m ∷ ms) out either run = absurd run

-- after the put found an object
taken_fate : {T : Type 0} (db : List ℕ) (log : LogKind) (moment : ℤ) (old mid new : Told) (commit : CommitPhase T) (n : ℕ) (ms : List Made) (out : Goes (CommitPhase T) (ℕ × T))
    → SameContents old mid → Run (commit_asks db log) commit_goes moment mid new ms (End Over (Err (TransactionalObjectVersionExists n None))) out → Fate (SameContents old new) (PutStands db log moment old new commit) out
taken_fate db log moment old mid new commit n [] out same run =
    let here = subst (λ (t : Told). SameContents old t) (sym run.1) same in
    subst (λ (g : Goes _ _). Fate (SameContents old new) (PutStands db log moment old new commit) g) (sym run.0) (inl here, λ no. here)
taken_fate db log moment old mid new commit n (m ∷ ms) out same run = absurd run

mark_either : (old mid : Told) (path : ObjectPath) (bytes : List ℕ) (moment : ℤ) (answer : StoreAnswer) → Makes old mid (PutNew path bytes) moment answer → (mid.contents ≡ old.contents) ⊎ (mid.contents ≡ contents_after Good (PutNew path bytes) moment old.contents)
mark_either old mid path bytes moment answer makes = elim (either_contents makes.mark path bytes moment old.contents) [
  | inl same ↦ inl (makes.contents ∙ same)
  | inr whole ↦ inr (makes.contents ∙ whole)
]

-- from the put's answer on
answer_fate : {T : Type 0} (db : List ℕ) (log : LogKind) (moment : ℤ) (old mid new : Told) (n : ℕ) (bytes : List ℕ) (value : T) (answer : StoreAnswer) (ms : List Made) (out : Goes (CommitPhase T) (ℕ × T))
    → Makes old mid (PutNew (version_path log db n) bytes) moment answer → Run (commit_asks db log) commit_goes moment mid new ms (commit_goes (Putting n bytes value) answer) out
    → Fate (SameContents old new) (PutStands db log moment old new (Putting n bytes value)) out
answer_fate db log moment old mid new n bytes value (Created None) ms out makes run =
    taken_fate db log moment old mid new (Putting n bytes value) n ms out (makes.contents ∙ none_contents makes.mark (version_path log db n) bytes moment old.contents makes.answers) run
answer_fate db log moment old mid new n bytes value (Created (Some tag)) ms out makes run =
    bounding_fate db log moment old mid new (Putting n bytes value) n value ms out (makes.contents ∙ some_contents makes.mark (version_path log db n) bytes moment old.contents tag makes.answers) run
answer_fate db log moment old mid new n bytes value (Found found) ms out makes run = fault_fate db log moment old mid new (Putting n bytes value) ms out (mark_either old mid (version_path log db n) bytes moment (Found found) makes) run
answer_fate db log moment old mid new n bytes value (Got object) ms out makes run = fault_fate db log moment old mid new (Putting n bytes value) ms out (mark_either old mid (version_path log db n) bytes moment (Got object) makes) run
answer_fate db log moment old mid new n bytes value (Replaced tag) ms out makes run = fault_fate db log moment old mid new (Putting n bytes value) ms out (mark_either old mid (version_path log db n) bytes moment (Replaced tag) makes) run
answer_fate db log moment old mid new n bytes value (Written tag) ms out makes run = fault_fate db log moment old mid new (Putting n bytes value) ms out (mark_either old mid (version_path log db n) bytes moment (Written tag) makes) run
answer_fate db log moment old mid new n bytes value Deleted ms out makes run = fault_fate db log moment old mid new (Putting n bytes value) ms out (mark_either old mid (version_path log db n) bytes moment Deleted makes) run
answer_fate db log moment old mid new n bytes value Fault ms out makes run = fault_fate db log moment old mid new (Putting n bytes value) ms out (mark_either old mid (version_path log db n) bytes moment Fault makes) run

-- a run of a commit, from its put on
run_fate : {T : Type 0} (db : List ℕ) (log : LogKind) (moment : ℤ) (old new : Told) (n : ℕ) (bytes : List ℕ) (value : T) (ms : List Made) (out : Goes (CommitPhase T) (ℕ × T))
    → Run (commit_asks db log) commit_goes moment old new ms (Stay (Putting n bytes value)) out → Fate (SameContents old new) (PutStands db log moment old new (Putting n bytes value)) out
run_fate db log moment old new n bytes value [] out run =
    subst (λ (g : Goes _ _). Fate (SameContents old new) (PutStands db log moment old new (Putting n bytes value)) g) (sym run.0) (inl (subst (λ (t : Told). SameContents old t) (sym run.1) refl))
run_fate db log moment old new n bytes value (m ∷ ms) out run =
    let here : Makes old run.0 (PutNew (version_path log db n) bytes) moment m.answer = subst (λ (c : StoreCall). Makes old run.0 c (moment_of c moment) m.answer) run.1 run.2 in
    answer_fate db log moment old run.0 new n bytes value m.answer ms out here run.3

one_never : {P R : Type 0} (out : Goes P R) → one_if never out ≡ 0
one_never (Stay p) = refl
one_never (End p r) = refl

-- a machine that never starts again has no turns
no_turns : {P R : Type 0} (goes : P → StoreAnswer → Goes P R) (ms : List Made) (from : Goes P R) → turns never goes ms from ≡ 0
no_turns goes [] from = refl
no_turns goes (m ∷ ms) (Stay p) = let first = one_never (goes p m.answer) in let rest = no_turns goes ms (goes p m.answer) in omega (arith, first, rest)
no_turns goes (m ∷ ms) (End p r) = refl

-- what a whole commit leaves
pub record Leaves (same stands : Type 0) {X : Type 0} (result : Result X SlateDBError) : Type 0 where
  pub put : OnOk result stands
  pub left : IfErr result (λ e. may_stand e ≡ false → same)
  pub either : OnErr result (same ⊎ stands)

by_result : {T : Type 0} (same stands : Type 0) (to : CommitPhase T) (result : Result (ℕ × T) SlateDBError) → Fate same stands (End to result) → Leaves same stands result
by_result same stands to (Ok version) fate = record { put = fate; left = tt; either = tt }
by_result same stands to (Err e) fate = record { put = tt; left = fate.1; either = fate.0 }

by_memory : {T : Type 0} (same stands : Type 0) (result : Result (ℕ × T) SlateDBError) → ran_out result ≡ true → same ⊎ stands → Leaves same stands result
by_memory same stands (Ok version) out either = absurd cc
by_memory same stands (Err e) out either = record { put = tt; left = λ no. absurd (let is : may_stand e ≡ true = ap (λ (b : Bool). b || after_put e) out in let both : false ≡ true = sym no ∙ is in cc); either = either }

commit_leaves : {T : Type 0} (db : List ℕ) (log : LogKind) (moment : ℤ) (old new : Told) (n : ℕ) (bytes : List ℕ) (value : T) (result : Result (ℕ × T) SlateDBError)
    → Committed db log moment old new (Putting n bytes value) result → Leaves (SameContents old new) (PutStands db log moment old new (Putting n bytes value)) result
commit_leaves db log moment old new n bytes value result done =
    let ran = done.1 in
    elim ran.ends [
      | inl e ↦ by_result _ _ done.0 result (subst (λ (g : Goes _ _). Fate (SameContents old new) (PutStands db log moment old new (Putting n bytes value)) g) e.0 (run_fate db log moment old new n bytes value ran.made ran.out ran.run))
      | inr e ↦ absurd (let none : turns never commit_goes ran.made (Stay (Putting n bytes value)) ≡ 0 = no_turns commit_goes ran.made (Stay (Putting n bytes value)) in let one : 0 ≡ 1 = sym none ∙ e.2 in cc)
    ]

began_either : {T : Type 0} (db : List ℕ) (log : LogKind) (moment : ℤ) (old new : Told) (n : ℕ) (bytes : List ℕ) (value : T) → CommitBegan db log moment old new (Putting n bytes value)
    → SameContents old new ⊎ PutStands db log moment old new (Putting n bytes value)
began_either db log moment old new n bytes value began =
    let run = began.1 in
    elim (run_fate db log moment old run.mid n bytes value run.made (Stay began.0) run.run) [
      | inl same ↦ inl (run.last.contents ∙ same)
      | inr stands ↦ inr (run.last.contents ∙ stands)
    ]

-- and so a whole commit, or one for which memory ran out
commits_leave : {T : Type 0} (db : List ℕ) (log : LogKind) (moment : ℤ) (old new : Told) (n : ℕ) (bytes : List ℕ) (value : T) (result : Result (ℕ × T) SlateDBError)
    → OrMemory result (CommitBegan db log moment old new (Putting n bytes value)) (Committed db log moment old new (Putting n bytes value) result)
    → Leaves (SameContents old new) (PutStands db log moment old new (Putting n bytes value)) result
commits_leave db log moment old new n bytes value result (inl done) = commit_leaves db log moment old new n bytes value result done
commits_leave db log moment old new n bytes value result (inr m) = by_memory _ _ result m.0 (began_either db log moment old new n bytes value m.1)

put_leaves : {T : Type 0} (db : List ℕ) (log : LogKind) (moment : ℤ) (old new : Told) (commit : CommitPhase T) (result : Result (ℕ × T) SlateDBError)
    → is_putting commit ≡ true → OrMemory result (CommitBegan db log moment old new commit) (Committed db log moment old new commit result) → Leaves (SameContents old new) (PutStands db log moment old new commit) result
put_leaves db log moment old new (Putting n bytes value) result h ran = commits_leave db log moment old new n bytes value result ran
put_leaves db log moment old new (Bounding n value) result h ran = absurd cc
put_leaves db log moment old new Over result h ran = absurd cc

done_leaves : {T : Type 0} (same stands : Type 0) (reply : Result (ℕ × T) SlateDBError) → Leaves same stands reply → Leaves same stands (done_of reply)
done_leaves same stands (Ok version) leaves = record { put = leaves.put; left = tt; either = tt }
done_leaves same stands (Err e) leaves = record { put = tt; left = leaves.left; either = leaves.either }

-- before the first call nothing is changed
pub same_told : {X : Type 0} (start : Result X SlateDBError) (told : Told) → IfErr start (λ e. told ≡ told)
same_told (Ok x) told = tt
same_told (Err e) told = refl

-- a commit that began is not refused before its first call
pub not_before : {X : Type 0} (x : X) (start : Result X SlateDBError) (P : Type 0) → Gives (Ok x) start → IfErr start (λ e. P)
not_before x (Ok y) P gives = tt
not_before x (Err e) P (inl same) = absurd cc
not_before x (Err e) P (inr out) = absurd (let both : false ≡ true = out in cc)

-- what the put of a commit leaves that may be refused before it
pub start_leaves : {T X : Type 0} (db : List ℕ) (log : LogKind) (answer : Result (ℕ × T) SlateDBError → Result X SlateDBError) (moment : ℤ) (old new : Told) (commit : CommitPhase T) (start : Result (CommitPhase T) SlateDBError) (reply : Result (ℕ × T) SlateDBError) (result : Result X SlateDBError)
    → (Leaves (SameContents old new) (PutStands db log moment old new commit) reply → Leaves (SameContents old new) (PutStands db log moment old new commit) (answer reply))
    → Gives (Ok commit) start → is_putting commit ≡ true → result ≡ answer reply → OrMemory reply (CommitBegan db log moment old new commit) (Committed db log moment old new commit reply)
    → Leaves (SameContents old new) (CommitStands db log moment old new start) result
start_leaves db log answer moment old new commit start reply result keeps (inr out) putting done ran = absurd (let both : false ≡ true = out in cc)
start_leaves db log answer moment old new commit start reply result keeps (inl same) putting done ran =
    subst (λ (s : Result (CommitPhase _) SlateDBError). Leaves (SameContents old new) (CommitStands db log moment old new s) result) (sym same)
    (subst (λ (r : Result _ SlateDBError). Leaves (SameContents old new) (PutStands db log moment old new commit) r) (sym done)
    (keeps (put_leaves db log moment old new commit reply putting ran)))

-- the same of a holder that was seen as what is within it
pub update_left : {T C R : Type 0} (inside holder : Holder T C R) (moment : ℤ) (old new : Told) (commit : CommitPhase T) (start : Result (CommitPhase T) SlateDBError) (reply : Result (ℕ × T) SlateDBError) (result : Result (Unit {0}) SlateDBError)
    → inside ≡ holder → Gives (Ok commit) start → is_putting commit ≡ true → result ≡ done_of reply
    → OrMemory reply (CommitBegan inside.sequenced.db inside.sequenced.log moment old new commit) (Committed inside.sequenced.db inside.sequenced.log moment old new commit reply)
    → Leaves (SameContents old new) (UpdateStands holder moment old new start) result
update_left inside holder moment old new commit start reply result same gives putting done ran =
    let db = holder.sequenced.db in
    let log = holder.sequenced.log in
    start_leaves db log done_of moment old new commit start reply result (done_leaves (SameContents old new) (PutStands db log moment old new commit) reply) gives putting done
    (subst (λ (h : Holder _ _ _). OrMemory reply (CommitBegan h.sequenced.db h.sequenced.log moment old new commit) (Committed h.sequenced.db h.sequenced.log moment old new commit reply)) same ran)
