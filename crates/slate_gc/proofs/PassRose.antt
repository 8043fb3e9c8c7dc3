-- The store's count of faults rose by what a pass tells of.
use Rattle.std.specs.Prelude.{◌≡◌, ◌⊎◌, ◌≤◌, ◌+◌, ℕ, ℤ, nat_le, Bool, true, false, List, [], ◌∷◌, length, Option, Some, None, Result, Ok, Err, if◌then◌else◌, refl}
use Rattle.std.proofs.Common.{arith, ap, inl, inr, sym, subst, ◌∙◌}
use Rattle.std.proofs.lemmas.Bool.Decides.{nat_tests}
use Rattle.slate_gc.specs.Ended.{Ended, faults_told, is_fault}
use Rattle.slate_gc.specs.Faults.{RoseBy}
use Rattle.slate_gc.specs.PassTurns.{PassRan, Turn, TurnGoes, TurnsRan, begins_again, first_turn, is_turned, turn_asks, turn_goes, uses_turn}
use Rattle.slate_txn_changes.specs.Turns.{turned_on}
use Rattle.slate_ids.specs.Answers.{is_conflict, is_memory, ran_out}
use Rattle.slate_ids.specs.Limits.{next_count}
use Rattle.slate_ids.specs.declared.error.SlateDBError.{SlateDBError}
use Rattle.slate_ids.specs.declared.error.SlateDBError.TheVariants.{StoreFault, OutOfMemory, ManifestMissing}
use Rattle.slate_ids.specs.declared.gc_message.GcMessage.{GcMessage}
use Rattle.slate_ids.specs.declared.gc_message.GcMessage.TheVariants as named
use Rattle.slate_txn_log.proofs.Faults.{Fine, OnlyFaults}
use Rattle.slate_txn_log.specs.AdvancePhase.{AdvanceGoes, advance_goes}
use Rattle.slate_txn_log.specs.CommitPhase.{CommitGoes, commit_goes}
use Rattle.slate_txn_log.specs.ReadPhase.{Reply, read_goes}
use Rattle.slate_txn_log.specs.declared.commit_phase.CommitPhase.{CommitPhase}
use Rattle.slate_model.specs.declared.manifest.Manifest.{Manifest}
use Rattle.slate_gc_passes.specs.Candidates.{candidates}
use Rattle.slate_gc_passes.specs.PassCounts.{counts_of, one_deleted, one_failed}
use Rattle.slate_gc_passes.specs.Rows.{log_of_pass, reads_greatest, target, versions_in}
use Rattle.slate_gc_picks.specs.Filter.{picks}
use Rattle.slate_txn_log.specs.Boundary.{greatest}
use Rattle.slate_txn_log.specs.declared.log_kind.LogKind.TheVariants as logs
use Rattle.slate_gc_passes.specs.GcPhase.{GcGoes, collect_on, commit_on, gc_asks, gc_due, gc_goes, gc_start, moment_of_pass, read_on, removal_goes}
use Rattle.slate_gc_passes.specs.Pass as passes
use Rattle.slate_gc_passes.specs.Pass.{PassGoes, first_phase, pass_goes}
use Rattle.slate_gc_passes.specs.Ways.{Ways}
use Rattle.slate_gc_passes.specs.declared.gc_phase.GcPhase.{GcPhase}
use Rattle.slate_txn_changes.specs.declared.log_work.LogWork.TheVariants.{Reading, Committing}
use Rattle.slate_gc_passes.specs.declared.gc_phase.GcPhase.TheVariants.{Removing, Collecting}
use Rattle.slate_gc_passes.specs.declared.heads.Heads.{Heads}
use Rattle.slate_gc_passes.specs.declared.pass_counts.PassCounts.{PassCounts}
use Rattle.slate_gc_passes.specs.declared.pass_phase.PassPhase.{PassPhase}
use Rattle.slate_gc_passes.specs.declared.pass_phase.PassPhase.TheVariants.{ReadingRecord, ReadingManifest, Fetching, Listing, Getting, Bounding, Advancing, Deleting, Over}
use Rattle.slate_gc_passes.specs.declared.pass_settings.PassSettings.{PassSettings}
use Rattle.slate_model_records.specs.Records.{Record}
use Rattle.slate_state_referenced.specs.Referenced.{ReferencedGoes, referenced_goes}
use Rattle.slate_store.specs.StoreCalls.{IfFault, IsAnswerTo, Makes, Rose, Told, moment_of}
use Rattle.slate_store.specs.Machines.{AtMost, Stay, End, IsEnd}
use Rattle.slate_store.specs.CallRuns.{Ran, Run}
use Rattle.slate_store.specs.declared.made.Made.{Made}
use Rattle.slate_store.specs.declared.object.ObjectMetadata.{ObjectMetadata}
use Rattle.slate_store.specs.declared.object.StoredObject.{StoredObject}
use Rattle.slate_store.specs.declared.store_answer.StoreAnswer.{StoreAnswer}
use Rattle.slate_store.specs.declared.store_answer.StoreAnswer.TheVariants.{Found, Got, Created, Replaced, Written, Deleted, Fault}
use Rattle.slate_store.specs.declared.store_call.StoreCall.{StoreCall}

-- ---- what a phase tells of

abbrev failed_within : PassPhase → ℕ
failed_within (Advancing phase left counts) = counts.failed
failed_within (Deleting left counts) = counts.failed
failed_within _ = 0

abbrev failed_at : GcPhase → ℕ
failed_at (Removing work) = 0
failed_at (Collecting at phase) = failed_within phase

abbrev failed_of : Result PassCounts SlateDBError → ℕ
failed_of (Ok counts) = counts.failed
failed_of (Err e) = 0

abbrev pass_tells : PassGoes → ℕ
pass_tells (Stay phase) = failed_within phase
pass_tells (End phase r) = failed_of r

abbrev gc_tells : GcGoes → ℕ
gc_tells (Stay phase) = failed_at phase
gc_tells (End phase r) = failed_of r

abbrev turn_tells : TurnGoes → ℕ
turn_tells (Stay turn) = failed_at turn.0
turn_tells (End turn r) = faults_told r

abbrev one_of : StoreAnswer → ℕ
one_of Fault = 1
one_of _ = 0

-- ---- one step of a pass

from_zero : {n m : ℕ} → n ≡ 0 → n ≤ m
from_zero h = omega (arith, h)

record_zero : (out : Reply Record) → pass_tells (passes.record_goes out) ≡ 0
record_zero (Stay phase) = refl
record_zero (End phase (Ok None)) = refl
record_zero (End phase (Ok (Some version))) = refl
record_zero (End phase (Err e)) = refl

fetched_zero : (heads : Heads) (out : ReferencedGoes) → pass_tells (passes.fetched_goes heads out) ≡ 0
fetched_zero heads (Stay phase) = refl
fetched_zero heads (End phase (Ok versions)) = refl
fetched_zero heads (End phase (Err e)) = refl

manifest_zero : (least : ℕ) (out : Reply Manifest) → pass_tells (passes.manifest_goes least out) ≡ 0
manifest_zero least (Stay phase) = refl
manifest_zero least (End phase (Ok None)) = refl
manifest_zero least (End phase (Ok (Some version))) = fetched_zero _ _
manifest_zero least (End phase (Err e)) = refl

deletes_tell : (left : List ObjectMetadata) (counts : PassCounts) → pass_tells (passes.deletes_next left counts) ≡ counts.failed
deletes_tell [] counts = refl
deletes_tell (m ∷ left) counts = refl

advance_tells : (to : Option ℕ) (left : List ObjectMetadata) (counts : PassCounts) → pass_tells (passes.advance_to to left counts) ≡ counts.failed
advance_tells None left counts = deletes_tell left counts
advance_tells (Some k) left counts = refl

chosen_zero : (allows : List ObjectMetadata → List ObjectMetadata) (settings : PassSettings) (listed : ℕ) (found : List ObjectMetadata) → pass_tells (passes.chosen_goes allows settings listed found) ≡ 0
chosen_zero allows settings listed found = advance_tells (target settings found) (picks allows settings.options.dry_run found) (counts_of (length (picks allows settings.options.dry_run found)) (versions_in (log_of_pass settings.pass) listed))

either_zero : (b : Bool) (one other : PassGoes) → pass_tells one ≡ 0 → pass_tells other ≡ 0 → pass_tells (if◌then◌else◌ {A = PassGoes} b one other) ≡ 0
either_zero true one other first second = first
either_zero false one other first second = second

manifests_zero : (min_age : ℕ) (now : ℤ) (found : List ObjectMetadata) (n : Option ℕ) → pass_tells (passes.manifests_goes min_age now found n) ≡ 0
manifests_zero min_age now found None = refl
manifests_zero min_age now found (Some n) = refl

list_zero : (ways : Ways) (settings : PassSettings) (now : ℤ) (heads : Heads) (versions : List (ℕ × Manifest)) (answer : StoreAnswer) → pass_tells (passes.list_goes ways.allows ways.files settings now heads versions answer) ≡ 0
list_zero ways settings now heads versions (Found found) =
    either_zero (reads_greatest settings.pass) (passes.manifests_goes settings.options.min_age now found (greatest logs.Manifest found))
    (passes.chosen_goes ways.allows settings (length found) (candidates ways.files settings.options.min_age now heads versions found settings.pass))
    (manifests_zero settings.options.min_age now found (greatest logs.Manifest found))
    (chosen_zero ways.allows settings (length found) (candidates ways.files settings.options.min_age now heads versions found settings.pass))
list_zero ways settings now heads versions (Got object) = refl
list_zero ways settings now heads versions (Created tag) = refl
list_zero ways settings now heads versions (Replaced tag) = refl
list_zero ways settings now heads versions (Written tag) = refl
list_zero ways settings now heads versions Deleted = refl
list_zero ways settings now heads versions Fault = refl

decoded_zero : (n listed : ℕ) (found : List ObjectMetadata) (m : Result Manifest SlateDBError) → pass_tells (passes.decoded_goes n listed found m) ≡ 0
decoded_zero n listed found (Ok m) = refl
decoded_zero n listed found (Err e) = refl

got_zero : (manifest_of : List ℕ → Result Manifest SlateDBError) (n listed : ℕ) (found : List ObjectMetadata) (object : Option StoredObject) → pass_tells (passes.got_goes manifest_of n listed found object) ≡ 0
got_zero manifest_of n listed found None = refl
got_zero manifest_of n listed found (Some object) = decoded_zero n listed found (manifest_of object.bytes)

get_zero : (manifest_of : List ℕ → Result Manifest SlateDBError) (n listed : ℕ) (found : List ObjectMetadata) (answer : StoreAnswer) → pass_tells (passes.get_goes manifest_of n listed found answer) ≡ 0
get_zero manifest_of n listed found (Got object) = got_zero manifest_of n listed found object
get_zero manifest_of n listed found _ = refl

bounded_zero : (allows : List ObjectMetadata → List ObjectMetadata) (settings : PassSettings) (n listed : ℕ) (found : List ObjectMetadata) (boundary : Option ℕ) → pass_tells (passes.bounded_goes allows settings n listed found boundary) ≡ 0
bounded_zero allows settings n listed found None = refl
bounded_zero allows settings n listed found (Some boundary) = either_zero (nat_le n boundary) (End Over (Err (ManifestMissing n))) (passes.chosen_goes allows settings listed found) refl (chosen_zero allows settings listed found)

bound_zero : (allows : List ObjectMetadata → List ObjectMetadata) (settings : PassSettings) (n listed : ℕ) (found : List ObjectMetadata) (answer : StoreAnswer) → pass_tells (passes.bound_goes allows settings n listed found answer) ≡ 0
bound_zero allows settings n listed found (Got object) = bounded_zero allows settings n listed found _
bound_zero allows settings n listed found _ = refl

advanced_tells : (left : List ObjectMetadata) (counts : PassCounts) (out : AdvanceGoes) → pass_tells (passes.advanced_goes left counts out) ≤ counts.failed
advanced_tells left counts (Stay phase) = omega arith
advanced_tells left counts (End phase (Ok done)) = let same = deletes_tell left counts in omega (arith, same)
advanced_tells left counts (End phase (Err e)) = omega arith

next_le : (n : ℕ) → next_count n ≤ n + 1
next_le n = grind (arith, nat_tests)

delete_tells : (left : List ObjectMetadata) (counts : PassCounts) (answer : StoreAnswer) → pass_tells (passes.delete_goes left counts answer) ≤ counts.failed + one_of answer
delete_tells [] counts answer = omega arith
delete_tells (m ∷ left) counts (Found found) = omega arith
delete_tells (m ∷ left) counts (Got object) = omega arith
delete_tells (m ∷ left) counts (Created tag) = omega arith
delete_tells (m ∷ left) counts (Replaced tag) = omega arith
delete_tells (m ∷ left) counts (Written tag) = omega arith
delete_tells (m ∷ left) counts Deleted = let same = deletes_tell left (one_deleted counts) in omega (arith, same)
delete_tells (m ∷ left) counts Fault = let same = deletes_tell left (one_failed counts) in let up = next_le counts.failed in omega (arith, same, up)

pass_step : (ways : Ways) (settings : PassSettings) (now : ℤ) (phase : PassPhase) (answer : StoreAnswer) → pass_tells (pass_goes ways settings now phase answer) ≤ failed_within phase + one_of answer
pass_step ways settings now (ReadingRecord phase) answer = from_zero (record_zero (read_goes logs.Compactions ways.record_of phase answer))
pass_step ways settings now (ReadingManifest least phase) answer = from_zero (manifest_zero least (read_goes logs.Manifest ways.manifest_of phase answer))
pass_step ways settings now (Fetching heads phase) answer = from_zero (fetched_zero heads (referenced_goes ways.manifest_of phase answer))
pass_step ways settings now (Listing heads versions) answer = from_zero (list_zero ways settings now heads versions answer)
pass_step ways settings now (Getting n listed found) answer = from_zero (get_zero ways.manifest_of n listed found answer)
pass_step ways settings now (Bounding n listed found) answer = from_zero (bound_zero ways.allows settings n listed found answer)
pass_step ways settings now (Advancing phase left counts) answer = let up = advanced_tells left counts (advance_goes phase answer) in omega (arith, up)
pass_step ways settings now (Deleting left counts) answer = delete_tells left counts answer
pass_step ways settings now Over answer = omega arith

collect_tells : (at : Option ℤ) (now : ℤ) (out : PassGoes) → gc_tells (collect_on at now out) ≡ pass_tells out
collect_tells at now (Stay phase) = refl
collect_tells at now (End phase r) = refl

first_zero : (pass : GcMessage) → failed_within (first_phase pass) ≡ 0
first_zero named.Manifest = refl
first_zero named.Wal = refl
first_zero named.WalFence = refl
first_zero named.Compacted = refl
first_zero named.Compactions = refl
first_zero named.Detach = refl

removal_zero : (pass : GcMessage) (now : ℤ) (n : ℕ) (m : Manifest) (start : Result (Option (CommitPhase Manifest)) SlateDBError) → gc_tells (removal_goes pass now n m start) ≡ 0
removal_zero pass now n m (Ok None) = first_zero pass
removal_zero pass now n m (Ok (Some commit)) = refl
removal_zero pass now n m (Err e) = refl

read_zero : (bytes_of : Manifest → Result (List ℕ) SlateDBError) (pass : GcMessage) (now : ℤ) (out : Reply Manifest) → gc_tells (read_on bytes_of pass now out) ≡ 0
read_zero bytes_of pass now (Stay phase) = refl
read_zero bytes_of pass now (End phase (Ok None)) = refl
read_zero bytes_of pass now (End phase (Ok (Some version))) = removal_zero pass now version.0 version.1 _
read_zero bytes_of pass now (End phase (Err e)) = refl

commit_zero : (pass : GcMessage) (now : ℤ) (out : CommitGoes Manifest) → gc_tells (commit_on pass now out) ≡ 0
commit_zero pass now (Stay phase) = refl
commit_zero pass now (End phase (Ok version)) = first_zero pass
commit_zero pass now (End phase (Err e)) = refl

gc_step : (ways : Ways) (settings : PassSettings) (moment : ℤ) (phase : GcPhase) (answer : StoreAnswer) → gc_tells (gc_goes ways settings moment phase answer) ≤ failed_at phase + one_of answer
gc_step ways settings moment (Removing (Reading phase)) answer = from_zero (read_zero ways.bytes_of settings.pass moment (read_goes logs.Manifest ways.manifest_of phase answer))
gc_step ways settings moment (Removing (Committing made phase)) answer = from_zero (commit_zero settings.pass made (commit_goes phase answer))
gc_step ways settings moment (Collecting at phase) answer =
    let now = moment_of_pass at moment in
    let same = collect_tells at now (pass_goes ways settings now phase answer) in
    let up = pass_step ways settings now phase answer in
    omega (arith, same, up)

-- ---- one step of the plain call

is_the_fault : (e : SlateDBError) → is_fault e ≡ true → e ≡ StoreFault
is_the_fault StoreFault h = refl
is_the_fault _ h = absurd cc

told_test : (b : Bool) (n : ℕ) → (b ≡ true → 1 ≤ n) → (if b then 1 else 0) ≤ n
told_test true n h = h refl
told_test false n h = omega arith

refused_tells : (b : Bool) (to : Turn) (e : SlateDBError) (n : ℕ) → (e ≡ StoreFault → 1 ≤ n) → turn_tells (if◌then◌else◌ {A = TurnGoes} b (Stay (gc_start, true)) (End to (Err e))) ≤ n
refused_tells true to e n h = omega arith
refused_tells false to e n h = told_test (is_fault e) n (λ yes. h (is_the_fault e yes))

turned_tells : (from : Turn) (out : GcGoes) (n : ℕ) → gc_tells out ≤ n → ((q : GcPhase) → out ≡ End q (Err StoreFault) → 1 ≤ n) → turn_tells (turned_on uses_turn begins_again from out) ≤ n
turned_tells from (Stay to) n up fault = up
turned_tells from (End to (Ok counts)) n up fault = up
turned_tells from (End to (Err e)) n up fault = refused_tells (is_conflict e) (to, from.1) e n (λ same. fault to (ap (λ (k : SlateDBError). End to (Err k)) same))

one_fault : (m : ℕ) (answer : StoreAnswer) → answer ≡ Fault → 1 ≤ m + one_of answer
one_fault m answer same = subst (λ (a : StoreAnswer). 1 ≤ m + one_of a) (sym same) (omega arith)

ends_by_fault : (out : GcGoes) (q : GcPhase) (answer : StoreAnswer) → ((answer ≡ Fault) × IsEnd out) ⊎ Fine gc_due out → out ≡ End q (Err StoreFault) → answer ≡ Fault
ends_by_fault out q answer (inl f) same = f.0
ends_by_fault out q answer (inr fine) same = absurd (fine.ends q same)

no_stay : (turn next : Turn) (r : Result PassCounts SlateDBError) → End turn r ≡ Stay next → ⊥
no_stay turn next r same = subst (λ (g : TurnGoes). IsEnd g) same tt

abbrev out_phase : TurnGoes → GcPhase
out_phase (Stay turn) = turn.0
out_phase (End turn r) = turn.0

conflict_due : (b : Bool) (to : Turn) (e : SlateDBError) (next : Turn) → if◌then◌else◌ {A = TurnGoes} b (Stay (gc_start, true)) (End to (Err e)) ≡ Stay next → gc_due next.0 ≡ true
conflict_due true to e next same = let start : gc_start ≡ next.0 = ap out_phase same in subst (λ (p : GcPhase). gc_due p ≡ true) start refl
conflict_due false to e next same = absurd (no_stay to next (Err e) same)

turned_due : (from : Turn) (out : GcGoes) (next : Turn) → ((q : GcPhase) → out ≡ Stay q → gc_due q ≡ true) → turned_on uses_turn begins_again from out ≡ Stay next → gc_due next.0 ≡ true
turned_due from (Stay to) next due same = let phase : to ≡ next.0 = ap out_phase same in subst (λ (p : GcPhase). gc_due p ≡ true) phase (due to refl)
turned_due from (End to (Ok counts)) next due same = absurd (no_stay (to, from.1) next (Ok counts) same)
turned_due from (End to (Err e)) next due same = conflict_due (is_conflict e) (to, from.1) e next same

stays_due : (out : GcGoes) (answer : StoreAnswer) → ((answer ≡ Fault) × IsEnd out) ⊎ Fine gc_due out → (q : GcPhase) → out ≡ Stay q → gc_due q ≡ true
stays_due out answer (inl f) q same = absurd (subst (λ (o : GcGoes). IsEnd o) same f.1)
stays_due out answer (inr fine) q same = fine.stays q same

-- ---- a run

rose_one : (answer : StoreAnswer) (before now : ℕ) → before ≤ now → IfFault answer (Rose before now) → RoseBy (one_of answer) before now
rose_one Fault before now later fault = fault
rose_one _ before now later fault = grind (arith, nat_tests)

rose_none : (before : ℕ) → RoseBy 0 before before
rose_none before = grind (arith, nat_tests)

pub rose_both : (n m before between now : ℕ) → RoseBy n before between → RoseBy m between now → RoseBy (n + m) before now
rose_both n m before between now first second = grind (arith, nat_tests)

pub rose_less : (n m before now : ℕ) → n ≤ m → RoseBy m before now → RoseBy n before now
rose_less n m before now less rose = grind (arith, nat_tests)

-- the count rose by so much, and what is told of grew by no more
record Tells (old new : Told) (from : ℕ) (out : TurnGoes) : Type 0 where
  pub more : ℕ
  pub tells : turn_tells out ≤ from + more
  pub rose : RoseBy more old.faults new.faults

module _ (ways : Ways) (db : List ℕ) (settings : PassSettings) (moment : ℤ) (only : OnlyFaults gc_due (gc_asks db settings.pass) (gc_goes ways settings moment)) where
  step_tells : (from : Turn) (answer : StoreAnswer) → gc_due from.0 ≡ true → IsAnswerTo (turn_asks db settings.pass from) answer → turn_tells (turn_goes ways settings moment from answer) ≤ failed_at from.0 + one_of answer
  step_tells from answer due kind =
      turned_tells from (gc_goes ways settings moment from.0 answer) (failed_at from.0 + one_of answer) (gc_step ways settings moment from.0 answer)
      (λ q same. one_fault (failed_at from.0) answer (ends_by_fault (gc_goes ways settings moment from.0 answer) q answer (only.sound from.0 answer due kind) same))

  step_due : (from : Turn) (answer : StoreAnswer) (next : Turn) → gc_due from.0 ≡ true → IsAnswerTo (turn_asks db settings.pass from) answer → turn_goes ways settings moment from answer ≡ Stay next → gc_due next.0 ≡ true
  step_due from answer next due kind same =
      turned_due from (gc_goes ways settings moment from.0 answer) next (stays_due (gc_goes ways settings moment from.0 answer) answer (only.sound from.0 answer due kind)) same

  -- after the first call, with those that follow it
  went_tells : (old mid new : Told) (m : Made) (ms : List Made) (from : Turn) (step out : TurnGoes)
      → ((next : Turn) → gc_due next.0 ≡ true → Run (turn_asks db settings.pass) (turn_goes ways settings moment) moment mid new ms (Stay next) out → Tells mid new (failed_at next.0) out)
      → turn_goes ways settings moment from m.answer ≡ step → gc_due from.0 ≡ true → m.call ≡ turn_asks db settings.pass from → Makes old mid m.call (moment_of m.call moment) m.answer
      → Run (turn_asks db settings.pass) (turn_goes ways settings moment) moment mid new ms step out → Tells old new (failed_at from.0) out
  went_tells old mid new m ms from (Stay next) out rest went due same makes run =
      let kind : IsAnswerTo (turn_asks db settings.pass from) m.answer = subst (λ (c : StoreCall). IsAnswerTo c m.answer) same makes.kind in
      let up : turn_tells (turn_goes ways settings moment from m.answer) ≤ failed_at from.0 + one_of m.answer = step_tells from m.answer due kind in
      let here : failed_at next.0 ≤ failed_at from.0 + one_of m.answer = subst (λ (o : TurnGoes). turn_tells o ≤ failed_at from.0 + one_of m.answer) went up in
      let after = rest next (step_due from m.answer next due kind went) run in
      let told = after.tells in
      record {
        more = one_of m.answer + after.more;
        tells = omega (arith, here, told);
        rose = rose_both (one_of m.answer) after.more old.faults mid.faults new.faults (rose_one m.answer old.faults mid.faults makes.later makes.fault) after.rose;
      }
  went_tells old mid new m [] from (End last r) out rest went due same makes run =
      let kind : IsAnswerTo (turn_asks db settings.pass from) m.answer = subst (λ (c : StoreCall). IsAnswerTo c m.answer) same makes.kind in
      let up : turn_tells (turn_goes ways settings moment from m.answer) ≤ failed_at from.0 + one_of m.answer = step_tells from m.answer due kind in
      let here : turn_tells out ≤ failed_at from.0 + one_of m.answer = subst (λ (o : TurnGoes). turn_tells o ≤ failed_at from.0 + one_of m.answer) (went ∙ sym run.0) up in
      record {
        more = one_of m.answer;
        tells = here;
        rose = subst (λ (t : Told). RoseBy (one_of m.answer) old.faults t.faults) (sym run.1) (rose_one m.answer old.faults mid.faults makes.later makes.fault);
      }
  went_tells old mid new m (n ∷ ms) from (End last r) out rest went due same makes run = absurd run

  run_tells : (made : List Made) (old new : Told) (from : Turn) (out : TurnGoes) → gc_due from.0 ≡ true → Run (turn_asks db settings.pass) (turn_goes ways settings moment) moment old new made (Stay from) out → Tells old new (failed_at from.0) out
  run_tells [] old new from out due run = record {
    more = 0;
    tells = (let same : turn_tells out ≡ failed_at from.0 = ap turn_tells run.0 in omega (arith, same));
    rose = subst (λ (t : Told). RoseBy 0 old.faults t.faults) (sym run.1) (rose_none old.faults);
  }
  run_tells (m ∷ ms) old new from out due run =
      went_tells old run.0 new m ms from (turn_goes ways settings moment from m.answer) out (λ next here after. run_tells ms run.0 new next out here after) refl due run.1 run.2 run.3

  -- a plain call
  ran_tells : (tries : ℕ) (old new : Told) (to : Turn) (reply : Result PassCounts SlateDBError) → Ran is_turned (turn_asks db settings.pass) (turn_goes ways settings moment) moment tries old new first_turn to reply → RoseBy (faults_told reply) old.faults new.faults
  ran_tells tries old new to reply ran =
      let tells = run_tells ran.made old new first_turn ran.out refl ran.run in
      let told = tells.tells in
      let up : turn_tells ran.out ≤ tells.more = omega (arith, told) in
      elim ran.ends [
        | inl e ↦ rose_less (faults_told reply) tells.more old.faults new.faults (subst (λ (o : TurnGoes). turn_tells o ≤ tells.more) e.0 up) tells.rose
        | inr e ↦ subst (λ (r : Result PassCounts SlateDBError). RoseBy (faults_told r) old.faults new.faults) (sym e.1) (rose_less 0 tells.more old.faults new.faults (omega arith) tells.rose)
      ]

out_zero : (e : SlateDBError) → is_memory e ≡ true → faults_told (Err e) ≡ 0
out_zero OutOfMemory h = refl
out_zero _ h = absurd cc

memory_zero : (reply : Result PassCounts SlateDBError) → ran_out reply ≡ true → faults_told reply ≡ 0
memory_zero (Ok counts) h = absurd cc
memory_zero (Err e) h = out_zero e h

rose_later : (n before between now : ℕ) → RoseBy n before between → between ≤ now → RoseBy n before now
rose_later n before between now rose later = grind (arith, nat_tests)

at_most_later : (old new : Told) (call : StoreCall) (moment : ℤ) → AtMost old new call moment → old.faults ≤ new.faults
at_most_later old new call moment most = elim most.calls [
  | inl same ↦ subst (λ (t : Told). old.faults ≤ t.faults) (sym same) (omega arith)
  | inr made ↦ made.1.later
]

-- a pass over these ways ends in a fault only where the store faults
abbrev pub Sound : Ways → Type 0
Sound ways = (db : List ℕ) (settings : PassSettings) (moment : ℤ) → OnlyFaults gc_due (gc_asks db settings.pass) (gc_goes ways settings moment)

turns_rose : (ways : Ways) → Sound ways → (db : List ℕ) (settings : PassSettings) (moment : ℤ) (tries : ℕ) (old new : Told) (to : Turn) (reply : Result PassCounts SlateDBError)
    → TurnsRan ways db settings moment tries old new to reply → RoseBy (faults_told reply) old.faults new.faults
turns_rose ways sound db settings moment tries old new to reply (inl ran) = ran_tells ways db settings moment (sound db settings moment) tries old new to reply ran
turns_rose ways sound db settings moment tries old new to reply (inr memory) =
    let began = memory.1 in
    let tells = run_tells ways db settings moment (sound db settings moment) began.made old began.mid first_turn (Stay to) refl began.run in
    let before = rose_less 0 tells.more old.faults began.mid.faults (omega arith) tells.rose in
    let after = rose_later 0 old.faults began.mid.faults new.faults before (at_most_later began.mid new (turn_asks db settings.pass to) moment began.last) in
    subst (λ (n : ℕ). RoseBy n old.faults new.faults) (sym (memory_zero reply memory.0)) after

-- the count rose by what the pass tells of
pub pass_rose : (ways : Ways) → Sound ways → (db : List ℕ) (settings : PassSettings) (moment : ℤ) (tries : ℕ) (old new : Told) (ended : Ended)
    → PassRan ways db settings moment tries old new ended → RoseBy (faults_told ended.result) old.faults new.faults
pass_rose ways sound db settings moment tries old new ended ran = turns_rose ways sound db settings moment tries old new ran.0 ended.result ran.1

pub no_rose : (before : ℕ) → RoseBy 0 before before
no_rose before = rose_none before
