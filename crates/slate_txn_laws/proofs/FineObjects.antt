-- Objects stay at paths that there are.
use Rattle.std.proofs.Common.{ℕ, ℤ, Bool, true, false, List, [], ◌∷◌, Option, Some, None, IfSome, sym, subst}
use Rattle.slate_ids.specs.FinePath.{IsFine}
use Rattle.slate_ids.specs.declared.object_path.ObjectPath.{ObjectPath}
use Rattle.slate_store.specs.StoreCalls.{Told, Makes, contents_after, moment_of}
use Rattle.slate_store.specs.Machines.{Goes, Stay, End}
use Rattle.slate_store.specs.CallRuns.{Run}
use Rattle.slate_store.specs.Store.{Store, object_at, has_tag, put_new, replace, whole, under, taken}
use Rattle.slate_store.specs.declared.made.Made.{Made}
use Rattle.slate_store.specs.declared.mark.Mark.{Mark}
use Rattle.slate_store.specs.declared.mark.Mark.TheVariants.{Good, Fail, Lost}
use Rattle.slate_store.specs.declared.object.StoredObject.{StoredObject}
use Rattle.slate_store.specs.declared.store_answer.StoreAnswer.{StoreAnswer}
use Rattle.slate_store.specs.declared.store_call.StoreCall.{StoreCall}
use Rattle.slate_store.specs.declared.store_call.StoreCall.TheVariants.{List as ListCall, Get, PutNew, Replace, Put, Delete}
use Rattle.slate_txn_laws.specs.FineObjects.{AllWriteFine, TellsFine, WritesFine}
use Rattle.slate_txn_laws.specs.Ready.{AreFine}
use Rattle.slate_txn_laws.proofs.Asides.{fine_left}
use Rattle.slate_txn_laws.proofs.Entries.{fine_after}

by_object : (o : Option StoredObject) (path : ObjectPath) (bytes : List ℕ) (moment : ℤ) (s : Store) → IsFine path → AreFine s.objects → AreFine (put_new o path bytes moment s).store.objects
by_object (Some x) path bytes moment s h fine = fine
by_object None path bytes moment s h fine = fine_after path bytes moment s h fine

by_tag : (b : Bool) (path : ObjectPath) (bytes : List ℕ) (moment : ℤ) (s : Store) → IsFine path → AreFine s.objects → AreFine (replace b path bytes moment s).store.objects
by_tag true path bytes moment s h fine = fine_after path bytes moment s h fine
by_tag false path bytes moment s h fine = fine

whole_fine : (call : StoreCall) (moment : ℤ) (s : Store) → WritesFine call → AreFine s.objects → AreFine (whole call moment s).store.objects
whole_fine (ListCall dir) moment s h fine = fine
whole_fine (Get path) moment s h fine = fine
whole_fine (PutNew path bytes) moment s h fine = by_object (object_at path s) path bytes moment s h fine
whole_fine (Replace path tag bytes) moment s h fine = by_tag (has_tag tag (object_at path s)) path bytes moment s h fine
whole_fine (Put path bytes) moment s h fine = fine_after path bytes moment s h fine
whole_fine (Delete path) moment s h fine = fine_left path s.objects fine

under_fine : (mark : Mark) (call : StoreCall) (moment : ℤ) (s : Store) → WritesFine call → AreFine s.objects → AreFine (under mark (whole call moment s) s).store.objects
under_fine Good call moment s h fine = whole_fine call moment s h fine
under_fine Fail call moment s h fine = fine
under_fine Lost call moment s h fine = whole_fine call moment s h fine

after_fine : (mark : Mark) (call : StoreCall) (moment : ℤ) (contents : Option Store) → WritesFine call → IfSome contents (λ s. AreFine s.objects) → IfSome (contents_after mark call moment contents) (λ s. AreFine s.objects)
after_fine mark call moment None h fine = tt
after_fine mark call moment (Some s) h fine = under_fine (taken mark call s) call moment s h fine

pub call_fine : (old new : Told) (call : StoreCall) (moment : ℤ) (answer : StoreAnswer) → Makes old new call moment answer → WritesFine call → TellsFine old → TellsFine new
call_fine old new call moment answer makes h fine =
    subst (λ (o : Option Store). IfSome o (λ s. AreFine s.objects)) (sym makes.contents) (after_fine makes.mark call moment old.contents h fine)

pub run_fine : {P R : Type 0} (asks : P → StoreCall) (goes : P → StoreAnswer → Goes P R) (moment : ℤ) (old new : Told) (ms : List Made) (from out : Goes P R) → Run asks goes moment old new ms from out → AllWriteFine ms → TellsFine old → TellsFine new
run_fine asks goes moment old new [] from out run all fine = subst TellsFine (sym run.1) fine
run_fine asks goes moment old new (m ∷ ms) (Stay p) out run all fine = run_fine asks goes moment run.0 new ms (goes p m.answer) out run.3 all.1 (call_fine old run.0 m.call (moment_of m.call moment) m.answer run.2 all.0 fine)
run_fine asks goes moment old new (m ∷ ms) (End p r) out run all fine = absurd run
