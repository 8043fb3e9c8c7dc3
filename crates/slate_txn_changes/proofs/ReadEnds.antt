-- A log without a version is found so by its list.
use Rattle.std.specs.Prelude.{◌≡◌, ℕ, nat_le, Bool, true, false, List, Option, Some, None, Result, Ok, Err, if◌then◌else◌, refl}
use Rattle.slate_ids.specs.declared.error.SlateDBError.{SlateDBError}
use Rattle.slate_store.specs.Machines.{Goes, Stay, End}
use Rattle.slate_store.specs.declared.object.StoredObject.{StoredObject}
use Rattle.slate_store.specs.declared.store_answer.StoreAnswer.{StoreAnswer}
use Rattle.slate_store.specs.declared.store_answer.StoreAnswer.TheVariants.{Found, Got, Created, Replaced, Written, Deleted, Fault}
use Rattle.slate_txn_log.specs.Boundary.{boundary_got}
use Rattle.slate_txn_log.specs.ReadPhase.{read_goes, got_goes, decoded_goes, boundary_goes, above_goes}
use Rattle.slate_txn_log.specs.declared.log_kind.LogKind.{LogKind}
use Rattle.slate_txn_log.specs.declared.read_phase.ReadPhase.{ReadPhase}
use Rattle.slate_txn_log.specs.declared.read_phase.ReadPhase.TheVariants.{Listing, Getting, Bounding, Over}

by_value : {T : Type 0} (p q : ReadPhase T) (n : ℕ) (value : Result T SlateDBError) → decoded_goes n value ≡ End q (Ok None) → p ≡ Listing
by_value p q n (Ok value) h = absurd cc
by_value p q n (Err e) h = absurd cc

by_object : {T : Type 0} (p q : ReadPhase T) (decoded : List ℕ → Result T SlateDBError) (n : ℕ) (object : Option StoredObject) → got_goes decoded n object ≡ End q (Ok None) → p ≡ Listing
by_object p q decoded n None h = absurd cc
by_object p q decoded n (Some object) h = by_value p q n (decoded object.bytes) h

by_test : {T : Type 0} (p q : ReadPhase T) (n : ℕ) (value : T) (test : Bool) → if◌then◌else◌ {A = Goes (ReadPhase T) (Option (ℕ × T))} test (Stay Listing) (End Over (Ok (Some (n, value)))) ≡ End q (Ok None) → p ≡ Listing
by_test p q n value true h = absurd cc
by_test p q n value false h = absurd cc

by_boundary : {T : Type 0} (p q : ReadPhase T) (n : ℕ) (value : T) (boundary : Option ℕ) → boundary_goes n value boundary ≡ End q (Ok None) → p ≡ Listing
by_boundary p q n value None h = absurd cc
by_boundary p q n value (Some b) h = by_test p q n value (nat_le n b) h

-- it was at its list
pub ends_listing : {T : Type 0} (log : LogKind) (decoded : List ℕ → Result T SlateDBError) (read : ReadPhase T) (answer : StoreAnswer) (q : ReadPhase T) → read_goes log decoded read answer ≡ End q (Ok None) → read ≡ Listing
ends_listing log decoded Listing answer q h = refl
ends_listing log decoded (Getting n) (Got object) q h = by_object (Getting n) q decoded n object h
ends_listing log decoded (Bounding n value) (Got object) q h = by_boundary (Bounding n value) q n value (boundary_got object) h
ends_listing log decoded (Getting n) _ q h = absurd cc
ends_listing log decoded (Bounding n value) _ q h = absurd cc
ends_listing log decoded Over answer q h = absurd cc
