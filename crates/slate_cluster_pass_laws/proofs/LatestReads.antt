-- The read of a log, answer after answer, gives what the definition says of its answers as a whole.
use Rattle.std.proofs.Common.{◌≡◌, ℕ, ℤ, nat_le, Bool, true, false, List, [], ◌∷◌, Option, Some, None, Result, Ok, Err, refl}
use Rattle.std.specs.Prelude.{if◌then◌else◌}
use Rattle.slate_ids.specs.declared.error.SlateDBError.{SlateDBError}
use Rattle.slate_store.specs.Machines.{Stay, End}
use Rattle.slate_store.specs.declared.object.StoredObject.{StoredObject}
use Rattle.slate_store.specs.declared.store_answer.StoreAnswer.TheVariants.{Found, Got}
use Rattle.slate_txn_log.specs.Boundary.{boundary_got, greatest}
use Rattle.slate_txn_log.specs.ReadPhase.{Reply, boundary_goes, decoded_goes, listed_goes, read_goes}
use Rattle.slate_txn_log.specs.declared.log_kind.LogKind.{LogKind}
use Rattle.slate_txn_log.specs.declared.read_phase.ReadPhase.TheVariants.{Listing, Getting, Bounding, Over}
use Rattle.slate_cluster_protocol.specs.Rows.{Answered}
use Rattle.slate_cluster_protocol.specs.TablePasses.{Given, above_boundary, if_listed, latest_in}

module _ {V : Type 0} (log : LogKind) (decoded : List ℕ → Result V SlateDBError) where
  -- what its machine gives along answers
  abbrev pub read_along : Reply V → List Answered → Given (Option (ℕ × V))
  read_along (End phase (Ok version)) answers = Some (version, answers)
  read_along (End phase (Err e)) answers = None
  read_along (Stay phase) [] = None
  read_along (Stay phase) (a ∷ answers) = read_along (read_goes log decoded phase a.0) answers

  -- of answers after which the read may start again, by what it gives then
  abbrev Again : List Answered → Type 0
  Again answers = read_along (Stay Listing) answers ≡ latest_in log decoded answers

  at_bound : (n : ℕ) (v : V) (answers : List Answered) → Again answers → (b : Bool)
      → read_along (if b then Stay Listing else End Over (Ok (Some (n, v)))) answers ≡ (if b then latest_in log decoded answers else Some (Some (n, v), answers))
  at_bound n v answers again true = again
  at_bound n v answers again false = refl

  at_boundary : (n : ℕ) (v : V) (answers : List Answered) → Again answers → (bound : Option ℕ)
      → read_along (boundary_goes n v bound) answers ≡ above_boundary n (Ok v) bound answers (latest_in log decoded answers)
  at_boundary n v answers again None = refl
  at_boundary n v answers again (Some bound) = at_bound n v answers again (nat_le n bound)

  at_value : (n : ℕ) (r : Result V SlateDBError) (boundary : Option StoredObject) (at : ℤ) (answers : List Answered) → Again answers
      → read_along (decoded_goes n r) ((Got boundary, at) ∷ answers) ≡ above_boundary n r (boundary_got boundary) answers (latest_in log decoded answers)
  at_value n (Ok v) boundary at answers again = at_boundary n v answers again (boundary_got boundary)
  at_value n (Err e) boundary at answers again = refl

  -- of a value after which no boundary was got
  no_boundary : (n : ℕ) (r : Result V SlateDBError) (answers : List Answered) → ((v : V) → read_along (Stay (Bounding n v)) answers ≡ None) → read_along (decoded_goes n r) answers ≡ None
  no_boundary n (Ok v) answers none = none v
  no_boundary n (Err e) answers none = refl

  -- by the greatest number listed: its version and the boundary were got; it was gone; or anything else
  three : (o : Option ℕ) (object : StoredObject) (at : ℤ) (boundary : Option StoredObject) (by : ℤ) (answers : List Answered) → Again answers
      → read_along (listed_goes o) ((Got (Some object), at) ∷ (Got boundary, by) ∷ answers)
      ≡ if_listed o ((Got (Some object), at) ∷ (Got boundary, by) ∷ answers) (λ n. above_boundary n (decoded object.bytes) (boundary_got boundary) answers (latest_in log decoded answers))
  three None object at boundary by answers again = refl
  three (Some n) object at boundary by answers again = at_value n (decoded object.bytes) boundary by answers again

  gone : (o : Option ℕ) (at : ℤ) (answers : List Answered) → Again answers
      → read_along (listed_goes o) ((Got None, at) ∷ answers) ≡ if_listed o ((Got None, at) ∷ answers) (λ n. latest_in log decoded answers)
  gone None at answers again = refl
  gone (Some n) at answers again = again

  others : (o : Option ℕ) (answers : List Answered) → ((n : ℕ) → read_along (Stay (Getting n)) answers ≡ None) → read_along (listed_goes o) answers ≡ if_listed o answers (λ n. None)
  others None answers none = refl
  others (Some n) answers none = none n

  pub latest_read : (answers : List Answered) → Again answers
  latest_read [] = refl
  latest_read ((Found found, t) ∷ (Got (Some object), at) ∷ (Got boundary, by) ∷ answers) = three (greatest log found) object at boundary by answers (latest_read answers)
  latest_read ((Found found, t) ∷ (Got (Some object), at) ∷ (x, by) ∷ answers) =
      others (greatest log found) ((Got (Some object), at) ∷ (x, by) ∷ answers) (λ n. no_boundary n (decoded object.bytes) ((x, by) ∷ answers) (λ v. refl))
  latest_read ((Found found, t) ∷ (Got (Some object), at) ∷ []) = others (greatest log found) ((Got (Some object), at) ∷ []) (λ n. no_boundary n (decoded object.bytes) [] (λ v. refl))
  latest_read ((Found found, t) ∷ (Got None, at) ∷ answers) = gone (greatest log found) at answers (latest_read answers)
  latest_read ((Found found, t) ∷ (_, at) ∷ answers) = others (greatest log found) _ (λ n. refl)
  latest_read ((Found found, t) ∷ []) = others (greatest log found) [] (λ n. refl)
  latest_read ((_, t) ∷ answers) = refl
