-- A read over a store that serves it, also within another machine.
use Rattle.std.proofs.Common.{◌≡◌, ℕ, ℤ, ◌+◌, ◌<◌, pos, Bool, false, nat_le, if◌then◌else◌, List, Option, Some, None, IfSome, Result, Ok, Err, refl, sym, ap, ◌∙◌, subst, arith}
use Rattle.std.proofs.lemmas.Bool.Decides.{nat_tests}
use Rattle.slate_ids.specs.declared.error.SlateDBError.{SlateDBError}
use Rattle.slate_ids.specs.declared.error.SlateDBError.TheVariants.{Corrupt}
use Rattle.slate_ids.specs.declared.error.FormatName.TheVariants.{Boundary as BoundaryFormat}
use Rattle.slate_store.specs.StoreCalls.{Told}
use Rattle.slate_store.specs.Machines.{Goes, Stay, End}
use Rattle.slate_store.specs.CallRuns.{one_if}
use Rattle.slate_store.specs.Store.{Store, object_at, listed}
use Rattle.slate_store.specs.declared.object.StoredObject.{StoredObject}
use Rattle.slate_store.specs.declared.store_answer.StoreAnswer.{StoreAnswer}
use Rattle.slate_store.specs.declared.store_answer.StoreAnswer.TheVariants.{Found, Got}
use Rattle.slate_store.specs.declared.store_call.StoreCall.{StoreCall}
use Rattle.slate_txn_log.specs.Advance.{boundary_at}
use Rattle.slate_txn_log.specs.LogPaths.{folder, version_path, boundary_path}
use Rattle.slate_txn_log.specs.ReadLatest.{Read}
use Rattle.slate_txn_log.specs.ReadPhase.{Reply, read_asks, read_goes, is_listing, listed_goes, got_goes, decoded_goes, boundary_goes, above_goes}
use Rattle.slate_txn_log.specs.declared.log_kind.LogKind.{LogKind}
use Rattle.slate_txn_log.specs.declared.read_phase.ReadPhase.{ReadPhase}
use Rattle.slate_txn_log.specs.declared.read_phase.ReadPhase.TheVariants.{Listing, Getting, Bounding, Over}
use Rattle.slate_txn_log.specs.declared.sequenced.Sequenced.{Sequenced}
use Rattle.slate_txn_laws.specs.Reading.{ReadAnswers}
use Rattle.slate_txn_laws.specs.Reading.ReadAnswers.{NoVersion, Latest, Undecoded, NoBoundary}
use Rattle.slate_txn_laws.specs.Ready.{top_of, IsBelow, IsReady, bytes_of, IsLatest}
use Rattle.slate_txn_laws.specs.Serving.{Serves}
use Rattle.slate_txn_laws.proofs.Turns.{RestBy, Within, one_way, step_in, stay_in, ended, before}
use Rattle.slate_txn_laws.proofs.Tops.{top_object}

below_not : (n b : ℕ) → b < n → nat_le n b ≡ false
below_not n b h = grind (arith, nat_tests, h)

-- ---- where the answers lead

module _ {T : Type 0} (decoded : List ℕ → Result T SlateDBError) (db : List ℕ) (log : LogKind) (s : Store) where
  lists : (top : Option ℕ) → top_of db log s ≡ top → read_goes log decoded Listing (Found (listed (folder log db) s)) ≡ listed_goes top
  lists top e = ap listed_goes e

  gets : (n : ℕ) (object : StoredObject) (reply : Result T SlateDBError) → object_at (version_path log db n) s ≡ Some object → decoded object.bytes ≡ reply → read_goes log decoded (Getting n) (Got (object_at (version_path log db n) s)) ≡ decoded_goes n reply
  gets n object reply at reads = ap (got_goes decoded n) at ∙ ap (decoded_goes n) reads

  bounds : (n : ℕ) (value : T) (boundary : Option ℕ) → boundary_at db log s ≡ boundary → read_goes log decoded (Bounding n value) (Got (object_at (boundary_path log db) s)) ≡ boundary_goes n value boundary
  bounds n value boundary e = ap (boundary_goes n value) e

  above : (n : ℕ) (value : T) (boundary : ℕ) → boundary < n → above_goes n value boundary ≡ End Over (Ok (Some (n, value)))
  above n value boundary h = ap (λ (b : Bool). if b then Stay Listing else End Over (Ok (Some (n, value)))) (below_not n boundary h)

  module _ {Q S : Type 0} (starts : Q → Bool) (asks : Q → StoreCall) (may : Q → StoreAnswer → Goes Q S → Type 0) (enter : ReadPhase T → Q) (on : Reply T → Goes Q S → Type 0)
      (within : Within is_listing (read_asks db log) (read_goes log decoded) starts asks may enter on) (moment : ℤ) (ready : IsReady db log s) (left : ℕ) (some : 0 < left) (new : Told) (to : Q) (result : Result S SlateDBError) where
    abbrev Left : ℕ → Goes Q S → Type 0
    Left left from = RestBy starts asks may moment left s from new to result

    -- the read ends with its answer, and the machine around it goes on by that
    pub record Walk : Type 0 where
      pub reply : Result (Option (ℕ × T)) SlateDBError
      pub answers : ReadAnswers decoded db log s reply
      pub there : Goes Q S
      pub moved : on (End Over reply) there
      pub go : (rest : ℕ) → rest + one_if starts there ≡ left → Left rest there

    bounding : (n : ℕ) (bytes : List ℕ) (value : T) → IsLatest db log s n bytes → decoded bytes ≡ Ok value → Left left (Stay (enter (Bounding n value))) → (boundary : Option ℕ) → boundary_at db log s ≡ boundary → Walk
    bounding n bytes value latest reads from None at =
        let o = step_in is_listing (read_asks db log) (read_goes log decoded) starts asks may enter on within moment left s (Bounding n value) new to result from some (End Over (Err (Corrupt BoundaryFormat))) (bounds n value None at) in
        record { reply = Err (Corrupt BoundaryFormat); answers = NoBoundary n bytes value latest reads at refl; there = o.there; moved = o.moved; go = o.go }
    bounding n bytes value latest reads from (Some boundary) at =
        let below : IsBelow boundary (Some n) = subst (IsBelow boundary) latest.top (subst (λ (o : Option ℕ). IfSome o (λ b. IsBelow b (top_of db log s))) at ready.below) in
        let o = step_in is_listing (read_asks db log) (read_goes log decoded) starts asks may enter on within moment left s (Bounding n value) new to result from some (End Over (Ok (Some (n, value)))) (bounds n value (Some boundary) at ∙ above n value boundary below) in
        record { reply = Ok (Some (n, value)); answers = Latest n bytes value latest reads refl; there = o.there; moved = o.moved; go = o.go }

    getting : (n : ℕ) (object : StoredObject) → top_of db log s ≡ Some n → object_at (version_path log db n) s ≡ Some object → Left left (Stay (enter (Getting n))) → (reply : Result T SlateDBError) → decoded object.bytes ≡ reply → Walk
    getting n object top at from (Err e) refuses =
        let o = step_in is_listing (read_asks db log) (read_goes log decoded) starts asks may enter on within moment left s (Getting n) new to result from some (End Over (Err e)) (gets n object (Err e) at refuses) in
        record { reply = Err e; answers = Undecoded n object.bytes e (record { top = top; stands = ap bytes_of at }) refuses refl; there = o.there; moved = o.moved; go = o.go }
    getting n object top at from (Ok value) reads =
        bounding n object.bytes value (record { top = top; stands = ap bytes_of at }) reads
        (stay_in is_listing (read_asks db log) (read_goes log decoded) starts asks may enter on within moment left s (Getting n) new to result from some (Bounding n value) (gets n object (Ok value) at reads) refl)
        (boundary_at db log s) refl

    pub listing : Left left (Stay (enter Listing)) → (top : Option ℕ) → top_of db log s ≡ top → Walk
    listing from None at =
        let o = step_in is_listing (read_asks db log) (read_goes log decoded) starts asks may enter on within moment left s Listing new to result from some (End Over (Ok None)) (lists None at) in
        record { reply = Ok None; answers = NoVersion at refl; there = o.there; moved = o.moved; go = o.go }
    listing from (Some n) at =
        let has = top_object log db s n ready.fine at in
        getting n has.object at has.at
        (stay_in is_listing (read_asks db log) (read_goes log decoded) starts asks may enter on within moment left s Listing new to result from some (Getting n) (lists (Some n) at) refl)
        (decoded has.object.bytes) refl

-- ---- the plain read

module _ {T C : Type 0} (decoded : C → List ℕ → Result T SlateDBError) (sequenced : Sequenced T C) where
  abbrev own_asks : ReadPhase T → StoreCall
  own_asks = read_asks sequenced.db sequenced.log

  abbrev own_goes : ReadPhase T → StoreAnswer → Reply T
  own_goes = read_goes sequenced.log (decoded sequenced.codec)

  alone : Within is_listing own_asks own_goes is_listing own_asks (one_way own_goes) (λ p. p) (λ g out. g ≡ out)
  alone = record { same_call = λ p. refl; goes_by = λ p a out e. e; stays = λ p out e. e; same_start = λ p. refl }

  pub read_ends : (tries : ℕ) (old new : Told) (s : Store) (result : Result (Option (ℕ × T)) SlateDBError)
      → Read decoded sequenced tries old new result → 0 < tries → Serves old new s → IsReady sequenced.db sequenced.log s
      → ReadAnswers (decoded sequenced.codec) sequenced.db sequenced.log s result × (new.contents ≡ Some s)
  read_ends tries old new s result read some serves ready =
      let walk = listing (decoded sequenced.codec) sequenced.db sequenced.log s is_listing own_asks (one_way own_goes) (λ p. p) (λ g out. g ≡ out) alone (pos 0) ready tries some new read.0 result
      (before is_listing own_asks own_goes (pos 0) tries s old new Listing read.0 result read.1 serves.contents serves.calm)
      (top_of sequenced.db sequenced.log s) refl in
      let rest : (rest : ℕ) → rest + one_if {R = Option (ℕ × T)} (is_listing {T = T}) (End Over walk.reply) ≡ tries → RestBy is_listing own_asks (one_way own_goes) (pos 0) rest s (End Over walk.reply) new read.0 result =
      subst (λ (g : Reply T). (rest : ℕ) → rest + one_if (is_listing {T = T}) g ≡ tries → RestBy is_listing own_asks (one_way own_goes) (pos 0) rest s g new read.0 result) (sym walk.moved) walk.go in
      let end = ended is_listing own_asks own_goes (pos 0) tries s Over walk.reply new read.0 result (rest tries (omega arith)) in
      (subst (λ (r : Result (Option (ℕ × T)) SlateDBError). ReadAnswers (decoded sequenced.codec) sequenced.db sequenced.log s r) (sym end.answer) walk.answers, end.contents)
