-- Creations, loads and reads of a log of a database.
use Rattle.std.proofs.Common.{◌≡◌, ℕ, ℤ, ◌<◌, ◌⊎◌, inl, inr, Bool, true, false, List, Option, Some, None, Result, Ok, Err, refl, sym, ◌∙◌, subst}
use Rattle.slate_ids.specs.Answers.{OrMemory, ran_out}
use Rattle.slate_ids.specs.Ids.{is_db_path}
use Rattle.slate_ids.specs.declared.error.SlateDBError.{SlateDBError}
use Rattle.slate_ids.specs.declared.error.SlateDBError.TheVariants.{LatestTransactionalObjectVersionMissing}
use Rattle.slate_store.specs.StoreCalls.{Told}
use Rattle.slate_store.specs.Store.{Store}
use Rattle.slate_txn_log.specs.ReadLatest.{Read, ReadBegan}
use Rattle.slate_txn_log.specs.declared.log_kind.LogKind.{LogKind}
use Rattle.slate_txn_log.specs.declared.sequenced.Sequenced.{Sequenced}
use Rattle.slate_txn.specs.Loading.{loaded, try_loaded}
use Rattle.slate_txn_laws.specs.Creating.{CreateAnswers}
use Rattle.slate_txn_laws.specs.Creating.CreateAnswers.{IsCreated, HasVersion, ByCodec, NoBoundary}
use Rattle.slate_txn_laws.specs.Outside.{is_outside, NotOutside}
use Rattle.slate_txn_laws.specs.Reading.{AnswersBy}
use Rattle.slate_txn_laws.specs.Ready.{top_of, IsReady, LeavesReady}
use Rattle.slate_txn_laws.specs.Serving.{Serves}
use Rattle.slate_txn_laws.proofs.FirstVersions.{create_ends}
use Rattle.slate_txn_laws.proofs.Inside.{out_inside, read_inside, same_error}
use Rattle.slate_txn_laws.proofs.LatestReads.{read_ends}
use Rattle.slate_state_holders.specs.Holders.{CreatesDb, LoadsDb, LogOf, TryLoadsDb}
use Rattle.slate_txn_log.specs.declared.right.Right.{Right}
use Rattle.slate_txn_laws.specs.Plain.{PlainLog}
use Rattle.slate_txn.specs.Holder.{Holder}
use Rattle.slate_txn_laws.proofs.PlainInside.{decodes_inside, encodes_inside}
use Rattle.slate_state_complete.specs.Taken.{IsFirstTaken}
use Rattle.slate_state_complete.proofs.Refusals.{not_both}

module _ {T C R : Type 0} (decoded : C → List ℕ → Result T SlateDBError) (encoded : C → T → Result (List ℕ) SlateDBError) (refusal : R → ℕ → T → T → Right → Option SlateDBError) (plain : PlainLog decoded encoded refusal) where
  -- ---- the log of a database

  module _ (kind : LogKind) (db : List ℕ) (of : LogOf T C R kind db) where
    there : (P : List ℕ → LogKind → Type 0) → P db kind → P of.log.db of.log.log
    there P h = subst (λ (d : List ℕ). P d of.log.log) (sym of.at) (subst (λ (k : LogKind). P db k) (sym of.of_kind) h)

    back : (P : List ℕ → LogKind → Type 0) → P of.log.db of.log.log → P db kind
    back P h = subst (λ (k : LogKind). P db k) of.of_kind (subst (λ (d : List ℕ). P d of.log.log) of.at h)

  -- ---- creations

  module _ (kind : LogKind) (db : List ℕ) (first : T) (moment : ℤ) (old new : Told) (s : Store) (result : Result (Holder T C R) SlateDBError) (named : is_db_path db ≡ true) (serves : Serves old new s) (ready : IsReady db kind s) where
    abbrev Made : LogOf T C R kind db → Type 0
    Made of = CreateAnswers encoded s new of.log of.rules first result

    abbrev Created : Type 0
    Created = ((of : LogOf T C R kind db) × Made of × LeavesReady db kind new) ⊎ (ran_out result ≡ true)

    of_log : (of : LogOf T C R kind db) → (Made of × LeavesReady of.log.db of.log.log new) ⊎ (ran_out result ≡ true) → Created
    of_log of (inl ended) = inl (of, ended.0, back kind db of (λ d k. LeavesReady d k new) ended.1)
    of_log of (inr out) = inr out

    pub create_db : CreatesDb encoded kind db first moment old new result → Created
    create_db ran =
        of_log ran.0 (create_ends encoded moment old new s ran.0.log ran.0.rules first result ran.1 (subst (λ (d : List ℕ). is_db_path d ≡ true) (sym ran.0.at) named) serves (there kind db ran.0 (λ d k. IsReady d k s) ready))

    taken_by : (of : LogOf T C R kind db) → Made of → (e : SlateDBError) → result ≡ Err e → is_outside e ≡ true → IsFirstTaken kind db s e
    taken_by of (IsCreated bytes t at told stands is) e same outside = absurd cc
    taken_by of (HasVersion top boundary at is) e same outside = record { top = top; boundary = boundary; at = back kind db of (λ d k. top_of d k s ≡ Some top) at; is = cc }
    taken_by of (ByCodec a at is) e same outside = absurd (not_both result e (λ b other. same_error result a b is other (encodes_inside decoded encoded refusal plain of.log.codec first a at)) same outside)
    taken_by of (NoBoundary none is) e same outside = absurd (not_both result e (λ b other. same_error result _ b is other refl) same outside)

    pub first_taken : Created → (e : SlateDBError) → result ≡ Err e → is_outside e ≡ true → IsFirstTaken kind db s e
    first_taken (inl ended) e same outside = taken_by ended.0 ended.1 e same outside
    first_taken (inr out) e same outside = absurd (not_both result e (out_inside result out) same outside)

    pub create_inside : Created → top_of db kind s ≡ None → NotOutside result
    create_inside ended empty e same = test (is_outside e) refl
      where
        test : (b : Bool) → is_outside e ≡ b → b ≡ false
        test true at = let taken = first_taken ended e same at in (let both : Some taken.top ≡ None = sym taken.at ∙ empty in absurd cc)
        test false at = refl

  -- ---- reads that are answered as another

  module _ {X : Type 0} (sequenced : Sequenced T C) (answer : Result (Option (ℕ × T)) SlateDBError → Result X SlateDBError) (tries : ℕ) (old new : Told) (s : Store) (result : Result X SlateDBError) (some : 0 < tries) (serves : Serves old new s) (ready : IsReady sequenced.db sequenced.log s) where
    abbrev Ran : Type 0
    Ran = OrMemory result (ReadBegan decoded sequenced tries old new) ((reply : Result (Option (ℕ × T)) SlateDBError) × Read decoded sequenced tries old new reply × (answer reply ≡ result))

    pub reads_as : Ran → (AnswersBy (decoded sequenced.codec) sequenced.db sequenced.log s answer result × (new.contents ≡ Some s)) ⊎ (ran_out result ≡ true)
    reads_as (inl ran) =
        let ended = read_ends decoded sequenced tries old new s ran.0 ran.1 some serves ready in
        inl ((ran.0, ended.0, ran.2), ended.1)
    reads_as (inr out) = inr out.0

    pub reads_inside : ((reply : Result (Option (ℕ × T)) SlateDBError) → NotOutside reply → NotOutside (answer reply)) → Ran → NotOutside result
    reads_inside keeps (inl ran) =
        subst (λ (r : Result X SlateDBError). NotOutside r) ran.2 (keeps ran.0 (read_inside (decoded sequenced.codec) sequenced.db sequenced.log s ran.0 (decodes_inside decoded encoded refusal plain sequenced.codec) (read_ends decoded sequenced tries old new s ran.0 ran.1 some serves ready).0))
    reads_inside keeps (inr out) = out_inside result out.0

  -- ---- loads

  try_keeps : (log : Sequenced T C) (rules : R) (reply : Result (Option (ℕ × T)) SlateDBError) → NotOutside reply → NotOutside (try_loaded log rules reply)
  try_keeps log rules (Ok (Some version)) inside e same = absurd cc
  try_keeps log rules (Ok None) inside e same = absurd cc
  try_keeps log rules (Err a) inside e same = same_error {X = Option (Holder T C R)} (Err a) a e refl same (inside a refl)

  keeps : (log : Sequenced T C) (rules : R) (reply : Result (Option (ℕ × T)) SlateDBError) → NotOutside reply → NotOutside (loaded log rules reply)
  keeps log rules (Ok (Some version)) inside e same = absurd cc
  keeps log rules (Ok None) inside e same = same_error {X = Holder T C R} (Err LatestTransactionalObjectVersionMissing) LatestTransactionalObjectVersionMissing e refl same refl
  keeps log rules (Err a) inside e same = same_error {X = Holder T C R} (Err a) a e refl same (inside a refl)

  module _ (kind : LogKind) (db : List ℕ) (tries : ℕ) (old new : Told) (s : Store) (some : 0 < tries) (serves : Serves old new s) (ready : IsReady db kind s) where
    module _ {X : Type 0} (answer : LogOf T C R kind db → Result (Option (ℕ × T)) SlateDBError → Result X SlateDBError) (result : Result X SlateDBError) where
      of_db : (of : LogOf T C R kind db) → (AnswersBy (decoded of.log.codec) of.log.db of.log.log s (answer of) result × (new.contents ≡ Some s)) ⊎ (ran_out result ≡ true)
          → ((of : LogOf T C R kind db) × AnswersBy (decoded of.log.codec) db kind s (answer of) result × (new.contents ≡ Some s)) ⊎ (ran_out result ≡ true)
      of_db of (inl ended) = inl (of, back kind db of (λ d k. AnswersBy (decoded of.log.codec) d k s (answer of) result) ended.0, ended.1)
      of_db of (inr out) = inr out

    pub load_db : (result : Result (Holder T C R) SlateDBError) → LoadsDb decoded kind db tries old new result
        → ((of : LogOf T C R kind db) × AnswersBy (decoded of.log.codec) db kind s (loaded of.log of.rules) result × (new.contents ≡ Some s)) ⊎ (ran_out result ≡ true)
    load_db result ran = of_db (λ of. loaded of.log of.rules) result ran.0 (reads_as ran.0.log (loaded ran.0.log ran.0.rules) tries old new s result some serves (there kind db ran.0 (λ d k. IsReady d k s) ready) ran.1)

    pub load_inside : (result : Result (Holder T C R) SlateDBError) → LoadsDb decoded kind db tries old new result → NotOutside result
    load_inside result ran = reads_inside ran.0.log (loaded ran.0.log ran.0.rules) tries old new s result some serves (there kind db ran.0 (λ d k. IsReady d k s) ready) (keeps ran.0.log ran.0.rules) ran.1

    pub try_load_db : (result : Result (Option (Holder T C R)) SlateDBError) → TryLoadsDb decoded kind db tries old new result
        → ((of : LogOf T C R kind db) × AnswersBy (decoded of.log.codec) db kind s (try_loaded of.log of.rules) result × (new.contents ≡ Some s)) ⊎ (ran_out result ≡ true)
    try_load_db result ran = of_db (λ of. try_loaded of.log of.rules) result ran.0 (reads_as ran.0.log (try_loaded ran.0.log ran.0.rules) tries old new s result some serves (there kind db ran.0 (λ d k. IsReady d k s) ready) ran.1)

    pub try_load_inside : (result : Result (Option (Holder T C R)) SlateDBError) → TryLoadsDb decoded kind db tries old new result → NotOutside result
    try_load_inside result ran = reads_inside ran.0.log (try_loaded ran.0.log ran.0.rules) tries old new s result some serves (there kind db ran.0 (λ d k. IsReady d k s) ready) (try_keeps ran.0.log ran.0.rules) ran.1
