-- The commit of a change over a store that serves it.
use Rattle.std.proofs.Common.{◌≡◌, ℕ, ℤ, ◌+◌, ◌-◌, ◌<◌, ◌≤◌, ◌^◌, ◌⊎◌, inl, inr, true, List, Option, Some, None, Result, Ok, Err, refl, sym, ap, ◌∙◌, subst, arith}
use Rattle.slate_ids.specs.Answers.{ran_out}
use Rattle.slate_ids.specs.Ids.{is_db_path}
use Rattle.slate_ids.specs.declared.error.SlateDBError.{SlateDBError}
use Rattle.slate_ids.specs.declared.error.SlateDBError.TheVariants.{Corrupt}
use Rattle.slate_ids.specs.declared.error.FormatName.TheVariants.{Boundary as BoundaryFormat}
use Rattle.slate_store.specs.StoreCalls.{Told}
use Rattle.slate_store.specs.Machines.{Goes, Stay, End}
use Rattle.slate_store.specs.CallRuns.{one_if}
use Rattle.slate_store.specs.Store.{Store, object_at}
use Rattle.slate_store.specs.declared.store_answer.StoreAnswer.{StoreAnswer}
use Rattle.slate_txn_log.specs.Commit.{never}
use Rattle.slate_txn_log.specs.CommitPhase.{commit_asks, commit_goes}
use Rattle.slate_txn_log.specs.LogPaths.{version_path}
use Rattle.slate_txn_log.specs.ReadPhase.{read_asks, read_goes, is_listing}
use Rattle.slate_txn_log.specs.declared.commit_phase.CommitPhase.{CommitPhase}
use Rattle.slate_txn_log.specs.declared.commit_phase.CommitPhase.TheVariants.{Putting, Over as commit_over}
use Rattle.slate_txn_log.specs.declared.log_kind.LogKind.{LogKind}
use Rattle.slate_txn_log.specs.declared.read_phase.ReadPhase.{ReadPhase}
use Rattle.slate_txn_log.specs.declared.read_phase.ReadPhase.TheVariants.{Listing, Over as read_over}
use Rattle.slate_txn.specs.Apply.{Ways, ApplyState, ApplyGoes, apply_asks, apply_goes, apply_starts, renews, begun, read_on, commit_on, Begins, Applies}
use Rattle.slate_txn.specs.ApplyMoves.{MayWays, ReadMoves, RenewsBy, ApplyMoves, BeginsBy, AppliesBy}
use Rattle.slate_txn.specs.Holder.{Holder, at_version}
use Rattle.slate_txn.specs.declared.apply.ApplyPhase.{ApplyPhase}
use Rattle.slate_txn.specs.declared.apply.ApplyPhase.TheVariants.{Reading, Committing}
use Rattle.slate_txn_laws.specs.Applying.{IsSeen, ApplyAnswers}
use Rattle.slate_txn_laws.specs.Applying.IsSeen.{IsHeld, IsRead}
use Rattle.slate_txn_laws.specs.Applying.ApplyAnswers.{Changes, MakesNone, Refuses, Unread, NoBoundary as BadBoundary}
use Rattle.slate_txn_laws.specs.Changing.{may_of, IsChange}
use Rattle.slate_txn_laws.specs.Committing.{IsOver, Stands}
use Rattle.slate_txn_laws.specs.Reading.{ReadAnswers}
use Rattle.slate_txn_laws.specs.Reading.ReadAnswers.{NoVersion, Latest, Undecoded, NoBoundary}
use Rattle.slate_txn_laws.specs.Ready.{top_of, IsReady, LeavesReady, IsLatest, version_at}
use Rattle.slate_txn_laws.specs.Serving.{Serves}
use Rattle.slate_txn_laws.proofs.CommitWalks.{CommitEnds, putting}
use Rattle.slate_txn_laws.proofs.CommitWalks.CommitEnds.{Done, Late, Bad}
use Rattle.slate_txn_laws.proofs.LatestReads.{listing}
use Rattle.slate_txn_laws.proofs.Places.{SameLatest}
use Rattle.slate_txn_laws.proofs.Renewals.{Renews, renewal, renewal_by, next_fits}
use Rattle.slate_txn_laws.proofs.Renewals.Renews.{Fails, Leaves, Commits}
use Rattle.slate_txn_laws.proofs.Tops.{top_object}
use Rattle.slate_txn_laws.proofs.Turns.{RestBy, Within, one_way, ended_by, before, before_by}

-- ---- contents that keep the latest version

module _ (db : List ℕ) (log : LogKind) (s t : Store) (top : ℕ) (kept : SameLatest db log s t top) (at : top_of db log s ≡ Some top) where
  one_top : (n : ℕ) (bytes : List ℕ) → IsLatest db log t n bytes → top ≡ n
  one_top n bytes latest = let e = kept.latest in let f = latest.top in cc

  kept_latest : (n : ℕ) (bytes : List ℕ) → IsLatest db log t n bytes → IsLatest db log s n bytes
  kept_latest n bytes latest =
      let e = one_top n bytes latest in
      record { top = at ∙ ap Some e; stands = subst (λ (k : ℕ). version_at db log k s ≡ Some bytes) e (sym kept.same_version ∙ subst (λ (k : ℕ). version_at db log k t ≡ Some bytes) (sym e) latest.stands) }

  -- a version put above the latest stands so from the first contents too
  kept_stands : (u : Store) (n : ℕ) (bytes : List ℕ) → top < n → Stands db log t u n bytes → Stands db log s u n bytes
  kept_stands u n bytes lt stands = record {
    stands = stands.stands;
    boundary = stands.boundary;
    read = stands.read;
    above = stands.above;
    latest = λ h. stands.latest (inr (subst (IsOver n) (sym kept.latest) lt));
  }

-- a machine that applies: it reads and commits as an apply does, and what it commits of a version is what a change may answer of it
module _ {T C R : Type 0} (ways : MayWays T C R) (moves : ApplyState T C R → StoreAnswer → ApplyGoes T C R → Type 0) (renew : Holder T C R → ℕ → T → Result (Option (CommitPhase T)) SlateDBError → Type 0)
    (reads : (holder : Holder T C R) (p : ReadPhase T) (a : StoreAnswer) (out : ApplyGoes T C R) → moves (Reading p, holder) a out → ReadMoves holder (renew holder) (read_goes holder.sequenced.log (ways.decoded holder.sequenced.codec) p a) out)
    (commits : (holder : Holder T C R) (p : CommitPhase T) (a : StoreAnswer) (out : ApplyGoes T C R) → moves (Committing p, holder) a out → commit_on holder (commit_goes p a) ≡ out)
    (renewal : (holder : Holder T C R) (id : ℕ) (value : T) (start : Result (Option (CommitPhase T)) SlateDBError) → renew holder id value start → Renews ways holder id value start) where
  abbrev Left : ℤ → ℕ → Store → ApplyGoes T C R → Told → ApplyState T C R → Result (Unit {0}) SlateDBError → Type 0
  Left moment left s from new to result = RestBy apply_starts apply_asks moves moment left s from new to result

  reads_within : (holder : Holder T C R) → Within is_listing (read_asks holder.sequenced.db holder.sequenced.log) (read_goes holder.sequenced.log (ways.decoded holder.sequenced.codec)) apply_starts apply_asks moves (λ p. (Reading p, holder)) (ReadMoves holder (renew holder))
  reads_within holder = record { same_call = λ p. refl; goes_by = reads holder; stays = λ p out e. e; same_start = λ p. refl }

  commits_within : (holder : Holder T C R) → Within never (commit_asks {T = T} holder.sequenced.db holder.sequenced.log) commit_goes apply_starts apply_asks moves (λ p. (Committing p, holder)) (λ g out. commit_on holder g ≡ out)
  commits_within holder = record { same_call = λ p. refl; goes_by = commits holder; stays = λ p out e. e; same_start = λ p. refl }

  module _ (from : Holder T C R) (named : is_db_path from.sequenced.db ≡ true) (s : Store) (moment : ℤ) (new : Told) (phase : ApplyPhase T) (to : Holder T C R) (result : Result (Unit {0}) SlateDBError) where
    abbrev db : List ℕ
    db = from.sequenced.db

    abbrev log : LogKind
    log = from.sequenced.log

    abbrev Answers : Type 0
    Answers = ApplyAnswers ways s new from to result × LeavesReady db log new

    -- the end of the run
    record Ends (t : Store) (held : Holder T C R) (reply : Result (Unit {0}) SlateDBError) : Type 0 where
      pub held_then : to ≡ held
      pub replied : result ≡ reply
      pub contents : new.contents ≡ Some t

    ends : (left : ℕ) (t : Store) (p : ApplyPhase T) (held : Holder T C R) (reply : Result (Unit {0}) SlateDBError) → Left moment left t (End (p, held) reply) new (phase, to) result → Ends t held reply
    ends left t p held reply rest =
        let e = ended_by apply_starts apply_asks moves moment left t (p, held) reply new (phase, to) result rest in
        record { held_then = ap (λ (st : ApplyState T C R). st.1) e.phase; replied = e.answer; contents = e.contents }

    leaves : (t : Store) → IsReady db log t → new.contents ≡ Some t → LeavesReady db log new
    leaves t ready contents = record { left = t; contents = contents; ready = ready }

    -- the machine goes on to where it is known to
    arrive : (left rest : ℕ) (t : Store) (g to_g : ApplyGoes T C R) → g ≡ to_g → ((rest : ℕ) → rest + one_if apply_starts g ≡ left → Left moment rest t g new (phase, to) result) → rest + one_if apply_starts to_g ≡ left → Left moment rest t to_g new (phase, to) result
    arrive left rest t g to_g e go used = subst (λ (g : ApplyGoes T C R). (rest : ℕ) → rest + one_if apply_starts g ≡ left → Left moment rest t g new (phase, to) result) e go rest used

    -- ---- after a conflict

    module _ (t : Store) (top : ℕ) (kept : SameLatest db log s t top) (at : top_of db log s ≡ Some top) (left : ℕ) (some : 0 < left) where
      module _ (value wanted : T) (bytes : List ℕ) (seen : IsSeen ways from s top value) (change : IsChange ways from top value wanted bytes) where
        again_done : (u : Store) → IsReady db log u → (reply : Result (ℕ × T) SlateDBError) → CommitEnds db log t u (top + 1) bytes wanted reply → (g : ApplyGoes T C R) → commit_on (at_version from top value) (End commit_over reply) ≡ g
            → ((rest : ℕ) → rest + one_if apply_starts g ≡ left → Left moment rest u g new (phase, to) result) → Answers
        again_done u ready reply (Done stands is) g moved go =
            let e = ends left u (Committing commit_over) (at_version from (top + 1) wanted) (Ok tt) (arrive left left u g (End (Committing commit_over, at_version from (top + 1) wanted) (Ok tt)) (sym moved ∙ ap (λ r. commit_on (at_version from top value) (End commit_over r)) is) go (omega arith)) in
            (Changes top value wanted bytes u seen change e.contents (kept_stands db log s t top kept at u (top + 1) bytes (omega arith) stands) e.held_then e.replied, leaves u ready e.contents)
        again_done u ready reply (Late other boundary is_top le after is) g moved go =
            let same : Some other ≡ Some top = sym is_top ∙ kept.latest in
            let number : other ≡ top = cc in
            absurd (omega (arith, le, number))
        again_done u ready reply (Bad none is) g moved go =
            let e = ends left u (Committing commit_over) (at_version from top value) (Err (Corrupt BoundaryFormat)) (arrive left left u g (End (Committing commit_over, at_version from top value) (Err (Corrupt BoundaryFormat))) (sym moved ∙ ap (λ r. commit_on (at_version from top value) (End commit_over r)) is) go (omega arith)) in
            (BadBoundary (sym kept.same_boundary ∙ none) e.replied, leaves u ready e.contents)

        put_again : top + 1 < 2 ^ 64 → Left moment left t (Stay (Committing (Putting (top + 1) bytes wanted), at_version from top value)) new (phase, to) result → Answers
        put_again small rest =
            let walk = putting db log apply_starts apply_asks moves (λ p. (Committing p, at_version from top value)) (λ g out. commit_on (at_version from top value) g ≡ out) (commits_within (at_version from top value)) moment t named kept.ready (top + 1) bytes wanted (omega arith) small left some new (phase, to) result rest (object_at (version_path log db (top + 1)) t) refl in
            again_done walk.after walk.ready_then walk.reply walk.ends walk.there walk.moved walk.go

      -- the latest version was read
      module _ (value : T) (bytes : List ℕ) (latest : IsLatest db log t top bytes) (decodes : ways.decoded from.sequenced.codec bytes ≡ Ok value) where
        seen : IsSeen ways from s top value
        seen = IsRead bytes (kept_latest db log s t top kept at top bytes latest) decodes

        renewed_then : (start : Result (Option (CommitPhase T)) SlateDBError) → Renews ways from top value start → (g : ApplyGoes T C R) → begun (Reading read_over) (at_version from top value) start ≡ g
            → ((rest : ℕ) → rest + one_if apply_starts g ≡ left → Left moment rest t g new (phase, to) result) → Answers
        renewed_then start (Fails a refusal is) g moved go =
            let e = ends left t (Reading read_over) (at_version from top value) (Err a) (arrive left left t g (End (Reading read_over, at_version from top value) (Err a)) (sym moved ∙ ap (begun (Reading read_over) (at_version from top value)) is) go (omega arith)) in
            (Refuses top value a seen refusal e.replied, leaves t kept.ready e.contents)
        renewed_then start (Leaves none is) g moved go =
            let e = ends left t (Reading read_over) (at_version from top value) (Ok tt) (arrive left left t g (End (Reading read_over, at_version from top value) (Ok tt)) (sym moved ∙ ap (begun (Reading read_over) (at_version from top value)) is) go (omega arith)) in
            (MakesNone top value seen none e.held_then e.replied, leaves t kept.ready e.contents)
        renewed_then start (Commits wanted new_bytes change more is) g moved go =
            let has = top_object log db t top kept.ready.fine kept.latest in
            put_again value wanted new_bytes seen change (next_fits top has.small more)
            (arrive left left t g (Stay (Committing (Putting (top + 1) new_bytes wanted), at_version from top value)) (sym moved ∙ ap (begun (Reading read_over) (at_version from top value)) is) go (omega arith))

      read_done : (reply : Result (Option (ℕ × T)) SlateDBError) → ReadAnswers (ways.decoded from.sequenced.codec) db log t reply → (g : ApplyGoes T C R) → ReadMoves from (renew from) (End read_over reply) g
          → ((rest : ℕ) → rest + one_if apply_starts g ≡ left → Left moment rest t g new (phase, to) result) → Answers
      read_done reply (NoVersion none is) g moved go = let e = kept.latest in absurd (cc (e, none))
      read_done reply (Latest n bytes value latest decodes is) g moved go =
          let e = one_top db log s t top kept at n bytes latest in
          let m = subst (λ (r : Result (Option (ℕ × T)) SlateDBError). ReadMoves from (renew from) (End read_over r) g) (is ∙ ap (λ (k : ℕ). Ok (Some (k, value))) (sym e)) moved in
          renewed_then value bytes (subst (λ (k : ℕ). IsLatest db log t k bytes) (sym e) latest) decodes m.0 (renewal from top value m.0 m.1) g m.2 go
      read_done reply (Undecoded n bytes a latest refuses is) g moved go =
          let m = subst (λ (r : Result (Option (ℕ × T)) SlateDBError). ReadMoves from (renew from) (End read_over r) g) is moved in
          let e = ends left t (Reading read_over) from (Err a) (arrive left left t g (End (Reading read_over, from) (Err a)) (sym m) go (omega arith)) in
          (Unread n bytes a (kept_latest db log s t top kept at n bytes latest) refuses e.replied, leaves t kept.ready e.contents)
      read_done reply (NoBoundary n bytes value latest decodes none is) g moved go =
          let m = subst (λ (r : Result (Option (ℕ × T)) SlateDBError). ReadMoves from (renew from) (End read_over r) g) is moved in
          let e = ends left t (Reading read_over) from (Err (Corrupt BoundaryFormat)) (arrive left left t g (End (Reading read_over, from) (Err (Corrupt BoundaryFormat))) (sym m) go (omega arith)) in
          (BadBoundary (sym kept.same_boundary ∙ none) e.replied, leaves t kept.ready e.contents)

      read_again : Left moment left t (Stay (Reading Listing, from)) new (phase, to) result → Answers
      read_again rest =
          let walk = listing (ways.decoded from.sequenced.codec) db log t apply_starts apply_asks moves (λ p. (Reading p, from)) (ReadMoves from (renew from)) (reads_within from) moment kept.ready left some new (phase, to) result rest (top_of db log t) refl in
          read_done walk.reply walk.answers walk.there walk.moved walk.go

    -- ---- the first commit

    module _ (ready : IsReady db log s) (left rest : ℕ) (one : rest + 1 ≡ left) (some : (top : ℕ) → top_of db log s ≡ Some top → from.id + 1 ≤ top → 0 < rest) (wanted : T) (bytes : List ℕ) (change : IsChange ways from from.id from.object wanted bytes) where
      first_done : (t : Store) → IsReady db log t → (reply : Result (ℕ × T) SlateDBError) → CommitEnds db log s t (from.id + 1) bytes wanted reply → (g : ApplyGoes T C R) → commit_on from (End commit_over reply) ≡ g
          → ((rest : ℕ) → rest + one_if apply_starts g ≡ left → Left moment rest t g new (phase, to) result) → Answers
      first_done t after reply (Done stands is) g moved go =
          let e = ends left t (Committing commit_over) (at_version from (from.id + 1) wanted) (Ok tt) (arrive left left t g (End (Committing commit_over, at_version from (from.id + 1) wanted) (Ok tt)) (sym moved ∙ ap (λ r. commit_on from (End commit_over r)) is) go (omega arith)) in
          (Changes from.id from.object wanted bytes t (IsHeld refl refl) change e.contents stands e.held_then e.replied, leaves t after e.contents)
      first_done t after reply (Late top boundary at le kept is) g moved go =
          read_again t top kept at rest (some top at le)
          (arrive left rest t g (Stay (Reading Listing, from)) (sym moved ∙ ap (λ r. commit_on from (End commit_over r)) is) go one)
      first_done t after reply (Bad none is) g moved go =
          let e = ends left t (Committing commit_over) from (Err (Corrupt BoundaryFormat)) (arrive left left t g (End (Committing commit_over, from) (Err (Corrupt BoundaryFormat))) (sym moved ∙ ap (λ r. commit_on from (End commit_over r)) is) go (omega arith)) in
          (BadBoundary none e.replied, leaves t after e.contents)

      pub first_put : from.id + 1 < 2 ^ 64 → Left moment left s (Stay (Committing (Putting (from.id + 1) bytes wanted), from)) new (phase, to) result → Answers
      first_put small start =
          let walk = putting db log apply_starts apply_asks moves (λ p. (Committing p, from)) (λ g out. commit_on from g ≡ out) (commits_within from) moment s named ready (from.id + 1) bytes wanted (omega arith) small left (omega (arith, one)) new (phase, to) result start (object_at (version_path log db (from.id + 1)) s) refl in
          first_done walk.after walk.ready_then walk.reply walk.ends walk.there walk.moved walk.go

-- ---- what is known before a plain call

module _ {T C R : Type 0} (ways : MayWays T C R) (tries : ℕ) (old new : Told) (s : Store) (from to : Holder T C R) (result : Result (Unit {0}) SlateDBError) where
  abbrev pub Ended : Type 0
  Ended = ApplyAnswers ways s new from to result × LeavesReady from.sequenced.db from.sequenced.log new

  -- a try is left after a conflict
  abbrev pub IsEnough : Type 0
  IsEnough = (top : ℕ) → top_of from.sequenced.db from.sequenced.log s ≡ Some top → from.id + 1 ≤ top → 1 < tries

  unchanged : Serves old new s → IsReady from.sequenced.db from.sequenced.log s → new ≡ old → LeavesReady from.sequenced.db from.sequenced.log new
  unchanged serves ready same = record { left = s; contents = ap (λ (t : Told). t.contents) same ∙ serves.contents; ready = ready }

-- a holder of the latest version needs no other try
pub latest_enough : {T C R : Type 0} (tries : ℕ) (s : Store) (from : Holder T C R) → top_of from.sequenced.db from.sequenced.log s ≡ Some from.id → (top : ℕ) → top_of from.sequenced.db from.sequenced.log s ≡ Some top → from.id + 1 ≤ top → 1 < tries
latest_enough tries s from latest top at le = let number : top ≡ from.id = (let tops : Some top ≡ Some from.id = sym at ∙ latest in cc) in absurd (omega (arith, le, number))

-- ---- a plain call of a change that is computed

module _ {T C R : Type 0} (ways : Ways T C R) where
  abbrev makes : Holder T C R → ℕ → T → Result (Option (CommitPhase T)) SlateDBError → Type 0
  makes holder id value start = renews ways holder id value ≡ start

  read_moves : (holder : Holder T C R) (g : Goes (ReadPhase T) (Option (ℕ × T))) (out : ApplyGoes T C R) → read_on holder (renews ways holder) g ≡ out → ReadMoves holder (makes holder) g out
  read_moves holder (Stay read) out e = e
  read_moves holder (End read (Err a)) out e = e
  read_moves holder (End read (Ok None)) out e = e
  read_moves holder (End read (Ok (Some version))) out e = (renews ways holder version.0 version.1, refl, e)

  module _ (moment : ℤ) (tries : ℕ) (old new : Told) (s : Store) (from to : Holder T C R) (result : Result (Unit {0}) SlateDBError) (one : 0 < tries) (enough : (top : ℕ) → top_of from.sequenced.db from.sequenced.log s ≡ Some top → from.id + 1 ≤ top → 1 < tries)
      (named : is_db_path from.sequenced.db ≡ true) (small : from.id < 2 ^ 64) (serves : Serves old new s) (ready : IsReady from.sequenced.db from.sequenced.log s) where
    begun_then : (start : Result (Option (CommitPhase T)) SlateDBError) → Renews (may_of ways) from from.id from.object start → Begins ways moment tries old new start from to result → Ended (may_of ways) tries old new s from to result
    begun_then start (Fails e refusal is) begins =
        let b = subst (λ (r : Result (Option (CommitPhase T)) SlateDBError). Begins ways moment tries old new r from to result) is begins in
        (Refuses from.id from.object e (IsHeld refl refl) refusal b.0, unchanged (may_of ways) tries old new s from to result serves ready b.1)
    begun_then start (Leaves none is) begins =
        let b = subst (λ (r : Result (Option (CommitPhase T)) SlateDBError). Begins ways moment tries old new r from to result) is begins in
        (MakesNone from.id from.object (IsHeld refl refl) none b.2 b.0, unchanged (may_of ways) tries old new s from to result serves ready b.1)
    begun_then start (Commits wanted bytes change more is) begins =
        let b = subst (λ (r : Result (Option (CommitPhase T)) SlateDBError). Begins ways moment tries old new r from to result) is begins in
        first_put (may_of ways) (one_way (apply_goes ways)) makes (λ holder p a out e. read_moves holder (read_goes holder.sequenced.log (ways.decoded holder.sequenced.codec) p a) out e) (λ holder p a out e. e) (λ holder id value start e. renewal ways holder id value start e)
        from named s moment new b.0 to result ready tries (tries - 1) (omega (arith, one)) (λ top at le. let two = enough top at le in omega (arith, two)) wanted bytes change (next_fits from.id small more)
        (before apply_starts apply_asks (apply_goes ways) moment tries s old new (Committing (Putting (from.id + 1) bytes wanted), from) (b.0, to) result b.1 serves.contents serves.calm)

    by_memory : Applies ways moment tries old new from to result → Ended (may_of ways) tries old new s from to result ⊎ (ran_out result ≡ true)
    by_memory (inl begins) = inl (begun_then (renews ways from from.id from.object) (renewal ways from from.id from.object (renews ways from from.id from.object) refl) begins)
    by_memory (inr out) = inr out.0

  pub apply_ends : (moment : ℤ) (tries : ℕ) (old new : Told) (s : Store) (from to : Holder T C R) (result : Result (Unit {0}) SlateDBError)
      → Applies ways moment tries old new from to result → 1 < tries → is_db_path from.sequenced.db ≡ true → from.id < 2 ^ 64 → Serves old new s → IsReady from.sequenced.db from.sequenced.log s
      → (ApplyAnswers (may_of ways) s new from to result × LeavesReady from.sequenced.db from.sequenced.log new) ⊎ (ran_out result ≡ true)
  apply_ends moment tries old new s from to result applies two named small serves ready = by_memory moment tries old new s from to result (omega (arith, two)) (λ top at le. two) named small serves ready applies

  -- from a holder of the latest version one try does
  pub apply_latest : (moment : ℤ) (tries : ℕ) (old new : Told) (s : Store) (from to : Holder T C R) (result : Result (Unit {0}) SlateDBError)
      → Applies ways moment tries old new from to result → 0 < tries → is_db_path from.sequenced.db ≡ true → from.id < 2 ^ 64 → Serves old new s → IsReady from.sequenced.db from.sequenced.log s
      → top_of from.sequenced.db from.sequenced.log s ≡ Some from.id
      → (ApplyAnswers (may_of ways) s new from to result × LeavesReady from.sequenced.db from.sequenced.log new) ⊎ (ran_out result ≡ true)
  apply_latest moment tries old new s from to result applies one named small serves ready latest = by_memory moment tries old new s from to result one (latest_enough tries s from latest) named small serves ready applies

-- ---- a plain call of a change that may answer in more than one way

module _ {T C R : Type 0} (ways : MayWays T C R) where
  module _ (moment : ℤ) (tries : ℕ) (old new : Told) (s : Store) (from to : Holder T C R) (result : Result (Unit {0}) SlateDBError) (one : 0 < tries) (enough : (top : ℕ) → top_of from.sequenced.db from.sequenced.log s ≡ Some top → from.id + 1 ≤ top → 1 < tries)
      (named : is_db_path from.sequenced.db ≡ true) (small : from.id < 2 ^ 64) (serves : Serves old new s) (ready : IsReady from.sequenced.db from.sequenced.log s) where
    begun_by : (start : Result (Option (CommitPhase T)) SlateDBError) → Renews ways from from.id from.object start → BeginsBy ways moment tries old new start from to result → Ended ways tries old new s from to result
    begun_by start (Fails e refusal is) begins =
        let b = subst (λ (r : Result (Option (CommitPhase T)) SlateDBError). BeginsBy ways moment tries old new r from to result) is begins in
        (Refuses from.id from.object e (IsHeld refl refl) refusal b.0, unchanged ways tries old new s from to result serves ready b.1)
    begun_by start (Leaves none is) begins =
        let b = subst (λ (r : Result (Option (CommitPhase T)) SlateDBError). BeginsBy ways moment tries old new r from to result) is begins in
        (MakesNone from.id from.object (IsHeld refl refl) none b.2 b.0, unchanged ways tries old new s from to result serves ready b.1)
    begun_by start (Commits wanted bytes change more is) begins =
        let b = subst (λ (r : Result (Option (CommitPhase T)) SlateDBError). BeginsBy ways moment tries old new r from to result) is begins in
        first_put ways (ApplyMoves ways) (RenewsBy ways) (λ holder p a out m. m) (λ holder p a out m. m) (λ holder id value start r. renewal_by ways holder id value start r)
        from named s moment new b.0 to result ready tries (tries - 1) (omega (arith, one)) (λ top at le. let two = enough top at le in omega (arith, two)) wanted bytes change (next_fits from.id small more)
        (before_by apply_starts apply_asks (ApplyMoves ways) moment tries s old new (Committing (Putting (from.id + 1) bytes wanted), from) (b.0, to) result b.1 serves.contents serves.calm)

    pub moves_end : AppliesBy ways moment tries old new from to result → Ended ways tries old new s from to result ⊎ (ran_out result ≡ true)
    moves_end (inl begun) = inl (begun_by begun.0 (renewal_by ways from from.id from.object begun.0 begun.1) begun.2)
    moves_end (inr out) = inr out.0
