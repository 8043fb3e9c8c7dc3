-- One step of a pass over a log: what it leaves of the log, and what it goes on with.
use Rattle.std.proofs.Common.{◌≡◌, ℕ, ℤ, ◌<◌, ◌≤◌, ◌^◌, max, nat_le, nat_lt, Bool, true, false, List, [], ◌∷◌, map, filter, length, Option, Some, None, IfSome, Result, Ok, Err, refl, sym, ap, ◌∙◌, subst, arith, cond}
use Rattle.std.proofs.lemmas.Bool.Decides.{nat_tests}
use Rattle.std.specs.Prelude.{if◌then◌else◌, ◌&&◌, not}
use Rattle.slate_ids.specs.Ids.{is_db_path}
use Rattle.slate_ids.specs.declared.error.SlateDBError.{SlateDBError}
use Rattle.slate_ids.specs.declared.error.SlateDBError.TheVariants.{ManifestMissing}
use Rattle.slate_ids.specs.declared.gc_message.GcMessage.{GcMessage}
use Rattle.slate_ids.specs.declared.gc_message.GcMessage.TheVariants as of
use Rattle.slate_ids.specs.declared.object_path.ObjectPath.{ObjectPath}
use Rattle.slate_state_updates.specs.Checkpoints.{is_named}
use Rattle.slate_layout_manifests.specs.Decoding.{decoded_manifest}
use Rattle.slate_model.specs.declared.checkpoint.Checkpoint.{Checkpoint}
use Rattle.slate_model.specs.declared.manifest.Manifest.{Manifest}
use Rattle.slate_store.specs.Folders.{is_in}
use Rattle.slate_store.specs.Machines.{Stay, End}
use Rattle.slate_store.specs.Store.{Store, Outcome, object_at, metadata, removed, listed, effect}
use Rattle.slate_store.specs.declared.mark.Mark.{Mark}
use Rattle.slate_store.specs.declared.mark.Mark.TheVariants.{Good, Fail, Lost}
use Rattle.slate_store.specs.declared.object.ObjectMetadata.{ObjectMetadata}
use Rattle.slate_store.specs.declared.object.StoredObject.{StoredObject}
use Rattle.slate_store.specs.declared.store_answer.StoreAnswer.{StoreAnswer}
use Rattle.slate_store.specs.declared.store_call.StoreCall.TheVariants.{Delete}
use Rattle.slate_txn_log.specs.AdvancePhase.{AdvanceGoes, advance_asks, advance_goes}
use Rattle.slate_txn_log.specs.Boundary.{greater, greatest_from, greatest}
use Rattle.slate_txn_log.specs.LogPaths.{version_path, number_of, folder}
use Rattle.slate_txn_log.specs.declared.advance_phase.AdvancePhase.{AdvancePhase}
use Rattle.slate_txn_log.specs.declared.log_kind.LogKind.{LogKind}
use Rattle.slate_txn_log.specs.declared.log_kind.LogKind.TheVariants.{Manifest as ManifestLog, Compactions as RecordLog}
use Rattle.slate_script_events.specs.WrittenFilters.{returned_by}
use Rattle.slate_script_events.specs.declared.filter_word.FilterWord.{FilterWord}
use Rattle.slate_gc_passes.specs.Candidates.{old_records}
use Rattle.slate_gc_passes.specs.Pass.{PassGoes, delete_asks, pass_asks, pass_goes, manifests_goes, got_goes, decoded_goes, bounded_goes, chosen_goes, advance_to, deletes_next, advanced_goes}
use Rattle.slate_gc_passes.specs.declared.directory_options.GarbageCollectorDirectoryOptions.{GarbageCollectorDirectoryOptions}
use Rattle.slate_gc_passes.specs.declared.pass_counts.PassCounts.{PassCounts}
use Rattle.slate_gc_passes.specs.declared.pass_phase.PassPhase.{PassPhase}
use Rattle.slate_gc_passes.specs.declared.pass_phase.PassPhase.TheVariants.{ReadingRecord, ReadingManifest, Fetching, Listing, Getting, Bounding, Advancing, Deleting, Over}
use Rattle.slate_gc_passes.specs.declared.pass_settings.PassSettings.{PassSettings}
use Rattle.slate_gc_picks.specs.Ages.{aged, is_aged}
use Rattle.slate_gc_picks.specs.Filter.{is_one_of, picks}
use Rattle.slate_gc_picks.specs.Queue.{first_object}
use Rattle.slate_gc_picks.specs.VersionPicks.{is_unneeded, unneeded}
use Rattle.slate_cluster_protocol.specs.Chains.{Link, Log, top, bound_in}
use Rattle.slate_cluster_protocol.specs.Holding.{Each, IsVersionThat}
use Rattle.slate_cluster_protocol.specs.Logs.{Author, Chain, manifests, records}
use Rattle.slate_cluster_protocol.specs.Reach.{IsSpare, names_top}
use Rattle.slate_cluster_protocol.specs.Works.{pass_ways}
use Rattle.slate_cluster_laws.proofs.Stores.{IsTidy}
use Rattle.slate_cluster_laws.proofs.Lists.{EachNumber, greatest_has, listed_small}
use Rattle.slate_cluster_chain_laws.proofs.Links.{at_most}
use Rattle.slate_cluster_laws.proofs.Listed.{number_back, listed_is, listed_most}
use Rattle.slate_cluster_laws.proofs.Facts.{IsSound, IsValue, Holds, IsReached, AdvanceKnows, AdvanceBrings, target, Grows}
use Rattle.slate_cluster_laws.proofs.Frame.{kept_holds, kept_reached, kept_advance}
use Rattle.slate_cluster_chain_laws.proofs.Manifests.{manifests_log}
use Rattle.slate_cluster_laws.proofs.Puts.{Leaves, leaves_not}
use Rattle.slate_cluster_laws.proofs.Moves.{delete_leaves}
use Rattle.slate_cluster_chain_laws.proofs.Spares.{spare_below}
use Rattle.slate_cluster_laws.proofs.Advances.{advance_step}
use Rattle.slate_cluster_laws.proofs.Turns.{got_holds, above_test}

-- ---- what each object of a list has

pub each_map : (P Q : ObjectMetadata → Type 0) → ((m : ObjectMetadata) → P m → Q m) → (ms : List ObjectMetadata) → Each P ms → Each Q ms
each_map P Q f [] h = tt
each_map P Q f (m ∷ ms) h = (f m h.0, each_map P Q f ms h.1)

-- each is a version of a log of a database at a number that has it
abbrev pub EachIs : LogKind → List ℕ → (ℕ → Type 0) → List ObjectMetadata → Type 0
EachIs k db P ms = Each (IsVersionThat k db P) ms

pub each_is : (k : LogKind) (db : List ℕ) (P Q : ℕ → Type 0) → ((n : ℕ) → P n → Q n) → (ms : List ObjectMetadata) → EachIs k db P ms → EachIs k db Q ms
each_is k db P Q f ms h = each_map (IsVersionThat k db P) (IsVersionThat k db Q) (λ m w. record { number = w.number; is = w.is; has = f w.number w.has }) ms h

-- what a filter keeps has it, and what the filter asks
pub each_tested : (P Q : ObjectMetadata → Type 0) (t : ObjectMetadata → Bool) → ((m : ObjectMetadata) → t m ≡ true → P m → Q m) → (ms : List ObjectMetadata) → Each P ms → Each Q (filter t ms)
each_tested P Q t f [] h = tt
each_tested P Q t f (m ∷ ms) h = test (t m) refl (each_tested P Q t f ms h.1)
  where
    test : (b : Bool) → t m ≡ b → Each Q (filter t ms) → Each Q (cond b (m ∷ filter t ms) (filter t ms))
    test true is rest = (f m is h.0, rest)
    test false is rest = rest

pub each_kept : (P : ObjectMetadata → Type 0) (t : ObjectMetadata → Bool) (ms : List ObjectMetadata) → Each P ms → Each P (filter t ms)
each_kept P t ms h = each_tested P P t (λ m is w. w) ms h

-- ---- what a list finds

-- a path that the folder of a log lists is a version's
in_folder : (k : LogKind) (db : List ℕ) (o : ObjectPath × StoredObject) → is_in (folder k db) o.0 ≡ true → IsVersionThat k db (λ n. Unit {0}) (metadata o)
in_folder k db o h = let v = listed_is k db o.0 h in record { number = v.number; is = v.is; has = tt }

pub found_versions : (k : LogKind) (db : List ℕ) (es : List (ObjectPath × StoredObject)) → EachIs k db (λ n. Unit {0}) (map metadata (filter (λ o. is_in (folder k db) o.0) es))
found_versions k db [] = tt
found_versions k db (e ∷ es) = test (is_in (folder k db) e.0) refl (found_versions k db es)
  where
    test : (b : Bool) → is_in (folder k db) e.0 ≡ b → EachIs k db (λ n. Unit {0}) (map metadata (filter (λ o. is_in (folder k db) o.0) es))
        → EachIs k db (λ n. Unit {0}) (map metadata (cond b (e ∷ filter (λ o. is_in (folder k db) o.0) es) (filter (λ o. is_in (folder k db) o.0) es)))
    test true is rest = (in_folder k db e is, rest)
    test false is rest = rest

-- ---- candidates, and the greatest of them

first_of : (a b : Bool) → (a && b) ≡ true → a ≡ true
first_of true b h = refl
first_of false b h = absurd cc

second_of : (a b : Bool) → (a && not b) ≡ true → b ≡ false
second_of a false h = refl
second_of true true h = absurd cc
second_of false true h = absurd cc

less : (a b : ℕ) → nat_lt a b ≡ true → a < b
less a b h = grind (arith, nat_tests)

module _ (k : LogKind) (db : List ℕ) where
  -- the number of a version's object
  number_is : (n : ℕ) (m : ObjectMetadata) → m.location ≡ version_path k db n → number_of k m.location ≡ Some n
  number_is n m is = ap (number_of k) is ∙ number_back k db n

  module _ (n : ℕ) (cs : List Checkpoint) where
    unneeded_is : (m : ObjectMetadata) → is_unneeded n cs (number_of k m.location) ≡ true → IsVersionThat k db (λ j. Unit {0}) m → IsVersionThat k db (λ j. (j < n) × (is_named j cs ≡ false)) m
    unneeded_is m is w =
        let at : is_unneeded n cs (Some w.number) ≡ true = sym (ap (is_unneeded n cs) (number_is w.number m w.is)) ∙ is in
        record { number = w.number; is = w.is; has = (less w.number n (first_of (nat_lt w.number n) (not (is_named w.number cs)) at), second_of (nat_lt w.number n) (is_named w.number cs) at) }

    -- a candidate is below the greatest listed number, and no checkpoint names it
    pub unneeded_below : (found : List ObjectMetadata) → EachIs k db (λ j. Unit {0}) found → EachIs k db (λ j. (j < n) × (is_named j cs ≡ false)) (unneeded k n cs found)
    unneeded_below found h =
        each_tested (IsVersionThat k db (λ j. Unit {0})) (IsVersionThat k db (λ j. (j < n) × (is_named j cs ≡ false))) (λ m. is_unneeded n cs (number_of k m.location)) unneeded_is found h

  -- the numbers of versions
  each_number : (P : ℕ → Type 0) (ms : List ObjectMetadata) → EachIs k db P ms → EachNumber P k ms
  each_number P [] h = tt
  each_number P (m ∷ ms) h = (subst (λ (o : Option ℕ). IfSome o P) (sym (number_is h.0.number m h.0.is)) h.0.has, each_number P ms h.1)

  -- no number of a list is above the greatest
  with_most : (P : ℕ → Type 0) (most : ℕ) (ms : List ObjectMetadata) → EachIs k db P ms → EachNumber (λ j. j ≤ most) k ms → EachIs k db (λ j. (j ≤ most) × P j) ms
  with_most P most [] h e = tt
  with_most P most (m ∷ ms) h e =
      let le : h.0.number ≤ most = subst (λ (o : Option ℕ). IfSome o (λ j. j ≤ most)) (number_is h.0.number m h.0.is) e.0 in
      (record { number = h.0.number; is = h.0.is; has = (le, h.0.has) }, with_most P most ms h.1 e.1)

both_at_most : (k : ℕ) (a b : Option ℕ) → IfSome (greater a b) (λ j. j ≤ k) → IfSome a (λ j. j ≤ k) × IfSome b (λ j. j ≤ k)
both_at_most k None b h = (tt, h)
both_at_most k (Some a) None h = (h, tt)
both_at_most k (Some a) (Some b) h = (grind arith, grind arith)

from_most : (log : LogKind) (k : ℕ) (best : Option ℕ) (ms : List ObjectMetadata) → greatest_from log best ms ≡ Some k → IfSome best (λ j. j ≤ k) × EachNumber (λ j. j ≤ k) log ms
from_most log k best [] e = (subst (λ o. IfSome o (λ j. j ≤ k)) (sym e) (omega arith), tt)
from_most log k best (m ∷ ms) e =
    let rest = from_most log k (greater best (number_of log m.location)) ms e in
    let both = both_at_most k best (number_of log m.location) rest.0 in
    (both.0, (both.1, rest.1))

-- without a greatest number there is none
some_from : (log : LogKind) (k : ℕ) (ms : List ObjectMetadata) → greatest_from log (Some k) ms ≡ None → ⊥
some_from log k [] h = absurd cc
some_from log k (m ∷ ms) h = step (number_of log m.location) (λ j. some_from log j ms) h
  where
    step : (o : Option ℕ) → ((j : ℕ) → greatest_from log (Some j) ms ≡ None → ⊥) → greatest_from log (greater (Some k) o) ms ≡ None → ⊥
    step None f h = f k h
    step (Some j) f h = f (max k j) h

none_there : (k : LogKind) (db : List ℕ) (P : ℕ → Type 0) (ms : List ObjectMetadata) → EachIs k db P ms → greatest k ms ≡ None → ms ≡ []
none_there k db P [] h e = refl
none_there k db P (m ∷ ms) h e = absurd (some_from k h.0.number ms (sym (ap (λ (o : Option ℕ). greatest_from k (greater None o) ms) (number_is k db h.0.number m h.0.is)) ∙ e))

-- ---- what is picked

-- the settings of a pass that keeps the boundary
abbrev pub bounded_pass : GcMessage → GarbageCollectorDirectoryOptions → PassSettings
bounded_pass pass options = record { pass = pass; options = options; boundary_files_enabled = true }

-- what is picked is among the candidates
pub picks_have : (P : ObjectMetadata → Type 0) (word : FilterWord) (dry_run : Bool) (ms : List ObjectMetadata) → Each P ms → Each P (picks (pass_ways word).allows dry_run ms)
picks_have P word true ms h = tt
picks_have P word false ms h = each_kept P (is_one_of (returned_by word ms)) ms h

-- of no candidates none is picked
pub none_picked : (word : FilterWord) (dry_run : Bool) → picks (pass_ways word).allows dry_run [] ≡ []
none_picked word true = refl
none_picked word false = refl

-- ---- what a pass knows

-- the greatest listed manifest was read, and the candidates are below it
pub record IsRead {V A : Type 0} (log : Log V A) (db : List ℕ) (s : Store) (c : List (Link V A)) (n : ℕ) (candidates : List ObjectMetadata) : Type 0 where
  pub kind : log.kind ≡ ManifestLog
  pub value : V
  pub holds : Holds log db s c n value
  pub below : EachIs log.kind db (λ k. (k < n) × (log.names value k ≡ false)) candidates

-- what a pass over a log knows in each phase: it reads nothing before its list, that over the manifests alone reads more after it; what it picked
-- is spare, and what is left to be deleted is at or below the boundary
abbrev pub PassKnows : {V A : Type 0} → Log V A → List ℕ → Store → List (Link V A) → PassPhase → Type 0
PassKnows log db s c (Listing heads versions) = Unit {0}
PassKnows log db s c (Getting n listed found) = (log.kind ≡ ManifestLog) × ((n < 2 ^ 64) × EachIs log.kind db (λ k. Unit {0}) found)
PassKnows log db s c (Bounding n listed candidates) = IsRead log db s c n candidates
PassKnows log db s c (Advancing phase left counts) = AdvanceKnows log db s c phase × EachIs log.kind db (λ k. (k ≤ target phase) × IsSpare log c k) left
PassKnows log db s c (Deleting left counts) = EachIs log.kind db (λ k. IsReached log db s k × IsSpare log c k) left
PassKnows log db s c _ = ⊥

-- what a step of a pass brings
abbrev pub PassBrings : {V A : Type 0} → Log V A → List ℕ → Store → List (Link V A) → PassGoes → Type 0
PassBrings log db s c (Stay phase) = PassKnows log db s c phase
PassBrings log db s c (End phase r) = Unit {0}

module _ {V A : Type 0} (log : Log V A) (db : List ℕ) (s : Store) (c : List (Link V A)) (s' : Store) (c' : List (Link V A)) (g : Grows log db s c s' c') where
  pub kept_pass : (phase : PassPhase) → PassKnows log db s c phase → PassKnows log db s' c' phase
  kept_pass (ReadingRecord phase) h = h
  kept_pass (ReadingManifest least phase) h = h
  kept_pass (Fetching heads phase) h = h
  kept_pass (Listing heads versions) h = h
  kept_pass (Getting n listed found) h = h
  kept_pass (Bounding n listed candidates) h = record { kind = h.kind; value = h.value; holds = kept_holds log db s c s' c' g n h.value h.holds; below = h.below }
  kept_pass (Advancing phase left counts) h = (
    kept_advance log db s c s' c' g phase h.0,
    each_is log.kind db (λ k. (k ≤ target phase) × IsSpare log c k) (λ k. (k ≤ target phase) × IsSpare log c' k) (λ k w. (w.0, g.spares k w.1)) left h.1,
  )
  kept_pass (Deleting left counts) h = each_is log.kind db (λ k. IsReached log db s k × IsSpare log c k) (λ k. IsReached log db s' k × IsSpare log c' k)
      (λ k w. (kept_reached log db s c s' c' g k w.0, g.spares k w.1)) left h
  kept_pass Over h = h

-- what a step of a pass, which has this moment, leaves and brings
pub record AfterPass {V A : Type 0} (log : Log V A) (db : List ℕ) (author : A) (s : Store) (c : List (Link V A)) (settings : PassSettings) (word : FilterWord) (now : ℤ) (phase : PassPhase) (o : Outcome) : Type 0 where
  pub leaves : Leaves log db author s c o.store c
  pub brings : PassBrings log db o.store c (pass_goes (pass_ways word) settings now phase o.answer)

-- ---- its picks, its advance and its deletes, over any log

module _ {V A : Type 0} (log : Log V A) (db : List ℕ) (named : is_db_path db ≡ true) (author : A) (settings : PassSettings) (word : FilterWord) (now : ℤ) (s : Store) (c : List (Link V A)) (i : IsSound log db s c) where
  abbrev After : PassPhase → Outcome → Type 0
  After phase o = AfterPass log db author s c settings word now phase o

  abbrev picked : List ObjectMetadata → List ObjectMetadata
  picked candidates = picks (pass_ways word).allows settings.options.dry_run candidates

  quiet : (phase : PassPhase) (answer : StoreAnswer) → PassBrings log db s c (pass_goes (pass_ways word) settings now phase answer) → After phase (record { store = s; answer = answer })
  quiet phase answer b = record { leaves = leaves_not log db author s c i; brings = b }

  -- of no objects none is deleted
  none_brings : (left : List ObjectMetadata) (counts : PassCounts) → left ≡ [] → PassBrings log db s c (deletes_next left counts)
  none_brings left counts is = subst (λ (ms : List ObjectMetadata). PassBrings log db s c (deletes_next ms counts)) (sym is) tt

  below_greatest : (n k : ℕ) (ms : List ObjectMetadata) → EachIs log.kind db (λ j. j < n) ms → greatest log.kind ms ≡ Some k → k < n
  below_greatest n k ms h e = subst (λ o. IfSome o (λ j. j < n)) e (greatest_has (λ j. j < n) log.kind ms (each_number log.kind db (λ j. j < n) ms h))

  -- the greatest candidate is below the greatest committed number
  next_brings : (n : ℕ) (candidates : List ObjectMetadata) (counts : PassCounts) (k : Option ℕ) → greatest log.kind candidates ≡ k → n ≤ top c → EachIs log.kind db (λ j. j < n) candidates → EachIs log.kind db (λ j. IsSpare log c j) candidates
      → PassBrings log db s c (advance_to k (picked candidates) counts)
  next_brings n candidates counts None e le below spare =
      none_brings (picked candidates) counts (ap picked (none_there log.kind db (λ j. j < n) candidates below e) ∙ none_picked word settings.options.dry_run)
  next_brings n candidates counts (Some k) e le below spare =
      let lt = below_greatest n k candidates below e in (
        omega arith,
        picks_have (IsVersionThat log.kind db (λ j. (j ≤ k) × IsSpare log c j)) word settings.options.dry_run candidates
            (with_most log.kind db (λ j. IsSpare log c j) k candidates spare (from_most log.kind k None candidates e).1),
      )

  -- ---- deletes, in the store as it is then

  deletes_bring : (s' : Store) (left : List ObjectMetadata) (counts : PassCounts) → EachIs log.kind db (λ k. IsReached log db s' k × IsSpare log c k) left → PassBrings log db s' c (deletes_next left counts)
  deletes_bring s' [] counts h = tt
  deletes_bring s' (m ∷ left) counts h = h

  all_reached : (s' : Store) (n : ℕ) (chosen : List ObjectMetadata) → IsReached log db s' n → EachIs log.kind db (λ k. (k ≤ n) × IsSpare log c k) chosen → EachIs log.kind db (λ k. IsReached log db s' k × IsSpare log c k) chosen
  all_reached s' n chosen r h = each_is log.kind db (λ k. (k ≤ n) × IsSpare log c k) (λ k. IsReached log db s' k × IsSpare log c k)
      (λ k w. let le = w.0 in (record { reached = λ b read. let up = r.reached b read in omega arith }, w.1)) chosen h

  advanced_brings : (s' : Store) (n : ℕ) (chosen : List ObjectMetadata) (counts : PassCounts) (g : AdvanceGoes) → AdvanceBrings log db s' c n g → EachIs log.kind db (λ k. (k ≤ n) × IsSpare log c k) chosen → PassBrings log db s' c (advanced_goes chosen counts g)
  advanced_brings s' n chosen counts (Stay phase) b h = (b.1, subst (λ j. EachIs log.kind db (λ k. (k ≤ j) × IsSpare log c k) chosen) (sym b.0) h)
  advanced_brings s' n chosen counts (End phase (Ok u)) b h = deletes_bring s' chosen counts (all_reached s' n chosen b h)
  advanced_brings s' n chosen counts (End phase (Err e)) b h = tt

  -- a step of the advance
  advancing_step : (phase : AdvancePhase) (left : List ObjectMetadata) (counts : PassCounts) (mark : Mark) (moment : ℤ) → PassKnows log db s c (Advancing phase left counts)
      → After (Advancing phase left counts) (effect mark (advance_asks db log.kind phase) moment s)
  advancing_step phase left counts mark moment h =
      let o = effect mark (advance_asks db log.kind phase) moment s in
      let a = advance_step log db named author s c i phase mark moment h.0 in
      record { leaves = a.leaves; brings = advanced_brings o.store (target phase) left counts (advance_goes phase o.answer) a.brings h.1 }

  module _ (m : ObjectMetadata) (n : ℕ) (is : m.location ≡ version_path log.kind db n) (left : List ObjectMetadata) (counts : PassCounts) (h : IsReached log db s n) (spare : IsSpare log c n)
      (rest : EachIs log.kind db (λ k. IsReached log db s k × IsSpare log c k) left) where
    due : n ≤ i.bound
    due = h.reached i.bound i.read

    small : n < 2 ^ 64
    small = let lt = spare.below in let top_small = i.small in omega arith

    abbrev gone : Store
    gone = removed (version_path log.kind db n) s

    gone_leaves : Leaves log db author s c gone c
    gone_leaves = delete_leaves log db named author s c i n small due spare

    rest_reached : EachIs log.kind db (λ k. IsReached log db gone k × IsSpare log c k) left
    rest_reached = each_is log.kind db (λ k. IsReached log db s k × IsSpare log c k) (λ k. IsReached log db gone k × IsSpare log c k) (λ k w. (kept_reached log db s c gone c gone_leaves.grows k w.0, w.1)) left rest

    abbrev OfDelete : ObjectPath → Mark → ℤ → Type 0
    OfDelete p mark moment = After (Deleting (m ∷ left) counts) (effect mark (Delete p) moment s)

    delete_at : (mark : Mark) (moment : ℤ) → OfDelete (version_path log.kind db n) mark moment
    delete_at Good moment = record { leaves = gone_leaves; brings = deletes_bring gone left _ rest_reached }
    delete_at Fail moment = quiet (Deleting (m ∷ left) counts) _ (deletes_bring s left _ rest)
    delete_at Lost moment = record { leaves = gone_leaves; brings = deletes_bring gone left _ rest_reached }

    delete_step : (mark : Mark) (moment : ℤ) → OfDelete m.location mark moment
    delete_step mark moment = subst (λ p. OfDelete p mark moment) (sym is) (delete_at mark moment)

  -- a step of the deletes
  deleting_step : (left : List ObjectMetadata) (counts : PassCounts) (mark : Mark) (moment : ℤ) → PassKnows log db s c (Deleting left counts) → After (Deleting left counts) (effect mark (delete_asks db (first_object left)) moment s)
  deleting_step [] counts Good moment h = quiet (Deleting [] counts) _ tt
  deleting_step [] counts Fail moment h = quiet (Deleting [] counts) _ tt
  deleting_step [] counts Lost moment h = quiet (Deleting [] counts) _ tt
  deleting_step (m ∷ left) counts mark moment h = delete_step m h.0.number h.0.is left counts h.0.has.0 h.0.has.1 h.1 mark moment

-- ---- a pass over the manifests

module _ (db : List ℕ) (named : is_db_path db ≡ true) (author : Author) (options : GarbageCollectorDirectoryOptions) (word : FilterWord) (now : ℤ) (s : Store) (c : Chain ManifestLog) (i : IsSound manifests db s c) (tidy : IsTidy s.objects) where
  abbrev manifest_settings : PassSettings
  manifest_settings = bounded_pass of.Manifest options

  abbrev Brings : PassGoes → Type 0
  Brings g = PassBrings manifests db s c g

  abbrev IsUnneeded : ℕ → Manifest → ℕ → Type 0
  IsUnneeded n m k = (k < n) × (is_named k m.core.checkpoints ≡ false)

  manifest_stays : (phase : PassPhase) (answer : StoreAnswer) → Brings (pass_goes (pass_ways word) manifest_settings now phase answer) → AfterPass manifests db author s c manifest_settings word now phase (record { store = s; answer = answer })
  manifest_stays phase answer b = quiet manifests db named author manifest_settings word now s c i phase answer b

  listed_brings : (found : List ObjectMetadata) (n : Option ℕ) → EachIs ManifestLog db (λ k. Unit {0}) found → IfSome n (λ k. k < 2 ^ 64) → Brings (manifests_goes options.min_age now found n)
  listed_brings found None each h = tt
  listed_brings found (Some n) each h = (refl, (h, each_kept (IsVersionThat ManifestLog db (λ k. Unit {0})) (λ m. is_aged options.min_age now m.last_modified) found each))

  decoded_brings : (n listed_objects : ℕ) (found : List ObjectMetadata) (object : StoredObject) (r : Result Manifest SlateDBError) → (n < 2 ^ 64) × EachIs ManifestLog db (λ k. Unit {0}) found → object_at (version_path ManifestLog db n) s ≡ Some object
      → decoded_manifest object.bytes ≡ r → Brings (decoded_goes n listed_objects found r)
  decoded_brings n listed_objects found object (Ok m) h at is = record {
    kind = refl;
    value = m;
    holds = got_holds manifests manifests_log db s c i n object m h.0 at is;
    below = unneeded_below ManifestLog db n m.core.checkpoints found h.1;
  }
  decoded_brings n listed_objects found object (Err e) h at is = tt

  got_brings : (n listed_objects : ℕ) (found : List ObjectMetadata) (o : Option StoredObject) → (n < 2 ^ 64) × EachIs ManifestLog db (λ k. Unit {0}) found → object_at (version_path ManifestLog db n) s ≡ o → Brings (got_goes decoded_manifest n listed_objects found o)
  got_brings n listed_objects found None h at = tt
  got_brings n listed_objects found (Some object) h at = decoded_brings n listed_objects found object (decoded_manifest object.bytes) h at refl

  -- what the version that was read doesn't name is spare, where it is committed
  all_spare : (n : ℕ) (m : Manifest) (candidates : List ObjectMetadata) → IsValue c n m → EachIs ManifestLog db (IsUnneeded n m) candidates → EachIs ManifestLog db (λ j. IsSpare manifests c j) candidates
  all_spare n m candidates v h = each_is ManifestLog db (IsUnneeded n m) (λ j. IsSpare manifests c j)
      (λ k w. spare_below manifests manifests_log c n k v.link i.chain v.at w.0 (ap (λ (x : Manifest). is_named k x.core.checkpoints) v.value ∙ w.1)) candidates h

  test_brings : (n listed_objects : ℕ) (candidates : List ObjectMetadata) (b : ℕ) (t : Bool) → nat_le n b ≡ t → bound_in manifests db s ≡ Some b → IsRead manifests db s c n candidates
      → Brings (if t then End Over (Err (ManifestMissing n)) else chosen_goes (pass_ways word).allows manifest_settings listed_objects candidates)
  test_brings n listed_objects candidates b true is read h = tt
  test_brings n listed_objects candidates b false is read h =
      let value = h.holds.same b read (above_test n b is) in
      next_brings manifests db named author manifest_settings word now s c i n candidates _ (greatest ManifestLog candidates) refl (at_most manifests n value.link c i.chain value.at)
      (each_is ManifestLog db (IsUnneeded n h.value) (λ k. k < n) (λ k w. w.0) candidates h.below) (all_spare n h.value candidates value h.below)

  bound_brings : (n listed_objects : ℕ) (candidates : List ObjectMetadata) (b : Option ℕ) → bound_in manifests db s ≡ b → IsRead manifests db s c n candidates → Brings (bounded_goes (pass_ways word).allows manifest_settings n listed_objects candidates b)
  bound_brings n listed_objects candidates None read h = tt
  bound_brings n listed_objects candidates (Some b) read h = test_brings n listed_objects candidates b (nat_le n b) refl read h

  pub manifest_step : (phase : PassPhase) (mark : Mark) (moment : ℤ) → PassKnows manifests db s c phase → AfterPass manifests db author s c manifest_settings word now phase (effect mark (pass_asks db of.Manifest phase) moment s)
  manifest_step (ReadingRecord phase) mark moment h = absurd h
  manifest_step (ReadingManifest least phase) mark moment h = absurd h
  manifest_step (Fetching heads phase) mark moment h = absurd h
  manifest_step (Listing heads versions) Good moment h =
      let found = listed (folder ManifestLog db) s in
      manifest_stays (Listing heads versions) _ (listed_brings found (greatest ManifestLog found) (found_versions ManifestLog db s.objects) (listed_small ManifestLog (folder ManifestLog db) s tidy))
  manifest_step (Listing heads versions) Fail moment h = manifest_stays (Listing heads versions) _ tt
  manifest_step (Listing heads versions) Lost moment h = manifest_stays (Listing heads versions) _ tt
  manifest_step (Getting n listed found) Good moment h = manifest_stays (Getting n listed found) _ (got_brings n listed found (object_at (version_path ManifestLog db n) s) h.1 refl)
  manifest_step (Getting n listed found) Fail moment h = manifest_stays (Getting n listed found) _ tt
  manifest_step (Getting n listed found) Lost moment h = manifest_stays (Getting n listed found) _ tt
  manifest_step (Bounding n listed candidates) Good moment h = manifest_stays (Bounding n listed candidates) _ (bound_brings n listed candidates (bound_in manifests db s) refl h)
  manifest_step (Bounding n listed candidates) Fail moment h = manifest_stays (Bounding n listed candidates) _ tt
  manifest_step (Bounding n listed candidates) Lost moment h = manifest_stays (Bounding n listed candidates) _ tt
  manifest_step (Advancing phase left counts) mark moment h = advancing_step manifests db named author manifest_settings word now s c i phase left counts mark moment h
  manifest_step (Deleting left counts) mark moment h = deleting_step manifests db named author manifest_settings word now s c i left counts mark moment h
  manifest_step Over mark moment h = absurd h

-- ---- a pass over the records

-- a record names no number
none_named : (c : Chain RecordLog) (k : ℕ) → names_top records c k ≡ false
none_named [] k = refl
none_named (l ∷ c) k = refl

module _ (db : List ℕ) (named : is_db_path db ≡ true) (author : Author) (options : GarbageCollectorDirectoryOptions) (word : FilterWord) (now : ℤ) (s : Store) (c : Chain RecordLog) (i : IsSound records db s c) (tidy : IsTidy s.objects) where
  abbrev record_settings : PassSettings
  record_settings = bounded_pass of.Compactions options

  record_stays : (phase : PassPhase) (answer : StoreAnswer) → PassBrings records db s c (pass_goes (pass_ways word) record_settings now phase answer) → AfterPass records db author s c record_settings word now phase (record { store = s; answer = answer })
  record_stays phase answer b = quiet records db named author record_settings word now s c i phase answer b

  -- what is picked of these candidates
  chosen_brings : (n : ℕ) (listed_objects : ℕ) (candidates : List ObjectMetadata) → n ≤ top c → EachIs RecordLog db (λ k. k < n) candidates → PassBrings records db s c (chosen_goes (pass_ways word).allows record_settings listed_objects candidates)
  chosen_brings n listed_objects candidates le below =
      next_brings records db named author record_settings word now s c i n candidates _ (greatest RecordLog candidates) refl le below
      (each_is RecordLog db (λ k. k < n) (λ k. IsSpare records c k) (λ k lt. record { below = omega arith; unnamed = none_named c k }) candidates below)

  -- the candidates are below the greatest listed, which is at most the greatest committed one
  found_brings : (found : List ObjectMetadata) (n : Option ℕ) → EachIs RecordLog db (λ k. Unit {0}) found → IfSome n (λ k. k ≤ top c)
      → PassBrings records db s c (chosen_goes (pass_ways word).allows record_settings (length found) (old_records options.min_age now found n))
  found_brings found None each h = chosen_brings 0 (length found) [] (omega arith) tt
  found_brings found (Some n) each h =
      let old = aged options.min_age now found in
      chosen_brings n (length found) (unneeded RecordLog n [] old) h
      (each_is RecordLog db (λ k. (k < n) × (is_named k [] ≡ false)) (λ k. k < n) (λ k w. w.0) (unneeded RecordLog n [] old)
      (unneeded_below RecordLog db n [] old (each_kept (IsVersionThat RecordLog db (λ k. Unit {0})) (λ m. is_aged options.min_age now m.last_modified) found each)))

  pub record_step : (phase : PassPhase) (mark : Mark) (moment : ℤ) → PassKnows records db s c phase → AfterPass records db author s c record_settings word now phase (effect mark (pass_asks db of.Compactions phase) moment s)
  record_step (ReadingRecord phase) mark moment h = absurd h
  record_step (ReadingManifest least phase) mark moment h = absurd h
  record_step (Fetching heads phase) mark moment h = absurd h
  record_step (Listing heads versions) Good moment h =
      let found = listed (folder RecordLog db) s in
      record_stays (Listing heads versions) _ (found_brings found (greatest RecordLog found) (found_versions RecordLog db s.objects) (listed_most records db named s c i tidy))
  record_step (Listing heads versions) Fail moment h = record_stays (Listing heads versions) _ tt
  record_step (Listing heads versions) Lost moment h = record_stays (Listing heads versions) _ tt
  record_step (Getting n listed found) mark moment h = absurd (cc (h.0))
  record_step (Bounding n listed candidates) mark moment h = absurd (cc (h.kind))
  record_step (Advancing phase left counts) mark moment h = advancing_step records db named author record_settings word now s c i phase left counts mark moment h
  record_step (Deleting left counts) mark moment h = deleting_step records db named author record_settings word now s c i left counts mark moment h
  record_step Over mark moment h = absurd h
