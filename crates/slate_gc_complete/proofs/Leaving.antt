-- What the advance and the deletes of a pass leave: both logs ready, with the same greatest numbers.
use Rattle.std.proofs.Common.{◌≡◌, ◌≢◌, ◌⊎◌, ℕ, ℤ, ◌==◌, ◌<◌, ◌^◌, max, not, ◌&&◌, nat_le, nat_lt, Bool, true, false, if◌then◌else◌, List, [], ◌∷◌, map, filter, Option, Some, None, Ok, IfSome, inl, inr, refl, sym, ap, ◌∙◌, subst, cond, arith}
use Rattle.std.specs.Prelude.{decimal}
use Rattle.std.proofs.lemmas.Bool.Decides.{nat_tests}
use Rattle.slate_ids.specs.FinePath.{IsFine}
use Rattle.slate_ids.specs.Ids.{is_db_path}
use Rattle.slate_ids.specs.declared.object_path.ObjectPath.{ObjectPath}
use Rattle.slate_ids.specs.declared.object_path.ObjectPath.TheVariants as paths
use Rattle.slate_model.specs.declared.checkpoint.Checkpoint.{Checkpoint}
use Rattle.slate_gc_complete.specs.PassEnds.{IsAmong}
use Rattle.slate_gc_picks.specs.VersionPicks.{is_unneeded, unneeded}
use Rattle.slate_state_updates.specs.Checkpoints.{is_named}
use Rattle.slate_store.specs.Folders.{is_in}
use Rattle.slate_store.specs.Machines.{Stay, End}
use Rattle.slate_store.specs.Store.{Store, listed, metadata, object_at, put_new, removed, replace, has_tag, stored, whole}
use Rattle.slate_store.specs.StoreCalls.{moment_of}
use Rattle.slate_store.specs.declared.list_dir.ListDir.{ListDir}
use Rattle.slate_store.specs.declared.list_dir.ListDir.TheVariants as folders
use Rattle.slate_store.specs.declared.object.ObjectMetadata.{ObjectMetadata}
use Rattle.slate_store.specs.declared.object.StoredObject.{StoredObject}
use Rattle.slate_store.proofs.LookUps.{Entries}
use Rattle.slate_txn_laws.proofs.Asides.{removed_ready, removed_top, stored_ready, stored_top}
use Rattle.slate_txn_laws.proofs.BoundaryWalks.{boundary_top, bounded_ready}
use Rattle.slate_txn_laws.proofs.Leavings.{older_ready, older_top}
use Rattle.slate_txn_laws.proofs.OtherCalls.{boundary_aside, version_aside}
use Rattle.slate_txn_laws.proofs.Tops.{listed_is, number_back}
use Rattle.slate_txn_laws.specs.Elsewhere.{IsAside}
use Rattle.slate_txn_laws.specs.Ready.{AreFine, IsBelow, IsReady, top_of}
use Rattle.slate_txn_log.specs.AdvancePhase.{AdvanceGoes, advance_asks, advance_goes, bound_goes, read_goes_to, written_goes}
use Rattle.slate_txn_log.specs.Boundary.{boundary_of, greater, greatest, greatest_from}
use Rattle.slate_txn_log.specs.LogPaths.{boundary_path, folder, number_of, version_path}
use Rattle.slate_txn_log.specs.declared.advance_phase.AdvancePhase.{AdvancePhase}
use Rattle.slate_txn_log.specs.declared.advance_phase.AdvancePhase.TheVariants.{Bounding, Creating, Replacing, Over}
use Rattle.slate_txn_log.specs.declared.log_kind.LogKind.{LogKind}
use Rattle.slate_txn_log.specs.declared.log_kind.LogKind.TheVariants as logs

-- ---- lists

-- each of these objects has it
abbrev pub Each : (ObjectMetadata → Type 0) → List ObjectMetadata → Type 0
Each P [] = Unit {0}
Each P (m ∷ ms) = P m × Each P ms

pub each_map : (P Q : ObjectMetadata → Type 0) → ((m : ObjectMetadata) → P m → Q m) → (ms : List ObjectMetadata) → Each P ms → Each Q ms
each_map P Q f [] each = tt
each_map P Q f (m ∷ ms) each = (f m each.0, each_map P Q f ms each.1)

-- what holds of each holds of one among them, and what holds of each one among them holds of each
pub at_among : (P : ObjectMetadata → Type 0) (ms : List ObjectMetadata) → Each P ms → (m : ObjectMetadata) → IsAmong m ms → P m
at_among P [] each m among = absurd among
at_among P (o ∷ ms) each m (inl same) = subst P (sym same) each.0
at_among P (o ∷ ms) each m (inr later) = at_among P ms each.1 m later

pub each_among : (P : ObjectMetadata → Type 0) (ms : List ObjectMetadata) → ((m : ObjectMetadata) → IsAmong m ms → P m) → Each P ms
each_among P [] f = tt
each_among P (o ∷ ms) f = (f o (inl refl), each_among P ms (λ m later. f m (inr later)))

-- each that a test keeps has what it has and what the test says
pub each_kept : (P Q : ObjectMetadata → Type 0) (test : ObjectMetadata → Bool) → ((m : ObjectMetadata) → test m ≡ true → P m → Q m) → (ms : List ObjectMetadata) → Each P ms → Each Q (filter test ms)
each_kept P Q test f [] each = tt
each_kept P Q test f (m ∷ ms) each = by_test (test m) refl (each_kept P Q test f ms each.1)
  where
    by_test : (b : Bool) → test m ≡ b → Each Q (filter test ms) → Each Q (cond b (m ∷ filter test ms) (filter test ms))
    by_test true is rest = (f m is each.0, rest)
    by_test false is rest = rest

-- each object that a folder lists stands at a path of that folder
pub each_listed : (P : ObjectPath → Type 0) (dir : ListDir) → ((p : ObjectPath) → IsFine p → is_in dir p ≡ true → P p) → (es : Entries) → AreFine es → Each (λ m. P m.location) (map metadata (filter (λ o. is_in dir o.0) es))
each_listed P dir f [] fine = tt
each_listed P dir f (e ∷ es) fine = by_test (is_in dir e.0) refl (each_listed P dir f es fine.1)
  where
    by_test : (b : Bool) → is_in dir e.0 ≡ b → Each (λ m. P m.location) (map metadata (filter (λ o. is_in dir o.0) es)) → Each (λ m. P m.location) (map metadata (cond b (e ∷ filter (λ o. is_in dir o.0) es) (filter (λ o. is_in dir o.0) es)))
    by_test true is rest = (f e.0 fine.0 is, rest)
    by_test false is rest = rest

-- ---- what may go

small_number : (log : LogKind) (db : List ℕ) (n : ℕ) → IsFine (version_path log db n) → n < 2 ^ 64
small_number logs.Manifest db n fine = fine.1
small_number logs.Compactions db n fine = fine.1

below_told : (n k : ℕ) (b : Bool) → (nat_lt n k && b) ≡ true → n < k
below_told n k b h = first (nat_lt n k) b h (λ (e : nat_lt n k ≡ true). grind (arith, nat_tests, e))
  where
    first : (a b : Bool) → (a && b) ≡ true → (a ≡ true → n < k) → n < k
    first true b h f = f refl
    first false b h f = absurd cc

-- tables and files of the write-ahead log are of neither log
not_table : (db of : List ℕ) (id : ℕ × ℕ) (log : LogKind) (n : ℕ) → paths.Table of id ≢ version_path log db n
not_table db of id logs.Manifest n e = cc
not_table db of id logs.Compactions n e = cc

no_table_bound : (db of : List ℕ) (id : ℕ × ℕ) (log : LogKind) → paths.Table of id ≢ boundary_path log db
no_table_bound db of id logs.Manifest e = cc
no_table_bound db of id logs.Compactions e = cc

not_file : (db of : List ℕ) (id : ℕ) (log : LogKind) (n : ℕ) → paths.Wal of id ≢ version_path log db n
not_file db of id logs.Manifest n e = cc
not_file db of id logs.Compactions n e = cc

no_file_bound : (db of : List ℕ) (id : ℕ) (log : LogKind) → paths.Wal of id ≢ boundary_path log db
no_file_bound db of id logs.Manifest e = cc
no_file_bound db of id logs.Compactions e = cc

pub tables_beside : (db : List ℕ) (p : ObjectPath) → IsFine p → is_in (folders.Tables db) p ≡ true → (log : LogKind) → IsAside db log p
tables_beside db (paths.Table of id) fine inside log = record { fine = fine; version = not_table db of id log; boundary = no_table_bound db of id log }
tables_beside db _ fine inside log = absurd cc

pub files_beside : (db : List ℕ) (p : ObjectPath) → IsFine p → is_in (folders.Wals db) p ≡ true → (log : LogKind) → IsAside db log p
files_beside db (paths.Wal of id) fine inside log = record { fine = fine; version = not_file db of id log; boundary = no_file_bound db of id log }
files_beside db _ fine inside log = absurd cc

module _ (db : List ℕ) (named : is_db_path db ≡ true) where
  -- the object is a version of this log
  pub record IsVersion (log : LogKind) (m : ObjectMetadata) : Type 0 where
    pub number : ℕ
    pub is : m.location ≡ version_path log db number
    pub small : number < 2 ^ 64

  -- a version of this log below its greatest number
  pub record IsOlder (tops : LogKind → Option ℕ) (log : LogKind) (m : ObjectMetadata) : Type 0 where
    pub version : IsVersion log m
    pub greatest : ℕ
    pub top : tops log ≡ Some greatest
    pub below : version.number < greatest

  -- an object that may go: a version below the greatest of its log, or an object beside both logs
  pub data MayGo (tops : LogKind → Option ℕ) (m : ObjectMetadata) : Type 0 where
    IsOld : (log : LogKind) → IsOlder tops log m → MayGo tops m
    IsBeside : ((log : LogKind) → IsAside db log m.location) → MayGo tops m

  -- both logs are ready, with these greatest numbers
  pub record Keeps (tops : LogKind → Option ℕ) (t : Store) : Type 0 where
    pub ready : (log : LogKind) → IsReady db log t
    pub top : (log : LogKind) → top_of db log t ≡ tops log

  -- of one log
  record KeepsLog (tops : LogKind → Option ℕ) (log : LogKind) (t : Store) : Type 0 where
    pub ready : IsReady db log t
    pub top : top_of db log t ≡ tops log

  both_kept : (tops : LogKind → Option ℕ) (t : Store) → ((log : LogKind) → KeepsLog tops log t) → Keeps tops t
  both_kept tops t each = record { ready = λ log. (each log).ready; top = λ log. (each log).top }

  -- ---- deletes

  aside_kept : (tops : LogKind → Option ℕ) (log : LogKind) (path : ObjectPath) (t : Store) → IsAside db log path → Keeps tops t → KeepsLog tops log (removed path t)
  aside_kept tops log path t aside keeps = record { ready = removed_ready db log named path aside t (keeps.ready log); top = removed_top db log named path aside t (keeps.ready log).fine ∙ keeps.top log }

  own_kept : (tops : LogKind → Option ℕ) (log : LogKind) (n k : ℕ) (t : Store) → n < 2 ^ 64 → tops log ≡ Some k → n < k → Keeps tops t → KeepsLog tops log (removed (version_path log db n) t)
  own_kept tops log n k t small top below keeps =
      let is = keeps.top log ∙ top in
      record { ready = older_ready db log named n small t (keeps.ready log) k is below; top = older_top db log named n small t (keeps.ready log) k is below ∙ keeps.top log }

  old_kept : (tops : LogKind → Option ℕ) (log : LogKind) (n k : ℕ) (t : Store) → n < 2 ^ 64 → tops log ≡ Some k → n < k → Keeps tops t → (other : LogKind) → KeepsLog tops other (removed (version_path log db n) t)
  old_kept tops logs.Manifest n k t small top below keeps logs.Manifest = own_kept tops logs.Manifest n k t small top below keeps
  old_kept tops logs.Manifest n k t small top below keeps logs.Compactions = aside_kept tops logs.Compactions (version_path logs.Manifest db n) t (version_aside db logs.Compactions db logs.Manifest n named small (λ one other. absurd cc)) keeps
  old_kept tops logs.Compactions n k t small top below keeps logs.Manifest = aside_kept tops logs.Manifest (version_path logs.Compactions db n) t (version_aside db logs.Manifest db logs.Compactions n named small (λ one other. absurd cc)) keeps
  old_kept tops logs.Compactions n k t small top below keeps logs.Compactions = own_kept tops logs.Compactions n k t small top below keeps

  pub delete_kept : (tops : LogKind → Option ℕ) (t : Store) (m : ObjectMetadata) → MayGo tops m → Keeps tops t → Keeps tops (removed m.location t)
  delete_kept tops t m (IsOld log old) keeps =
      subst (λ (p : ObjectPath). Keeps tops (removed p t)) (sym old.version.is)
      (both_kept tops _ (old_kept tops log old.version.number old.greatest t old.version.small old.top old.below keeps))
  delete_kept tops t m (IsBeside aside) keeps = both_kept tops _ (λ log. aside_kept tops log m.location t (aside log) keeps)

  -- ---- the advance of a boundary

  -- a number that this log's boundary may have
  pub record MayBound (tops : LogKind → Option ℕ) (log : LogKind) (n : ℕ) : Type 0 where
    pub small : n < 2 ^ 64
    pub below : IsBelow n (tops log)

  -- it is put by an advance at this phase
  abbrev pub MayAdvance : (LogKind → Option ℕ) → LogKind → AdvancePhase → Type 0
  MayAdvance tops log (Bounding n) = MayBound tops log n
  MayAdvance tops log (Creating n) = MayBound tops log n
  MayAdvance tops log (Replacing n tag) = MayBound tops log n
  MayAdvance tops log Over = Unit {0}

  abbrev pub MayGoOn : (LogKind → Option ℕ) → LogKind → AdvanceGoes → Type 0
  MayGoOn tops log (Stay phase) = MayAdvance tops log phase
  MayGoOn tops log (End phase r) = Unit {0}

  aside_put : (tops : LogKind → Option ℕ) (log : LogKind) (path : ObjectPath) (bytes : List ℕ) (moment : ℤ) (t : Store) → IsAside db log path → Keeps tops t → KeepsLog tops log (stored path bytes moment t)
  aside_put tops log path bytes moment t aside keeps =
      record { ready = stored_ready db log named path aside bytes moment t (keeps.ready log); top = stored_top db log named path aside bytes moment t ∙ keeps.top log }

  own_put : (tops : LogKind → Option ℕ) (log : LogKind) (n : ℕ) (moment : ℤ) (t : Store) → MayBound tops log n → Keeps tops t → KeepsLog tops log (stored (boundary_path log db) (decimal n) moment t)
  own_put tops log n moment t may keeps = record {
    ready = bounded_ready db log n moment t named may.small (keeps.ready log) (subst (IsBelow n) (sym (keeps.top log)) may.below);
    top = boundary_top db log (decimal n) moment t ∙ keeps.top log;
  }

  put_kept : (tops : LogKind → Option ℕ) (log : LogKind) (n : ℕ) (moment : ℤ) (t : Store) → MayBound tops log n → Keeps tops t → (other : LogKind) → KeepsLog tops other (stored (boundary_path log db) (decimal n) moment t)
  put_kept tops logs.Manifest n moment t may keeps logs.Manifest = own_put tops logs.Manifest n moment t may keeps
  put_kept tops logs.Manifest n moment t may keeps logs.Compactions = aside_put tops logs.Compactions (boundary_path logs.Manifest db) (decimal n) moment t (boundary_aside db logs.Compactions db logs.Manifest named (λ one other. absurd cc)) keeps
  put_kept tops logs.Compactions n moment t may keeps logs.Manifest = aside_put tops logs.Manifest (boundary_path logs.Compactions db) (decimal n) moment t (boundary_aside db logs.Manifest db logs.Compactions named (λ one other. absurd cc)) keeps
  put_kept tops logs.Compactions n moment t may keeps logs.Compactions = own_put tops logs.Compactions n moment t may keeps

  bound_put : (tops : LogKind → Option ℕ) (log : LogKind) (n : ℕ) (moment : ℤ) (t : Store) → MayBound tops log n → Keeps tops t → Keeps tops (stored (boundary_path log db) (decimal n) moment t)
  bound_put tops log n moment t may keeps = both_kept tops _ (put_kept tops log n moment t may keeps)

  pub advance_kept : (tops : LogKind → Option ℕ) (log : LogKind) (moment : ℤ) (t : Store) (phase : AdvancePhase) → MayAdvance tops log phase → Keeps tops t
      → Keeps tops (whole (advance_asks db log phase) (moment_of (advance_asks db log phase) moment) t).store
  advance_kept tops log moment t (Bounding n) may keeps = keeps
  advance_kept tops log moment t (Creating n) may keeps = by_object (object_at (boundary_path log db) t)
    where
      by_object : (o : Option StoredObject) → Keeps tops (put_new o (boundary_path log db) (decimal n) moment t).store
      by_object (Some x) = keeps
      by_object None = bound_put tops log n moment t may keeps
  advance_kept tops log moment t (Replacing n tag) may keeps = by_tag (has_tag tag (object_at (boundary_path log db) t))
    where
      by_tag : (b : Bool) → Keeps tops (replace b (boundary_path log db) (decimal n) moment t).store
      by_tag true = bound_put tops log n moment t may keeps
      by_tag false = keeps
  advance_kept tops log moment t Over may keeps = keeps

  -- the number stays the same from phase to phase
  advances_by : (tops : LogKind → Option ℕ) (log : LogKind) (n : ℕ) → MayBound tops log n → (o : Option StoredObject) → MayGoOn tops log (bound_goes n o)
  advances_by tops log n may None = by_zero (n == 0)
    where
      by_zero : (b : Bool) → MayGoOn tops log (if b then End Over (Ok tt) else Stay (Creating n))
      by_zero true = tt
      by_zero false = may
  advances_by tops log n may (Some x) = by_boundary (boundary_of x.bytes)
    where
      by_boundary : (b : Option ℕ) → MayGoOn tops log (read_goes_to n x.e_tag b)
      by_boundary None = tt
      by_boundary (Some b) = by_order (nat_le n b)
        where
          by_order : (le : Bool) → MayGoOn tops log (if le then End Over (Ok tt) else Stay (Replacing n x.e_tag))
          by_order true = tt
          by_order false = may

  written_by : (tops : LogKind → Option ℕ) (log : LogKind) (n : ℕ) → MayBound tops log n → (tag : Option ℕ) → MayGoOn tops log (written_goes n tag)
  written_by tops log n may None = may
  written_by tops log n may (Some tag) = tt

  pub advance_goes_on : (tops : LogKind → Option ℕ) (log : LogKind) (moment : ℤ) (t : Store) (phase : AdvancePhase) → MayAdvance tops log phase
      → MayGoOn tops log (advance_goes phase (whole (advance_asks db log phase) (moment_of (advance_asks db log phase) moment) t).answer)
  advance_goes_on tops log moment t (Bounding n) may = advances_by tops log n may (object_at (boundary_path log db) t)
  advance_goes_on tops log moment t (Creating n) may = by_object (object_at (boundary_path log db) t)
    where
      by_object : (o : Option StoredObject) → MayGoOn tops log (advance_goes (Creating n) (put_new o (boundary_path log db) (decimal n) moment t).answer)
      by_object (Some x) = may
      by_object None = tt
  advance_goes_on tops log moment t (Replacing n tag) may = by_tag (has_tag tag (object_at (boundary_path log db) t))
    where
      by_tag : (b : Bool) → MayGoOn tops log (advance_goes (Replacing n tag) (replace b (boundary_path log db) (decimal n) moment t).answer)
      by_tag true = tt
      by_tag false = may
  advance_goes_on tops log moment t Over may = tt

  -- ---- candidates

  -- a path of a version of this log
  record IsVersionPath (log : LogKind) (p : ObjectPath) : Type 0 where
    pub number : ℕ
    pub is : p ≡ version_path log db number
    pub small : number < 2 ^ 64

  at_path : (log : LogKind) (p : ObjectPath) → IsFine p → is_in (folder log db) p ≡ true → IsVersionPath log p
  at_path log p fine inside = let v = listed_is log db p inside in record { number = v.number; is = v.is; small = small_number log db v.number (subst IsFine v.is fine) }

  -- the versions of a log that its folder lists
  pub listed_versions : (log : LogKind) (t : Store) → AreFine t.objects → Each (IsVersion log) (listed (folder log db) t)
  listed_versions log t fine =
      each_map (λ m. IsVersionPath log m.location) (IsVersion log) (λ m v. record { number = v.number; is = v.is; small = v.small }) (listed (folder log db) t)
      (each_listed (IsVersionPath log) (folder log db) (at_path log) t.objects fine)

  -- those of them that are unneeded below the greatest number
  pub unneeded_older : (tops : LogKind → Option ℕ) (log : LogKind) (greatest : ℕ) (checkpoints : List Checkpoint) → tops log ≡ Some greatest → (found : List ObjectMetadata) → Each (IsVersion log) found
      → Each (IsOlder tops log) (unneeded log greatest checkpoints found)
  unneeded_older tops log greatest checkpoints top found each = each_kept (IsVersion log) (IsOlder tops log) (λ m. is_unneeded greatest checkpoints (number_of log m.location)) older found each
    where
      older : (m : ObjectMetadata) → is_unneeded greatest checkpoints (number_of log m.location) ≡ true → IsVersion log m → IsOlder tops log m
      older m test v =
          let so : (nat_lt v.number greatest && not (is_named v.number checkpoints)) ≡ true = sym (ap (is_unneeded greatest checkpoints) (ap (number_of log) v.is ∙ number_back log db v.number)) ∙ test in
          record { version = v; greatest = greatest; top = top; below = below_told v.number greatest _ so }

  -- the greatest of older versions may be the boundary
  bound_of : (tops : LogKind → Option ℕ) (log : LogKind) (m : ObjectMetadata) → IsOlder tops log m → IfSome (number_of log m.location) (MayBound tops log)
  bound_of tops log m old =
      subst (λ (o : Option ℕ). IfSome o (MayBound tops log)) (sym (ap (number_of log) old.version.is ∙ number_back log db old.version.number))
      (record { small = old.version.small; below = subst (IsBelow old.version.number) (sym old.top) old.below })

  greater_has : (P : ℕ → Type 0) (a b : Option ℕ) → IfSome a P → IfSome b P → IfSome (greater a b) P
  greater_has P None b h k = k
  greater_has P (Some a) None h k = h
  greater_has P (Some a) (Some b) h k = either (one_of a b)
    where
      one_of : (a b : ℕ) → (max a b ≡ a) ⊎ (max a b ≡ b)
      one_of a b = grind arith

      either : (max a b ≡ a) ⊎ (max a b ≡ b) → P (max a b)
      either (inl e) = subst P (sym e) h
      either (inr e) = subst P (sym e) k

  bounds_from : (tops : LogKind → Option ℕ) (log : LogKind) (best : Option ℕ) (ms : List ObjectMetadata) → IfSome best (MayBound tops log) → Each (IsOlder tops log) ms → IfSome (greatest_from log best ms) (MayBound tops log)
  bounds_from tops log best [] h each = h
  bounds_from tops log best (m ∷ ms) h each = bounds_from tops log (greater best (number_of log m.location)) ms (greater_has (MayBound tops log) best (number_of log m.location) h (bound_of tops log m each.0)) each.1

  pub greatest_may_bound : (tops : LogKind → Option ℕ) (log : LogKind) (ms : List ObjectMetadata) → Each (IsOlder tops log) ms → IfSome (greatest log ms) (MayBound tops log)
  greatest_may_bound tops log ms each = bounds_from tops log None ms tt each
