-- A change of a log under way: what is known of the number that it reads or puts is known to its end, for any log.
use Rattle.std.proofs.Common.{◌≡◌, ◌≢◌, ℕ, ℤ, ◌<◌, ◌^◌, nat_le, Bool, true, false, List, ◌∷◌, Option, Some, None, Result, Ok, Err, ⊎_elim, refl, sym, ap, ◌∙◌, subst, arith}
use Rattle.std.proofs.lemmas.Bool.Decides.{nat_tests}
use Rattle.std.specs.Prelude.{if◌then◌else◌}
use Rattle.slate_ids.specs.Ids.{is_db_path}
use Rattle.slate_ids.specs.declared.error.SlateDBError.{SlateDBError}
use Rattle.slate_ids.specs.declared.error.SlateDBError.TheVariants.{TransactionalObjectVersionExists}
use Rattle.slate_ids.specs.declared.object_path.ObjectPath.{ObjectPath}
use Rattle.slate_store.specs.Machines.{Stay, End}
use Rattle.slate_store.specs.Store.{Store, object_at, put_new, listed, under, taken, effect}
use Rattle.slate_store.specs.declared.mark.Mark.{Mark}
use Rattle.slate_store.specs.declared.mark.Mark.TheVariants.{Good, Fail, Lost}
use Rattle.slate_store.specs.declared.object.StoredObject.{StoredObject}
use Rattle.slate_store.specs.declared.store_answer.StoreAnswer.{StoreAnswer}
use Rattle.slate_store.specs.declared.store_answer.StoreAnswer.TheVariants.{Created}
use Rattle.slate_store.specs.declared.store_call.StoreCall.TheVariants.{PutNew}
use Rattle.slate_txn_changes.specs.LogWorks.{WorkGoes, change_goes, commit_on, read_on, work_asks, work_goes}
use Rattle.slate_txn_changes.specs.declared.log_work.LogEnd.{LogEnd}
use Rattle.slate_txn_changes.specs.declared.log_work.LogEnd.TheVariants.{Absent, Unchanged, Committed}
use Rattle.slate_txn_changes.specs.declared.log_work.LogWork.{LogWork}
use Rattle.slate_txn_changes.specs.declared.log_work.LogWork.TheVariants.{Reading, Committing}
use Rattle.slate_txn_log.specs.Boundary.{greatest}
use Rattle.slate_txn_log.specs.CommitPhase.{CommitGoes, bounded_goes, commit_asks, commit_goes}
use Rattle.slate_txn_log.specs.LogPaths.{folder, version_path}
use Rattle.slate_txn_log.specs.ReadPhase.{Reply, boundary_goes, decoded_goes, got_goes, listed_goes, read_asks, read_goes}
use Rattle.slate_txn_log.specs.declared.commit_phase.CommitPhase.{CommitPhase}
use Rattle.slate_txn_log.specs.declared.commit_phase.CommitPhase.TheVariants as committing
use Rattle.slate_txn_log.specs.declared.log_kind.LogKind.{LogKind}
use Rattle.slate_txn_log.specs.declared.read_phase.ReadPhase.{ReadPhase}
use Rattle.slate_txn_log.specs.declared.read_phase.ReadPhase.TheVariants as reading
use Rattle.slate_cluster_protocol.specs.Chains.{Link, Log, link_at, top, bytes_of, link_bytes, bound_in, Changed}
use Rattle.slate_cluster_protocol.specs.Chains.Changed.{Stays, Gets}
use Rattle.slate_cluster_protocol.specs.Holding.{IsPutBy}
use Rattle.slate_cluster_protocol.specs.Logs.{Author, Chain, Chains, Held, Puts, change_phrase, log_of, put_by, put_in}
use Rattle.slate_cluster_chain_laws.proofs.Links.{link_there, same_or_not}
use Rattle.slate_cluster_laws.proofs.Changing.{Makes}
use Rattle.slate_cluster_laws.proofs.Facts.{CommitBrings, CommitKnows, Grows, IsNext, IsSound, IsValue, ReadBrings, ReadKnows}
use Rattle.slate_cluster_laws.proofs.Listed.{list_top}
use Rattle.slate_cluster_laws.proofs.Steps.{PhraseBrings, PhraseKnows, author_in, author_of}
use Rattle.slate_cluster_laws.proofs.Stores.{IsTidy}

-- ---- what is known of a number while it is read, and while it is put

abbrev pub ReadHas : {V : Type 0} → (ℕ → Type 0) → ReadPhase V → Type 0
ReadHas P (reading.Getting j) = P j
ReadHas P (reading.Bounding j v) = P j
ReadHas P _ = Unit {0}

-- what was put, once the boundary is below its number
abbrev pub CommitHas : {V A : Type 0} → Log V A → List ℕ → Store → (ℕ → Type 0) → CommitPhase V → Type 0
CommitHas log db s Q (committing.Bounding j v) = (b : ℕ) → bound_in log db s ≡ Some b → b < j → Q j
CommitHas log db s Q _ = Unit {0}

abbrev pub WorkHas : (k : LogKind) → List ℕ → Store → (P Q : ℕ → Type 0) → LogWork (Held k) → Type 0
WorkHas k db s P Q (Reading phase) = ReadHas P phase
WorkHas k db s P Q (Committing made phase) = CommitHas (log_of k) db s Q phase

-- with the end of a change: the number read, whose committed version made nothing; or the number of what the party put
abbrev pub EndHas : (k : LogKind) → List ℕ → Chains → (P Q : ℕ → Type 0) → ℕ → Puts → (ℤ → ℕ → Held k → Result (Option (CommitPhase (Held k))) SlateDBError) → LogEnd (Held k) → Type 0
EndHas k db chains P Q n puts commit_of Absent = Unit {0}
EndHas k db chains P Q n puts commit_of (Unchanged j v) = P j × (IsValue (chains k db) j v × ((at : ℤ) × (commit_of at j v ≡ Ok None)))
EndHas k db chains P Q n puts commit_of (Committed j v) = Q j × ((at : ℤ) × IsPutBy (log_of k) (chains k db) (author_of n puts at) j v)

abbrev pub GoesHas : (k : LogKind) → List ℕ → Store → Chains → (P Q : ℕ → Type 0) → ℕ → Puts → (ℤ → ℕ → Held k → Result (Option (CommitPhase (Held k))) SlateDBError) → WorkGoes (Held k) → Type 0
GoesHas k db s chains P Q n puts commit_of (Stay work) = WorkHas k db s P Q work
GoesHas k db s chains P Q n puts commit_of (End work (Ok end)) = EndHas k db chains P Q n puts commit_of end
GoesHas k db s chains P Q n puts commit_of (End work (Err e)) = Unit {0}

-- a put that made a new object found none
put_absent : (o : Option StoredObject) (path : ObjectPath) (bytes : List ℕ) (moment : ℤ) (s : Store) (mark : Mark) (tag : ℕ) → (under mark (put_new o path bytes moment s) s).answer ≡ Created (Some tag) → o ≡ None
put_absent None path bytes moment s mark tag h = refl
put_absent (Some object) path bytes moment s Good tag h = absurd (cc h)
put_absent (Some object) path bytes moment s Fail tag h = absurd (cc h)
put_absent (Some object) path bytes moment s Lost tag h = absurd (cc h)

above_test : (n b : ℕ) → nat_le n b ≡ false → b < n
above_test n b h = grind (arith, nat_tests)

-- ---- one step

module _ (k : LogKind) (db : List ℕ) (named : is_db_path db ≡ true) (s : Store) (tidy : IsTidy s.objects) (chains : Chains) (i : IsSound (log_of k) db s (chains k db))
    (s' : Store) (chains' : Chains) (grows : Grows (log_of k) db s (chains k db) s' (chains' k db)) (P Q P' Q' : ℕ → Type 0)
    (listed_is : chains' k db ≡ chains k db → (j : ℕ) → (0 < top (chains k db) → j ≡ top (chains k db)) → P' j) (read_kept : chains' k db ≡ chains k db → (j : ℕ) → P j → P' j) (put_kept : chains' k db ≡ chains k db → (j : ℕ) → Q j → Q' j) where
  abbrev c : Chain k
  c = chains k db

  abbrev c' : Chain k
  c' = chains' k db

  -- ---- of a read

  abbrev ReadTo : Reply (Held k) → Type 0
  ReadTo (Stay phase) = ReadHas P' phase
  ReadTo (End phase (Ok (Some version))) = P' version.0
  ReadTo (End phase (Ok None)) = Unit {0}
  ReadTo (End phase (Err e)) = Unit {0}

  listed_to : c' ≡ c → (o : Option ℕ) → greatest (log_of k).kind (listed (folder (log_of k).kind db) s) ≡ o → ReadTo (listed_goes o)
  listed_to still None is = tt
  listed_to still (Some j) is = listed_is still j (λ pos. let all : Some j ≡ Some (top c) = sym is ∙ list_top (log_of k) db named s c i pos tidy in cc all)

  decoded_to : (j : ℕ) (r : Result (Held k) SlateDBError) → P' j → ReadTo (decoded_goes j r)
  decoded_to j (Ok v) h = h
  decoded_to j (Err e) h = tt

  got_to : (j : ℕ) (o : Option StoredObject) → P' j → ReadTo (got_goes (log_of k).decoded j o)
  got_to j None h = tt
  got_to j (Some object) h = decoded_to j ((log_of k).decoded object.bytes) h

  above_to : (j : ℕ) (v : Held k) (t : Bool) → P' j → ReadTo (if t then Stay reading.Listing else End reading.Over (Ok (Some (j, v))))
  above_to j v true h = tt
  above_to j v false h = h

  boundary_to : (j : ℕ) (v : Held k) (b : Option ℕ) → P' j → ReadTo (boundary_goes j v b)
  boundary_to j v None h = tt
  boundary_to j v (Some b) h = above_to j v (nat_le j b) h

  read_to : c' ≡ c → (phase : ReadPhase (Held k)) (mark : Mark) (moment : ℤ) → ReadKnows (log_of k) db s c phase → ReadHas P phase
      → ReadTo (read_goes (log_of k).kind (log_of k).decoded phase (effect mark (read_asks db (log_of k).kind phase) moment s).answer)
  read_to still reading.Listing Good moment knows h = listed_to still (greatest (log_of k).kind (listed (folder (log_of k).kind db) s)) refl
  read_to still reading.Listing Fail moment knows h = tt
  read_to still reading.Listing Lost moment knows h = tt
  read_to still (reading.Getting j) Good moment knows h = got_to j (object_at (version_path (log_of k).kind db j) s) (read_kept still j h)
  read_to still (reading.Getting j) Fail moment knows h = tt
  read_to still (reading.Getting j) Lost moment knows h = tt
  read_to still (reading.Bounding j v) Good moment knows h = boundary_to j v (bound_in (log_of k) db s) (read_kept still j h)
  read_to still (reading.Bounding j v) Fail moment knows h = tt
  read_to still (reading.Bounding j v) Lost moment knows h = tt
  read_to still reading.Over mark moment knows h = absurd knows

  -- ---- of a commit

  module _ (author : Author) (put_new_is : (j : ℕ) (l : Link (Held k) Author) → c' ≡ l ∷ c → l.by ≡ Some author → l.number ≡ j → Q' j) where
    abbrev CommitTo : CommitGoes (Held k) → Type 0
    CommitTo (Stay phase) = CommitHas (log_of k) db s' Q' phase
    CommitTo (End phase (Ok version)) = Q' version.0 × IsPutBy (log_of k) c' author version.0 version.1
    CommitTo (End phase (Err e)) = Unit {0}

    -- a number above the boundary whose object is absent isn't committed
    uncommitted : (j : ℕ) → j < 2 ^ 64 → object_at (version_path (log_of k).kind db j) s ≡ None → (b : ℕ) → bound_in (log_of k) db s ≡ Some b → b < j → link_at j c ≡ None
    uncommitted j small absent b read lt =
        let same : b ≡ i.bound = cc (i.read, read) in
        by (link_at j c) refl (sym (ap bytes_of absent) ∙ i.above j (subst (λ x. x < j) same lt) small)
      where
        by : (o : Option (Link (Held k) Author)) → link_at j c ≡ o → None ≡ link_bytes (link_at j c) → link_at j c ≡ None
        by None is h = is
        by (Some l) is h = absurd (cc (h, ap link_bytes is))

    -- what was put is the version on top
    put_is : (j : ℕ) (v : Held k) → link_at j c ≡ None → IsPutBy (log_of k) c' author j v → Changed (λ (a : Author). a ≡ author) c c' → Q' j
    put_is j v free put (Stays same) = absurd (cc (put.at, ap (λ (d : Chain k). link_at j d) same, free))
    put_is j v free put (Gets l a by is same) =
        ⊎_elim
        (λ (e : l.number ≡ j). put_new_is j l same (by ∙ ap (λ (x : Author). Some x) is) e)
        (λ (ne : l.number ≢ j). absurd (cc (put.at, ap (λ (d : Chain k). link_at j d) same, link_there j l c ne, free)))
        (same_or_not l.number j)

    created_to : (j : ℕ) (bytes : List ℕ) (v : Held k) (mark : Mark) (moment : ℤ) (answer : StoreAnswer) → (effect mark (commit_asks db (log_of k).kind (committing.Putting j bytes v)) moment s).answer ≡ answer
        → IsNext (log_of k) c author j bytes v → Changed (λ (a : Author). a ≡ author) c c' → CommitBrings (log_of k) db s' c' author (commit_goes (committing.Putting j bytes v) answer) → CommitTo (commit_goes (committing.Putting j bytes v) answer)
    created_to j bytes v mark moment (Created (Some tag)) is next changed brings = λ b read lt.
        let was = grows.bound b read in
        let absent = put_absent (object_at (version_path (log_of k).kind db j) s) (version_path (log_of k).kind db j) bytes moment s (taken mark (PutNew (version_path (log_of k).kind db j) bytes) s) tag is in
        let le = was.2 in
        put_is j v (uncommitted j next.small absent was.0 was.1 (omega arith)) (brings.same b read lt) changed
    created_to j bytes v mark moment (Created None) is next changed brings = tt
    created_to j bytes v mark moment _ is next changed brings = tt

    test_to : (j : ℕ) (v : Held k) (b : ℕ) (t : Bool) → nat_le j b ≡ t → (nat_le j b ≡ false → Q' j)
        → CommitBrings (log_of k) db s' c' author (if t then End committing.Over (Err (TransactionalObjectVersionExists j (Some b))) else End committing.Over (Ok (j, v)))
        → CommitTo (if t then End committing.Over (Err (TransactionalObjectVersionExists j (Some b))) else End committing.Over (Ok (j, v)))
    test_to j v b true is has brings = tt
    test_to j v b false is has brings = (has is, brings)

    bounded_to : c' ≡ c → (j : ℕ) (v : Held k) (o : Option ℕ) → bound_in (log_of k) db s ≡ o → CommitHas (log_of k) db s Q (committing.Bounding j v) → CommitBrings (log_of k) db s' c' author (bounded_goes j v o) → CommitTo (bounded_goes j v o)
    bounded_to still j v None read h brings = tt
    bounded_to still j v (Some b) read h brings = test_to j v b (nat_le j b) refl (λ is. put_kept still j (h b read (above_test j b is))) brings

    commit_to : (phase : CommitPhase (Held k)) → (put_in k db author phase ≡ None → c' ≡ c) → (mark : Mark) (moment : ℤ) → CommitKnows (log_of k) db s c author phase → CommitHas (log_of k) db s Q phase → Changed (λ (a : Author). a ≡ author) c c'
        → CommitBrings (log_of k) db s' c' author (commit_goes phase (effect mark (commit_asks db (log_of k).kind phase) moment s).answer)
        → CommitTo (commit_goes phase (effect mark (commit_asks db (log_of k).kind phase) moment s).answer)
    commit_to (committing.Putting j bytes v) still mark moment knows h changed brings = created_to j bytes v mark moment (effect mark (commit_asks db (log_of k).kind (committing.Putting j bytes v)) moment s).answer refl knows changed brings
    commit_to (committing.Bounding j v) still Good moment knows h changed brings = bounded_to (still refl) j v (bound_in (log_of k) db s) refl h brings
    commit_to (committing.Bounding j v) still Fail moment knows h changed brings = tt
    commit_to (committing.Bounding j v) still Lost moment knows h changed brings = tt
    commit_to committing.Over still mark moment knows h changed brings = absurd knows

  -- ---- of the change

  module _ (n : ℕ) (puts : Puts) (commit_of : ℤ → ℕ → Held k → Result (Option (CommitPhase (Held k))) SlateDBError) (makes : Makes k n puts commit_of) where
    abbrev Goes : WorkGoes (Held k) → Type 0
    Goes g = GoesHas k db s' chains' P' Q' n puts commit_of g

    made_to : (now : ℤ) (j : ℕ) (v : Held k) (r : Result (Option (CommitPhase (Held k))) SlateDBError) → P' j → IsValue c' j v → commit_of now j v ≡ r → Goes (change_goes now j v r)
    made_to now j v (Ok (Some commit)) h value is = subst (λ (x : CommitPhase (Held k)). CommitHas (log_of k) db s' Q' x) (sym (makes now j v commit is).prepared.is) tt
    made_to now j v (Ok None) h value is = (h, (value, (now, is)))
    made_to now j v (Err e) h value is = tt

    read_goes_on : (now : ℤ) (g : Reply (Held k)) → ReadTo g → ReadBrings (log_of k) db s' c' g → Goes (read_on commit_of now g)
    read_goes_on now (Stay phase) h brings = h
    read_goes_on now (End phase (Ok None)) h brings = tt
    read_goes_on now (End phase (Ok (Some version))) h brings = made_to now version.0 version.1 (commit_of now version.0 version.1) h brings refl
    read_goes_on now (End phase (Err e)) h brings = tt

    commit_goes_on : (made : ℤ) (new_is : (j : ℕ) (l : Link (Held k) Author) → c' ≡ l ∷ c → l.by ≡ Some (author_of n puts made) → l.number ≡ j → Q' j) (g : CommitGoes (Held k)) → CommitTo (author_of n puts made) new_is g → Goes (commit_on made g)
    commit_goes_on made new_is (Stay phase) h = h
    commit_goes_on made new_is (End phase (Ok version)) h = (h.0, (made, h.1))
    commit_goes_on made new_is (End phase (Err e)) h = tt

    -- after a step
    pub goes_has : (new_is : (made : ℤ) (j : ℕ) (l : Link (Held k) Author) → c' ≡ l ∷ c → l.by ≡ Some (author_of n puts made) → l.number ≡ j → Q' j) → (work : LogWork (Held k)) → (put_by n (change_phrase k db puts work) ≡ None → c' ≡ c)
        → (mark : Mark) (moment : ℤ)
        → PhraseKnows s chains n (change_phrase k db puts work) → WorkHas k db s P Q work → Changed (λ (a : Author). a ≡ author_in n (change_phrase k db puts work)) c c'
        → PhraseBrings s' chains' n (change_phrase k db puts work) moment (effect mark (work_asks db (log_of k).kind work) moment s).answer
        → Goes (work_goes (log_of k).kind (log_of k).decoded commit_of moment work (effect mark (work_asks db (log_of k).kind work) moment s).answer)
    goes_has new_is (Reading phase) still mark moment knows h changed brings =
        read_goes_on moment (read_goes (log_of k).kind (log_of k).decoded phase (effect mark (read_asks db (log_of k).kind phase) moment s).answer) (read_to (still refl) phase mark moment knows h) brings
    goes_has new_is (Committing made phase) still mark moment knows h changed brings =
        commit_goes_on made (new_is made) (commit_goes phase (effect mark (commit_asks db (log_of k).kind phase) moment s).answer) (commit_to (author_of n puts made) (new_is made) phase still mark moment knows h changed brings)
