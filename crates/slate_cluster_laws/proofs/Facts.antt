-- What holds of a log, and what a party knows while it is in a phrase: for any log.
use Rattle.std.proofs.Common.{◌≡◌, ℕ, ◌<◌, ◌≤◌, ◌^◌, List, Option, Some, None, Ok, Err}
use Rattle.slate_store.specs.Machines.{Goes, Stay, End}
use Rattle.slate_store.specs.Store.{Store, object_at}
use Rattle.slate_store.specs.declared.object.StoredObject.{StoredObject}
use Rattle.slate_txn_log.specs.Boundary.{boundary_of}
use Rattle.slate_txn_log.specs.LogPaths.{version_path, boundary_path}
use Rattle.slate_txn_log.specs.declared.advance_phase.AdvancePhase.{AdvancePhase}
use Rattle.slate_txn_log.specs.declared.advance_phase.AdvancePhase.TheVariants as advancing
use Rattle.slate_txn_log.specs.declared.commit_phase.CommitPhase.{CommitPhase}
use Rattle.slate_txn_log.specs.declared.commit_phase.CommitPhase.TheVariants as committing
use Rattle.slate_txn_log.specs.declared.read_phase.ReadPhase.{ReadPhase}
use Rattle.slate_txn_log.specs.declared.read_phase.ReadPhase.TheVariants as reading
use Rattle.slate_cluster_protocol.specs.Chains.{Link, Log, link_at, top, IsChain, bytes_of, bound_in, AgreesAt}
use Rattle.slate_cluster_protocol.specs.Holding.{IsPutBy}
use Rattle.slate_cluster_protocol.specs.Reach.{IsNeeded, IsSpare}
use Rattle.slate_cluster_chain_laws.proofs.LogRules.{IsMade}

-- a version that stands with its committed bytes
pub record IsCommitted {V A : Type 0} (log : Log V A) (db : List ℕ) (s : Store) (c : List (Link V A)) (k : ℕ) : Type 0 where
  pub link : Link V A
  pub at : link_at k c ≡ Some link
  pub stands : bytes_of (object_at (version_path log.kind db k) s) ≡ Some link.bytes

-- what holds of a log at each moment; it may have no version yet
pub record IsSound {V A : Type 0} (log : Log V A) (db : List ℕ) (s : Store) (c : List (Link V A)) : Type 0 where
  pub chain : IsChain log c
  pub small : top c < 2 ^ 64
  pub bound : ℕ
  pub read : bound_in log db s ≡ Some bound
  pub below : 0 < bound → bound < top c
  pub above : (k : ℕ) → bound < k → k < 2 ^ 64 → AgreesAt log db s c k
  pub needed : (k : ℕ) → IsNeeded log c k → IsCommitted log db s c k
  pub tagged : (o : StoredObject) → object_at (boundary_path log.kind db) s ≡ Some o → o.e_tag ≤ s.last_tag

-- the committed value of a number
pub record IsValue {V A : Type 0} (c : List (Link V A)) (n : ℕ) (v : V) : Type 0 where
  pub link : Link V A
  pub at : link_at n c ≡ Some link
  pub value : link.value ≡ v

-- a version that was got, or put, is the committed one unless the boundary has passed it
pub record Holds {V A : Type 0} (log : Log V A) (db : List ℕ) (s : Store) (c : List (Link V A)) (n : ℕ) (v : V) : Type 0 where
  pub same : (b : ℕ) → bound_in log db s ≡ Some b → b < n → IsValue c n v

-- what an author put is the committed version of its number, by this author, unless the boundary has passed it
pub record HoldsBy {V A : Type 0} (log : Log V A) (db : List ℕ) (s : Store) (c : List (Link V A)) (author : A) (n : ℕ) (v : V) : Type 0 where
  pub same : (b : ℕ) → bound_in log db s ≡ Some b → b < n → IsPutBy log c author n v

-- what an author puts at a number
pub record IsNext {V A : Type 0} (log : Log V A) (c : List (Link V A)) (author : A) (n : ℕ) (bytes : List ℕ) (v : V) : Type 0 where
  pub small : n < 2 ^ 64
  pub encodes : log.encoded v ≡ Ok bytes
  pub made : IsMade log c author n v

-- what a reader knows
abbrev pub ReadKnows : {V A : Type 0} → Log V A → List ℕ → Store → List (Link V A) → ReadPhase V → Type 0
ReadKnows log db s c reading.Listing = Unit {0}
ReadKnows log db s c (reading.Getting n) = n < 2 ^ 64
ReadKnows log db s c (reading.Bounding n v) = Holds log db s c n v
ReadKnows log db s c reading.Over = ⊥

-- what a committer knows
abbrev pub CommitKnows : {V A : Type 0} → Log V A → List ℕ → Store → List (Link V A) → A → CommitPhase V → Type 0
CommitKnows log db s c author (committing.Putting n bytes v) = IsNext log c author n bytes v
CommitKnows log db s c author (committing.Bounding n v) = HoldsBy log db s c author n v
CommitKnows log db s c author committing.Over = ⊥

-- the boundary object, where it still has this tag, is at most a number
pub record IsAtMost {V A : Type 0} (log : Log V A) (db : List ℕ) (s : Store) (tag n : ℕ) : Type 0 where
  pub given : tag ≤ s.last_tag
  pub most : (o : StoredObject) → object_at (boundary_path log.kind db) s ≡ Some o → o.e_tag ≡ tag → (b : ℕ) × (boundary_of o.bytes ≡ Some b) × (b ≤ n)

-- what one knows that moves the boundary: it is to stay below the greatest
abbrev pub AdvanceKnows : {V A : Type 0} → Log V A → List ℕ → Store → List (Link V A) → AdvancePhase → Type 0
AdvanceKnows log db s c (advancing.Bounding n) = n < top c
AdvanceKnows log db s c (advancing.Creating n) = n < top c
AdvanceKnows log db s c (advancing.Replacing n tag) = (n < top c) × IsAtMost log db s tag n
AdvanceKnows log db s c advancing.Over = ⊥

-- the number to which a boundary is moved
abbrev pub target : AdvancePhase → ℕ
target (advancing.Bounding n) = n
target (advancing.Creating n) = n
target (advancing.Replacing n tag) = n
target advancing.Over = 0

-- the boundary is at least a number
pub record IsReached {V A : Type 0} (log : Log V A) (db : List ℕ) (s : Store) (n : ℕ) : Type 0 where
  pub reached : (b : ℕ) → bound_in log db s ≡ Some b → n ≤ b

-- what the end of an advance may be relied on for: the boundary is at least its number
abbrev pub AdvanceBrings : {V A : Type 0} → Log V A → List ℕ → Store → List (Link V A) → ℕ → Goes AdvancePhase (Unit {0}) → Type 0
AdvanceBrings log db s c n (Stay phase) = (target phase ≡ n) × AdvanceKnows log db s c phase
AdvanceBrings log db s c n (End phase (Ok u)) = IsReached log db s n
AdvanceBrings log db s c n (End phase (Err e)) = Unit {0}

-- what the end of a read may be relied on for: a version that it answers is a committed one
abbrev pub ReadBrings : {V A : Type 0} → Log V A → List ℕ → Store → List (Link V A) → Goes (ReadPhase V) (Option (ℕ × V)) → Type 0
ReadBrings log db s c (Stay phase) = ReadKnows log db s c phase
ReadBrings log db s c (End phase (Ok (Some version))) = IsValue c version.0 version.1
ReadBrings log db s c (End phase (Ok None)) = Unit {0}
ReadBrings log db s c (End phase (Err e)) = Unit {0}

-- and of a commit: what was put is the committed version of its number, by its author
abbrev pub CommitBrings : {V A : Type 0} → Log V A → List ℕ → Store → List (Link V A) → A → Goes (CommitPhase V) (ℕ × V) → Type 0
CommitBrings log db s c author (Stay phase) = CommitKnows log db s c author phase
CommitBrings log db s c author (End phase (Ok version)) = IsPutBy log c author version.0 version.1
CommitBrings log db s c author (End phase (Err e)) = Unit {0}

-- what a step can do to a log, as far as the others can see: the boundary doesn't fall, a tag is given once, what was
-- committed stays, and what is spare stays spare
pub record Grows {V A : Type 0} (log : Log V A) (db : List ℕ) (s : Store) (c : List (Link V A)) (s' : Store) (c' : List (Link V A)) : Type 0 where
  pub bound : (b' : ℕ) → bound_in log db s' ≡ Some b' → (b : ℕ) × (bound_in log db s ≡ Some b) × (b ≤ b')
  pub later : s.last_tag ≤ s'.last_tag
  pub tags : (o : StoredObject) → object_at (boundary_path log.kind db) s' ≡ Some o → o.e_tag ≤ s.last_tag → object_at (boundary_path log.kind db) s ≡ Some o
  pub rises : top c ≤ top c'
  pub spares : (k : ℕ) → IsSpare log c k → IsSpare log c' k
  pub kept : (k : ℕ) (l : Link V A) → link_at k c ≡ Some l → link_at k c' ≡ Some l
