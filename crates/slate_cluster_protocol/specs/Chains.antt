-- The chain of a log: what was committed, and what each version owes to the one before it.
use Rattle.std.specs.Prelude.{◌≡◌, ℕ, ◌+◌, ◌==◌, Bool, true, List, [], ◌∷◌, Option, Some, None, Result, Ok, if◌then◌else◌}
use Rattle.slate_ids.specs.declared.error.SlateDBError.{SlateDBError}
use Rattle.slate_store.specs.Store.{Store, object_at}
use Rattle.slate_store.specs.declared.object.StoredObject.{StoredObject}
use Rattle.slate_txn_log.specs.Advance.{boundary_at}
use Rattle.slate_txn_log.specs.LogPaths.{version_path}
use Rattle.slate_txn_log.specs.declared.log_kind.LogKind.{LogKind}
use Rattle.slate_txn_log.specs.declared.right.Right.{Right}

-- a committed version: its number, the bytes that were put, their value, and who put them; the opening version has no author
pub record Link (V A : Type 0) : Type 0 where
  pub number : ℕ
  pub bytes : List ℕ
  pub value : V
  pub by : Option A

-- the version of a number, newest first
abbrev pub link_at : {V A : Type 0} → ℕ → List (Link V A) → Option (Link V A)
link_at n [] = None
link_at n (l ∷ c) = if l.number == n then Some l else link_at n c

-- the greatest committed number, 0 where there is none
abbrev pub top : {V A : Type 0} → List (Link V A) → ℕ
top [] = 0
top (l ∷ c) = l.number

-- one version more, where there is none of its number
abbrev pub if_new : {V A : Type 0} → Option (Link V A) → Link V A → List (Link V A) → List (Link V A)
if_new None l c = l ∷ c
if_new (Some old) l c = c

-- the first put of a number commits it, and a later one changes nothing
abbrev pub with_link : {V A : Type 0} → Link V A → List (Link V A) → List (Link V A)
with_link l c = if_new (link_at l.number c) l c

-- a log of any kind of value: where it lies, the bytes of its values, what is read back of a value, its rules, and which numbers a value
-- names; and of an author what it makes where there is no version yet, what it makes of one, by which right, and whether the fence refuses it
pub record Log (V A : Type 0) : Type 0 where
  pub kind : LogKind
  pub encoded : V → Result (List ℕ) SlateDBError
  pub decoded : List ℕ → Result V SlateDBError
  pub normal : V → V
  pub refusal : ℕ → V → V → Right → Option SlateDBError
  pub names : V → ℕ → Bool
  pub first : A → Result (Option V) SlateDBError
  pub makes : A → ℕ → V → Result (Option V) SlateDBError
  pub right : A → Right
  pub fence : A → V → Option SlateDBError

-- the version after another: its author made it of the version before, the rules and the fence let it, its bytes are those of
-- what was made, and its value is what is read back of them
pub record Follows {V A : Type 0} (log : Log V A) (old new : Link V A) : Type 0 where
  pub author : A
  pub by : new.by ≡ Some author
  pub number : new.number ≡ old.number + 1
  pub made : V
  pub makes : log.makes author old.number old.value ≡ Ok (Some made)
  pub bytes : log.encoded made ≡ Ok new.bytes
  pub value : new.value ≡ log.normal made
  pub lawful : log.refusal old.number old.value new.value (log.right author) ≡ None
  pub passed : log.fence author old.value ≡ None

-- the first version: it was there, with the value that is read of its bytes, which names no number but its own; or an author made it where there
-- was none
pub data IsFirst {V A : Type 0} (log : Log V A) (first : Link V A) : Type 0 where
  Opens : first.number ≡ 1 → first.by ≡ None → log.decoded first.bytes ≡ Ok first.value
      → ((n : ℕ) → log.names first.value n ≡ true → n ≡ 1) → IsFirst log first
  Begins : (author : A) (made : V) → first.number ≡ 1 → first.by ≡ Some author → log.first author ≡ Ok (Some made)
      → log.encoded made ≡ Ok first.bytes → first.value ≡ log.normal made → IsFirst log first

-- one chain: the numbers go from 1 up without a gap, and each version follows the one before
abbrev pub IsChain : {V A : Type 0} → Log V A → List (Link V A) → Type 0
IsChain log [] = Unit {0}
IsChain log (first ∷ []) = IsFirst log first
IsChain log (new ∷ old ∷ c) = Follows log old new × IsChain log (old ∷ c)

-- the bytes of an object, where there is one
abbrev pub bytes_of : Option StoredObject → Option (List ℕ)
bytes_of None = None
bytes_of (Some object) = Some object.bytes

-- the bytes of a version, where there is one
abbrev pub link_bytes : {V A : Type 0} → Option (Link V A) → Option (List ℕ)
link_bytes None = None
link_bytes (Some l) = Some l.bytes

-- store and chain agree at a number: the store has what was committed there
abbrev pub AgreesAt : {V A : Type 0} → Log V A → List ℕ → Store → List (Link V A) → ℕ → Type 0
AgreesAt log db s c n = bytes_of (object_at (version_path log.kind db n) s) ≡ link_bytes (link_at n c)

-- the boundary of a log, where it can be read
abbrev pub bound_in : {V A : Type 0} → Log V A → List ℕ → Store → Option ℕ
bound_in log db s = boundary_at db log.kind s

-- the chain stays, or gets one version on top, by an author of this kind
pub data Changed {V A : Type 0} (P : A → Type 0) (c c' : List (Link V A)) : Type 0 where
  Stays : c' ≡ c → Changed P c c'
  Gets : (l : Link V A) → (author : A) → l.by ≡ Some author → P author → c' ≡ l ∷ c → Changed P c c'
