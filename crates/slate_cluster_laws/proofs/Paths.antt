-- The paths of a log are apart from one another, and from those of other logs.
use Rattle.std.proofs.Common.{◌≡◌, ◌≢◌, ℕ, ◌<◌, ◌^◌, List, true, Some, ◌⊎◌, inl, inr, refl, sym, ap, ◌∙◌, subst, arith}
use Rattle.std.proofs.lemmas.Bool.{and_parts}
use Rattle.std.proofs.lemmas.Bool.Decides.{nat_tests}
use Rattle.std.specs.Prelude.{nat_lt}
use Rattle.slate_ids.specs.FinePath.{IsFine}
use Rattle.slate_ids.specs.Ids.{is_db_path}
use Rattle.slate_ids.specs.PathText.{path_text}
use Rattle.slate_ids.specs.UlidText.{ulid_of, ulid_text}
use Rattle.slate_ids.specs.Ulids.{is_id}
use Rattle.slate_ids.specs.declared.object_path.ObjectPath.{ObjectPath}
use Rattle.slate_ids.specs.declared.object_path.ObjectPath.TheVariants as paths
use Rattle.slate_ids.proofs.PathsApart.{same_path}
use Rattle.slate_ids.proofs.UlidTexts.{ulid_read}
use Rattle.slate_txn_log.specs.LogPaths.{version_path, boundary_path}
use Rattle.slate_txn_log.specs.declared.log_kind.LogKind.{LogKind}
use Rattle.slate_txn_log.specs.declared.log_kind.LogKind.TheVariants.{Manifest, Compactions}
use Rattle.slate_cluster_protocol.specs.Owners.{Owner, Version, Boundary, owner_of}

-- neither a version of this log nor its boundary
pub record IsElsewhere (kind : LogKind) (db : List ℕ) (p : ObjectPath) : Type 0 where
  pub version : (n : ℕ) → n < 2 ^ 64 → path_text (version_path kind db n) ≢ path_text p
  pub boundary : path_text (boundary_path kind db) ≢ path_text p

module _ (db : List ℕ) (named : is_db_path db ≡ true) where
  pub version_fine : (kind : LogKind) (n : ℕ) → n < 2 ^ 64 → IsFine (version_path kind db n)
  version_fine Manifest n small = (named, small)
  version_fine Compactions n small = (named, small)

  pub boundary_fine : (kind : LogKind) → IsFine (boundary_path kind db)
  boundary_fine Manifest = named
  boundary_fine Compactions = named

  one_number : (kind : LogKind) (n k : ℕ) → version_path kind db n ≡ version_path kind db k → n ≡ k
  one_number Manifest n k e = cc
  one_number Compactions n k e = cc

  no_boundary : (kind : LogKind) (n : ℕ) → version_path kind db n ≢ boundary_path kind db
  no_boundary Manifest n = λ e. cc
  no_boundary Compactions n = λ e. cc

  pub versions_apart : (kind : LogKind) (n k : ℕ) → n < 2 ^ 64 → k < 2 ^ 64 → n ≢ k → path_text (version_path kind db n) ≢ path_text (version_path kind db k)
  versions_apart kind n k a b ne = λ e. ne (one_number kind n k (same_path _ _ (version_fine kind n a) (version_fine kind k b) e))

  pub boundary_apart : (kind : LogKind) (n : ℕ) → n < 2 ^ 64 → path_text (boundary_path kind db) ≢ path_text (version_path kind db n)
  boundary_apart kind n a = λ e. no_boundary kind n (same_path _ _ (version_fine kind n a) (boundary_fine kind) (sym e))

-- the owner of a version's path, and of a boundary's
pub version_owner : (kind : LogKind) (db : List ℕ) (n : ℕ) → owner_of (version_path kind db n) ≡ Version kind db n
version_owner Manifest db n = refl
version_owner Compactions db n = refl

pub boundary_owner : (kind : LogKind) (db : List ℕ) → owner_of (boundary_path kind db) ≡ Boundary kind db
boundary_owner Manifest db = refl
boundary_owner Compactions db = refl

-- an owner other than a log of a database
pub record IsOther (kind : LogKind) (db : List ℕ) (o : Owner) : Type 0 where
  pub version : (n : ℕ) → o ≢ Version kind db n
  pub boundary : o ≢ Boundary kind db

-- what another owns is elsewhere
pub elsewhere : (kind : LogKind) (db : List ℕ) (p : ObjectPath) → is_db_path db ≡ true → IsFine p → IsOther kind db (owner_of p) → IsElsewhere kind db p
elsewhere kind db p named fine other = record {
  version = λ n small e. other.version n (sym (ap owner_of (same_path (version_path kind db n) p (version_fine db named kind n small) fine e)) ∙ version_owner kind db n);
  boundary = λ e. other.boundary (sym (ap owner_of (same_path (boundary_path kind db) p (boundary_fine db named kind) fine e)) ∙ boundary_owner kind db);
}

-- ---- paths that no log has

-- a path that is neither a version nor a boundary of any log
pub record IsNobodys (p : ObjectPath) : Type 0 where
  pub fine : IsFine p
  pub other : (kind : LogKind) (db : List ℕ) → IsOther kind db (owner_of p)

-- it is elsewhere for each log
pub nobodys_elsewhere : (kind : LogKind) (db : List ℕ) (p : ObjectPath) → is_db_path db ≡ true → IsNobodys p → IsElsewhere kind db p
nobodys_elsewhere kind db p named h = elsewhere kind db p named h.fine (h.other kind db)

-- an id is read back from its text
pub ulid_back : (id : ℕ × ℕ) → is_id id ≡ true → ulid_of (ulid_text id) ≡ Some id
ulid_back id h =
    let p = and_parts (nat_lt id.0 (2 ^ 48)) (nat_lt id.1 (2 ^ 80)) h in
    ulid_read id (grind (arith, nat_tests)) (grind (arith, nat_tests))

-- the path of a table
pub table_nobodys : (db : List ℕ) (id : ℕ × ℕ) → is_db_path db ≡ true → is_id id ≡ true → IsNobodys (paths.Table db id)
table_nobodys db id named is = record { fine = (named, ulid_back id is); other = λ kind other. record { version = λ n e. cc; boundary = λ e. cc } }

-- ---- paths of a log

-- a version of a log of a database, or its boundary
pub data IsOwn (kind : LogKind) (db : List ℕ) (p : ObjectPath) : Type 0 where
  OwnVersion : (n : ℕ) → n < 2 ^ 64 → p ≡ version_path kind db n → IsOwn kind db p
  OwnBoundary : p ≡ boundary_path kind db → IsOwn kind db p

pub own_fine : (kind : LogKind) (db : List ℕ) (p : ObjectPath) → is_db_path db ≡ true → IsOwn kind db p → IsFine p
own_fine kind db p named (OwnVersion n small e) = subst IsFine (sym e) (version_fine db named kind n small)
own_fine kind db p named (OwnBoundary e) = subst IsFine (sym e) (boundary_fine db named kind)

-- a path whose owner is a number of a log, or its boundary
abbrev IsOwned : LogKind → List ℕ → ObjectPath → Type 0
IsOwned kind db p = ((n : ℕ) × (owner_of p ≡ Version kind db n)) ⊎ (owner_of p ≡ Boundary kind db)

-- the owner of what is a log's own
own_owner : (kind : LogKind) (db : List ℕ) (p : ObjectPath) → IsOwn kind db p → IsOwned kind db p
own_owner kind db p (OwnVersion n small e) = inl (n, ap owner_of e ∙ version_owner kind db n)
own_owner kind db p (OwnBoundary e) = inr (ap owner_of e ∙ boundary_owner kind db)

-- another log of this database, or a log of another
abbrev pub AreApart : LogKind → List ℕ → LogKind → List ℕ → Type 0
AreApart kind db other_kind other = kind ≡ other_kind → db ≡ other → ⊥

-- what is another log's own is elsewhere
pub own_elsewhere : (kind : LogKind) (db : List ℕ) (other_kind : LogKind) (other : List ℕ) (p : ObjectPath) → is_db_path db ≡ true → is_db_path other ≡ true → AreApart kind db other_kind other → IsOwn other_kind other p → IsElsewhere kind db p
own_elsewhere kind db other_kind other p named other_named apart own = elsewhere kind db p named (own_fine other_kind other p other_named own) (record {
  version = λ n e. by_version n e (own_owner other_kind other p own);
  boundary = λ e. by_boundary e (own_owner other_kind other p own);
})
  where
    same_version : (n m : ℕ) → Version kind db n ≡ Version other_kind other m → ⊥
    same_version n m e = apart (cc (e)) (cc (e))

    same_boundary : Boundary kind db ≡ Boundary other_kind other → ⊥
    same_boundary e = apart (cc (e)) (cc (e))

    by_version : (n : ℕ) → owner_of p ≡ Version kind db n → IsOwned other_kind other p → ⊥
    by_version n e (inl v) = same_version n v.0 (sym e ∙ v.1)
    by_version n e (inr b) = cc (e, b)

    by_boundary : owner_of p ≡ Boundary kind db → IsOwned other_kind other p → ⊥
    by_boundary e (inl v) = cc (e, v.1)
    by_boundary e (inr b) = same_boundary (sym e ∙ b)
