-- What a read of the versions that a manifest's checkpoints name answers.
use Rattle.std.specs.Prelude.{◌≡◌, ◌≢◌, ◌⊎◌, ℕ, true, List, Option, Some, None, Result, Ok, Err}
use Rattle.std.specs.BTreeMap.{is_at}
use Rattle.std.specs.Map.{lookup}
use Rattle.std.specs.Ordering.{nat_cmp}
use Rattle.slate_ids.specs.declared.error.SlateDBError.{SlateDBError}
use Rattle.slate_ids.specs.declared.error.SlateDBError.TheVariants.{ManifestMissing}
use Rattle.slate_store.specs.Store.{Store}
use Rattle.slate_txn_log.specs.declared.log_kind.LogKind.TheVariants as logs
use Rattle.slate_model.specs.declared.manifest.Manifest.{Manifest}
use Rattle.slate_state_updates.specs.Checkpoints.{is_named}
use Rattle.slate_txn_laws.specs.Ready.{version_at}
use Rattle.slate_state_referenced.specs.Referenced.{Versions}

-- the manifest of a number
abbrev pub at_number : ℕ → Versions → Option Manifest
at_number k found = lookup (is_at (nat_cmp k)) found

-- a checkpoint of the manifest of version n names this other version
pub record IsNamedBy (n : ℕ) (m : Manifest) (k : ℕ) : Type 0 where
  pub named : is_named k m.core.checkpoints ≡ true
  pub other : k ≢ n

-- the version stands, and this is its manifest
pub record IsStored (db : List ℕ) (decoded : List ℕ → Result Manifest SlateDBError) (s : Store) (k : ℕ) (stored : Manifest) : Type 0 where
  pub bytes : List ℕ
  pub stands : version_at db logs.Manifest k s ≡ Some bytes
  pub reads : decoded bytes ≡ Ok stored

-- the manifest handed in is there, each other version that it names as that stands, and nothing else
pub record AreNamed (db : List ℕ) (decoded : List ℕ → Result Manifest SlateDBError) (s : Store) (n : ℕ) (m : Manifest) (found : Versions) : Type 0 where
  pub own : at_number n found ≡ Some m
  pub named : (k : ℕ) → IsNamedBy n m k → (stored : Manifest) × IsStored db decoded s k stored × (at_number k found ≡ Some stored)
  pub alone : (k : ℕ) (x : Manifest) → at_number k found ≡ Some x → (k ≡ n) ⊎ IsNamedBy n m k

-- the versions are read, or one that is named doesn't stand, or is refused by the codec
pub data ReferencedAnswers (db : List ℕ) (decoded : List ℕ → Result Manifest SlateDBError) (s : Store) (n : ℕ) (m : Manifest) (result : Result Versions SlateDBError) : Type 0 where
  AreRead : (found : Versions) → AreNamed db decoded s n m found → result ≡ Ok found → ReferencedAnswers db decoded s n m result
  IsMissing : (k : ℕ) → IsNamedBy n m k → version_at db logs.Manifest k s ≡ None → result ≡ Err (ManifestMissing k) → ReferencedAnswers db decoded s n m result
  Undecoded : (k : ℕ) (bytes : List ℕ) (e : SlateDBError) → IsNamedBy n m k → version_at db logs.Manifest k s ≡ Some bytes → decoded bytes ≡ Err e
      → result ≡ Err e → ReferencedAnswers db decoded s n m result
