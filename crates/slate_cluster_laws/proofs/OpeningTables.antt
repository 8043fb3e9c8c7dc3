-- The tables that stand as a run begins: they are at paths of their own.
use Rattle.std.proofs.Common.{◌≡◌, ◌≢◌, ℕ, true, List, [], ◌∷◌, Option, Some, None, refl, ◌∙◌, subst}
use Rattle.std.proofs.lemmas.Bool.{and_parts}
use Rattle.std.specs.List.{list_all}
use Rattle.std.specs.BTreeMap.{insert_entry}
use Rattle.slate_ids.specs.FinePath.{IsFine}
use Rattle.slate_ids.specs.Ids.{is_db_path}
use Rattle.slate_ids.specs.PathText.{path_cmp}
use Rattle.slate_ids.specs.declared.object_path.ObjectPath.{ObjectPath}
use Rattle.slate_ids.specs.declared.object_path.ObjectPath.TheVariants as paths
use Rattle.slate_ids.proofs.PathsApart.{same_path}
use Rattle.slate_model_tables.specs.declared.ss_table_info.SsTableInfo.{SsTableInfo}
use Rattle.slate_script_events.specs.declared.db_spec.DbSpec.{DbSpec}
use Rattle.slate_cluster_protocol.specs.Specs.{First, and_more, firsts_from, records_from, table_bytes, table_added, tables_from, all_tables_from, objects_of}
use Rattle.slate_ids.specs.Ulids.{is_id}
use Rattle.slate_cluster_laws.proofs.Paths.{ulid_back}
use Rattle.slate_cluster_laws.proofs.Beginnings.{AllNamed, Firsts, has_more, last_at, last_else, named_parts, AllFine, fine_put}

abbrev pub Table : Type 0
Table = (ℕ × ℕ) × SsTableInfo

-- the ids of tables are ids
abbrev pub AllIds : List Table → Type 0
AllIds tables = list_all (λ t. is_id t.0) tables ≡ true

-- what each table that is added keeps, all of them keep
module _ (P : Firsts → Type 0) (keeps : (db : List ℕ) (id : ℕ × ℕ) (v : First) (os : Firsts) → IsFine (paths.Table db id) → P os → P (insert_entry path_cmp os (paths.Table db id) v)) where
  one_keeps : (firsts : Firsts) (spec : DbSpec) (id : ℕ × ℕ) (o : Option (List ℕ)) (objects : Firsts) → is_db_path spec.path ≡ true → is_id id ≡ true → table_added firsts spec id o ≡ Some objects → P firsts → P objects
  one_keeps firsts spec id None objects named is h p = absurd cc
  one_keeps firsts spec id (Some bytes) objects named is h p =
      let same : insert_entry path_cmp firsts (paths.Table spec.path id) (bytes, spec.modified) ≡ objects = cc in
      subst P same (keeps spec.path id (bytes, spec.modified) firsts (named, ulid_back id is) p)

  tables_keep : (firsts : Firsts) (spec : DbSpec) (tables : List Table) (objects : Firsts) → is_db_path spec.path ≡ true → AllIds tables → tables_from firsts spec tables ≡ Some objects → P firsts → P objects
  tables_keep firsts spec [] objects named ids h p = let same : firsts ≡ objects = cc in subst P same p
  tables_keep firsts spec (t ∷ tables) objects named ids h p =
      let both = and_parts (is_id t.0) (list_all (λ u. is_id u.0) tables) ids in
      let first = has_more (table_added firsts spec t.0 (table_bytes t.1)) (λ (more : Firsts). tables_from more spec tables) objects h in
      tables_keep first.more spec tables objects named both.1 first.rest (one_keeps firsts spec t.0 (table_bytes t.1) first.more named both.0 first.is p)

  pub all_keep : (firsts : Firsts) (specs : List DbSpec) (objects : Firsts) → AllNamed specs → all_tables_from firsts specs ≡ Some objects → P firsts → P objects
  all_keep firsts [] objects names h p = let same : firsts ≡ objects = cc in subst P same p
  all_keep firsts (spec ∷ specs) objects names h p =
      let parts = named_parts spec specs names in
      let first = has_more (tables_from firsts spec spec.tables) (λ (more : Firsts). all_tables_from more specs) objects h in
      all_keep first.more specs objects parts.rest first.rest (tables_keep firsts spec spec.tables first.more parts.path parts.tables first.is p)

-- a path of an object that is no table's
pub record IsNoTable (q : ObjectPath) : Type 0 where
  pub fine : IsFine q
  pub away : (db : List ℕ) (id : ℕ × ℕ) → q ≢ paths.Table db id

-- there the tables change nothing
pub tables_else : (q : ObjectPath) → IsNoTable q → (firsts : Firsts) (specs : List DbSpec) (objects : Firsts) → AllNamed specs → all_tables_from firsts specs ≡ Some objects → last_at q objects ≡ last_at q firsts
tables_else q other firsts specs objects names h =
    all_keep
    (λ (os : Firsts). last_at q os ≡ last_at q firsts)
    (λ db id v os fine kept. last_else (paths.Table db id) q v os (λ same. other.away db id (same_path q (paths.Table db id) other.fine fine same)) ∙ kept)
    firsts specs objects names h refl

-- the paths of the tables are fine
pub tables_fine : (firsts : Firsts) (specs : List DbSpec) (objects : Firsts) → AllNamed specs → all_tables_from firsts specs ≡ Some objects → AllFine firsts → AllFine objects
tables_fine firsts specs objects names h fine =
    all_keep AllFine (λ db id v os own kept. fine_put (paths.Table db id) v own os kept) firsts specs objects names h fine

-- the objects are the first manifests, the first records beside them, and the tables beside those
pub record IsMade (specs : List DbSpec) (objects : Firsts) : Type 0 where
  pub firsts : Firsts
  pub written : firsts_from [] specs ≡ Some firsts
  pub records : Firsts
  pub recorded : records_from firsts specs ≡ Some records
  pub added : all_tables_from records specs ≡ Some objects

pub made_of : (specs : List DbSpec) (objects : Firsts) → objects_of specs ≡ Some objects → IsMade specs objects
made_of specs objects h =
    let first = has_more (firsts_from [] specs) (λ (os : Firsts). and_more (records_from os specs) (λ (more : Firsts). all_tables_from more specs)) objects h in
    let second = has_more (records_from first.more specs) (λ (more : Firsts). all_tables_from more specs) objects first.rest in
    record { firsts = first.more; written = first.is; records = second.more; recorded = second.is; added = second.rest }
