-- By the rules on a new manifest each of its own tables was own in the one before, is from its floor and watermark on, or was made by the compactor
-- whose right it is.
use Rattle.std.proofs.Common.{◌≡◌, ◌⊎◌, inl, inr, ⊎_elim, ℕ, Bool, true, false, List, [], ◌∷◌, ◌++◌, Option, Some, None, refl, sym, ap, ◌∙◌, subst, arith}
use Rattle.std.proofs.lemmas.Bool.Decides.{nat_tests}
use Rattle.std.specs.Prelude.{◌==◌, ◌||◌, ◌&&◌, not, if◌then◌else◌}
use Rattle.std.specs.List.{filter, flat_map, list_all, list_any}
use Rattle.slate_ids.specs.Ulids.{same_id}
use Rattle.slate_model_tables.specs.declared.ss_table_id.SsTableId.{SsTableId}
use Rattle.slate_model_tables.specs.declared.ss_table_id.SsTableId.TheVariants.{Wal, Compacted}
use Rattle.slate_model.specs.declared.external_db.ExternalDb.{ExternalDb}
use Rattle.slate_model.specs.Externals.{lists, is_owned, same_table}
use Rattle.slate_model.specs.Trees.{tables_of, tables_of_views, trees_of, views_of_runs, views_of_tree}
use Rattle.slate_model.specs.declared.manifest.Manifest.{Manifest}
use Rattle.slate_model_tables.specs.Views.{View}
use Rattle.slate_model.specs.declared.lsm_tree_state.LsmTreeState.{LsmTreeState}
use Rattle.slate_state_updates.proofs.Lawful.{keeps, timely}
use Rattle.slate_state_updates.specs.ExternalEntries.{same_entry, tables_with, used_stay}
use Rattle.slate_state_updates.specs.FlushedTables.{flushed_tables}
use Rattle.slate_state_updates.specs.Rules.{manifest_refusal}
use Rattle.slate_state_updates.specs.RunTables.{attaches, outputs_of, run_tables}
use Rattle.slate_state_updates.specs.TableSets.{is_among}
use Rattle.slate_state_updates.specs.ManifestChanges.{right_of}
use Rattle.slate_state_updates.specs.declared.manifest_change.ManifestChange.{ManifestChange}
use Rattle.slate_state_updates.specs.declared.manifest_change.ManifestChange.TheVariants.{MergeTrees}
use Rattle.slate_txn_changes.specs.Changes.{right_by}
use Rattle.slate_txn_log.specs.declared.right.Right.{Right}
use Rattle.slate_cluster_protocol.specs.Chains.{IsChain}
use Rattle.slate_cluster_protocol.specs.Logs.{Chain, change_by, manifests}
use Rattle.slate_cluster_protocol.specs.Reach.{HasOwn}
use Rattle.slate_txn_log.specs.declared.log_kind.LogKind.TheVariants as logs
use Rattle.slate_cluster_chain_laws.proofs.ChainSteps.{each_step}
use Rattle.slate_cluster_chain_laws.specs.ChainSteps.{EachStep}
use Rattle.slate_cluster_chain_laws.specs.TableSteps.{ComesFrom, OwnTablesCome}
use Rattle.slate_cluster_chain_laws.specs.TableSteps.ComesFrom.{Stays, Flushed, Made}

-- ---- tests

pub either : (a b : Bool) → (a || b) ≡ true → (a ≡ true) ⊎ (b ≡ true)
either true b h = inl refl
either false b h = inr h

pub first_of : (a b : Bool) → a ≡ true → (a || b) ≡ true
first_of true b h = refl
first_of false b h = absurd cc

pub second_of : (a b : Bool) → b ≡ true → (a || b) ≡ true
second_of true b h = refl
second_of false b h = h

pub both_of : (a b : Bool) → (a && b) ≡ true → (a ≡ true) × (b ≡ true)
both_of true b h = (refl, h)
both_of false b h = absurd cc

not_and : (a b : Bool) → a ≡ true → (not a || b) ≡ true → b ≡ true
not_and true b e h = h
not_and false b e h = absurd cc

-- ---- tables in lists

numbers_same : (a b : ℕ) → (a == b) ≡ true → a ≡ b
numbers_same a b h = grind (arith, nat_tests)

same_ids : (a b : ℕ × ℕ) → same_id a b ≡ true → a ≡ b
same_ids a b h = ap (λ x. (x, a.1)) (firsts a b h) ∙ ap (λ y. (b.0, y)) (seconds a b h)
  where
    firsts : (a b : ℕ × ℕ) → same_id a b ≡ true → a.0 ≡ b.0
    firsts a b h = grind (arith, nat_tests)

    seconds : (a b : ℕ × ℕ) → same_id a b ≡ true → a.1 ≡ b.1
    seconds a b h = grind (arith, nat_tests)

pub same_tables : (a b : SsTableId) → same_table a b ≡ true → a ≡ b
same_tables (Wal a) (Wal b) h = ap (λ (n : ℕ). Wal n) (numbers_same a b h)
same_tables (Compacted a) (Compacted b) h = ap (λ (id : ℕ × ℕ). Compacted id) (same_ids a b h)
same_tables (Wal a) (Compacted b) h = absurd cc
same_tables (Compacted a) (Wal b) h = absurd cc

pub among_either : (xs ys : List SsTableId) (id : SsTableId) → is_among (xs ++ ys) id ≡ true → (is_among xs id ≡ true) ⊎ (is_among ys id ≡ true)
among_either [] ys id h = inr h
among_either (x ∷ xs) ys id h =
    ⊎_elim
    (λ (e : same_table id x ≡ true). inl (first_of (same_table id x) (is_among xs id) e))
    (λ (e : is_among (xs ++ ys) id ≡ true). ⊎_elim
    (λ (f : is_among xs id ≡ true). inl (second_of (same_table id x) (is_among xs id) f))
    (λ (f : is_among ys id ≡ true). inr f)
    (among_either xs ys id e))
    (either (same_table id x) (is_among (xs ++ ys) id) h)

pub among_front : (xs ys : List SsTableId) (id : SsTableId) → is_among xs id ≡ true → is_among (xs ++ ys) id ≡ true
among_front [] ys id h = absurd cc
among_front (x ∷ xs) ys id h =
    ⊎_elim
    (λ (e : same_table id x ≡ true). first_of (same_table id x) (is_among (xs ++ ys) id) e)
    (λ (e : is_among xs id ≡ true). second_of (same_table id x) (is_among (xs ++ ys) id) (among_front xs ys id e))
    (either (same_table id x) (is_among xs id) h)

pub among_back : (xs ys : List SsTableId) (id : SsTableId) → is_among ys id ≡ true → is_among (xs ++ ys) id ≡ true
among_back [] ys id h = h
among_back (x ∷ xs) ys id h = second_of (same_table id x) (is_among (xs ++ ys) id) (among_back xs ys id h)

-- what holds of each holds of one among them
pub all_of : (P : SsTableId → Bool) (xs : List SsTableId) (id : SsTableId) → list_all P xs ≡ true → is_among xs id ≡ true → P id ≡ true
all_of P [] id h among = absurd cc
all_of P (x ∷ xs) id h among =
    let parts = both_of (P x) (list_all P xs) h in
    ⊎_elim
    (λ (e : same_table id x ≡ true). subst (λ (y : SsTableId). P y ≡ true) (sym (same_tables id x e)) parts.0)
    (λ (e : is_among xs id ≡ true). all_of P xs id parts.1 e)
    (either (same_table id x) (is_among xs id) among)

-- among those that a test keeps
pub kept_of : (P : SsTableId → Bool) (xs : List SsTableId) (id : SsTableId) → is_among (filter P xs) id ≡ true → (is_among xs id ≡ true) × (P id ≡ true)
kept_of P [] id h = absurd cc
kept_of P (x ∷ xs) id h = by_test (P x) refl h (λ k. kept_of P xs id k)
  where
    later : (is_among xs id ≡ true) × (P id ≡ true) → (is_among (x ∷ xs) id ≡ true) × (P id ≡ true)
    later r = (second_of (same_table id x) (is_among xs id) r.0, r.1)

    by_test : (b : Bool) → P x ≡ b → is_among (if b then x ∷ filter P xs else filter P xs) id ≡ true → (is_among (filter P xs) id ≡ true → (is_among xs id ≡ true) × (P id ≡ true)) → (is_among (x ∷ xs) id ≡ true) × (P id ≡ true)
    by_test false is k rest = later (rest k)
    by_test true is k rest =
        ⊎_elim
        (λ (e : same_table id x ≡ true). (first_of (same_table id x) (is_among xs id) e, subst (λ (y : SsTableId). P y ≡ true) (sym (same_tables id x e)) is))
        (λ (e : is_among (filter P xs) id ≡ true). later (rest e))
        (either (same_table id x) (is_among (filter P xs) id) k)

is_kept : (P : SsTableId → Bool) (xs : List SsTableId) (id : SsTableId) → is_among xs id ≡ true → P id ≡ true → is_among (filter P xs) id ≡ true
is_kept P [] id among h = absurd cc
is_kept P (x ∷ xs) id among h = by_test (P x) refl (λ e. is_kept P xs id e h)
  where
    by_test : (b : Bool) → P x ≡ b → (is_among xs id ≡ true → is_among (filter P xs) id ≡ true) → is_among (if b then x ∷ filter P xs else filter P xs) id ≡ true
    by_test true is rest =
        ⊎_elim
        (λ (e : same_table id x ≡ true). first_of (same_table id x) (is_among (filter P xs) id) e)
        (λ (e : is_among xs id ≡ true). second_of (same_table id x) (is_among (filter P xs) id) (rest e))
        (either (same_table id x) (is_among xs id) among)
    by_test false is rest =
        ⊎_elim
        (λ (e : same_table id x ≡ true). let clash : true ≡ false = sym h ∙ (ap P (same_tables id x e) ∙ is) in absurd cc)
        rest
        (either (same_table id x) (is_among xs id) among)

-- ---- the tables of trees

tables_append : (xs ys : List View) → tables_of_views (xs ++ ys) ≡ tables_of_views xs ++ tables_of_views ys
tables_append [] ys = refl
tables_append (x ∷ xs) ys = ap (λ (ids : List SsTableId). x.sst.id ∷ ids) (tables_append xs ys)

abbrev flushed_in : List LsmTreeState → List SsTableId
flushed_in trees = flat_map (λ tree. tables_of_views tree.l0) trees

abbrev runs_in : List LsmTreeState → List SsTableId
runs_in trees = flat_map (λ tree. tables_of_views (views_of_runs tree.compacted)) trees

abbrev all_in : List LsmTreeState → List SsTableId
all_in trees = tables_of_views (flat_map views_of_tree trees)

-- a table of a tree is among those that flushes wrote, or among those of its runs
module _ (id : SsTableId) where
  in_tree : (tree : LsmTreeState) → is_among (tables_of_views (views_of_tree tree)) id ≡ true → (is_among (tables_of_views tree.l0) id ≡ true) ⊎ (is_among (tables_of_views (views_of_runs tree.compacted)) id ≡ true)
  in_tree tree h =
      among_either (tables_of_views tree.l0) (tables_of_views (views_of_runs tree.compacted)) id
      (subst (λ (ids : List SsTableId). is_among ids id ≡ true) (tables_append tree.l0 (views_of_runs tree.compacted)) h)

  pub either_way : (trees : List LsmTreeState) → is_among (all_in trees) id ≡ true → (is_among (flushed_in trees) id ≡ true) ⊎ (is_among (runs_in trees) id ≡ true)
  either_way [] h = absurd cc
  either_way (tree ∷ trees) h =
      ⊎_elim
      (λ (e : is_among (tables_of_views (views_of_tree tree)) id ≡ true). ⊎_elim
      (λ (f : is_among (tables_of_views tree.l0) id ≡ true). inl (among_front (tables_of_views tree.l0) (flushed_in trees) id f))
      (λ (f : is_among (tables_of_views (views_of_runs tree.compacted)) id ≡ true). inr (among_front (tables_of_views (views_of_runs tree.compacted)) (runs_in trees) id f))
      (in_tree tree e))
      (λ (e : is_among (all_in trees) id ≡ true). ⊎_elim
      (λ (f : is_among (flushed_in trees) id ≡ true). inl (among_back (tables_of_views tree.l0) (flushed_in trees) id f))
      (λ (f : is_among (runs_in trees) id ≡ true). inr (among_back (tables_of_views (views_of_runs tree.compacted)) (runs_in trees) id f))
      (either_way trees e))
      (among_either (tables_of_views (views_of_tree tree)) (all_in trees) id (subst (λ (ids : List SsTableId). is_among ids id ≡ true) (tables_append (views_of_tree tree) (flat_map views_of_tree trees)) h))

  pub flushed_there : (trees : List LsmTreeState) → is_among (flushed_in trees) id ≡ true → is_among (all_in trees) id ≡ true
  flushed_there [] h = absurd cc
  flushed_there (tree ∷ trees) h =
      subst (λ (ids : List SsTableId). is_among ids id ≡ true) (sym (tables_append (views_of_tree tree) (flat_map views_of_tree trees)))
      (⊎_elim
      (λ (e : is_among (tables_of_views tree.l0) id ≡ true).
      among_front (tables_of_views (views_of_tree tree)) (all_in trees) id
      (subst (λ (ids : List SsTableId). is_among ids id ≡ true) (sym (tables_append tree.l0 (views_of_runs tree.compacted)))
      (among_front (tables_of_views tree.l0) (tables_of_views (views_of_runs tree.compacted)) id e)))
      (λ (e : is_among (flushed_in trees) id ≡ true). among_back (tables_of_views (views_of_tree tree)) (all_in trees) id (flushed_there trees e))
      (among_either (tables_of_views tree.l0) (flushed_in trees) id h))

-- ---- entries of other databases

-- what an entry that matches lists is listed
module _ (id : SsTableId) (old : ExternalDb) where
  listed_with : (entries : List ExternalDb) → is_among (tables_with old entries) id ≡ true → list_any (lists id) entries ≡ true
  listed_with [] h = absurd cc
  listed_with (entry ∷ entries) h = by_test (same_entry entry old) h (λ k. listed_with entries k)
    where
      by_test : (b : Bool) → is_among (flat_map (λ e. e.sst_ids) (if b then entry ∷ filter (λ e. same_entry e old) entries else filter (λ e. same_entry e old) entries)) id ≡ true
          → (is_among (tables_with old entries) id ≡ true → list_any (lists id) entries ≡ true) → list_any (lists id) (entry ∷ entries) ≡ true
      by_test false k rest = second_of (lists id entry) (list_any (lists id) entries) (rest k)
      by_test true k rest =
          ⊎_elim
          (λ (e : is_among entry.sst_ids id ≡ true). first_of (lists id entry) (list_any (lists id) entries) e)
          (λ (e : is_among (tables_with old entries) id ≡ true). second_of (lists id entry) (list_any (lists id) entries) (rest e))
          (among_either entry.sst_ids (tables_with old entries) id k)

-- a used table that an old entry lists is listed by a new one
module _ (id : SsTableId) (used : List SsTableId) (entries : List ExternalDb) (among : is_among used id ≡ true) where
  still_listed : (olds : List ExternalDb) → list_all (used_stay used entries) olds ≡ true → list_any (lists id) olds ≡ true → list_any (lists id) entries ≡ true
  still_listed [] h k = absurd cc
  still_listed (old ∷ olds) h k =
      let parts = both_of (used_stay used entries old) (list_all (used_stay used entries) olds) h in
      ⊎_elim
      (λ (e : lists id old ≡ true). listed_with id old entries
      (not_and (is_among used id) (is_among (tables_with old entries) id) among
      (all_of (λ x. not (is_among used x) || is_among (tables_with old entries) x) old.sst_ids id parts.0 e)))
      (λ (e : list_any (lists id) olds ≡ true). still_listed olds parts.1 e)
      (either (lists id old) (list_any (lists id) olds) k)

-- ---- a manifest that may follow another

module _ (n : ℕ) (old new : Manifest) (right : Right) (lawful : manifest_refusal n old new right ≡ None) (plain : attaches right ≡ false) (id : ℕ × ℕ) where
  abbrev table : SsTableId
  table = Compacted id

  -- what no new entry lists, and is used, no old one lists
  stays_own : is_among (tables_of new.core) table ≡ true → is_owned new.external_dbs table ≡ true → is_owned old.external_dbs table ≡ true
  stays_own used own = by_test (list_any (lists table) old.external_dbs) refl
    where
      clash : (b : Bool) → not b ≡ true → b ≡ true → ⊥
      clash true h k = cc h
      clash false h k = cc k

      by_test : (b : Bool) → list_any (lists table) old.external_dbs ≡ b → not b ≡ true
      by_test false is = refl
      by_test true is =
          absurd (clash (list_any (lists table) new.external_dbs) own
          (still_listed table (tables_of new.core) new.external_dbs used old.external_dbs
          (both_of _ (list_all (used_stay (tables_of new.core) new.external_dbs) old.external_dbs) (keeps n old new right lawful).entries).1 is))

  pub was_own : is_among (tables_of new.core) table ≡ true → is_owned new.external_dbs table ≡ true → is_among (tables_of old.core) table ≡ true → HasOwn old id
  was_own used own had = is_kept (is_owned old.external_dbs) (tables_of old.core) table had (stays_own used own)

  by_flush : is_among (tables_of new.core) table ≡ true → is_owned new.external_dbs table ≡ true → is_among (flushed_tables new.core) table ≡ true → ComesFrom right old id
  by_flush used own among = by_test (is_among (flushed_tables old.core) table) refl
    where
      by_test : (b : Bool) → is_among (flushed_tables old.core) table ≡ b → ComesFrom right old id
      by_test true is = Stays (was_own used own (flushed_there table (trees_of old.core) is))
      by_test false is = Flushed ((timely old new).0 (keeps n old new right lawful).ticks id among is)

  by_run : is_among (tables_of new.core) table ≡ true → is_owned new.external_dbs table ≡ true → is_among (run_tables new.core) table ≡ true → ComesFrom right old id
  by_run used own among =
      ⊎_elim
      (λ (e : is_among (tables_of old.core) table ≡ true). Stays (was_own used own e))
      (λ (e : is_among (outputs_of right) table ≡ true). Made e)
      (among_either (tables_of old.core) (outputs_of right) table (all_of (is_among (tables_of old.core ++ outputs_of right)) (run_tables new.core) table
      (known (attaches right) (list_all (is_among (tables_of old.core ++ outputs_of right)) (run_tables new.core)) plain (keeps n old new right lawful).runs) among))
    where
      known : (a b : Bool) → a ≡ false → (a || b) ≡ true → b ≡ true
      known true b e h = absurd cc
      known false b e h = h

  pub comes_from : HasOwn new id → ComesFrom right old id
  comes_from h =
      let parts = kept_of (is_owned new.external_dbs) (tables_of new.core) table h in
      ⊎_elim
      (λ (e : is_among (flushed_tables new.core) table ≡ true). by_flush parts.0 parts.1 e)
      (λ (e : is_among (run_tables new.core) table ≡ true). by_run parts.0 parts.1 e)
      (either_way table (trees_of new.core) parts.0)

-- ---- along a chain

-- no change attaches another database
pub none_attaches : (o : Option ManifestChange) → attaches (right_by right_of o) ≡ false
none_attaches None = refl
none_attaches (Some (MergeTrees compactor trees outputs)) = refl
none_attaches (Some _) = refl

pub tables_come : (c : Chain logs.Manifest) → IsChain manifests c → EachStep (λ author old new. OwnTablesCome (manifests.right author) old new) c
tables_come c h = each_step manifests (λ author old new. OwnTablesCome (manifests.right author) old new)
    (λ old new f id own. comes_from old.number old.value new.value (manifests.right f.author) f.lawful (none_attaches (change_by f.author.puts)) id own) c h
